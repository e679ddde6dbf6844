-- `root::is_root` meets its contract, by `checked` of `proofs/Near.antt`.
use mathlib.Core.Path.{sym, subst}
use lib.Dec.{T, ltb→lt}
use Rattle.root.proofs.Near.{checked}
use Rattle.root.proofs.is_root.Goals as goal

pub returns : goal.returns
returns c = λ h.
    checked c.args.a c.args.c c.requires.1 c.if-square-a.false c.if-w-n.false c.if-k-z.false (ltb→lt _ _ (subst T (sym h) tt))
