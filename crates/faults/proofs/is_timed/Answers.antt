-- `faults::is_timed` meets its contract.
use Prim.Native.Nat.{suc}
use mathlib.Core.Path.{sym, ◌∙◌}
use native.Mathlib.Numerals.{add-one}
use borrow.Author.Tests.{eq-eqb, ne_eqb}
use Rattle.faults.specs.Tests.{timed}
use Rattle.faults.proofs.is_timed.Goals as goal

pub returns-then-i-first : goal.returns-then-i-first
unfolding timed
returns-then-i-first c = rw (eq-eqb c.args.i c.args.first c.if-i-first.true)

pub returns-then-i-n : goal.returns-then-i-n
unfolding timed
returns-then-i-n c = rw (ne_eqb c.args.i c.args.first c.if-i-first.false, eq-eqb (suc c.args.i) c.args.n (sym (add-one c.args.i) ∙ c.if-i-n.true))

pub returns : goal.returns
unfolding timed
returns c = rw (ne_eqb c.args.i c.args.first c.if-i-first.false, ne_eqb (suc c.args.i) c.args.n (λ e. c.if-i-n.false (add-one c.args.i ∙ e)))
