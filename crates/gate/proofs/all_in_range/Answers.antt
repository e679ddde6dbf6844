-- `gate::all_in_range` meets its contract.
use mathlib.Core.Bool.{true, false}
use mathlib.Core.Path.{◌≡◌}
use borrow.Author.Rules.{rules}
use Rattle.std.proofs.lemmas.Iterator.{YieldsList-from_slice, cases_from_all}
use Rattle.plane.specs.Range.{coordinate}
use Rattle.gate.proofs.Tests.{looked_through}
use Rattle.gate.proofs.all_in_range.Goals as goal

pub returns : goal.returns
returns c =
    looked_through _ _ (cases_from_all _ _ _ (λ x. coordinate x ≡ true) (λ x. coordinate x ≡ false) c.all.ensures.ran (YieldsList-from_slice c.args.marks.now cc) (λ x q k. search rules) (λ x q k. search rules))
