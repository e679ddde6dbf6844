-- `ring::mark_round` meets its contract.
use native.Mathlib.Omega.{arith}
use mathlib.Core.Path.{sym, ◌∙◌}
use Rattle.ring.specs.declared.Outline.TheVariants.{Closed}
use Rattle.ring.proofs.Whole.{given, comes_back}
use Rattle.ring.proofs.mark_round.Goals as goal

pub returns-then-k-marks : goal.returns-then-k-marks
returns-then-k-marks c = c.mark_at.ensures ∙ sym (given Closed _ _ (omega arith))

pub returns : goal.returns
returns c = c.mark_at-2.ensures ∙ sym (comes_back _ _ c.requires.0 (omega arith))
