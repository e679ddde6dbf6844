-- `joints::joint_at` meets its contract.
use native.Mathlib.Omega.{arith}
use mathlib.Core.Path.{sym, ◌∙◌}
use Rattle.ring.specs.declared.Outline.TheVariants.{Closed}
use Rattle.ring.proofs.Whole.{given}
use Rattle.joints.proofs.joint_at.Goals as goal

pub returns : goal.returns
returns c = rw (c.mark_round.ensures, c.mark_at-2.ensures ∙ sym (given Closed _ _ (omega arith)), c.mark_at.ensures ∙ sym (given Closed _ _ (omega arith)))
