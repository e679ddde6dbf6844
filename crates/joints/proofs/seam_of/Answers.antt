-- `joints::seam_of` meets its contract.
use native.Mathlib.Omega.{arith}
use Prim.Native.Nat.{◌+◌, ◌-◌}
use mathlib.Core.Path.{◌≡◌, sym, ◌∙◌}
use Rattle.marks.specs.Marks.{count}
use Rattle.ring.specs.declared.Outline.TheVariants.{Closed}
use Rattle.ring.proofs.Whole.{given}
use Rattle.joints.proofs.seam_of.Goals as goal

pub returns : goal.returns
returns c =
    let ms = c.args.marks.now in
    let last : 1 + count ms - 2 ≡ count ms - 1 = omega arith in
    rw (last, c.mark_round.ensures, c.mark_at-2.ensures ∙ sym (given Closed ms 0 (omega arith)), c.mark_at.ensures ∙ sym (given Closed ms (count ms - 1) (omega arith)))
