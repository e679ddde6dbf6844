-- `stages::chords::sum_distances` meets its contract: the lengths stand up to the mark before k.
use mathlib.Core.Path.{◌≡◌, ap, ◌∙◌}
use Prim.Native.Nat.{ℕ, ◌-◌}
use native.Mathlib.Omega.{arith}
use lib.ListN.{length, set, length-set}
use Rattle.float.specs.Number.{f0}
use Rattle.stages.specs.Chords.{along, lengths}
use Rattle.stages.proofs.Lengths.{first, count, next, summed}
use Rattle.stages.proofs.chords.sum_distances.Goals as goal

pub loop-k-init : goal.loop-k-init
loop-k-init c = first _ c.args.params.now c.requires.0

pub loop-k-preserved : goal.loop-k-preserved
loop-k-preserved c = next _ _ _ _ _ c.loop-k.invariant (omega (arith, count _ _ _ _ _ c.loop-k.invariant)) _ _ c.square_at.ensures c.root_by-total.ensures

pub returns : goal.returns
returns c =
    let sizes : length (set c.args.params.now 0 f0) ≡ length c.args.params.now = simp length-set in
    let s = summed _ _ _ _ _ c.loop-k.invariant (omega (arith, sizes, count _ _ _ _ _ c.loop-k.invariant)) in
    let e = sizes in
    (s.0 ∙ ap (λ (n : ℕ). (along c.args.marks.now (n - 1)).val) e, s.1 ∙ ap (lengths c.args.marks.now) e)
