-- `stages::chords::chords_for_points` meets its contract.
use mathlib.Core.Path.{◌≡◌}
use lib.ListN.{length}
use Rattle.stages.proofs.Lengths.{chords_are}
use Rattle.stages.proofs.chords.chords_for_points.Goals as goal

pub returns : goal.returns
returns c =
    let kept : length c.guess_distances.new.params ≡ length c.args.params.now = c.guess_distances.auto.params in
    let e = kept in
    let r = chords_are _ _ _ _ c.sum_distances-total.ensures.0 c.sum_distances-total.ensures.1 _ _ c.divide_by-fine.ensures.0 c.divide_by-fine.ensures.1 in
    simp c.finite.ensures (rw e at r)
