-- `blocks::fit_round`: the array's front holds the marks and mark 0, and the run is over those.
use native.Mathlib.Omega.{arith}
use Prim.Native.Nat.{◌*◌}
use mathlib.Core.Path.{◌≡◌, sym}
use lib.ListN.{length, take, drop}
use lib.Seq.{length-take-le}
use Rattle.ring.specs.Ring.{whole}
use Rattle.ring.specs.declared.Outline.TheVariants.{Closed}
use Rattle.blocks.proofs.Blocks.{same_marks, same_ready, laid-front}
use Rattle.blocks.proofs.fit_round.Goals as goal

pub slice_bounds-fit_part-end : goal.slice_bounds-fit_part-end
slice_bounds-fit_part-end c = sym (length-take-le _ _ (omega (arith, c.lay_round.auto.out)))

pub fit_part-requires : goal.fit_part-requires
fit_part-requires c =
    let front : take (2 * length c.args.params.now) c.lay_round.new.out ≡ drop (2 * c.args.from) (whole Closed c.args.marks.now) = laid-front _ _ _ c.lay_round.ensures c.requires.ready.even in
    same_ready _ _ c.args.from _ _ _ _ _ (sym front) c.requires.ready

pub returns : goal.returns
returns c =
    let front : take (2 * length c.args.params.now) c.lay_round.new.out ≡ drop (2 * c.args.from) (whole Closed c.args.marks.now) = laid-front _ _ _ c.lay_round.ensures c.requires.ready.even in
    same_marks _ _ c.args.from c.args.start c.args.end c.args.tolerance _ _ _ _ _ _ _ _ front c.fit_part.ensures
