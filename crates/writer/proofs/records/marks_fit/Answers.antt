-- `writer::records::marks_fit` meets its contract. After i turns the first i mark numbers fit.
use mathlib.Core.Path.{refl, sym, ◌∙◌}
use native.Mathlib.Omega.{arith}
use lib.ListN.{take}
use lib.Seq.{take_all}
use Rattle.float.proofs.Truth.{not_so}
use Rattle.house.specs.Limits.{mark_field}
use Rattle.house.specs.Bytes.{all_fit}
use Rattle.writer.proofs.Turns.{fits_more, fits_stop}
use Rattle.writer.proofs.records.marks_fit.Goals as goal

pub loop-x-init : goal.loop-x-init
unfolding all_fit
loop-x-init c = refl

pub loop-x-preserved : goal.loop-x-preserved
loop-x-preserved c = fits_more (mark_field c.args.field) (take c.args.k c.args.marks.now) c.loop-x.x-index (omega arith) c.loop-x.invariant (sym c.mark_fits.ensures ∙ c.if-not-mark_fits.false)

pub returns-then-not-mark_fits : goal.returns-then-not-mark_fits
returns-then-not-mark_fits c = sym (not_so _ (fits_stop (mark_field c.args.field) (take c.args.k c.args.marks.now) c.loop-x.x-index (omega arith) (sym c.mark_fits.ensures ∙ c.if-not-mark_fits.true)))

pub returns : goal.returns
returns c =
    let first = take c.args.k c.args.marks.now in
    sym (rw (take_all c.loop-x.x-index first c.loop-x-test.false) at c.loop-x.invariant)
