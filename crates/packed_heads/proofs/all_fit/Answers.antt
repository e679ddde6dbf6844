-- `packed_heads::all_fit` meets its contract. After i turns the first i mark numbers fit.
use mathlib.Core.Path.{refl, sym, ◌∙◌}
use native.Mathlib.Omega.{arith}
use Rattle.float.proofs.Truth.{not_so}
use Rattle.house.specs.Limits.{mark_field}
use Rattle.house.specs.Bytes.{all_fit}
use Rattle.packed.specs.Each.{each}
use Rattle.packed_heads.proofs.Turns.{fits_more, fits_stop}
use Rattle.packed_heads.proofs.all_fit.Goals as goal

pub loop-i-init : goal.loop-i-init
unfolding each all_fit
loop-i-init c = refl

pub loop-i-preserved : goal.loop-i-preserved
loop-i-preserved c = fits_more (mark_field c.args.field) c.args.b.now c.args.at c.args.step c.loop-i.i c.loop-i.invariant (rw c.four.ensures.0 at (sym c.mark_fits.ensures ∙ c.if-not-mark_fits.false))

pub returns-then-not-mark_fits : goal.returns-then-not-mark_fits
returns-then-not-mark_fits c = sym (not_so _ (fits_stop (mark_field c.args.field) c.args.b.now c.args.at c.args.step c.args.k c.loop-i.i (omega arith) (rw c.four.ensures.0 at (sym c.mark_fits.ensures ∙ c.if-not-mark_fits.true))))
