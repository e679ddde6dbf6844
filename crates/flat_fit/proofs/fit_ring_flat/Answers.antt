-- `flat_fit::fit_ring_flat` meets its contract.
use mathlib.Core.Path.{refl}
use Rattle.tangents.specs.Ways.{over}
use Rattle.flat_fit.proofs.fit_ring_flat.Goals as goal

pub fit_flat-requires : goal.fit_flat-requires
unfolding over
fit_flat-requires c = refl

pub returns : goal.returns
returns c = c.fit_flat.ensures
