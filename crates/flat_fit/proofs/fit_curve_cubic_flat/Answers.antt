-- `flat_fit::fit_curve_cubic_flat` meets its contract.
use Rattle.flat_fit.proofs.fit_curve_cubic_flat.Goals as goal

pub returns : goal.returns
returns c = c.fit_flat.ensures
