-- `cubic::eval::bezier_coefficients` meets its contract.
use mathlib.Core.Path.{refl}
use Rattle.cubic.specs.Basis.{coefficients_of}
use Rattle.cubic.proofs.eval.bezier_coefficients.Goals as goal

pub returns : goal.returns
unfolding coefficients_of
returns c = refl
