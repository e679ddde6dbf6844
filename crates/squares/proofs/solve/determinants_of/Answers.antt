-- `squares::solve::determinants_of` meets its contract.
use mathlib.Core.Path.{refl}
use Rattle.squares.specs.Solve.{determinants_of}
use Rattle.squares.proofs.solve.determinants_of.Goals as goal

pub returns : goal.returns
unfolding determinants_of
returns c = refl
