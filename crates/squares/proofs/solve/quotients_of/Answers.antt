-- `squares::solve::quotients_of` meets its contract.
use mathlib.Core.Path.{refl}
use Rattle.squares.specs.Solve.{quotients_of}
use Rattle.squares.proofs.solve.quotients_of.Goals as goal

pub returns : goal.returns
unfolding quotients_of
returns c = refl
