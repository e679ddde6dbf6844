-- `quintic::heights::over_unit` meets its contract.
use mathlib.Core.Path.{refl}
use Rattle.quintic.specs.Heights.{section_of}
use Rattle.quintic.proofs.heights.over_unit.Goals as goal

pub returns : goal.returns
unfolding section_of
returns c = refl
