-- `quintic::heights::sums` meets its contract.
use mathlib.Core.Path.{refl}
use Rattle.quintic.specs.Heights.{sums_of}
use Rattle.quintic.proofs.heights.sums.Goals as goal

pub returns : goal.returns
unfolding sums_of
returns c = refl
