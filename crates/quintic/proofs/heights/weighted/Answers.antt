-- `quintic::heights::weighted` meets its contract.
use Rattle.quintic.specs.Heights.{weighted_by}
use Rattle.quintic.proofs.heights.weighted.Goals as goal

pub returns : goal.returns
unfolding weighted_by
returns c = simp (c.sums.ensures, c.products-j2.ensures, c.products-j1.ensures, c.products-j0.ensures)
