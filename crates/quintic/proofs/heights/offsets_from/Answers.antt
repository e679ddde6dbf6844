-- `quintic::heights::offsets_from` meets its contract.
use Rattle.quintic.specs.Heights.{offsets_of}
use Rattle.quintic.proofs.heights.offsets_from.Goals as goal

pub returns : goal.returns
unfolding offsets_of
returns c = simp (c.sub-4.ensures, c.sub-3.ensures, c.sub-2.ensures, c.sub.ensures)
