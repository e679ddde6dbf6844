-- `creators::tree::is_live` meets its contract.
use lib.Ieee.{of_bits}
use Rattle.sections.proofs.Test.{test_is}
use Rattle.creators.proofs.tree.is_live.Goals as goal

pub returns : goal.returns
unfolding of_bits
returns c = simp (c.changes.ensures.0, test_is)
