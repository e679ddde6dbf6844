-- `creators::tree::deep` meets its contract.
use lib.Ieee.{of_bits, neg}
use Rattle.creators.proofs.Classes.{deep_is}
use Rattle.creators.proofs.tree.deep.Goals as goal

pub returns : goal.returns
unfolding of_bits neg
returns c = deep_is _
