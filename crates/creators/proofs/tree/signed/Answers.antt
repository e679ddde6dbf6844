-- `creators::tree::signed` meets its contract.
use Rattle.creators.proofs.Classes.{sign_is}
use Rattle.creators.proofs.tree.signed.Goals as goal

pub returns : goal.returns
returns c = rw c.signum.ensures (sign_is _)
