-- `creators::tree::sign_changes` meets its contract.
use Rattle.creators.proofs.tree.sign_changes.Goals as goal

pub returns : goal.returns
returns c = (simp (c.changes.ensures.0, c.signed-6.ensures, c.signed-5.ensures, c.signed-4.ensures, c.signed-3.ensures, c.signed-2.ensures, c.signed.ensures), c.changes.ensures.1)
