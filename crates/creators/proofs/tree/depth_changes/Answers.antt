-- `creators::tree::depth_changes` meets its contract.
use Rattle.creators.proofs.tree.depth_changes.Goals as goal

pub returns : goal.returns
returns c = (simp (c.changes.ensures.0, c.deep-6.ensures, c.deep-5.ensures, c.deep-4.ensures, c.deep-3.ensures, c.deep-2.ensures, c.deep.ensures), c.changes.ensures.1)
