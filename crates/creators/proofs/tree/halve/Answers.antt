-- `creators::tree::halve` meets its contract.
use Rattle.creators.proofs.tree.halve.Goals as goal

pub returns : goal.returns
returns c = (simp (c.middle-u.ensures, c.middle-d2.ensures, c.middle-d1.ensures, c.middle-c3.ensures, c.middle-c2.ensures, c.middle-c1.ensures, c.middle-b4.ensures, c.middle-b3.ensures, c.middle-b2.ensures, c.middle-b1.ensures, c.middle-a5.ensures, c.middle-a4.ensures, c.middle-a3.ensures, c.middle-a2.ensures, c.middle-a1.ensures), simp (c.middle-u.ensures, c.middle-d2.ensures, c.middle-d1.ensures, c.middle-c3.ensures, c.middle-c2.ensures, c.middle-c1.ensures, c.middle-b4.ensures, c.middle-b3.ensures, c.middle-b2.ensures, c.middle-b1.ensures, c.middle-a5.ensures, c.middle-a4.ensures, c.middle-a3.ensures, c.middle-a2.ensures, c.middle-a1.ensures))
