-- `wesalondo::wes_subdivide4` meets its contract.
use Rattle.wesalondo.proofs.wes_subdivide4.Goals as goal

pub returns : goal.returns
returns c = rw (c.put_halves.ensures, c.subdivide4-answer.ensures, c.curve_of-c.ensures)
