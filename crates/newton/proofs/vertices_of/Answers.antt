-- `newton::vertices_of` meets its contract.
use Rattle.newton.specs.Newton.{vertices_of}
use Rattle.newton.proofs.vertices_of.Goals as goal

pub returns : goal.returns
unfolding vertices_of
returns c = simp (c.scale-qnn2.ensures, c.sub-5.ensures, c.scale-qnn1.ensures, c.sub-4.ensures, c.scale-qn3.ensures, c.sub-3.ensures, c.scale-qn2.ensures, c.sub-2.ensures, c.scale-qn1.ensures, c.sub.ensures)
