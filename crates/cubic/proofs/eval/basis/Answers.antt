-- `cubic::eval::basis` meets its contract.
use Rattle.cubic.specs.Basis.{basis}
use Rattle.cubic.proofs.eval.basis.Goals as goal

pub returns : goal.returns
unfolding basis
returns c = simp (c.add-3.ensures, c.add-2.ensures, c.add.ensures, c.scale-d.ensures, c.scale-c.ensures, c.scale-4.ensures, c.scale-3.ensures, c.scale-b.ensures, c.scale-2.ensures, c.scale.ensures, c.scale-a.ensures)
