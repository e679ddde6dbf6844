-- `squares::sums::tmp_at` meets its contract.
use Rattle.squares.specs.Sums.{tmp_of}
use Rattle.squares.proofs.sums.tmp_at.Goals as goal

pub returns : goal.returns
unfolding tmp_of
returns c = simp (c.sub.ensures, c.add.ensures, c.scale-4.ensures, c.add-abc.ensures, c.scale-3.ensures, c.add-ab.ensures, c.scale-2.ensures, c.scale.ensures)
