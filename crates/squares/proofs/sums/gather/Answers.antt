-- `squares::sums::gather` meets its contract.
use Rattle.squares.specs.Sums.{gather_of}
use Rattle.squares.proofs.sums.gather.Goals as goal

pub returns : goal.returns
unfolding gather_of
returns c = simp (c.dot-5.ensures, c.dot-4.ensures, c.dot-3.ensures, c.dot-2.ensures, c.dot.ensures, c.tmp_at-tmp.ensures, c.scale-a1.ensures, c.scale-a0.ensures, c.weights_at-w.ensures)
