-- `stages::chords::square_at` meets its contract.
use Rattle.stages.specs.Chords.{square_at}
use Rattle.stages.proofs.chords.square_at.Goals as goal

pub returns : goal.returns
unfolding square_at
returns c = simp (c.dot.ensures, c.sub-d.ensures, c.mark_at-2.ensures, c.mark_at.ensures)
