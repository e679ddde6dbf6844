-- `salvaging::walks::put_piece` meets its contract.
use Rattle.salvaging.proofs.walks.put_piece.Goals as goal

pub put_mark-requires : goal.put_mark-requires
put_mark-requires c = (c.requires.0, rw c.in-Marks.is at c.requires.1)

pub put_fate-requires : goal.put_fate-requires
put_fate-requires c = rw c.in-Lines.is at c.requires.1

pub returns-in-Marks : goal.returns-in-Marks
returns-in-Marks c = rw c.in-Marks.is c.put_mark.ensures

pub returns-in-Lines : goal.returns-in-Lines
returns-in-Lines c = rw c.in-Lines.is c.put_fate.ensures
