-- `salvaging::walks::piece_len` meets its contract.
use Rattle.salvaging.proofs.walks.piece_len.Goals as goal

pub returns-in-Marks : goal.returns-in-Marks
returns-in-Marks c = rw c.in-Marks.is c.mark_len.ensures

pub returns-in-Lines : goal.returns-in-Lines
returns-in-Lines c = rw c.in-Lines.is c.fate_len.ensures
