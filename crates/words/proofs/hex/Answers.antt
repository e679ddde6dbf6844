-- `words::hex` meets its contract.
use borrow.Author.Tests.{eq-eqb, ne_eqb}
use Rattle.words.specs.Words.{hex_of}
use Rattle.words.proofs.hex.Goals as goal

pub returns-then-s-eq16 : goal.returns-then-s-eq16
unfolding hex_of
returns-then-s-eq16 c = simp (eq-eqb _ _ c.if-s-eq16.true, c.«number_in».ensures)

pub returns : goal.returns
unfolding hex_of
returns c = simp (ne_eqb _ _ c.if-s-eq16.false)
