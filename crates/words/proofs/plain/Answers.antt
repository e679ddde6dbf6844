-- `words::plain` meets its contract.
use borrow.Author.Tests.{eq-eqb, ne_eqb}
use Rattle.words.specs.Words.{plain_of}
use Rattle.words.proofs.plain.Goals as goal

pub returns-then-s-eq0 : goal.returns-then-s-eq0
unfolding plain_of
returns-then-s-eq0 c = simp (eq-eqb _ _ c.if-s-eq0.true)

pub returns-then-s-eq1 : goal.returns-then-s-eq1
unfolding plain_of
returns-then-s-eq1 c = simp (ne_eqb _ _ c.if-s-eq0.false, eq-eqb _ _ c.if-s-eq1.true)

pub returns : goal.returns
unfolding plain_of
returns c = simp (ne_eqb _ _ c.if-s-eq0.false, ne_eqb _ _ c.if-s-eq1.false)
