-- `numerals::numeral_of` meets its contract.
use mathlib.Core.Path.{refl}
use Rattle.numerals.specs.Numerals.{numeral_of}
use Rattle.numerals.proofs.numeral_of.Goals as goal

pub returns-then-whole-places : goal.returns-then-whole-places
unfolding numeral_of
returns-then-whole-places c = rw (c.if-whole-places.true, c.no_more-thousandths.ensures, c.scale.ensures) refl

pub returns : goal.returns
unfolding numeral_of
returns c = rw c.if-whole-places.false refl
