-- `numerals::unsigned_at` meets its contract.
use Rattle.numerals.proofs.Spelling.{pointed, pointless}
use Rattle.numerals.proofs.unsigned_at.Goals as goal

pub returns-then-byte_at-eq46 : goal.returns-then-byte_at-eq46
returns-then-byte_at-eq46 c =
    let a = c.args in
    pointed a.text.now a.at a.negative c.digits_from-whole.ensures c.byte_at.ensures c.if-byte_at-eq46.true
    c.digits_from-all.ensures c.numeral_of.ensures

pub returns : goal.returns
returns c =
    let a = c.args in
    pointless a.text.now a.at a.negative c.digits_from-whole.ensures c.byte_at.ensures c.if-byte_at-eq46.false c.numeral_of-2.ensures
