-- `numerals::number_at` meets its contract.
use Rattle.numerals.proofs.Spelling.{plus, minus, bare}
use Rattle.numerals.proofs.number_at.Goals as goal

pub returns-then-sign-eq43 : goal.returns-then-sign-eq43
returns-then-sign-eq43 c =
    plus c.args.text.now c.args.at c.byte_at-sign.ensures c.if-sign-eq43.true c.unsigned_at.ensures

pub returns-then-sign-eq45 : goal.returns-then-sign-eq45
returns-then-sign-eq45 c =
    minus c.args.text.now c.args.at c.byte_at-sign.ensures c.if-sign-eq43.false c.if-sign-eq45.true c.unsigned_at-then-sign-eq45.ensures

pub returns : goal.returns
returns c =
    bare c.args.text.now c.args.at c.byte_at-sign.ensures c.if-sign-eq43.false c.if-sign-eq45.false c.unsigned_at-2.ensures
