-- `numerals::apart_at` meets its contract.
use Rattle.numerals.proofs.Leading.{comma, no_comma}
use Rattle.numerals.proofs.apart_at.Goals as goal

pub returns-then-byte_at-eq44 : goal.returns-then-byte_at-eq44
returns-then-byte_at-eq44 c =
    comma c.args.text.now c.args.at c.past_space-comma.result c.past_space-comma.ensures
    c.byte_at.ensures c.if-byte_at-eq44.true c.past_space.ensures

pub returns : goal.returns
returns c =
    no_comma c.args.text.now c.args.at c.past_space-comma.result c.past_space-comma.ensures
    c.byte_at.ensures c.if-byte_at-eq44.false
