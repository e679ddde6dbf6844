-- `thousandths::thousandths_of` meets its contract.
use mathlib.Core.Path.{refl, ◌∙◌}
use native.Mathlib.Omega.{arith}
use Rattle.thousandths.proofs.Pattern.{none_in, some_in, divisor_is, divisor_even}
use Rattle.thousandths.proofs.thousandths_of.Goals as goal

pub returns-then-b-lt4557642822898941952 : goal.returns-then-b-lt4557642822898941952
returns-then-b-lt4557642822898941952 c = none_in c.args.b c.if-b-lt4557642822898941952.true

pub whole-requires : goal.whole-requires
whole-requires c =
    let e = divisor_even c.args.b c.if-b-lt4557642822898941952.false c.requires in
    (omega arith, e.0, e.1)

pub returns : goal.returns
returns c =
    let b = c.args.b in
    let lo = c.if-b-lt4557642822898941952.false in
    c.whole.ensures ∙ some_in b _ _ lo c.requires refl (divisor_is b lo c.requires)
