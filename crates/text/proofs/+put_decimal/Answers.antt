-- `text::put_decimal` meets its contract.
use mathlib.Core.Path.{◌≡◌, refl, ap}
use mathlib.Core.List.{[], ◌∷◌}
use Prim.Native.Nat.{◌+◌, ◌/◌}
use native.Mathlib.Omega.{arith}
use lib.ListN.{length}
use Rattle.text.specs.Text.{digit_char, decimal}
use Rattle.text.proofs.Digits.{decimal_one, length_more, put-more}
use Rattle.text.proofs.+put_decimal.Goals as goal

pub bounds-out-at : goal.bounds-out-at
bounds-out-at t c = let e = ap length (decimal_one c.args.n c.if-n-lt10.true) in omega arith

pub returns-then-n-lt10 : goal.returns-then-n-lt10
returns-then-n-lt10 t c =
    let e : decimal c.args.n ≡ digit_char c.args.n ∷ [] = decimal_one c.args.n c.if-n-lt10.true in
    rw (e, c.digit.ensures) (refl, refl)

pub put_decimal-end-requires : goal.put_decimal-end-requires
put_decimal-end-requires t c =
    (omega arith, omega (arith, c.requires, length_more c.args.n c.if-n-lt10.false))

pub bounds-out-end : goal.bounds-out-end
bounds-out-end t c =
    let l : length (decimal c.args.n) ≡ length (decimal (c.args.n / 10)) + 1 = length_more c.args.n c.if-n-lt10.false in
    omega (arith, c.put_decimal-end.ensures.0, c.put_decimal-end.auto, c.requires)

pub overflow_add-result-2 : goal.overflow_add-result-2
overflow_add-result-2 t c =
    let l : length (decimal c.args.n) ≡ length (decimal (c.args.n / 10)) + 1 = length_more c.args.n c.if-n-lt10.false in
    omega (arith, c.put_decimal-end.ensures.0, c.requires)

pub returns : goal.returns
returns t c =
    let l : length (decimal c.args.n) ≡ length (decimal (c.args.n / 10)) + 1 = length_more c.args.n c.if-n-lt10.false in
    (omega (arith, c.put_decimal-end.ensures.0), rw (c.digit-2.ensures, c.put_decimal-end.ensures.1) (put-more c.args.out.now c.args.at c.args.n c.put_decimal-end.result c.if-n-lt10.false c.put_decimal-end.ensures.0))
