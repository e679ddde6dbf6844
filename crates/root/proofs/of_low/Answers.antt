-- `root::of_low` meets its contract.
use Prim.Native.Nat.{ℕ, ◌*◌, ◌%◌, ◌^◌, ◌≤◌, ◌<◌, ◌-◌}
use mathlib.Core.Path.{subst, sym}
use native.Mathlib.Omega.{arith}
use lib.Count.{count_leading_zeros}
use lib.Ieee.{binary64, of_bits}
use Rattle.root.proofs.Low.{Moved, moved, shifted, few, low-places}
use Rattle.float.proofs.Patterns.{low_value}
use Rattle.root.proofs.Whole.{no_nan}
use Rattle.root.proofs.of_low.Goals as goal

pub overflow_sub-k : goal.overflow_sub-k
overflow_sub-k c =
    let low : Moved c.args.b (count_leading_zeros 64 c.args.b) = moved c.args.b c.requires.0 c.requires.1 in
    omega (arith, low)

pub overflow_add-near-2 : goal.overflow_add-near-2
overflow_add-near-2 c =
    let low : Moved c.args.b (count_leading_zeros 64 c.args.b) = moved c.args.b c.requires.0 c.requires.1 in
    let digits : let b = c.args.b in let m = (b * 2 ^ (count_leading_zeros 64 b - 11)) % 2 ^ 64 in (2 ^ 52 ≤ m) × (m < 2 ^ 53) = let b = c.args.b in
    let z = count_leading_zeros 64 b in
    subst (λ (x : ℕ). (2 ^ 52 ≤ x) × (x < 2 ^ 53)) (sym (shifted b z low)) (low.lo, low.hi) in
    omega (arith, digits.1)

pub float_from_bits-near : goal.float_from_bits-near
float_from_bits-near c =
    let low : Moved c.args.b (count_leading_zeros 64 c.args.b) = moved c.args.b c.requires.0 c.requires.1 in
    let digits : let b = c.args.b in let m = (b * 2 ^ (count_leading_zeros 64 b - 11)) % 2 ^ 64 in (2 ^ 52 ≤ m) × (m < 2 ^ 53) = let b = c.args.b in
    let z = count_leading_zeros 64 b in
    subst (λ (x : ℕ). (2 ^ 52 ≤ x) × (x < 2 ^ 53)) (sym (shifted b z low)) (low.lo, low.hi) in
    no_nan _ (omega (arith, digits.1))

pub of_digits-requires : goal.of_digits-requires
of_digits-requires c =
    let low : Moved c.args.b (count_leading_zeros 64 c.args.b) = moved c.args.b c.requires.0 c.requires.1 in
    let digits : let b = c.args.b in let m = (b * 2 ^ (count_leading_zeros 64 b - 11)) % 2 ^ 64 in (2 ^ 52 ≤ m) × (m < 2 ^ 53) = let b = c.args.b in
    let z = count_leading_zeros 64 b in
    subst (λ (x : ℕ). (2 ^ 52 ≤ x) × (x < 2 ^ 53)) (sym (shifted b z low)) (low.lo, low.hi) in
    let d = digits in
    (d.0, d.1, omega arith, c.digits_of.ensures.0, c.digits_of.ensures.1)

pub returns : goal.returns
returns c =
    let low : Moved c.args.b (count_leading_zeros 64 c.args.b) = moved c.args.b c.requires.0 c.requires.1 in
    let b = c.args.b in
    let z = count_leading_zeros 64 b in
    let m = low in
    c.of_digits.ensures (of_bits binary64 b) (b * 2 ^ 0) (low_value b c.requires.1) (low-places b z m (few b z c.requires.0 m))
