-- The bit patterns of finite numbers: what each stands for, in units of the smallest value. Assumes nothing.
use mathlib.Core.Path.{◌≡◌, refl, sym, ap, ◌∙◌, subst}
use Prim.Native.Nat.{ℕ, suc, ◌+◌, ◌-◌, ◌*◌, ◌/◌, ◌%◌, ◌^◌, ◌≤◌, ◌<◌}
use native.Mathlib.Nat.{mod-eq_of_lt}
use native.Mathlib.Omega.{arith}
use mathlib.Core.Bool.{Bool, false, cond}
use lib.Dec.{leb, eqb}
use lib.Ieee.{Float, nan, inf, binary64, odd, of_fields, of_bits}
use lib.Ieee.Exact.{HasValue, odd_sign}
use borrow.Author.Tests.{lt-leb, ne_eqb}

pub of_bits_is : (b : ℕ) → of_bits binary64 b ≡ of_fields binary64 (leb (2 ^ 63) b) (b % 2 ^ 63 / 2 ^ 52) (b % 2 ^ 52)
unfolding of_bits
of_bits_is b = refl

-- by the sign's bit
pub signed : (s : Bool) (b : ℕ) → leb (2 ^ 63) b ≡ s → of_bits binary64 b ≡ of_fields binary64 s (b % 2 ^ 63 / 2 ^ 52) (b % 2 ^ 52)
signed s b h = of_bits_is b ∙ ap (λ (s : Bool). of_fields binary64 s (b % 2 ^ 63 / 2 ^ 52) (b % 2 ^ 52)) h

pub positive : (b : ℕ) → b < 2 ^ 63 → of_bits binary64 b ≡ of_fields binary64 false (b / 2 ^ 52) (b % 2 ^ 52)
positive b h = signed false b (lt-leb (2 ^ 63) b h) ∙ ap (λ (x : ℕ). of_fields binary64 false (x / 2 ^ 52) (b % 2 ^ 52)) (mod-eq_of_lt h)

pub under_ones : (s : Bool) (t x : ℕ) → suc x < 2047 → of_fields binary64 s (suc x) t ≡ odd 53 s (2 ^ 52 + t) x 1074
unfolding of_fields
under_ones s t x h = ap (λ (b : Bool). cond b (cond (eqb t 0) (inf s) nan) (odd 53 s (2 ^ 52 + t) x 1074)) (ne_eqb (suc x) 2047 (λ e. omega arith))

pub at_zero : (s : Bool) (t : ℕ) → of_fields binary64 s 0 t ≡ odd 53 s t 0 1074
unfolding of_fields
at_zero s t = refl

-- ---- the value, in units, of a pattern with the sign's bit clear
pub normal_value : (b : ℕ) → 2 ^ 52 ≤ b → b < 0x7ff0_0000_0000_0000 → HasValue (of_bits binary64 b) false ((2 ^ 52 + b % 2 ^ 52) * 2 ^ (b / 2 ^ 52 - 1)) (2 ^ 1074)
normal_value b lo hi =
    let k = b / 2 ^ 52 - 1 in
    let t = b % 2 ^ 52 in
    subst (λ (x : Float). HasValue x false ((2 ^ 52 + t) * 2 ^ k) (2 ^ 1074))
    (sym (positive b (omega arith) ∙ ap (λ (x : ℕ). of_fields binary64 false x t) (field b lo) ∙ under_ones false t k (bound b lo hi)))
    (odd_sign 53 false (2 ^ 52 + t) k 1074)
  where
    field : (b : ℕ) → 2 ^ 52 ≤ b → b / 2 ^ 52 ≡ suc (b / 2 ^ 52 - 1)
    field b h = omega arith

    bound : (b : ℕ) → 2 ^ 52 ≤ b → b < 0x7ff0_0000_0000_0000 → suc (b / 2 ^ 52 - 1) < 2047
    bound b h k = omega arith

pub low_value : (b : ℕ) → b < 2 ^ 52 → HasValue (of_bits binary64 b) false (b * 2 ^ 0) (2 ^ 1074)
low_value b h =
    subst (λ (x : Float). HasValue x false (b * 2 ^ 0) (2 ^ 1074))
    (sym (positive b (omega arith) ∙ ap (λ (x : ℕ). of_fields binary64 false x (b % 2 ^ 52)) (none b h) ∙ ap (λ (x : ℕ). of_fields binary64 false 0 x) (mod-eq_of_lt h) ∙ at_zero false b))
    (odd_sign 53 false b 0 1074)
  where
    none : (b : ℕ) → b < 2 ^ 52 → b / 2 ^ 52 ≡ 0
    none b h = omega arith
