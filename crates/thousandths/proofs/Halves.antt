-- A fraction as a whole number, halves up, by its quotient and what is left. Assumes nothing.
use mathlib.Core.Path.{◌≡◌, sym}
use Prim.Native.Nat.{ℕ, suc, ◌+◌, ◌*◌, ◌/◌, ◌%◌, ◌≤◌, ◌<◌}
use native.Mathlib.Nat.{le_antisymm, le_of_suc-le-suc, le-div_iff_mul-le, div-lt_iff_lt-mul, div-add-mod', mod-lt}
use native.Mathlib.Omega.{arith}
use lib.Ieee.Nearest.{div_same}
use Rattle.path.specs.Decimals.{rounded}

quotient : (a b q : ℕ) → 0 < b → q * b ≤ a → a < suc q * b → a / b ≡ q
quotient a b q B lo hi = le_antisymm (le_of_suc-le-suc ((div-lt_iff_lt-mul B).1 hi)) ((le-div_iff_mul-le B).1 lo)

-- t is the whole number, if the fraction is at most a half away
pub rounded_is : (n d t : ℕ) → 0 < d → 2 * (t * d) ≤ 2 * n + d → 2 * n < 2 * (t * d) + d → rounded n d ≡ t
unfolding rounded
rounded_is n d t D lo hi = quotient (2 * n + d) (2 * d) t (twice d D) (under t d n lo) (over t d n hi)
  where
    twice : (d : ℕ) → 0 < d → 0 < 2 * d
    twice d h = omega arith

    under : (t d n : ℕ) → 2 * (t * d) ≤ 2 * n + d → t * (2 * d) ≤ 2 * n + d
    under t d n h = omega arith

    over : (t d n : ℕ) → 2 * n < 2 * (t * d) + d → 2 * n + d < suc t * (2 * d)
    over t d n h = omega arith

pub rounded-le : (n d t : ℕ) → 0 < d → n ≤ t * d → rounded n d ≤ t
unfolding rounded
rounded-le n d t D h = le_of_suc-le-suc ((div-lt_iff_lt-mul (twice d D)).1 (over t d n D h))
  where
    twice : (d : ℕ) → 0 < d → 0 < 2 * d
    twice d h = omega arith

    over : (t d n : ℕ) → 0 < d → n ≤ t * d → 2 * n + d < suc t * (2 * d)
    over t d n D h = omega arith

-- equal fractions
pub rounded_same : (a b c d : ℕ) → 0 < b → 0 < d → a * d ≡ c * b → rounded a b ≡ rounded c d
unfolding rounded
rounded_same a b c d B D e = div_same (2 * a + b) (2 * b) (2 * c + d) (2 * d) (twice b B) (twice d D) (cross a b c d e)
  where
    twice : (d : ℕ) → 0 < d → 0 < 2 * d
    twice d h = omega arith

    cross : (a b c d : ℕ) → a * d ≡ c * b → (2 * a + b) * (2 * d) ≡ (2 * c + d) * (2 * b)
    cross a b c d e = omega arith

-- ---- what is left is below a half, or not
pub down_to : (n d : ℕ) → 0 < d → d % 2 ≡ 0 → n % d < d / 2 → n / d ≡ rounded n d
down_to n d D two h = sym (rounded_is n d (n / d) D (lo (n / d * d) (n % d) n d (div-add-mod' n d)) (hi (n / d * d) (n % d) n d (div-add-mod' n d) two h))
  where
    lo : (w r n d : ℕ) → w + r ≡ n → 2 * w ≤ 2 * n + d
    lo w r n d e = omega arith

    hi : (w r n d : ℕ) → w + r ≡ n → d % 2 ≡ 0 → r < d / 2 → 2 * n < 2 * w + d
    hi w r n d e two h = omega arith

pub up_to : (n d : ℕ) → 0 < d → d % 2 ≡ 0 → d / 2 ≤ n % d → n / d + 1 ≡ rounded n d
up_to n d D two h =
    sym (rounded_is n d (n / d + 1) D (lo (n / d) (n % d) n d (div-add-mod' n d) two h) (hi (n / d) (n % d) n d (div-add-mod' n d) (mod-lt n D)))
  where
    lo : (q r n d : ℕ) → q * d + r ≡ n → d % 2 ≡ 0 → d / 2 ≤ r → 2 * ((q + 1) * d) ≤ 2 * n + d
    lo q r n d e two h = omega arith

    hi : (q r n d : ℕ) → q * d + r ≡ n → r < d → 2 * n < 2 * ((q + 1) * d) + d
    hi q r n d e h = omega arith
