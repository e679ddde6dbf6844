-- What `is_root` finds, and what follows from it. Assumes nothing.
use mathlib.Core.Path.{◌≡◌, sym, subst}
use Prim.Native.Nat.{ℕ, suc, ◌+◌, ◌-◌, ◌*◌, ◌/◌, ◌%◌, ◌^◌, ◌≤◌, ◌<◌}
use native.Mathlib.Nat.{le_of_lt, mul-le-mul}
use native.Mathlib.Omega.{arith}
use mathlib.Core.Bool.{false}
use lib.Ieee.{Float, binary64, of_bits}
use lib.Ieee.Exact.{HasValue}
use Rattle.root.specs.Root.{IsNear, root, sqrt}
use Rattle.root.proofs.Root.{root-root, root-le}
use Rattle.root.proofs.Whole.{of_root}

-- the halves of t are below 2 ^ 27, so their products are below 2 ^ 54
pub halves : (c : ℕ) → c < 2 ^ 53 → ((c * 2 - 1) / 2 ^ 27 ≤ 2 ^ 27) × ((c * 2 - 1) % 2 ^ 27 ≤ 2 ^ 27)
halves c h = (omega arith, omega arith)

pub products : (s l : ℕ) → (s ≤ 2 ^ 27) × (l ≤ 2 ^ 27) → (s * s ≤ 2 ^ 54) × (s * l ≤ 2 ^ 54) × (l * l ≤ 2 ^ 54)
products s l h = (mul-le-mul h.0 h.0, mul-le-mul h.0 h.1, mul-le-mul h.1 h.1)

-- what is left of a * 2 ^ 54 beside the square of s * 2 ^ 27 + l
rest : (a s l : ℕ) → s * s ≤ a → s * l * 2 ≤ (a - s * s) * 2 ^ 27 → l * l < ((a - s * s) * 2 ^ 27 - s * l * 2) * 2 ^ 27
    → a * 2 ^ 54 ≡ (s * 2 ^ 27 + l) * (s * 2 ^ 27 + l) + (((a - s * s) * 2 ^ 27 - s * l * 2) * 2 ^ 27 - l * l)
rest a s l p q r = omega arith

pub checked : (a c : ℕ) → 2 ^ 52 ≤ c
    → let s = (c * 2 - 1) / 2 ^ 27 in
    let l = (c * 2 - 1) % 2 ^ 27 in
    s * s ≤ a → s * l * 2 ≤ (a - s * s) * 2 ^ 27 → l * l < ((a - s * s) * 2 ^ 27 - s * l * 2) * 2 ^ 27
    → ((a - s * s) * 2 ^ 27 - s * l * 2) * 2 ^ 27 - l * l < c * 8 → IsNear (a * 2 ^ 54) c
checked a c C p q r e =
    let s = (c * 2 - 1) / 2 ^ 27 in
    let l = (c * 2 - 1) % 2 ^ 27 in
    go (s * 2 ^ 27 + l) (((a - s * s) * 2 ^ 27 - s * l * 2) * 2 ^ 27 - l * l) (join c) (rest a s l p q r) (some (l * l) (((a - s * s) * 2 ^ 27 - s * l * 2) * 2 ^ 27) r) e
  where
    join : (c : ℕ) → (c * 2 - 1) / 2 ^ 27 * 2 ^ 27 + (c * 2 - 1) % 2 ^ 27 ≡ 2 * c - 1
    join c = omega arith

    some : (x y : ℕ) → x < y → 0 < y - x
    some x y h = omega arith

    next : (c t : ℕ) → 2 ^ 52 ≤ c → t ≡ 2 * c - 1 → 2 * c + 1 ≡ t + 2
    next c t h e = omega arith

    go : (t E : ℕ) → t ≡ 2 * c - 1 → a * 2 ^ 54 ≡ t * t + E → 0 < E → E < c * 8 → IsNear (a * 2 ^ 54) c
    go t E w n lo hi = record {
      lower = subst (λ (x : ℕ). x * x < a * 2 ^ 54) w (omega arith);
      upper = subst (λ (x : ℕ). a * 2 ^ 54 < x * x) (sym (next c t C w)) (omega arith);
    }

-- c is the root's digits, rounded
half-root : (n c : ℕ) → 0 < c → IsNear n c → (root n + 1) / 2 ≡ c
half-root n c C h = half (root n) c (root-le n (2 * c - 1) (root n) (le_of_lt h.lower) (root-root n).upper) (root-le n (root n) (2 * c) (root-root n).lower (up h.upper))
  where
    up : n < (2 * c + 1) * (2 * c + 1) → n < suc (2 * c) * suc (2 * c)
    up h = omega arith

    half : (r c : ℕ) → 2 * c - 1 ≤ r → r ≤ 2 * c → (r + 1) / 2 ≡ c
    half r c a b = omega arith

pub of_near : (x : Float) (u m i c : ℕ) → HasValue x false u (2 ^ 1074) → u * 2 ^ 52 ≡ m * 2 ^ i → 2 ^ 52 ≤ m → m < 2 ^ 53 → i ≤ 2097
    → 2 ^ 52 ≤ c → IsNear (m * 2 ^ (i % 2) * 2 ^ 54) c → of_bits binary64 ((i / 2 + 485) * 2 ^ 52 + c) ≡ sqrt binary64 x
of_near x u m i c v e lo hi I C h =
    let n = m * 2 ^ (i % 2) * 2 ^ 54 in
    subst (λ (z : ℕ). of_bits binary64 ((i / 2 + 485) * 2 ^ 52 + z) ≡ sqrt binary64 x) (half-root n c (some c C) h) (of_root x u m i (root n) v e lo hi I (root-root n))
  where
    some : (c : ℕ) → 2 ^ 52 ≤ c → 0 < c
    some c h = omega arith
