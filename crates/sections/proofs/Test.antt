-- The class that the tree uses is the Rust's test, `y < 0.0`. Assumes nothing.
use mathlib.Core.Path.{◌≡◌, refl, ap}
use Prim.Native.Nat.{ℕ, zero, suc, ◌+◌, ◌*◌, ◌<◌}
use native.Mathlib.Nat.{zero-mul, mul-pos, zero-lt-suc}
use native.Mathlib.Omega.{arith}
use mathlib.Core.Bool.{true, false}
use lib.IntN.{ℤ, pos}
use lib.Dec.{T, ltb, lt→ltb, ltb→lt, not_T}
use lib.Ieee.{Float, nan, inf, fin, up, down, lt}
use lib.Ieee.Fits.{up_pos}
use lib.Ieee.Bits.{is_true, is_false}
use Rattle.sections.specs.Halving.{below}

more : (a b : ℕ) → 0 < a → 0 < a + b
more a b h = omega arith

never : (a b : ℕ) → a ≡ 0 → b ≡ 0 → 0 < a + b → ⊥
never a b h k l = omega arith

none : (a b : ℕ) → b ≡ 0 → a < b → ⊥
none a b h k = omega arith

zeros : (e : ℤ) → 0 * 1 * down e ≡ 0
zeros e = zero-mul (down e)

pub test_is : (y : Float) → lt y (fin false 0 (pos 0)) ≡ below y
unfolding lt
test_is nan = refl
test_is (inf true) = refl
test_is (inf false) = refl
test_is (fin false m e) = is_false (ltb (m * up e * 1) (0 * 1 * down e)) (not_T (ltb (m * up e * 1) (0 * 1 * down e)) (λ (h : T (ltb (m * up e * 1) (0 * 1 * down e))). none (m * up e * 1) (0 * 1 * down e) (zeros e) (ltb→lt (m * up e * 1) (0 * 1 * down e) h)))
test_is (fin true zero e) = is_false (ltb 0 (0 * up e * 1 + 0 * 1 * down e)) (not_T (ltb 0 (0 * up e * 1 + 0 * 1 * down e)) (λ (h : T (ltb 0 (0 * up e * 1 + 0 * 1 * down e))). never (0 * up e * 1) (0 * 1 * down e) (ap (λ (z : ℕ). z * 1) (zero-mul (up e))) (zeros e) (ltb→lt 0 (0 * up e * 1 + 0 * 1 * down e) h)))
test_is (fin true (suc m) e) = is_true (ltb 0 (suc m * up e * 1 + 0 * 1 * down e)) (lt→ltb 0 (suc m * up e * 1 + 0 * 1 * down e) (more (suc m * up e * 1) (0 * 1 * down e) (mul-pos (mul-pos (zero-lt-suc m) (up_pos e)) (zero-lt-suc 0))))
