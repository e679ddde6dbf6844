-- Whole square roots. Nothing here is about floats. Assumes nothing.
use mathlib.Core.Path.{◌≡◌, refl, sym, ap, ◌∙◌, subst}
use Prim.Native.Nat.{ℕ, zero, suc, ◌+◌, ◌*◌, ◌/◌, ◌%◌, ◌^◌, ◌≤◌, ◌<◌}
use native.Mathlib.Nat.{mul-le-mul, le_trans, le_of_eq, le_antisymm, le_of_suc-le-suc, lt_of_lt_of_le, lt_of_not-le, not-le_of_lt, pow-suc, div-lt_iff_lt-mul, zero-lt-suc, mul_comm, add_comm, mul-pos, mul-mul-mul_comm, div-mul-le_self, lt-div-mul-add, le_of_mul-le-mul_right, lt_of_mul-lt-mul_right}
use native.Mathlib.Omega.{arith}
use mathlib.Core.Bool.{Bool, true, false, not, cond}
use lib.Dec.{T, leb, eqb, leb→le, nleb→lt, eqb→eq}
use lib.Pow.{pow-add, pow_mono}
use lib.Ieee.{size}
use lib.Ieee.Digits.{size-lt}
use Rattle.root.specs.Root.{IsRoot, step, root_in, root, twice_root}

step-root : (n c : ℕ) → IsRoot (n / 4) c → IsRoot n (step n (2 * c))
step-root n c h = go (leb (suc (2 * c) * suc (2 * c)) n) (leb→le (suc (2 * c) * suc (2 * c)) n) (nleb→lt (suc (2 * c) * suc (2 * c)) n)
  where
    lo : 2 * c * (2 * c) ≤ n
    lo = omega (arith, h.lower)

    hi : n < suc (suc (2 * c)) * suc (suc (2 * c))
    hi = omega (arith, h.upper)

    go : (b : Bool) → (T b → suc (2 * c) * suc (2 * c) ≤ n) → (T (not b) → n < suc (2 * c) * suc (2 * c)) → IsRoot n (cond b (suc (2 * c)) (2 * c))
    go true p q = record { lower = p tt; upper = hi }
    go false p q = record { lower = lo; upper = q tt }

root_in-root : (d n : ℕ) → n < 4 ^ d → IsRoot n (root_in d n)
unfolding root_in
root_in-root zero n h = record { lower = omega arith; upper = omega arith }
root_in-root (suc d) n h = step-root n (root_in d (n / 4)) (root_in-root d (n / 4) ((div-lt_iff_lt-mul (zero-lt-suc 3)).1 (subst (λ (x : ℕ). n < x) (pow-suc 4 d) h)))

four_pow : (k : ℕ) → 4 ^ k ≡ 2 ^ (k + k)
four_pow zero = refl
four_pow (suc k) =
    pow-suc 4 k ∙ ap (λ (x : ℕ). x * 4) (four_pow k) ∙ mul_comm (2 ^ (k + k)) 4 ∙ sym (ap (λ (x : ℕ). 2 ^ x) (twice k) ∙ pow-add 2 2 (k + k))
  where
    twice : (k : ℕ) → suc k + suc k ≡ 2 + (k + k)
    twice k = omega arith

pub root-root : (n : ℕ) → IsRoot n (root n)
unfolding root
root-root n =
    let d = suc (size n / 2) in
    root_in-root d n (subst (λ (x : ℕ). n < x) (sym (four_pow d)) (lt_of_lt_of_le (size-lt n) (pow_mono (enough (size n)))))
  where
    enough : (z : ℕ) → z ≤ suc (z / 2) + suc (z / 2)
    enough z = omega arith

pub root-le : (n r s : ℕ) → r * r ≤ n → n < suc s * suc s → r ≤ s
root-le n r s a b = le_of_suc-le-suc (lt_of_not-le (λ (g : suc s ≤ r). not-le_of_lt b (le_trans (mul-le-mul g g) a)))

pub root_unique : (n r s : ℕ) → IsRoot n r → IsRoot n s → r ≡ s
root_unique n r s h k = le_antisymm (root-le n r s h.lower k.upper) (root-le n s r k.lower h.upper)

-- the root of p * p times n, with its last digits cut off
pub root_scaled : (n r p : ℕ) → 0 < p → IsRoot (n * (p * p)) r → IsRoot n (r / p)
root_scaled n r p P h =
    let q = r / p in
    let lo : q * p ≤ r = div-mul-le_self r p in
    let hi : suc r ≤ suc q * p = subst (λ (x : ℕ). r < x) (add_comm (q * p) p ∙ sym (suc_mul' q p)) (lt-div-mul-add P) in
    record {
      lower = le_of_mul-le-mul_right (le_trans (le_of_eq (mul-mul-mul_comm q q p p)) (le_trans (mul-le-mul lo lo) h.lower)) (mul-pos P P);
      upper = lt_of_mul-lt-mul_right (p * p) (lt_of_lt_of_le h.upper (le_trans (mul-le-mul hi hi) (le_of_eq (sym (mul-mul-mul_comm (suc q) (suc q) p p)))));
    }
  where
    suc_mul' : (q p : ℕ) → suc q * p ≡ p + q * p
    suc_mul' q p = omega arith

-- `twice_root`: twice the root, and one more where n is no square
pub twice_root-half : (n : ℕ) → twice_root n / 2 ≡ root n
unfolding twice_root
twice_root-half n = go (root n) (eqb (root n * root n) n)
  where
    even : (r : ℕ) → 2 * r / 2 ≡ r
    even r = omega arith

    odd : (r : ℕ) → (2 * r + 1) / 2 ≡ r
    odd r = omega arith

    go : (r : ℕ) (b : Bool) → cond b (2 * r) (2 * r + 1) / 2 ≡ r
    go r true = even r
    go r false = odd r

pub twice_root-even : (n : ℕ) → twice_root n % 2 ≡ 0 → root n * root n ≡ n
unfolding twice_root
twice_root-even n = go (root n) (eqb (root n * root n) n) (eqb→eq (root n * root n) n)
  where
    no : (r : ℕ) → (2 * r + 1) % 2 ≡ 0 → ⊥
    no r h = omega arith

    go : (r : ℕ) (b : Bool) → (T b → r * r ≡ n) → cond b (2 * r) (2 * r + 1) % 2 ≡ 0 → r * r ≡ n
    go r true k h = k tt
    go r false k h = absurd (no r h)
