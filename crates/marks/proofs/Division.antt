-- The block size by one division. Assumes nothing.
use mathlib.Core.Path.{◌≡◌, ap, ◌∙◌, subst}
use Prim.Native.Nat.{ℕ, zero, suc, ◌+◌, ◌*◌, ◌-◌, ◌/◌, ◌%◌, ◌≤◌, ◌<◌}
use native.Mathlib.Nat.{div-mul-le_self, lt-div-mul-add, mul-le-mul_left, mul-le-mul_right}
use native.Mathlib.Omega.{arith}
use lib.Arith.{digits_mod}
use Rattle.marks.specs.Block.{block_size}
use Rattle.marks.proofs.Sizes.{Down, start, found, next}

-- n marks are q blocks of 200 and r over, fewer than 50; with k marks less in a block 50 or more are over, and with k - 1 less not yet
pub record Shares (n q r k : ℕ) : Type 0 where
  pub low : 200 ≤ n
  pub high : n ≤ 30048
  pub split : n ≡ q * 200 + r
  pub few : r < 50
  pub reached : 50 ≤ r + k * q
  pub least : r + k * q < 50 + q

-- k is what is missing, divided among the blocks and rounded up
pub shares : (n x : ℕ) → 200 ≤ n → n ≤ 30048 → n % 200 < 50 → x ≡ 50 - n % 200 + (n / 200 - 1) → Shares n (n / 200) (n % 200) (x / (n / 200))
shares n x l h f e =
    let up = lt-div-mul-add {a = x} {b = n / 200} (omega arith) in
    let whole = div-mul-le_self x (n / 200) in
    record { low = l; high = h; split = omega arith; few = f; reached = omega (arith, up); least = omega (arith, whole) }

-- what is over is less than a block; here alone the bound counts: of 30,049 marks, 150 * 200 + 49, with one less in a block as many as a block are over
within : (n q r k : ℕ) → Shares n q r k → r + k * q + k < 200
within n q r zero s = omega arith
within n q r (suc zero) s = omega arith
within n q r (suc (suc j)) s = omega (arith, mul-le-mul_left j positive)
  where
    positive : 1 ≤ q
    positive = omega arith

module _ (n q r k : ℕ) (s : Shares n q r k) where
  room : r + k * q + k < 200
  room = within n q r k s

  -- n = q * (200 - j) + (r + j * q), with d for 200 - j
  over : (d j : ℕ) → d + j ≡ 200 → r + j * q < d → n % d ≡ r + j * q
  over d j e h = ap (λ (x : ℕ). x % d) whole ∙ digits_mod q h
    where
      whole : n ≡ q * d + (r + j * q)
      whole = omega (arith, ap (λ (x : ℕ). q * x) e, s.split)

  -- a larger block leaves fewer than 50
  short : (j : ℕ) → j < k → n % (200 - j) < 50
  short j h = omega (arith, few, over (200 - j) j (omega (arith, room)) (omega (arith, room, few)))
    where
      few : r + j * q < 50
      few = omega (arith, mul-le-mul_right q h, s.least)

  leaves : 50 ≤ n % (200 - k)
  leaves = omega (arith, s.reached, over (200 - k) k (omega (arith, room)) (omega (arith, room)))

  down : (j : ℕ) → j ≤ k → Down n (200 - j)
  down zero h = start n s.low
  down (suc j) h = subst (Down n) (omega arith) (next n (200 - j) (down j (omega arith)) (omega (arith, room, s.reached)) (short j h))

  pub shrunk : 200 - k ≡ block_size n
  shrunk = found n (200 - k) (down k (omega arith)) (omega (arith, room, s.reached)) leaves
