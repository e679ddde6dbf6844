-- Laws of the decimal places of a number. Assumes nothing.
use Prim.Native.Nat.{ℕ, zero, suc, ◌-◌, ◌*◌, ◌^◌, ◌≤◌}
use mathlib.Core.Path.{◌≡◌}
use mathlib.Core.Bool.{Bool, true, false, ◌&&◌, ◌||◌}
use native.Mathlib.Omega.{arith}
use borrow.Author.Tests.{leb-true}
use lib.Dec.{ltb, leb}
use Rattle.path.specs.Decimals.{most}
use Rattle.numerals.specs.Numerals.{cap}

-- there are digits, and at most three of them are behind the point
pub second : (w p : ℕ) → (ltb 0 w || ltb 0 p) && leb p 3 ≡ true → p ≤ 3
second w p = go (ltb 0 w || ltb 0 p)
  where
    go : (a : Bool) → a && leb p 3 ≡ true → p ≤ 3
    go true h = leb-true p 3 h
    go false h = let n : ◌≡◌ {A = ℕ} 0 1 = cc in absurd (omega arith)

-- a property of 0, 1, 2 and 3
four : (P : ℕ → Type 0) → P 0 → P 1 → P 2 → P 3 → (p : ℕ) → p ≤ 3 → P p
four P a b c d zero h = a
four P a b c d (suc zero) h = b
four P a b c d (suc (suc zero)) h = c
four P a b c d (suc (suc (suc zero))) h = d
four P a b c d (suc (suc (suc (suc p)))) h = absurd (omega arith)

-- a product that fits
pub within : (v p : ℕ) {s : ℕ} → s ≡ 10 ^ (3 - p) → v ≤ suc most → p ≤ 3 → v * s ≤ 1000000000001000
within v p e h k = rw e (four (λ p. v * 10 ^ (3 - p) ≤ 1000000000001000) (omega arith) (omega arith) (omega arith) (omega arith) p k)

-- a capped number scaled and capped again is the number scaled and capped
pub cap_scaled : (v p : ℕ) → p ≤ 3 → cap (cap v * 10 ^ (3 - p)) ≡ cap (v * 10 ^ (3 - p))
cap_scaled v p h = four (λ p. cap (cap v * 10 ^ (3 - p)) ≡ cap (v * 10 ^ (3 - p))) (omega arith) (omega arith) (omega arith) (omega arith) p h
