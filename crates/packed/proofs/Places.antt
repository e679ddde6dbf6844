-- Where the parts of a packed file stand. Assumes nothing.
use mathlib.Core.Path.{◌≡◌, refl}
use Prim.Native.Nat.{ℕ, zero, suc, ◌+◌, ◌-◌, ◌<◌, ◌≤◌}
use native.Mathlib.Omega.{arith}
use Rattle.form.specs.declared.Form.{Form}
use Rattle.packed.specs.Packed.{entry_bytes}
use Rattle.packed.specs.Unpacked.{flag_at, entry_at, first_place, start_place}
use Rattle.packed.proofs.Sizes.{entry_some}

module _ (form : Form) (n : ℕ) where
  pub first_none : (i : ℕ) → i ≡ 0 → first_place form n i ≡ flag_at n + 1
  first_none zero e = refl
  first_none (suc i) e = absurd (omega arith)

  pub first_some : (i : ℕ) → 0 < i → first_place form n i ≡ entry_at form n (i - 1)
  first_some zero h = absurd (omega arith)
  first_some (suc i) h = let e : suc i - 1 ≡ i = omega arith in rw e

  pub start_none : (i : ℕ) → i ≡ 0 → start_place form n i ≡ flag_at n + 1 + 4
  start_none zero e = refl
  start_none (suc i) e = absurd (omega arith)

  pub start_some : (i : ℕ) → 0 < i → start_place form n i ≡ entry_at form n (i - 1) + 4 + 32
  start_some zero h = absurd (omega arith)
  start_some (suc i) h = let e : suc i - 1 ≡ i = omega arith in rw e

  -- a curve stands before the next one
  pub entry_before : (i : ℕ) → 0 < i → entry_at form n (i - 1) + entry_bytes form ≡ entry_at form n i
  entry_before zero h = absurd (omega arith)
  entry_before (suc i) h = let p : suc i - 1 ≡ i = omega arith in rw p (omega arith)

  -- the first mark and the start of a curve stand before its other numbers
  pub first_before : (i : ℕ) → first_place form n i + 20 ≤ entry_at form n i
  first_before zero = omega arith
  first_before (suc i) = omega (arith, entry_some form)

  pub start_before : (i : ℕ) → start_place form n i + 16 ≤ entry_at form n i
  start_before zero = omega arith
  start_before (suc i) = omega (arith, entry_some form)
