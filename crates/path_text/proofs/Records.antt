-- Records that a slice holds, and tests of all of them. Assumes nothing.
use mathlib.Core.Path.{◌≡◌, refl}
use mathlib.Core.Bool.{Bool, true, false}
use Prim.Native.Nat.{ℕ, zero, suc, ◌+◌, ◌*◌, ◌≤◌, ◌<◌}
use native.Mathlib.Omega.{arith}
use borrow.Author.Tests.{ltb-true, ltb-false}
use lib.Dec.{ltb}
use Rattle.float.proofs.Truth.{and_left, and_right}
use Rattle.form.specs.Form.{width}
use Rattle.form.specs.declared.Form.{Form}
use Rattle.form.specs.declared.Form.TheVariants.{Eight, Nine}
use Rattle.path.specs.Range.{every}

-- one of n records
pub held : (form : Form) (i n : ℕ) {l : ℕ} → i < n → width form * n ≤ l → width form * i + width form ≤ l
held Eight i n h k = omega arith
held Nine i n h k = omega arith

-- a record has eight numbers at least
pub fewer : (form : Form) (n : ℕ) {l : ℕ} → width form * n ≤ l → 8 * n ≤ l
fewer Eight n h = omega arith
fewer Nine n h = omega arith

-- a test that all pass, of one of them
pub every_at : (n i : ℕ) (p : ℕ → Bool) → every n p ≡ true → i < n → p i ≡ true
unfolding every
every_at zero i p e h = absurd (omega arith)
every_at (suc n) i p e h = go (ltb i n) refl (λ k. every_at n i p (and_left (every n p) (p n) e) k)
  where
    go : (b : Bool) → ltb i n ≡ b → (i < n → p i ≡ true) → p i ≡ true
    go true l r = r (ltb-true i n l)
    go false l r = let k : n ≤ i = ltb-false i n l in let z : i ≡ n = omega arith in rw z (and_right (every n p) (p n) e)
