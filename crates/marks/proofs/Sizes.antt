-- The block size by counting down. Assumes nothing.
use mathlib.Core.Path.{◌≡◌, refl, sym, ap, ◌∙◌, subst}
use Prim.Native.Nat.{ℕ, suc, ◌+◌, ◌-◌, ◌%◌, ◌≤◌, ◌<◌}
use native.Mathlib.Omega.{arith}
use borrow.Author.Tests.{le-leb, lt-leb, lt-ltb, le-ltb}
use Rattle.float.proofs.Truth.{picked, passed}
use Rattle.marks.specs.Block.{size_from, block_size}

-- the sizes from `size` on give the answer
pub record Down (n size : ℕ) : Type 0 where
  pub low : 50 ≤ size
  pub high : size ≤ 200
  pub same : block_size n ≡ size_from (size - 50) n

pub small : (n : ℕ) → n < 200 → 200 ≡ block_size n
unfolding block_size
small n h = picked 200 (size_from 150 n) (lt-ltb n 200 h)

pub start : (n : ℕ) → 200 ≤ n → Down n 200
start n h = record { low = omega arith; high = omega arith; same = from }
  where
    from : block_size n ≡ size_from (200 - 50) n
    from = unfold block_size in sym (passed 200 (size_from 150 n) (le-ltb n 200 h))

module _ (n size : ℕ) (d : Down n size) where
  step : 50 < size → size_from (size - 50) n ≡ size_from (suc (size - 51)) n
  step h = ap (λ (k : ℕ). size_from k n) (omega arith)

  whole : 50 < size → 50 + suc (size - 51) ≡ size
  whole h = omega arith

  pub found : 50 < size → 50 ≤ n % size → size ≡ block_size n
  found h r = sym (d.same ∙ step h ∙ go (subst (λ (x : ℕ). 50 ≤ n % x) (sym (whole h)) r) ∙ whole h)
    where
      go : 50 ≤ n % (50 + suc (size - 51)) → size_from (suc (size - 51)) n ≡ 50 + suc (size - 51)
      go k = unfold size_from in sym (picked (50 + suc (size - 51)) (size_from (size - 51) n) (le-leb 50 (n % (50 + suc (size - 51))) k))

  pub next : 50 < size → n % size < 50 → Down n (size - 1)
  next h r = record { low = omega arith; high = (let t = d.high in omega arith); same = d.same ∙ step h ∙ go (subst (λ (x : ℕ). n % x < 50) (sym (whole h)) r) ∙ ap (λ (k : ℕ). size_from k n) (omega arith) }
    where
      go : n % (50 + suc (size - 51)) < 50 → size_from (suc (size - 51)) n ≡ size_from (size - 51) n
      go k = unfold size_from in sym (passed (50 + suc (size - 51)) (size_from (size - 51) n) (lt-leb 50 (n % (50 + suc (size - 51))) k))

  pub end : size ≤ 50 → 50 ≡ block_size n
  end h = sym (d.same ∙ ap (λ (k : ℕ). size_from k n) none ∙ zero_is)
    where
      none : size - 50 ≡ 0
      none = omega arith

      zero_is : size_from 0 n ≡ 50
      zero_is = unfold size_from in refl
