-- The number of blocks, by division. Assumes nothing.
use mathlib.Core.Path.{◌≡◌, refl}
use mathlib.Core.Bool.{Bool, true, false}
use Prim.Native.Nat.{ℕ, ◌+◌, ◌-◌, ◌*◌, ◌/◌, ◌<◌, ◌≤◌}
use native.Mathlib.Nat.{le-div_iff_mul-le}
use native.Mathlib.Omega.{arith}
use borrow.Author.Tests.{lt-ltb, le-ltb, ltb-true, ltb-false}
use lib.Dec.{ltb}
use Rattle.marks.specs.Block.{block_size}
use Rattle.fit.proofs.Entries.{size_within}
use Rattle.tally.specs.Tally.{joined_blocks, Counts}

pub none : (n : ℕ) → n < 2 → 0 ≡ joined_blocks n
unfolding joined_blocks
none n h = rw (lt-ltb n 2 h)

pub some : (n : ℕ) → 2 ≤ n → (n - 2) / block_size n + 1 ≡ joined_blocks n
unfolding joined_blocks
some n h = rw (le-ltb n 2 h)

pub positive : (n s : ℕ) → s ≡ block_size n → 0 < s
positive n s e = omega (arith, (size_within n s e).0)

pub counts : Counts
counts n k = go (ltb n 2) refl
  where
    go : (b : Bool) → ltb n 2 ≡ b → (k < joined_blocks n → k * block_size n < n - 1) × (k * block_size n < n - 1 → k < joined_blocks n)
    go true e =
        let h : n < 2 = ltb-true n 2 e in
        let z = none n h in
        ((λ l. absurd (omega arith)), (λ l. absurd (omega arith)))
    go false e =
        let h : 2 ≤ n = ltb-false n 2 e in
        let z = some n h in
        let i = le-div_iff_mul-le {x = k} {y = n - 2} (positive n (block_size n) refl) in
        ((λ l. omega (arith, i.0 (omega arith))), (λ l. omega (arith, i.1 (omega arith))))
