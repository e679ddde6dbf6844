-- First marks: every mark lies under a curve; and the order of the first marks of a sound list. Assumes nothing.
use Prim.Native.Nat.{ℕ, zero, suc, ◌+◌, ◌-◌, ◌≤◌, ◌<◌}
use native.Mathlib.Omega.{arith}
use mathlib.Core.Path.{◌≡◌, refl}
use mathlib.Core.Bool.{Bool, true, false}
use mathlib.Core.List.{List}
use lib.Dec.{leb}
use borrow.Author.Tests.{leb-true, leb-false}
use Rattle.faults.specs.Tests.{first_at, last_at, stop_at}
use Rattle.faults.proofs.Firsts.{Risen, later, ending}

-- a curve that a mark is measured under
pub record Home (n k : ℕ) (fs : List ℕ) (i : ℕ) : Type 0 where
  pub curve : ℕ
  pub listed : curve < k
  pub from : first_at fs curve ≤ i
  pub upto : i < stop_at n k fs curve

module _ (n k : ℕ) (fs : List ℕ) where
  module _ (r : Risen n k fs) (i : ℕ) where
    find : (j : ℕ) → j < k → i < stop_at n k fs j → Home n k fs i
    find zero l h = let z = r.from_zero in record { curve = 0; listed = l; from = omega arith; upto = h }
    find (suc j) l h = go (leb (first_at fs (suc j)) i) refl (λ g. find j (omega arith) g)
      where
        go : (b : Bool) → leb (first_at fs (suc j)) i ≡ b → (i < stop_at n k fs j → Home n k fs i) → Home n k fs i
        go true e before = record { curve = suc j; listed = l; from = leb-true _ _ e; upto = h }
        go false e before =
            let s = later n k fs j l in
            let u : i < first_at fs (suc j) = leb-false _ _ e in
            before (omega arith)

    pub home : i < n → Home n k fs i
    home l =
        let some = r.some in
        let e = ending n k fs (k - 1) (omega arith) in
        find (k - 1) (omega arith) (omega arith)

  -- each curve has two marks or more, so the first marks rise
  module _ (some : 0 < k) (from_zero : first_at fs 0 ≡ 0) (two : (j : ℕ) → j < k → first_at fs j < last_at n k fs j) where
    up : (j : ℕ) → suc j < k → first_at fs j < first_at fs (suc j)
    up j l =
        let h = two j (omega arith) in
        let e = later n k fs j l in
        omega arith

    climbs : (j : ℕ) → j < k → j ≤ first_at fs j
    climbs zero l = omega arith
    climbs (suc j) l =
        let h = climbs j (omega arith) in
        let u = up j l in
        omega arith

    under : (d j : ℕ) → suc (j + d) ≡ k → first_at fs j < n - 1
    under zero j e =
        let h = two j (omega arith) in
        let s = ending n k fs j (omega arith) in
        omega arith
    under (suc d) j e =
        let h = under d (suc j) (omega arith) in
        let u = up j (omega arith) in
        omega arith

    pub risen_of : Risen n k fs
    risen_of =
        let c = climbs (k - 1) (omega arith) in
        let u = under 0 (k - 1) (omega arith) in
        record { some = some; few = omega arith; from_zero = from_zero; upward = up; below = λ j l. under (k - suc j) j (omega arith) }
