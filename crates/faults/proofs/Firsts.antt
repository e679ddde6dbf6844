-- The first marks: where each curve begins and ends, and what they are where every test of them holds. Assumes nothing.
use Prim.Native.Nat.{ℕ, zero, suc, ◌-◌, ◌≤◌, ◌<◌}
use native.Mathlib.Nat.{eq-or-lt_of_le}
use native.Mathlib.Omega.{arith}
use mathlib.Core.Path.{◌≡◌, refl}
use mathlib.Core.Logic.{◌⊎◌, inl, inr}
use mathlib.Core.Bool.{true, ◌&&◌}
use mathlib.Core.List.{List}
use lib.Dec.{ltb, eqb}
use borrow.Author.Tests.{ltb-true, eqb-true, lt-ltb, le-ltb, eq-eqb}
use Rattle.float.proofs.Truth.{both, and_left, and_right}
use Rattle.faults.specs.Tests.{first_at, last_at, stop_at, rises}

pub rises_first : (n : ℕ) (fs : List ℕ) (j : ℕ) → j ≡ 0 → eqb (first_at fs j) 0 && ltb (first_at fs j) (n - 1) ≡ rises n fs j
unfolding rises
rises_first n fs zero e = refl
rises_first n fs (suc j) e = absurd (omega arith)

pub rises_later : (n : ℕ) (fs : List ℕ) (j : ℕ) → (j ≡ 0 → ⊥) → ltb (first_at fs (j - 1)) (first_at fs j) && ltb (first_at fs j) (n - 1) ≡ rises n fs j
unfolding rises
rises_later n fs zero e = absurd (e refl)
rises_later n fs (suc j) e = let d : suc j - 1 ≡ j = omega arith in rw d

-- first marks without fault A
pub record Risen (n k : ℕ) (fs : List ℕ) : Type 0 where
  pub some : 0 < k
  pub few : k < n
  pub from_zero : first_at fs 0 ≡ 0
  pub upward : (j : ℕ) → suc j < k → first_at fs j < first_at fs (suc j)
  pub below : (j : ℕ) → j < k → first_at fs j < n - 1

module _ (n k : ℕ) (fs : List ℕ) where
  pub risen_of : 0 < k → k < n → ((j : ℕ) → j < k → rises n fs j ≡ true) → Risen n k fs
  unfolding rises
  risen_of some few rise =
      record {
        some = some;
        few = few;
        from_zero = eqb-true _ _ (and_left (eqb (first_at fs 0) 0) (ltb (first_at fs 0) (n - 1)) (rise 0 some));
        upward = λ j l. ltb-true _ _ (and_left (ltb (first_at fs j) (first_at fs (suc j))) (ltb (first_at fs (suc j)) (n - 1)) (rise (suc j) l));
        below = λ j l. under j (rise j l);
      }
    where
      under : (j : ℕ) → rises n fs j ≡ true → first_at fs j < n - 1
      under zero t = ltb-true _ _ (and_right (eqb (first_at fs 0) 0) (ltb (first_at fs 0) (n - 1)) t)
      under (suc j) t = ltb-true _ _ (and_right (ltb (first_at fs j) (first_at fs (suc j))) (ltb (first_at fs (suc j)) (n - 1)) t)

  pub each-rises : Risen n k fs → (j : ℕ) → j < k → rises n fs j ≡ true
  unfolding rises
  each-rises r zero l = both _ _ (eq-eqb _ _ r.from_zero) (lt-ltb _ _ (r.below 0 l))
  each-rises r (suc j) l = both _ _ (lt-ltb _ _ (r.upward j l)) (lt-ltb _ _ (r.below (suc j) l))

-- where curve j ends, of k curves over n marks
pub later : (n k : ℕ) (fs : List ℕ) (j : ℕ) → suc j < k → (last_at n k fs j ≡ first_at fs (suc j)) × (stop_at n k fs j ≡ first_at fs (suc j))
unfolding last_at stop_at
later n k fs j l = (rw (lt-ltb (suc j) k l), rw (lt-ltb (suc j) k l))

pub ending : (n k : ℕ) (fs : List ℕ) (j : ℕ) → k ≤ suc j → (last_at n k fs j ≡ n - 1) × (stop_at n k fs j ≡ n)
unfolding last_at stop_at
ending n k fs j l = (rw (le-ltb (suc j) k l), rw (le-ltb (suc j) k l))

-- where curve j begins and ends
pub record Span (n k : ℕ) (fs : List ℕ) (j : ℕ) : Type 0 where
  pub rises : first_at fs j < last_at n k fs j
  pub last : last_at n k fs j < n
  pub starts : first_at fs j < stop_at n k fs j
  pub stops : stop_at n k fs j ≤ n

pub span : (n k : ℕ) (fs : List ℕ) (j : ℕ) → Risen n k fs → j < k → Span n k fs j
span n k fs j r l = let m : suc j ≤ k = omega arith in go (eq-or-lt_of_le m)
  where
    go : (suc j ≡ k) ⊎ (suc j < k) → Span n k fs j
    go (inl e) =
        let b = r.below j l in
        let d = ending n k fs j (omega arith) in
        record { rises = omega arith; last = omega arith; starts = omega arith; stops = omega arith }
    go (inr m) =
        let u = r.upward j m in
        let b = r.below (suc j) m in
        let d = later n k fs j m in
        record { rises = omega arith; last = omega arith; starts = omega arith; stops = omega arith }
