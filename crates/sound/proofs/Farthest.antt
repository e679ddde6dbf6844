-- The walk of the checker finds the first of the farthest marks, and there is only one. Assumes nothing.
use Prim.Native.Nat.{ℕ, zero, suc, ◌+◌, ◌≤◌, ◌<◌}
use native.Mathlib.Nat.{eq-or-lt_of_le}
use native.Mathlib.Omega.{arith}
use mathlib.Core.Path.{◌≡◌, refl}
use mathlib.Core.Logic.{inl, inr}
use mathlib.Core.Bool.{Bool, true, false, cond}
use lib.Dec.{T, ltb}
use lib.Ieee.{Float, binary64, fits, lt}
use borrow.Author.Tests.{ltb-true, ltb-false}
use Rattle.float.specs.Number.{f0}
use Rattle.float.proofs.Ranks.{Le}
use Rattle.root.specs.Root.{plain}
use Rattle.stages.specs.Worst.{larger}
use Rattle.stages.specs.declared.worst.Worst.{Worst}
use Rattle.numbers.proofs.Order.{le_self, lt_is_le, not_lt}
use Rattle.numbers.proofs.Plain.{plain-fin}
use Rattle.numbers.proofs.Larger.{le_not_lt, le-then-lt, none_is}
use Rattle.faults.specs.Tests.{farther, unmeasured}
use Rattle.sound.specs.Sound.{Farthest}

-- the squares of the marks from `first` up to `stop` are finite values of an f64 with the sign clear
abbrev pub Squares : (ℕ → Float) → ℕ → ℕ → Type 0
Squares square first stop = (i : ℕ) → first ≤ i → i < stop → T (fits binary64 (square i)) × T (plain (square i))

-- ---- there is only one

module _ (square : ℕ → Float) (first stop : ℕ) (good : Squares square first stop) where
  not_after : (v w : ℕ) → Farthest square first stop v → Farthest square first stop w → v < w → ⊥
  not_after v w p q l =
      le_not_lt (square w) (square v) (good w q.from q.upto).1 (good v p.from p.upto).1 (p.most w q.from q.upto) (q.before v p.from l)

  pub only_one : (v w : ℕ) → Farthest square first stop v → Farthest square first stop w → v ≡ w
  only_one v w p q = go (ltb v w) (ltb w v) refl refl
    where
      go : (a b : Bool) → ltb v w ≡ a → ltb w v ≡ b → v ≡ w
      go true b e d = absurd (not_after v w p q (ltb-true v w e))
      go false true e d = absurd (not_after w v q p (ltb-true w v d))
      go false false e d =
          let x : w ≤ v = ltb-false v w e in
          let y : v ≤ w = ltb-false w v d in
          omega arith

-- ---- the walk finds it

module _ (square : ℕ → Float) (first : ℕ) where
  -- mark w .at is it, and w.err its square
  pub record Found (stop : ℕ) (w : Worst) : Type 0 where
    pub far : Farthest square first stop w.at
    pub err : w.err ≡ square w.at

  start : Squares square first (first + 1) → (b : Bool) → lt f0 (square first) ≡ b → Found (first + 1) (cond b (record { err = square first; at = first }) (unmeasured first))
  start good = found
    where
      alone : (i : ℕ) → first ≤ i → i < first + 1 → Le (square i) (square first)
      alone i l u =
          let s : i ≡ first = omega arith in
          rw s (le_self (square first) (plain-fin (square first) (good first (omega arith) (omega arith)).1))

      only : Farthest square first (first + 1) first
      only = record { from = omega arith; upto = omega arith; most = alone; before = λ i l u. absurd (omega arith) }

      found : (b : Bool) → lt f0 (square first) ≡ b → Found (first + 1) (cond b (record { err = square first; at = first }) (unmeasured first))
      found true e = record { far = only; err = refl }
      found false e = let g = good first (omega arith) (omega arith) in record { far = only; err = none_is binary64 (square first) g.0 g.1 e }

  next : (m : ℕ) (w : Worst) → Found m w → first ≤ m → Squares square first (m + 1) → (b : Bool) → lt w.err (square m) ≡ b → Found (m + 1) (cond b (record { err = square m; at = m }) w)
  next m w f o good true e =
      let x = f.far in
      let lo = x.from in
      let hi = x.upto in
      let gw = good w.at lo (omega arith) in
      let gm = good m o (omega arith) in
      let l : lt (square w.at) (square m) ≡ true = rw f.err at e in
      record {
        far = record {
          from = o;
          upto = omega arith;
          most = λ i a u. below i a u (λ d. lt_is_le (square i) (square m) (passed i a d gw gm l)) (le_self (square m) (plain-fin (square m) gm.1));
          before = λ i a u. passed i a u gw gm l;
        };
        err = refl;
      }
    where
      passed : (i : ℕ) → first ≤ i → i < m → T (fits binary64 (square w.at)) × T (plain (square w.at)) → T (fits binary64 (square m)) × T (plain (square m)) → lt (square w.at) (square m) ≡ true
          → lt (square i) (square m) ≡ true
      passed i a u gw gm l = le-then-lt (square i) (square w.at) (square m) (good i a (omega arith)).1 gw.1 gm.1 (f.far.most i a u) l

      below : (i : ℕ) → first ≤ i → i < m + 1 → (i < m → Le (square i) (square m)) → Le (square m) (square m) → Le (square i) (square m)
      below i a u h g = let v : i ≤ m = omega arith in elim (eq-or-lt_of_le v) [ inl d ↦ rw d g | inr d ↦ h d ]
  next m w f o good false e =
      let x = f.far in
      let lo = x.from in
      let hi = x.upto in
      let gw = good w.at lo (omega arith) in
      let gm = good m o (omega arith) in
      let l : lt (square w.at) (square m) ≡ false = rw f.err at e in
      let g = not_lt (square w.at) (square m) (plain-fin (square w.at) gw.1) (plain-fin (square m) gm.1) l in
      record {
        far = record { from = lo; upto = omega arith; most = λ i a u. below i a u (x.most i a) g; before = x.before };
        err = f.err;
      }
    where
      below : (i : ℕ) → first ≤ i → i < m + 1 → (i < m → Le (square i) (square w.at)) → Le (square m) (square w.at) → Le (square i) (square w.at)
      below i a u h g = let v : i ≤ m = omega arith in elim (eq-or-lt_of_le v) [ inl d ↦ rw d g | inr d ↦ h d ]

  -- over one mark and n more
  pub walk_finds : (n : ℕ) → Squares square first (first + suc n) → Found (first + suc n) (farther (unmeasured first) (λ i. square (first + i)) first (suc n))
  unfolding farther larger
  walk_finds zero good =
      let z : first + 0 ≡ first = omega arith in
      rw z (start good (lt f0 (square first)) refl)
  walk_finds (suc n) good =
      let e : first + suc n + 1 ≡ first + suc (suc n) = omega arith in
      let w = farther (unmeasured first) (λ i. square (first + i)) first (suc n) in
      rw e at (next (first + suc n) w (walk_finds n (λ i a u. good i a (omega arith))) (omega arith) (λ i a u. good i a (omega arith)) (lt w.err (square (first + suc n))) refl)
