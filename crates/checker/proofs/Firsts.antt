-- Fault A: the loop over the first marks, and that they have none exactly when they rise as they must. Assumes nothing.
use Prim.Native.Nat.{ℕ, ◌+◌, ◌≤◌, ◌<◌}
use native.Mathlib.Omega.{arith}
use mathlib.Core.Path.{◌≡◌, refl, sym, ◌∙◌}
use mathlib.Core.Bool.{Bool, true, false, ◌&&◌}
use mathlib.Core.List.{List}
use lib.Dec.{leb, ltb}
use borrow.Author.Tests.{ltb-true, leb-true, lt-ltb, le-ltb, le-leb, lt-leb}
use Rattle.float.proofs.Truth.{and_left, and_right}
use Rattle.faults.specs.Tests.{rises}
use Rattle.faults.proofs.Firsts.{Risen, risen_of, each-rises}
use Rattle.checker.specs.declared.Fault.TheVariants.{A}
use Rattle.checker.specs.Check.{Verdict, passed, fault, place, must, ◌then◌, in_turn, listed}
use Rattle.checker.proofs.Turns.{must-true, both_pass, turn_next, turn_stop, turn-each, turn_all}

module _ (n k : ℕ) (fs : List ℕ) where
  abbrev pub rise_at : ℕ → Verdict
  rise_at j = must (A (place j 0)) (rises n fs j)

  pub none_listed : k ≡ 0 → fault (A (place 0 0)) ≡ listed n k fs
  unfolding listed
  none_listed e = rw (lt-leb 1 k (omega arith))

  pub many_listed : n ≤ k → fault (A (place 0 0)) ≡ listed n k fs
  unfolding listed
  many_listed h = go (leb 1 k)
    where
      go : (b : Bool) → fault (A (place 0 0)) ≡ must (A (place 0 0)) (b && ltb k n) then in_turn k rise_at
      go true = rw (le-ltb k n h)
      go false = refl

  -- so many curves as there can be
  pub few-listed : 0 < k → k < n → listed n k fs ≡ in_turn k rise_at
  unfolding listed
  few-listed some few = rw (le-leb 1 k (omega arith), lt-ltb k n few)

  -- the first j first marks rise
  abbrev pub Rising : ℕ → Type 0
  Rising j = (j ≤ k) × (in_turn j rise_at ≡ passed)

  module _ (j : ℕ) (inv : Rising j) (l : j < k) (b : Bool) (e : b ≡ rises n fs j) where
    pub rising-more : b ≡ true → Rising (j + 1)
    rising-more t = (omega arith, turn_next rise_at j inv.1 (rw (← e, t)))

    pub rising_stop : 0 < k → k < n → b ≡ false → fault (A (place j 0)) ≡ listed n k fs
    rising_stop some few t = sym (few-listed some few ∙ turn_stop rise_at k j (A (place j 0)) l inv.1 (rw (← e, t)))

  pub rising_end : (j : ℕ) → Rising j → 0 < k → k < n → k ≤ j → passed ≡ listed n k fs
  rising_end j inv some few h =
      let e : j ≡ k = let l = inv.0 in omega arith in
      sym (few-listed some few ∙ rw (← e) inv.1)

  pub risen : listed n k fs ≡ passed → Risen n k fs
  unfolding listed
  risen h =
      let c = both_pass (must (A (place 0 0)) (leb 1 k && ltb k n)) (in_turn k rise_at) h in
      let t : leb 1 k && ltb k n ≡ true = must-true _ _ c.0 in
      let lo : 1 ≤ k = leb-true 1 k (and_left (leb 1 k) (ltb k n) t) in
      let hi : k < n = ltb-true k n (and_right (leb 1 k) (ltb k n) t) in
      risen_of n k fs (omega arith) hi (λ j l. must-true (A (place j 0)) (rises n fs j) (turn-each rise_at k c.1 j l))

  pub listed_of : Risen n k fs → listed n k fs ≡ passed
  listed_of r = few-listed r.some r.few ∙ turn_all rise_at k (λ j l. rw (each-rises n k fs r j l))
