-- The marks' numbers, looked through, and what a passed gate says. Assumes nothing.
use Prim.Native.Nat.{ℕ, zero, suc, ◌+◌, ◌-◌, ◌*◌, ◌/◌, ◌%◌, ◌≤◌, ◌<◌}
use native.Mathlib.Omega.{arith}
use mathlib.Core.Path.{◌≡◌, refl, sym, ap, ◌∙◌}
use mathlib.Core.Bool.{Bool, true, false, not, ◌&&◌}
use mathlib.Core.List.{List, [], ◌∷◌}
use lib.ListN.{length, get_or}
use lib.Dec.{ltb, leb, eqb}
use lib.Ieee.{Float, nan}
use borrow.Author.Tests.{ltb-false, leb-true, leb-false, eqb-true, eq-eqb, ne_eqb, lt-ltb, le-ltb, le-leb, not-false}
use Rattle.std.specs.Bool.{MatchBool}
use Rattle.std.specs.List.{AllWithin, HoldsAt}
use Rattle.float.specs.Refusal.{number}
use Rattle.float.specs.declared.refusal.Refusal.{Refusal}
use Rattle.float.specs.declared.refusal.Refusal.TheVariants.{TooFew, TooMany, Odd, NoRoom, OutOfRange, NotFinite, TooDeep, BadlyFormed, TooLarge, NoPath, NotJoined}
use Rattle.float.proofs.Truth.{both, and_left, and_right}
use Rattle.plane.specs.Range.{coordinate}
use Rattle.marks.specs.Marks.{count}
use Rattle.form.specs.Form.{width, worsts_for}
use Rattle.form.specs.declared.Form.{Form}
use Rattle.form.specs.declared.Form.TheVariants.{Eight, Nine}
use Rattle.ring.specs.Ring.{again, Even}
use Rattle.ring.specs.declared.Outline.{Outline}
use Rattle.gate.specs.Gate.{in_range, tolerable, refuse, room_for, gate_for}

-- ---- every number of a slice, looked at in turn

all_near : (ms : List Float) → ((k : ℕ) → k < length ms → coordinate (get_or ms k nan) ≡ true) → in_range ms ≡ true
unfolding in_range
all_near [] h = refl
all_near (x ∷ ms) h = both _ _ (h 0 (omega arith)) (all_near ms (λ k l. h (suc k) (omega arith)))

one_far : (ms : List Float) (k : ℕ) → k < length ms → coordinate (get_or ms k nan) ≡ false → in_range ms ≡ false
unfolding in_range
one_far [] k l h = absurd (omega arith)
one_far (x ∷ ms) zero l h = rw h
one_far (x ∷ ms) (suc k) l h = rw (one_far ms k (omega arith) h) (and_false (coordinate x))
  where
    and_false : (b : Bool) → b && false ≡ false
    and_false true = refl
    and_false false = refl

pub looked_through : (ms : List Float) (b : Bool) → MatchBool b (AllWithin (λ x. coordinate x ≡ true) ms 0 (length ms)) ((k : ℕ) × (k < length ms) × HoldsAt (λ x. coordinate x ≡ false) ms k)
    → b ≡ in_range ms
looked_through ms true h = sym (all_near ms (λ k l. h k nan (omega arith) l))
looked_through ms false (k, l, h) = sym (one_far ms k l (h nan))

past : (b : Bool) (q n : ℕ) → refuse b (suc q) n ≡ 0 → (b ≡ false) × (n ≡ 0)
past true q n h = absurd (omega arith)
past false q n h = (refl, h)

-- one test for another that holds where it does
same_leb : (a b x y : ℕ) → (a ≤ b → x ≤ y) → (x ≤ y → a ≤ b) → leb a b ≡ leb x y
same_leb a b x y f g = go (leb a b) (leb x y) refl refl
  where
    go : (t u : Bool) → leb a b ≡ t → leb x y ≡ u → t ≡ u
    go true u e d = sym (le-leb x y (f (leb-true a b e))) ∙ d
    go false true e d =
        let l : b < a = leb-false a b e in
        let h = g (leb-true x y d) in
        absurd (omega arith)
    go false false e d = refl

-- room for so many numbers a curve, by a division
pub room_by : (form : Form) (k c : ℕ) → leb k (c / width form) ≡ leb (width form * k) c
room_by Eight k c = same_leb k (c / 8) (8 * k) c (λ h. omega arith) (λ h. omega arith)
room_by Nine k c = same_leb k (c / 9) (9 * k) c (λ h. omega arith) (λ h. omega arith)

pub has_width : (form : Form) → 0 < width form
has_width Eight = omega arith
has_width Nine = omega arith

-- each refusal, by the tests before it and its own
module _ (top : ℕ) (o : Outline) (form : Form) (k : ℕ) (ms : List Float) (tol : Float) (c f w p : ℕ) where
  pub half-marks : (length ms % 2 ≡ 0 → ⊥) → 3 ≡ gate_for top o form k ms tol c f w p
  unfolding gate_for
  half-marks h = rw (ne_eqb (length ms % 2) 0 h)

  module _ (even : length ms % 2 ≡ 0) where
    pub too_few : count ms < again o + 2 → 1 ≡ gate_for top o form k ms tol c f w p
    unfolding gate_for
    too_few h = rw (eq-eqb (length ms % 2) 0 even, lt-ltb (count ms) (again o + 2) h)

    module _ (two : again o + 2 ≤ count ms) where
      pub too_many : top < count ms → 2 ≡ gate_for top o form k ms tol c f w p
      unfolding gate_for
      too_many h = rw (eq-eqb (length ms % 2) 0 even, le-ltb (count ms) (again o + 2) two, lt-ltb top (count ms) h)

      module _ (most : count ms ≤ top) where
        pub no_room : {b : Bool} → b ≡ room_for form k c f w → b ≡ false → 4 ≡ gate_for top o form k ms tol c f w p
        unfolding gate_for
        no_room e h = rw (eq-eqb (length ms % 2) 0 even, le-ltb (count ms) (again o + 2) two, le-ltb top (count ms) most, ← e, h)

        module _ {b : Bool} (e : b ≡ room_for form k c f w) (t : b ≡ true) where
          pub no_params : p < again o + count ms → 4 ≡ gate_for top o form k ms tol c f w p
          unfolding gate_for
          no_params h = rw (eq-eqb (length ms % 2) 0 even, le-ltb (count ms) (again o + 2) two, le-ltb top (count ms) most, ← e, t, lt-ltb p (again o + count ms) h)

          -- the numbers, at last
          module _ (params : again o + count ms ≤ p) {r : Bool} (near : r ≡ in_range ms) where
            pub not_near : r ≡ false → 5 ≡ gate_for top o form k ms tol c f w p
            unfolding gate_for
            not_near h = rw (eq-eqb (length ms % 2) 0 even, le-ltb (count ms) (again o + 2) two, le-ltb top (count ms) most, ← e, t, le-ltb p (again o + count ms) params, ← near, h)

            module _ (is : r ≡ true) {u : Bool} (usable : u ≡ tolerable tol) where
              pub not_usable : u ≡ false → 5 ≡ gate_for top o form k ms tol c f w p
              unfolding gate_for
              not_usable h = rw (eq-eqb (length ms % 2) 0 even, le-ltb (count ms) (again o + 2) two, le-ltb top (count ms) most, ← e, t, le-ltb p (again o + count ms) params, ← near, is, ← usable, h)

              pub lets_pass : u ≡ true → 0 ≡ gate_for top o form k ms tol c f w p
              unfolding gate_for
              lets_pass h = rw (eq-eqb (length ms % 2) 0 even, le-ltb (count ms) (again o + 2) two, le-ltb top (count ms) most, ← e, t, le-ltb p (again o + count ms) params, ← near, is, ← usable, h)

-- 0 is no refusal's number
pub never_zero : (q : Refusal) → number q ≡ 0 → ⊥
never_zero TooFew h = omega arith
never_zero TooMany h = omega arith
never_zero Odd h = omega arith
never_zero NoRoom h = omega arith
never_zero OutOfRange h = omega arith
never_zero NotFinite h = omega arith
never_zero TooDeep h = omega arith
never_zero BadlyFormed h = omega arith
never_zero TooLarge h = omega arith
never_zero NoPath h = omega arith
never_zero NotJoined h = omega arith

-- by the number of curves that room is asked for
pub wants : (top : ℕ) (o : Outline) (form : Form) (ms : List Float) (tol : Float) (c f w p : ℕ) {k k' : ℕ} → k ≡ k' → {r : ℕ} → r ≡ gate_for top o form k ms tol c f w p → r ≡ gate_for top o form k' ms tol c f w p
wants top o form ms tol c f w p e h = h ∙ ap (λ (k : ℕ). gate_for top o form k ms tol c f w p) e

-- what a gate that gave 0 has tested, with room for k curves
pub record PassedFor (top : ℕ) (o : Outline) (form : Form) (k : ℕ) (ms : List Float) (tol : Float) (c f w p : ℕ) : Type 0 where
  pub even : length ms % 2 ≡ 0
  pub two : again o + 2 ≤ count ms
  pub most : count ms ≤ top
  pub curves : width form * k ≤ c
  pub firsts : k ≤ f
  pub worsts : worsts_for form k ≤ w
  pub params : again o + count ms ≤ p
  pub near : in_range ms ≡ true
  pub usable : tolerable tol ≡ true

module _ (top : ℕ) (o : Outline) (form : Form) (k : ℕ) (ms : List Float) (tol : Float) (c f w p : ℕ) where
  pub passed_for : gate_for top o form k ms tol c f w p ≡ 0 → PassedFor top o form k ms tol c f w p
  unfolding gate_for room_for
  passed_for h =
      let a = past (not (eqb (length ms % 2) 0)) 2 _ h in
      let b = past (ltb (count ms) (again o + 2)) 0 _ a.1 in
      let d = past (ltb top (count ms)) 1 _ b.1 in
      let e = past (not (leb (width form * k) c && (leb k f && leb (worsts_for form k) w))) 3 _ d.1 in
      let i = past (ltb p (again o + count ms)) 3 _ e.1 in
      let j = past (not (in_range ms)) 4 _ i.1 in
      let l = past (not (tolerable tol)) 4 0 j.1 in
      let room = not-false _ e.0 in
      let beside = and_right (leb (width form * k) c) _ room in
      record {
        even = eqb-true _ _ (not-false _ a.0);
        two = ltb-false _ _ b.0;
        most = ltb-false _ _ d.0;
        curves = leb-true _ _ (and_left (leb (width form * k) c) _ room);
        firsts = leb-true _ _ (and_left (leb k f) _ beside);
        worsts = leb-true _ _ (and_right (leb k f) _ beside);
        params = ltb-false _ _ i.0;
        near = not-false _ j.0;
        usable = not-false _ l.0;
      }

  -- and nothing else is tested
  pub passes : PassedFor top o form k ms tol c f w p → gate_for top o form k ms tol c f w p ≡ 0
  unfolding gate_for room_for
  passes h =
      simp (eq-eqb (length ms % 2) 0 h.even, le-ltb (count ms) (again o + 2) h.two, le-ltb top (count ms) h.most, le-leb (width form * k) c h.curves, le-leb k f h.firsts, le-leb (worsts_for form k) w h.worsts, le-ltb p (again o + count ms) h.params, h.near, h.usable)

-- whole marks are let pass, and some
pub passed-even : {top : ℕ} {o : Outline} {form : Form} {k : ℕ} {ms : List Float} {tol : Float} {c f w p : ℕ} → PassedFor top o form k ms tol c f w p → Even ms
passed-even g = let t = g.two in (g.even, omega arith)

-- a fit's gate, with room for as many curves as there can be
abbrev pub Passed : ℕ → Outline → List Float → Float → ℕ → ℕ → ℕ → ℕ → Type 0
Passed top o ms tol c f w p = PassedFor top o Nine (again o + count ms - 1) ms tol c f w p

pub passed : (top : ℕ) (o : Outline) (ms : List Float) (tol : Float) (c f w p : ℕ) → gate_for top o Nine (again o + count ms - 1) ms tol c f w p ≡ 0 → Passed top o ms tol c f w p
passed top o ms tol c f w p h = passed_for top o Nine (again o + count ms - 1) ms tol c f w p h
