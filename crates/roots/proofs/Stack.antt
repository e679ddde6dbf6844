-- The search's loop: what is left to answer stays the same, the stack never holds more than 65 sections, and no more roots are found
-- than sections are taken. Assumes nothing.
use Rattle.std.proofs.Common.{Result}
use mathlib.Core.Path.{◌≡◌, refl, sym, ap, ◌∙◌, subst}
use mathlib.Core.Bool.{Bool, true, false, cond}
use mathlib.Core.List.{List, [], ◌∷◌, ◌++◌, append_assoc, append-nil}
use Prim.Native.Nat.{ℕ, zero, suc, ◌+◌, ◌-◌, ◌≤◌, ◌<◌}
use mathlib.Core.Logic.{◌⊎◌, inl, inr}
use native.Mathlib.Nat.{eq-or-lt_of_le}
use native.Mathlib.Numerals.{add-one}
use native.Mathlib.Omega.{arith}
use borrow.Author.Tests.{ltb-true}
use lib.Dec.{ltb, eqb}
use lib.Ieee.{Float, nan}
use lib.ListN.{length, get_or, set, take, length-set}
use lib.Seq.{get_or-set_same, get_or-set_other, take-suc-set}
use Rattle.float.specs.Answer.{Answer, ok, refused, unless, outcome}
use Rattle.float.specs.Answer.{◌>>=◌ as chain}
use Rattle.float.specs.Refusal.{answer}
use Rattle.float.specs.declared.refusal.Refusal.{Refusal}
use Rattle.plane.specs.Plane.{at}
use Rattle.quintic.specs.Points.{section}
use Rattle.quintic.specs.declared.points.Section.{Section}
use Rattle.quintic.specs.declared.points.Halves.{Halves}
use Rattle.flat.specs.Flat.{crossings, flat_enough}
use Rattle.intercept.specs.Intercept.{root_of}
use Rattle.roots.specs.Find.{root_seen, halve, look_of, wait, next, find}
use Rattle.roots.specs.Tests.{roots_answer}
use Rattle.roots.specs.declared.find.Waiting.{Waiting}
use Rattle.roots.specs.declared.find.Look.{Look}
use Rattle.roots.specs.declared.find.Look.TheVariants.{Nothing, Root, Halved}

-- ---- a section is halved at a depth below 64 only
pub halved-low : (s : Section) (depth : ℕ) (h : Halves) → ok (Halved h) ≡ look_of s depth → depth < 64
unfolding look_of root_seen halve
halved-low s depth h k = go (eqb (crossings s) 0) (eqb (crossings s) 1) (outcome (flat_enough s)) (outcome (root_of s)) (ltb depth 64) refl _ k
  where
    clash : {A : Type 0} → ◌≡◌ {A = ℕ} 0 1 → A
    clash e = absurd (omega arith)

    go : (none one : Bool) (flat : Answer Bool) (found : Answer Float) (b : Bool) → ltb depth 64 ≡ b → (rest : Answer Look)
        → ok (Halved h) ≡ cond none (ok Nothing) (chain (cond one flat (ok false)) (λ f. cond f (chain found (λ t. ok (Root t))) (unless 8 b rest)))
        → depth < 64
    go none one flat found true e rest k = ltb-true depth 64 e
    go true one flat found false e rest k = clash cc
    go false false flat found false e rest k = clash cc
    go false true (refused n) found false e rest k = clash cc
    go false true (ok false) found false e rest k = clash cc
    go false true (ok true) (refused n) false e rest k = clash cc
    go false true (ok true) (ok t) false e rest k = clash cc

-- ---- the stack: the first n places of the array, the last of them on top
abbrev pub blank : Waiting
blank = wait (section (at nan nan) (at nan nan) (at nan nan) (at nan nan) (at nan nan) (at nan nan)) 0

unfoldable pub stack_of : ℕ → List Waiting → List Waiting
stack_of zero l = []
stack_of (suc n) l = get_or l n blank ∷ stack_of n l

stack_below : (n k : ℕ) (l : List Waiting) (w : Waiting) → n ≤ k → stack_of n (set l k w) ≡ stack_of n l
unfolding stack_of
stack_below zero k l w h = refl
stack_below (suc n) k l w h = let d : (n ≡ k → ⊥) = (λ e. omega arith) in rw (get_or-set_other l k n w blank d, stack_below n k l w (omega arith))

stack_push : (n : ℕ) (l : List Waiting) (w : Waiting) → n < length l → stack_of (suc n) (set l n w) ≡ w ∷ stack_of n l
unfolding stack_of
stack_push n l w h = rw (get_or-set_same l n w blank h, stack_below n n l w (omega arith))

stack_two : (n : ℕ) (l : List Waiting) (v w : Waiting) → n + 1 < length l → stack_of (n + 2) (set (set l n v) (n + 1) w) ≡ w ∷ v ∷ stack_of n l
stack_two n l v w h =
    subst (λ (k : ℕ). stack_of k (set (set l n v) (n + 1) w) ≡ w ∷ v ∷ stack_of n l) (two n)
    (stack_push (n + 1) (set l n v) w (rw length-set (omega arith))
    ∙ ap (λ (k : ℕ). w ∷ stack_of k (set l n v)) (add-one n)
    ∙ ap (λ (x : List Waiting). w ∷ x) (stack_push n l v (omega arith)))
  where
    two : (n : ℕ) → suc (n + 1) ≡ n + 2
    two n = omega arith

stack_pop : (n : ℕ) (l : List Waiting) → 0 < n → stack_of n l ≡ get_or l (n - 1) blank ∷ stack_of (n - 1) l
unfolding stack_of
stack_pop n l h = subst (λ (k : ℕ). stack_of k l ≡ get_or l (n - 1) blank ∷ stack_of (n - 1) l) (back n h) refl
  where
    back : (n : ℕ) → 0 < n → suc (n - 1) ≡ n
    back n h = omega arith

-- the section at place k is at least k deep, still after two were pushed
deep_two : (n : ℕ) (l : List Waiting) (v w : Waiting) → n + 1 < length l → n + 1 ≤ v.depth → n + 1 ≤ w.depth → ((k : ℕ) → k < n → k ≤ (get_or l k blank).depth)
    → (k : ℕ) → k < n + 2 → k ≤ (get_or (set (set l n v) (n + 1) w) k blank).depth
deep_two n l v w room hv hw old k h = elim (at_most k (n + 1) (omega arith)) [
  | inl e ↦ rw (e, get_or-set_same (set l n v) (n + 1) w blank (rw length-set (omega arith))) hw
  | inr b ↦ let d : (k ≡ n + 1 → ⊥) = (λ e. omega arith) in
      rw (get_or-set_other (set l n v) (n + 1) k w blank d)
      (elim (at_most k n (omega arith)) [
        | inl e ↦ rw (e, get_or-set_same l n v blank (omega arith)) (omega arith)
        | inr b ↦ let d : (k ≡ n → ⊥) = (λ e. omega arith) in rw (get_or-set_other l n k v blank d) (old k b)
      ])
]
  where
    at_most : (k n : ℕ) → k ≤ n → (k ≡ n) ⊎ (k < n)
    at_most k n h = eq-or-lt_of_le h

-- ---- what is left to answer: the roots found stand before those to come
abbrev pub later : List Float → ℕ → Answer (List Float) → Answer (List Float)
later roots found a = chain a (λ ts. ok (take found roots ++ ts))

pub record Going (whole : Answer (List Float)) (size : ℕ) (roots : List Float) (sections : List Waiting) (waiting taken found : ℕ) : Type 0 where
  pub answer : whole ≡ later roots found (find 8 (2048 - taken) (stack_of waiting sections))
  pub kept : length roots ≡ size
  pub room : 2048 ≤ size
  pub places : length sections ≡ 65
  pub few : found ≤ taken
  pub high : waiting ≤ 65
  pub deep : (k : ℕ) → k < waiting → k ≤ (get_or sections k blank).depth

pub start : (roots : List Float) (sections : List Waiting) → 2048 ≤ length roots → length sections ≡ 65 → Going (find 8 2048 (stack_of 1 sections)) (length roots) roots sections 1 0 0
start roots sections room places = record {
  answer = same (find 8 2048 (stack_of 1 sections));
  kept = refl;
  room = room;
  places = places;
  few = omega arith;
  high = omega arith;
  deep = λ k h. omega arith;
}
  where
    same : (a : Answer (List Float)) → a ≡ later roots 0 a
    same (ok ts) = refl
    same (refused n) = refl

pub alike : {whole : Answer (List Float)} {size taken : ℕ} (roots roots' : List Float) (sections sections' : List Waiting) (waiting waiting' found found' : ℕ)
    → Going whole size roots sections waiting taken found → roots' ≡ roots → sections' ≡ sections → waiting' ≡ waiting → found' ≡ found → Going whole size roots' sections' waiting' taken found'
alike roots roots' sections sections' waiting waiting' found found' g r s w f = rw (r, s, w, f) g

-- ---- one turn, that looked at the section on top and saw it
module _ (whole : Answer (List Float)) (size : ℕ) (roots : List Float) (sections : List Waiting) (waiting taken found : ℕ) (g : Going whole size roots sections waiting taken found) where
  -- no section is left to take
  pub full : 0 < waiting → 2048 ≤ taken → refused 8 ≡ whole
  unfolding find
  full w h = sym (g.answer ∙ ap (λ (n : ℕ). later roots found (find 8 n (stack_of waiting sections))) (none taken h) ∙ ap (λ (x : List Waiting). later roots found (find 8 0 x)) (stack_pop waiting sections w))
    where
      none : (n : ℕ) → 2048 ≤ n → 2048 - n ≡ 0
      none n h = omega arith

  -- no section waits
  pub done : waiting ≤ 0 → ok (take found roots) ≡ whole
  unfolding find stack_of
  done h = sym (g.answer ∙ ap (λ (n : ℕ). later roots found (find 8 (2048 - taken) (stack_of n sections))) (none waiting h) ∙ ended (2048 - taken))
    where
      none : (n : ℕ) → n ≤ 0 → n ≡ 0
      none n h = omega arith

      ended : (n : ℕ) → later roots found (find 8 n []) ≡ ok (take found roots)
      ended zero = ap ok (append-nil (take found roots))
      ended (suc n) = ap ok (append-nil (take found roots))

  module _ (more : 0 < waiting) (some : taken < 2048) where
    abbrev top : Waiting
    top = get_or sections (waiting - 1) blank

    abbrev seen : Answer Look
    seen = look_of top.section top.depth

    abbrev under : List Waiting
    under = stack_of (waiting - 1) sections

    abbrev search : List Waiting → Answer (List Float)
    search = find 8 (2048 - (taken + 1))

    turned : (a : Answer Look) → a ≡ seen → whole ≡ later roots found (chain a (next search top.depth under))
    unfolding find
    turned a saw =
        g.answer
        ∙ ap (λ (x : List Waiting). later roots found (find 8 (2048 - taken) x)) (stack_pop waiting sections more)
        ∙ ap (λ (n : ℕ). later roots found (find 8 n (top ∷ under))) (back taken some)
        ∙ ap (λ x. later roots found (chain x (next search top.depth under))) (sym saw)
      where
        back : (n : ℕ) → n < 2048 → 2048 - n ≡ suc (2048 - (n + 1))
        back n h = omega arith

    pub stops : (q : ℕ) → refused q ≡ seen → refused q ≡ whole
    stops q saw = sym (turned (refused q) saw)

    pub passes : ok Nothing ≡ seen → Going whole size roots sections (waiting - 1) (taken + 1) found
    unfolding next
    passes saw = record {
      answer = turned (ok Nothing) saw;
      kept = g.kept;
      room = g.room;
      places = g.places;
      few = omega (arith, g.few);
      high = omega (arith, g.high);
      deep = λ k h. g.deep k (omega arith);
    }

    pub finds : (t : Float) → ok (Root t) ≡ seen → Going whole size (set roots found t) sections (waiting - 1) (taken + 1) (found + 1)
    unfolding next
    finds t saw = record {
      answer = turned (ok (Root t)) saw ∙ joined (search under);
      kept = length-set roots found t ∙ g.kept;
      room = g.room;
      places = g.places;
      few = omega (arith, g.few);
      high = omega (arith, g.high);
      deep = λ k h. g.deep k (omega arith);
    }
      where
        stored : take (found + 1) (set roots found t) ≡ take found roots ++ (t ∷ [])
        stored = rw add-one (take-suc-set roots found t (omega (arith, g.kept, g.room, g.few, some)))

        joined : (r : Answer (List Float)) → later roots found (chain r (λ ts. ok (t ∷ ts))) ≡ later (set roots found t) (found + 1) r
        joined (refused n) = refl
        joined (ok ts) = ap ok (sym (append_assoc (take found roots) (t ∷ []) ts) ∙ ap (λ (x : List Float). x ++ ts) (sym stored))

    module _ (h : Halves) (saw : ok (Halved h) ≡ seen) where
      pub low : top.depth < 64
      low = halved-low top.section top.depth h saw

      pub fits : waiting - 1 < 64
      fits = omega (arith, low, g.deep (waiting - 1) (omega arith))

      abbrev R : Waiting
      R = wait h.right (top.depth + 1)

      abbrev L : Waiting
      L = wait h.left (top.depth + 1)

      abbrev sections' : List Waiting
      sections' = set (set sections (waiting - 1) R) (waiting - 1 + 1) L

      deeper : waiting - 1 + 1 ≤ top.depth + 1
      deeper = omega (arith, g.deep (waiting - 1) (omega arith))

      pub splits : Going whole size roots sections' (waiting - 1 + 2) (taken + 1) found
      unfolding next
      splits = record {
        answer =
            turned (ok (Halved h)) saw
            ∙ ap (λ (x : List Waiting). later roots found (search x)) (sym (stack_two (waiting - 1) sections R L (subst (λ (n : ℕ). waiting - 1 + 1 < n) (sym g.places) (omega (arith, fits)))));
        kept = g.kept;
        room = g.room;
        places = length-set (set sections (waiting - 1) R) (waiting - 1 + 1) L ∙ length-set sections (waiting - 1) R ∙ g.places;
        few = omega (arith, g.few);
        high = omega (arith, fits);
        deep = deep_two (waiting - 1) sections R L (subst (λ (n : ℕ). waiting - 1 + 1 < n) (sym g.places) (omega (arith, fits))) deeper deeper (λ k b. g.deep k (omega arith));
      }

-- ---- what the lent numbers hold of a search that was refused
pub roots-refused : (r : Result ℕ Refusal) (l : List Float) (q : ℕ) (whole : Answer (List Float)) → answer r ≡ refused q → refused q ≡ whole → roots_answer r l ≡ whole
unfolding roots_answer
roots-refused r l q whole e h = ap (λ a. chain a (λ n. ok (take n l))) e ∙ h
