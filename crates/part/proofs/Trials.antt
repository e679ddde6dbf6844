-- A part's rounds, by what the code's calls answer. Assumes nothing.
use mathlib.Core.Path.{◌≡◌, refl, sym, ap, ◌∙◌, subst}
use mathlib.Core.Bool.{Bool, true, false, ◌||◌, cond}
use mathlib.Core.List.{List, [], ◌∷◌}
use Prim.Native.Nat.{ℕ, suc, ◌-◌, ◌*◌, ◌/◌, ◌≤◌, ◌<◌}
use native.Mathlib.Omega.{arith}
use borrow.Author.Tests.{le-leb, lt-leb}
use lib.ListN.{length, set}
use Rattle.std.proofs.Common.{Result, Ok, Err}
use lib.Ieee.{Float, binary64, lt, le, div}
use Rattle.float.specs.Number.{f0, f1, finite}
use Rattle.float.specs.Calc.{Calc, give, ◌>>=◌, ◌/!◌}
use Rattle.float.specs.Answer.{Answer, ok, refused, outcome}
use Rattle.float.specs.Answer.{◌>>=◌ as chain}
use Rattle.float.proofs.Answers.{outcome_ok, outcome_no, outcome-then, not_refused}
use Rattle.float.specs.Refusal.{answer, number}
use Rattle.float.specs.declared.refusal.Refusal.{Refusal}
use Rattle.plane.specs.declared.Point.{Point}
use Rattle.plane.specs.declared.Curve.{Curve}
use Rattle.marks.specs.Marks.{mark_at}
use Rattle.marks.specs.Line.{line_of}
use Rattle.stages.specs.Chords.{chords_of}
use Rattle.stages.specs.Newton.{reparam}
use Rattle.stages.specs.Worst.{no_worst, max_error}
use Rattle.stages.specs.declared.worst.Worst.{Worst}
use Rattle.squares.specs.Squares.{generate_of}
use Rattle.part.specs.Trial.{Trial, attempt, enough, improve, tried}
use Rattle.part.specs.Part.{fits, cuts, fails, pick, lined, judged, part_of}
use Rattle.part.specs.Answers.{SolvesAs, Solves, trial_of, Did, told, refused_by, pick_tried, verdict}
use Rattle.part.specs.declared.Solved.{Solved}
use Rattle.part.specs.declared.Unfitted.{Unfitted}
use Rattle.part.specs.declared.Unfitted.TheVariants.{Cut}
use Rattle.std.specs.Result.{IsErrAnd}
use Rattle.std.proofs.lemmas.Result.{err_from_is_err_and}

-- ---- answers of the rounds
pub solves_no : (m : Calc Trial) (r : Result Solved Refusal) (p : List Float) (q : ℕ) → outcome m ≡ refused q → answer r ≡ refused q → Solves m r p
solves_no m r p q e h = rw e h

pub solves_ok : (m : Calc Trial) (s : Solved) (p : List Float) → outcome m ≡ ok (trial_of s p) → Solves m (Ok s) p
solves_ok m s p e = rw e (refl, refl)

found_as : (A : Answer Trial) (p : List Float) (s : Solved) → SolvesAs A (Ok s) p → A ≡ ok (trial_of s p)
found_as (ok a) p s h =
    let g : record { curve = a.curve; far = a.far } ≡ s = cc in
    λ i. ok (record { curve = (g i).curve; params = sym h.1 i; far = (g i).far })
found_as (refused q) p s h = not_refused q h

pub found : (m : Calc Trial) (p : List Float) (s : Solved) → Solves m (Ok s) p → outcome m ≡ ok (trial_of s p)
found m p s h = found_as (outcome m) p s h

lost_as : (A : Answer Trial) (p : List Float) (q : Refusal) → SolvesAs A (Err q) p → A ≡ refused (number q)
lost_as (ok a) p q h = cc
lost_as (refused n) p q h = sym (ap (λ (x : Answer Solved). chain x (λ s. ok (trial_of s p))) h)

pub lost : (m : Calc Trial) (p : List Float) (q : Refusal) → Solves m (Err q) p → outcome m ≡ refused (number q)
lost m p q h = lost_as (outcome m) p q h

-- ---- one round
module _ (ms : List Float) (st et : Point) (c : Curve) (ts : List Float) where
  abbrev last : List Float → Curve → Worst → Calc Trial
  last us d w = give (record { curve = d; params = us; far = w })

  abbrev measured : List Float → Curve → Calc Trial
  measured us d = ◌>>=◌ (max_error ms d us) (last us d)

  abbrev stepped : List Float → Calc Trial
  stepped us = ◌>>=◌ (generate_of ms us st et) (measured us)

  attempt-then : outcome (attempt ms st et c ts) ≡ chain (outcome (reparam ms c ts)) (λ us. outcome (stepped us))
  unfolding attempt
  attempt-then = outcome-then (reparam ms c ts) stepped

  module _ (f : Bool) (us : List Float) (ef : f ≡ (reparam ms c ts).fine) (eu : us ≡ (reparam ms c ts).val) where
    pub attempt_off : f ≡ false → outcome (attempt ms st et c ts) ≡ refused 6
    attempt_off h = attempt-then ∙ ap (λ a. chain a (λ us. outcome (stepped us))) (outcome_no (reparam ms c ts) (sym ef ∙ h))

    module _ (h : f ≡ true) where
      on : outcome (attempt ms st et c ts) ≡ chain (outcome (generate_of ms us st et)) (λ d. outcome (measured us d))
      on =
          attempt-then
          ∙ ap (λ a. chain a (λ us. outcome (stepped us))) (outcome_ok (reparam ms c ts) (sym ef ∙ h))
          ∙ ap (λ us. outcome (stepped us)) (sym eu)
          ∙ outcome-then (generate_of ms us st et) (measured us)

      pub attempt_unmade : (q : ℕ) → refused q ≡ outcome (generate_of ms us st et) → outcome (attempt ms st et c ts) ≡ refused q
      attempt_unmade q g = on ∙ ap (λ a. chain a (λ d. outcome (measured us d))) (sym g)

      module _ (d : Curve) (g : ok d ≡ outcome (generate_of ms us st et)) where
        on_made : outcome (attempt ms st et c ts) ≡ chain (outcome (max_error ms d us)) (λ w. outcome (last us d w))
        on_made = on ∙ ap (λ a. chain a (λ d. outcome (measured us d))) (sym g) ∙ outcome-then (max_error ms d us) (last us d)

        pub attempt-unmeasured : (q : ℕ) → refused q ≡ outcome (max_error ms d us) → outcome (attempt ms st et c ts) ≡ refused q
        attempt-unmeasured q k = on_made ∙ ap (λ a. chain a (λ w. outcome (last us d w))) (sym k)

        pub attempt-done : (w : Worst) → ok w ≡ outcome (max_error ms d us) → outcome (attempt ms st et c ts) ≡ ok (record { curve = d; params = us; far = w })
        unfolding outcome
        attempt-done w k = on_made ∙ ap (λ a. chain a (λ w. outcome (last us d w))) (sym k)

-- ---- the rounds after it: a stands, b is the next
module _ (ms : List Float) (st et : Point) (tol : Float) (n : ℕ) (a : Trial) where
  abbrev judged_by : Trial → Float → Calc Trial
  judged_by b x = cond (lt enough x || le b.far.err tol) (give b) (improve n ms st et tol b)

  abbrev weighed : Trial → Calc Trial
  weighed b = ◌>>=◌ (b.far.err /! a.far.err) (judged_by b)

  improve-then : outcome (improve (suc n) ms st et tol a) ≡ chain (outcome (attempt ms st et a.curve a.params)) (λ b. outcome (weighed b))
  unfolding improve
  improve-then = outcome-then (attempt ms st et a.curve a.params) weighed

  pub improve_lost : (q : ℕ) → outcome (attempt ms st et a.curve a.params) ≡ refused q → outcome (improve (suc n) ms st et tol a) ≡ refused q
  improve_lost q h = improve-then ∙ ap (λ a. chain a (λ b. outcome (weighed b))) h

  module _ (b : Trial) (h : outcome (attempt ms st et a.curve a.params) ≡ ok b) where
    abbrev ratio : Float
    ratio = div binary64 b.far.err a.far.err

    known : outcome (improve (suc n) ms st et tol a) ≡ outcome (weighed b)
    known = improve-then ∙ ap (λ a. chain a (λ b. outcome (weighed b))) h

    pub improve_off : finite ratio ≡ false → outcome (improve (suc n) ms st et tol a) ≡ refused 6
    improve_off f = known ∙ outcome-then (b.far.err /! a.far.err) (judged_by b) ∙ ap (λ x. chain x (λ x. outcome (judged_by b x))) (outcome_no (b.far.err /! a.far.err) f)

    module _ (f : finite ratio ≡ true) where
      on_ratio : outcome (improve (suc n) ms st et tol a) ≡ outcome (judged_by b ratio)
      on_ratio = known ∙ outcome-then (b.far.err /! a.far.err) (judged_by b) ∙ ap (λ x. chain x (λ x. outcome (judged_by b x))) (outcome_ok (b.far.err /! a.far.err) f)

      pub improve_last : lt enough ratio || le b.far.err tol ≡ true → outcome (improve (suc n) ms st et tol a) ≡ ok b
      unfolding outcome
      improve_last t = on_ratio ∙ ap (λ (k : Bool). outcome (cond k (give b) (improve n ms st et tol b))) t

      pub improve-more : lt enough ratio || le b.far.err tol ≡ false → outcome (improve (suc n) ms st et tol a) ≡ outcome (improve n ms st et tol b)
      improve-more t = on_ratio ∙ ap (λ (k : Bool). outcome (cond k (give b) (improve n ms st et tol b))) t

pub improve_end : (ms : List Float) (st et : Point) (tol : Float) (n : ℕ) (a : Trial) → n ≤ 0 → outcome (improve n ms st et tol a) ≡ ok a
unfolding improve outcome
improve_end ms st et tol n a h = ap (λ (k : ℕ). outcome (improve k ms st et tol a)) (none n h)
  where
    none : (n : ℕ) → n ≤ 0 → n ≡ 0
    none n h = omega arith

-- a law of suc n, at a count that is not zero
pub at_count : (Q : ℕ → ℕ → Type 0) (n : ℕ) → 0 < n → ((k : ℕ) → Q (suc k) k) → Q n (n - 1)
at_count Q n h f = subst (λ (m : ℕ). Q m (n - 1)) (back n h) (f (n - 1))
  where
    back : (n : ℕ) → 0 < n → suc (n - 1) ≡ n
    back n h = omega arith

-- the loop: what is left to answer, with n rounds to go, where s and p stand
module _ (ms : List Float) (st et : Point) (tol : Float) (n : ℕ) (s : Solved) (p : List Float) (whole : Answer Trial)
    (left : whole ≡ outcome (improve n ms st et tol (trial_of s p))) (more : 0 < n) where
  pub go_lost : (q : ℕ) → outcome (attempt ms st et s.curve p) ≡ refused q → whole ≡ refused q
  go_lost q h = left ∙ at_count (λ m k. outcome (improve m ms st et tol (trial_of s p)) ≡ refused q) n more (λ k. improve_lost ms st et tol k (trial_of s p) q h)

  module _ (b : Trial) (h : outcome (attempt ms st et s.curve p) ≡ ok b) where
    pub go_off : finite (div binary64 b.far.err s.far.err) ≡ false → whole ≡ refused 6
    go_off f = left ∙ at_count (λ m k. outcome (improve m ms st et tol (trial_of s p)) ≡ refused 6) n more (λ k. improve_off ms st et tol k (trial_of s p) b h f)

    module _ (f : finite (div binary64 b.far.err s.far.err) ≡ true) where
      pub go_last : lt enough (div binary64 b.far.err s.far.err) || le b.far.err tol ≡ true → whole ≡ ok b
      go_last t = left ∙ at_count (λ m k. outcome (improve m ms st et tol (trial_of s p)) ≡ ok b) n more (λ k. improve_last ms st et tol k (trial_of s p) b h f t)

      pub go_more : lt enough (div binary64 b.far.err s.far.err) || le b.far.err tol ≡ false → whole ≡ outcome (improve (n - 1) ms st et tol b)
      go_more t = left ∙ at_count (λ m k. outcome (improve m ms st et tol (trial_of s p)) ≡ outcome (improve k ms st et tol b)) n more (λ k. improve-more ms st et tol k (trial_of s p) b h f t)

-- ---- from the chords on
module _ (n : ℕ) (ms : List Float) (st et : Point) (tol : Float) where
  abbrev closing : Trial → Calc Trial
  closing a = cond (lt tol a.far.err) (improve 7 ms st et tol a) (give a)

  abbrev rounds : List Float → Curve → Calc Trial
  rounds ts c = ◌>>=◌ (attempt ms st et c ts) closing

  abbrev from : List Float → Calc Trial
  from ts = ◌>>=◌ (generate_of ms ts st et) (rounds ts)

  tried_then : outcome (tried n ms st et tol) ≡ chain (outcome (chords_of ms n)) (λ ts. outcome (from ts))
  unfolding tried
  tried_then = outcome-then (chords_of ms n) from

  module _ (f : Bool) (ts : List Float) (ef : f ≡ (chords_of ms n).fine) (et' : ts ≡ (chords_of ms n).val) where
    pub tried_off : f ≡ false → outcome (tried n ms st et tol) ≡ refused 6
    tried_off h = tried_then ∙ ap (λ a. chain a (λ ts. outcome (from ts))) (outcome_no (chords_of ms n) (sym ef ∙ h))

    module _ (h : f ≡ true) where
      on_chords : outcome (tried n ms st et tol) ≡ chain (outcome (generate_of ms ts st et)) (λ c. outcome (rounds ts c))
      on_chords =
          tried_then
          ∙ ap (λ a. chain a (λ ts. outcome (from ts))) (outcome_ok (chords_of ms n) (sym ef ∙ h))
          ∙ ap (λ ts. outcome (from ts)) (sym et')
          ∙ outcome-then (generate_of ms ts st et) (rounds ts)

      pub tried_unmade : (q : ℕ) → refused q ≡ outcome (generate_of ms ts st et) → outcome (tried n ms st et tol) ≡ refused q
      tried_unmade q g = on_chords ∙ ap (λ a. chain a (λ c. outcome (rounds ts c))) (sym g)

      module _ (c : Curve) (g : ok c ≡ outcome (generate_of ms ts st et)) where
        on_curve : outcome (tried n ms st et tol) ≡ chain (outcome (attempt ms st et c ts)) (λ a. outcome (closing a))
        on_curve = on_chords ∙ ap (λ a. chain a (λ c. outcome (rounds ts c))) (sym g) ∙ outcome-then (attempt ms st et c ts) closing

        pub tried_lost : (q : ℕ) → outcome (attempt ms st et c ts) ≡ refused q → outcome (tried n ms st et tol) ≡ refused q
        tried_lost q k = on_curve ∙ ap (λ a. chain a (λ a. outcome (closing a))) k

        module _ (a : Trial) (k : outcome (attempt ms st et c ts) ≡ ok a) where
          on_trial : outcome (tried n ms st et tol) ≡ outcome (closing a)
          on_trial = on_curve ∙ ap (λ a. chain a (λ a. outcome (closing a))) k

          pub tried-over : lt tol a.far.err ≡ true → outcome (tried n ms st et tol) ≡ outcome (improve 7 ms st et tol a)
          tried-over t = on_trial ∙ ap (λ (b : Bool). outcome (cond b (improve 7 ms st et tol a) (give a))) t

          pub tried-near : lt tol a.far.err ≡ false → outcome (tried n ms st et tol) ≡ ok a
          unfolding outcome
          tried-near t = on_trial ∙ ap (λ (b : Bool). outcome (cond b (improve 7 ms st et tol a) (give a))) t

-- ---- what the code makes of a solution
pub did_judged : (tol : Float) (s : Solved) (p : List Float) → Did (judged tol (ok (trial_of s p))) (verdict s tol) p
unfolding verdict
did_judged tol s p = go (le s.far.err tol)
  where
    go : (b : Bool) → Did (pick b (fits s.curve s.far p) (cuts s.far.at)) (pick_tried b (Ok s) (Err (Cut s.far.at))) p
    go true = refl
    go false = refl

module _ (s : Solved) (tol : Float) where
  pub picked_good : le s.far.err tol ≡ true → Ok s ≡ verdict s tol
  unfolding verdict
  picked_good h = sym (rw h)

  pub picked_cut : le s.far.err tol ≡ false → Err (Cut s.far.at) ≡ verdict s tol
  unfolding verdict
  picked_cut h = sym (rw h)

-- what a `?` hands on tells of a refusal
pub refused_told : (r : Result Solved Unfitted) (q : Refusal) (p : List Float) → IsErrAnd r (λ e. e ≡ refused_by q) → told r p ≡ fails (number q)
refused_told r q p h =
    let e = err_from_is_err_and r h in
    ap (λ r. told r p) (e.1 ∙ ap Err e.2)

-- ---- two marks
pub line_lost : (m : Answer Curve) (q : ℕ) (r : Result Solved Unfitted) (p : List Float) → refused q ≡ m → told r p ≡ fails q → Did (lined m) r p
line_lost m q r p e h = rw (sym e) h

pub line-done : (m : Answer Curve) (c : Curve) (p : List Float) → ok c ≡ m → p ≡ f0 ∷ f1 ∷ [] → Did (lined m) (Ok (record { curve = c; far = no_worst })) p
line-done m c p e h = rw (sym e) (ap (fits c no_worst) h)

pub two_set : (p : List Float) → length p ≡ 2 → set (set p 0 f0) 1 f1 ≡ f0 ∷ f1 ∷ []
two_set [] h = absurd (omega arith)
two_set (x ∷ []) h = absurd (omega arith)
two_set (x ∷ y ∷ []) h = refl
two_set (x ∷ y ∷ z ∷ p) h = absurd (omega arith)

pub solves_same : (m k : Calc Trial) (r : Result Solved Refusal) (p : List Float) → outcome m ≡ outcome k → Solves k r p → Solves m r p
solves_same m k r p e h = rw e h

-- ---- a part of n marks
module _ (ms : List Float) (st et : Point) (tol : Float) (n : ℕ) (even : length ms ≡ 2 * n) where
  half : length ms / 2 ≡ n
  half = omega arith

  pub part_line : n ≤ 2 → (r : Result Solved Unfitted) (p : List Float) → Did (lined (outcome (line_of (mark_at ms 0) (mark_at ms 1)))) r p → Did (part_of ms st et tol) r p
  unfolding part_of
  part_line h r p d = rw (half, le-leb n 2 h) d

  module _ (h : 2 < n) where
    pub part_lost : (q : ℕ) (r : Result Solved Unfitted) (p : List Float) → outcome (tried n ms st et tol) ≡ refused q → told r p ≡ fails q → Did (part_of ms st et tol) r p
    unfolding part_of
    part_lost q r p e a = rw (half, lt-leb n 2 h, e) a

    pub part_judged : (s : Solved) (p : List Float) (t : Result Solved Unfitted) → outcome (tried n ms st et tol) ≡ ok (trial_of s p) → t ≡ verdict s tol → Did (part_of ms st et tol) t p
    unfolding part_of
    part_judged s p t e v = rw (half, lt-leb n 2 h, e, v) (did_judged tol s p)
