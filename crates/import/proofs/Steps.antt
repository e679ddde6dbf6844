-- A step at a place of a text, way by way. Assumes nothing.
use Prim.Native.Nat.{ℕ, ◌+◌, ◌≤◌, ◌<◌}
use mathlib.Core.Path.{◌≡◌, refl, sym, ap, ◌∙◌}
use mathlib.Core.Bool.{Bool, true, false, cond}
use mathlib.Core.List.{List}
use native.Mathlib.Omega.{arith}
use borrow.Author.Tests.{eq-eqb, ne_eqb}
use lib.Dec.{eqb}
use lib.ListN.{length, drop, get_or, length-drop}
use Rattle.float.specs.Answer.{Answer, ok, refused, unless}
use Rattle.plane.specs.declared.Point.{Point}
use Rattle.path.specs.Range.{no_path}
use Rattle.path.specs.Numbers.{taken, front, is_space, leading, past}
use Rattle.path.specs.Grammar as grammar
use Rattle.path.specs.Grammar.{apart, arguments, drawn_by, step}
use Rattle.path.specs.declared.Letter.{Letter}
use Rattle.path.specs.declared.Letter.TheVariants as letters
use Rattle.numerals.specs.Numerals.{mapped}
use Rattle.numerals.proofs.Leading.{front_at, behind_at, past_at}
use Rattle.import.specs.Drawn.{Bent, bent, Next, drawn, closed, ended, next_answer, closed_by}
use Rattle.import.proofs.Pieces.{from, none}

-- ---- a letter's numbers

module _ (l : Letter) (p : Point) (s : List ℕ) where
  pub drawn_none : refused no_path ≡ mapped (bent p) (arguments l s) → refused no_path ≡ next_answer p (drawn_by l s)
  unfolding drawn_by
  drawn_none h = rw (none (bent p) (arguments l s) h) refl

  pub drawn_some : {b : Bent} {t : List ℕ} → ok (taken b t) ≡ mapped (bent p) (arguments l s) → ok (drawn l b t) ≡ next_answer p (drawn_by l s)
  unfolding drawn_by
  drawn_some h = let f = from (bent p) (arguments l s) h in drew f.found f.is
    where
      drew : {g : grammar.Segment} {b : Bent} {t : List ℕ} → arguments l s ≡ ok (taken g t) → b ≡ bent p g → ok (drawn l b t) ≡ next_answer p (drawn_by l s)
      drew e h = rw (e, h) refl

-- ---- the ways of a step

nothing_left : (T : List ℕ) (k : ℕ) → length T ≤ k → length (drop k T) ≡ 0
nothing_left T k h = simp length-drop (omega arith)

something_left : (T : List ℕ) (k : ℕ) → k < length T → length (drop k T) ≡ 0 → ⊥
something_left T k h e = omega (arith, length-drop k T)

module _ (T : List ℕ) (at : ℕ) {k : ℕ} (is : k ≡ at + leading is_space (drop at T)) where
  pub closed_not : k < length T → refused no_path ≡ closed_by (drop at T)
  unfolding closed_by
  closed_not h = rw (← past_at T at is_space is, ne_eqb (length (drop k T)) 0 (something_left T k h)) refl

  pub closed_so : length T ≤ k → ok closed ≡ closed_by (drop at T)
  unfolding closed_by
  closed_so h = rw (← past_at T at is_space is, eq-eqb (length (drop k T)) 0 (nothing_left T k h)) refl

unless_next : (p : Point) (b : Bool) → unless no_path b (ok closed) ≡ next_answer p (unless no_path b (ok grammar.closed))
unless_next p true = refl
unless_next p false = refl

module _ (T : List ℕ) (at : ℕ) (l : Letter) (p : Point) {k : ℕ} (is : k ≡ at + leading is_space (drop at T)) where
  pub step-ended : length T ≤ k → ok ended ≡ next_answer p (step l (drop at T))
  unfolding step
  step-ended h = rw (← past_at T at is_space is, eq-eqb (length (drop k T)) 0 (nothing_left T k h)) refl

  unrolled : step l (drop at T) ≡ cond (eqb (length (drop k T)) 0) (ok grammar.ended) (cond (eqb (front (drop k T)) 90) (unless no_path (eqb (length (past is_space (drop (k + 1) T))) 0) (ok grammar.closed)) (cond (eqb (front (drop k T)) 76) (drawn_by letters.Line (past is_space (drop (k + 1) T))) (cond (eqb (front (drop k T)) 67) (drawn_by letters.Curve (past is_space (drop (k + 1) T))) (drawn_by l (apart (drop at T))))))
  unfolding step
  unrolled = rw (← behind_at T k, past_at T at is_space is) refl

  module _ (some : k < length T) {b : ℕ} (byte : b ≡ get_or T k 0) where
    more_left : eqb (length (drop k T)) 0 ≡ false
    more_left = ne_eqb (length (drop k T)) 0 (something_left T k some)

    is_first : (n : ℕ) → b ≡ n → eqb (front (drop k T)) n ≡ true
    is_first n h = eq-eqb (front (drop k T)) n (front_at T k ∙ sym byte ∙ h)

    not_first : (n : ℕ) → (b ≡ n → ⊥) → eqb (front (drop k T)) n ≡ false
    not_first n h = ne_eqb (front (drop k T)) n (λ e. h (byte ∙ sym (front_at T k) ∙ e))

    pub step-closed : {a : Answer Next} → b ≡ 90 → a ≡ closed_by (drop (k + 1) T) → a ≡ next_answer p (step l (drop at T))
    unfolding closed_by
    step-closed h e = e ∙ unless_next p (eqb (length (past is_space (drop (k + 1) T))) 0) ∙ rw (unrolled, more_left, is_first 90 h) refl

    module _ (no-z : b ≡ 90 → ⊥) where
      pub step_line : {a : Answer Next} {j : ℕ} → b ≡ 76 → j ≡ k + 1 + leading is_space (drop (k + 1) T) → a ≡ next_answer p (drawn_by letters.Line (drop j T)) → a ≡ next_answer p (step l (drop at T))
      step_line h i e =
          e ∙ ap (λ t. next_answer p (drawn_by letters.Line t)) (past_at T (k + 1) is_space i) ∙ rw (unrolled, more_left, not_first 90 no-z, is_first 76 h) refl

      module _ (no-l : b ≡ 76 → ⊥) where
        pub step-curve : {a : Answer Next} {j : ℕ} → b ≡ 67 → j ≡ k + 1 + leading is_space (drop (k + 1) T) → a ≡ next_answer p (drawn_by letters.Curve (drop j T)) → a ≡ next_answer p (step l (drop at T))
        step-curve h i e =
            e ∙ ap (λ t. next_answer p (drawn_by letters.Curve t)) (past_at T (k + 1) is_space i)
            ∙ rw (unrolled, more_left, not_first 90 no-z, not_first 76 no-l, is_first 67 h) refl

        pub step-again : {a : Answer Next} (j : ℕ) → (b ≡ 67 → ⊥) → drop j T ≡ apart (drop at T) → a ≡ next_answer p (drawn_by l (drop j T)) → a ≡ next_answer p (step l (drop at T))
        step-again j h i e =
            e ∙ ap (λ t. next_answer p (drawn_by l t)) i ∙ rw (unrolled, more_left, not_first 90 no-z, not_first 76 no-l, not_first 67 h) refl
