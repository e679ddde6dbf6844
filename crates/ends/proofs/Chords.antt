-- The first chord-length parameters: in 0..1, the first +0, the last 1, where the run is fine. That the whole length is not zero follows: 0 / 0 is a NaN.
use mathlib.Core.Path.{◌≡◌, refl, sym, ap, ◌∙◌, subst}
use mathlib.Core.Bool.{Bool, true, false, ◌&&◌, ◌||◌, beq, cond, true≢false}
use mathlib.Core.List.{List}
use Prim.Native.Nat.{ℕ, zero, suc, ◌+◌, ◌-◌, ◌*◌, ◌<◌}
use native.Mathlib.Nat.{lt_irrefl, zero-mul, mul-pos, zero-lt-suc}
use native.Mathlib.Omega.{arith}
use borrow.Author.Count.{below_none, below_more}
use borrow.Author.Tests.{ne_eqb}
use lib.Dec.{T, eqb}
use lib.IntN.{ℤ, pos}
use lib.ListN.{length, get_or}
use lib.Ieee.{Float, nan, inf, fin, Format, binary64, fits, unlike, up, down, add, div, eq, of_bits}
use lib.Ieee.Fits.{up_pos, add-fits}
use Rattle.float.specs.Number.{finite}
use Rattle.float.specs.Calc.{Calc, ◌/!◌}
use Rattle.float.specs.Folds.{each}
use Rattle.plane.specs.Plane.{minus, dot_of, magnitude_of, distance_of}
use Rattle.marks.specs.Marks.{mark_at}
use Rattle.stages.specs.Chords.{along, chords_of}
use Rattle.stages.proofs.InPlace.{each-get}
use Rattle.float.proofs.Strict.{Fin}
use Rattle.float.proofs.Answers.{Fine}
use Rattle.float.proofs.Folds.{each-length, each_all}
use Rattle.float.proofs.Ranks.{Le}
use Rattle.float.proofs.Truth.{never, and_left, and_right}
use Rattle.root.specs.Root.{plain}
use Rattle.root.proofs.Laws.{sqrt_strict}
use Rattle.numbers.specs.Words.{zer, one, InUnit}
use Rattle.ends.specs.Ends.{Params}
use Rattle.numbers.proofs.Zeros.{eq-zero, round_none, div_is, div_self}
use Rattle.numbers.proofs.Order.{le_tr, le_self}
use Rattle.numbers.proofs.Plain.{plain-fin, sqrt-plain, add_grows, add-plain, div-unit}
use Rattle.ends.proofs.Squares.{dot-plain, dot-fits}

-- ---- a finite quotient by a finite number: it is not zero
no_number : {A : Type 0} (b : Bool) (s : Bool) → Fin (cond b nan (inf s)) → A
unfolding finite
no_number true s h = never h
no_number false s h = never h

not_none : (n : ℕ) (d : ℤ) → suc n * up d * 1 ≡ 0 * 1 * down d → ⊥
not_none n d e = lt_irrefl 0 (subst (λ (x : ℕ). 0 < x) (e ∙ zero-mul (down d)) (mul-pos (mul-pos (zero-lt-suc n) (up_pos d)) (zero-lt-suc 0)))

by_zero : {A : Type 0} (f : Format) (x : Float) (t : Bool) (d : ℤ) → Fin (div f x (fin t 0 d)) → A
unfolding finite div
by_zero f nan t d h = never h
by_zero f (inf s) t d h = never h
by_zero f (fin s m e) t d h = no_number (eqb m 0) (unlike s t) h

pub div-den : (f : Format) (x y : Float) → Fin (div f x y) → Fin y → eq y (zer false) ≡ false
unfolding finite eq
div-den f x nan h g = never g
div-den f x (inf t) h g = never g
div-den f x (fin t zero d) h g = by_zero f x t d h
div-den f x (fin t (suc n) d) h g = ap (λ (b : Bool). b && (beq t false || eqb (suc n * up d * 1) 0)) (ne_eqb (suc n * up d * 1) (0 * 1 * down d) (not_none n d))

-- +0 over a number with the sign clear is +0
pub zero-over : (f : Format) (y : Float) → T (plain y) → eq y (zer false) ≡ false → div f (zer false) y ≡ zer false
zero-over f nan p n = absurd p
zero-over f (inf t) p n = absurd p
zero-over f (fin true k d) p n = absurd p
zero-over f (fin false zero d) p n = absurd (true≢false (sym (eq-zero false d) ∙ n))
zero-over f (fin false (suc k) d) p n =
    div_is f false 0 (pos 0) false k d ∙ round_none f false (0 * 1 * down d) (suc k * up d * 1) (zero-mul (down d)) (mul-pos (mul-pos (zero-lt-suc k) (up_pos d)) (zero-lt-suc 0))

-- ---- the lengths
module _ (ms : List Float) where
  abbrev step : ℕ → Calc Float
  step k = distance_of (mark_at ms k) (mark_at ms (suc k))

  step-plain : (k : ℕ) → Fine (step k) → T (plain (step k).val)
  unfolding distance_of magnitude_of
  step-plain k h =
      let d = minus (mark_at ms (suc k)) (mark_at ms k) in
      let r = and_right d.fine _ h in
      let s = and_right (dot_of d.val d.val).fine _ r in
      sqrt-plain (dot_of d.val d.val).val (dot-fits d.val d.val) (dot-plain d.val (sqrt_strict _ s))

  along-fits : (k : ℕ) → T (fits binary64 (along ms k).val)
  unfolding along
  along-fits zero = unfold of_bits fits in tt
  along-fits (suc k) = add-fits binary64 (along ms k).val (step k).val

  along-parts : (k : ℕ) → Fine (along ms (suc k)) → Fine (along ms k) × T (plain (step k).val) × Fin (along ms (suc k)).val
  unfolding along
  along-parts k h =
      let r = and_right (along ms k).fine _ h in
      let last = finite (add binary64 (along ms k).val (step k).val) in
      (and_left (along ms k).fine _ h, step-plain k (and_left (step k).fine last r), and_right (step k).fine last r)

  along-plain : (k : ℕ) → Fine (along ms k) → T (plain (along ms k).val)
  unfolding along
  along-plain zero h = unfold of_bits in tt
  along-plain (suc k) h = let p = along-parts k h in add-plain binary64 (along ms k).val (step k).val (along-plain k p.0) p.1 p.2

  along_grows : (k : ℕ) → Fine (along ms (suc k)) → Le (along ms k).val (along ms (suc k)).val
  unfolding along
  along_grows k h = let p = along-parts k h in add_grows binary64 (along ms k).val (step k).val (along-fits k) (along-plain k p.0) p.1

  -- each length up to the n-th is plain and at most the n-th
  Under : ℕ → ℕ → Type 0
  Under n k = T (plain (along ms k).val) × Le (along ms k).val (along ms n).val

  along_own : (n : ℕ) → Fine (along ms n) → Under n n
  unfolding Under
  along_own n h = let p = along-plain n h in (p, le_self (along ms n).val (plain-fin (along ms n).val p))

  along-top : (n : ℕ) → Fine (along ms n) → (k : ℕ) → k < n + 1 → Under n k
  unfolding Under
  along-top zero h = below_more (Under 0) 0 (below_none (Under 0)) (along_own 0 h)
  along-top (suc n) h =
      below_more (Under (suc n)) (suc n)
      (λ k l. let u = along-top n (along-parts n h).0 k (omega arith) in (u.0, le_tr (along ms k).val (along ms n).val (along ms (suc n)).val u.1 (along_grows n h)))
      (along_own (suc n) h)

  -- ---- the parameters
  module _ (n : ℕ) (some : 0 < n) (fine : Fine (chords_of ms n)) where
    abbrev total : Float
    total = (along ms (n - 1)).val

    abbrev over : ℕ → Calc Float
    over k = (along ms k).val /! total

    fine-along : Fine (along ms (n - 1))
    unfolding chords_of
    fine-along = and_left (along ms (n - 1)).fine (each n over).fine fine

    fine-over : Fine (each n over)
    unfolding chords_of
    fine-over = and_right (along ms (n - 1)).fine (each n over).fine fine

    chord_is : (k : ℕ) → k < n → get_or (chords_of ms n).val k nan ≡ div binary64 (along ms k).val total
    unfolding chords_of
    chord_is k l = each-get over n k l

    pub chords_length : length (chords_of ms n).val ≡ n
    unfolding chords_of
    chords_length = each-length over n

    under : (k : ℕ) → k < n → T (plain (along ms k).val) × Le (along ms k).val total
    unfolding Under
    under k l = along-top (n - 1) fine-along k (omega arith)

    is_last : n - 1 < n
    is_last = omega arith

    total_plain : T (plain total)
    total_plain = (under (n - 1) is_last).0

    total_not_zero : eq total (zer false) ≡ false
    total_not_zero = div-den binary64 (along ms 0).val total (each_all over n fine-over 0 some) (plain-fin total total_plain)

    along_first : (along ms 0).val ≡ zer false
    unfolding along of_bits
    along_first = refl

    chord_first : get_or (chords_of ms n).val 0 nan ≡ zer false
    chord_first = chord_is 0 some ∙ ap (λ (v : Float). div binary64 v total) along_first ∙ zero-over binary64 total total_plain total_not_zero

    chord_last : get_or (chords_of ms n).val (n - 1) nan ≡ one
    chord_last = chord_is (n - 1) is_last ∙ div_self binary64 total (plain-fin total total_plain) total_not_zero

    chord_unit : (k : ℕ) → k < n → InUnit (get_or (chords_of ms n).val k nan)
    chord_unit k l = let u = under k l in subst InUnit (sym (chord_is k l)) (div-unit binary64 (along ms k).val total u.0 total_plain total_not_zero u.1)

    pub chords_params : Params (chords_of ms n).val
    chords_params = record {
      some = subst (λ (z : ℕ). 0 < z) (sym chords_length) some;
      unit = λ k l. chord_unit k (subst (λ (z : ℕ). k < z) chords_length l);
      first = (false, chord_first);
      last = ap (λ (z : ℕ). get_or (chords_of ms n).val (z - 1) nan) chords_length ∙ chord_last;
    }
