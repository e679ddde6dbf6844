-- Lengths along the marks: their sums, and the parameters that they give. Assumes nothing.
use mathlib.Core.Path.{◌≡◌, refl, sym, ap, ◌∙◌, subst}
use mathlib.Core.Bool.{Bool, true, ◌&&◌}
use mathlib.Core.List.{List, [], ◌∷◌, ◌++◌}
use Prim.Native.Nat.{ℕ, zero, suc, ◌+◌, ◌-◌, ◌≤◌, ◌<◌}
use native.Mathlib.Omega.{arith}
use lib.ListN.{length, get_or, set, drop}
use lib.Ieee.{Float, nan, binary64, add, of_bits}
use Rattle.float.specs.Number.{f0, finite}
use Rattle.float.specs.Calc.{Calc, give, ◌/!◌}
use Rattle.float.specs.Folds.{each}
use Rattle.float.proofs.Truth.{and_right, same}
use Rattle.float.proofs.Strict.{Fin, add-finite}
use Rattle.float.proofs.Answers.{Fine}
use Rattle.float.proofs.Folds.{each-length}
use Rattle.root.specs.Root.{sqrt}
use Rattle.plane.specs.Plane.{magnitude_of, distance_of}
use Rattle.plane.proofs.Fine.{distance_fine}
use Rattle.marks.specs.Marks.{mark_at}
use Rattle.stages.specs.Chords.{along, lengths, part_at, parts, square_at, chords_of}
use Rattle.stages.proofs.InPlace.{Done, more, finish, len, each-get, each_same}

-- ---- one mark more
step-suc : (ms : List Float) (j : ℕ) → (along ms (suc j)).val ≡ add binary64 (along ms j).val (sqrt binary64 (square_at ms (suc j)).val)
unfolding along square_at distance_of magnitude_of
step-suc ms j = rw (back j)
  where
    back : (j : ℕ) → suc j - 1 ≡ j
    back j = omega arith

pub along-step : (ms : List Float) (k : ℕ) → 0 < k → (along ms k).val ≡ add binary64 (along ms (k - 1)).val (sqrt binary64 (square_at ms k).val)
along-step ms k h = subst (λ (j : ℕ). (along ms j).val ≡ add binary64 (along ms (k - 1)).val (sqrt binary64 (square_at ms j).val)) (whole k h) (step-suc ms (k - 1))
  where
    whole : (k : ℕ) → 0 < k → suc (k - 1) ≡ k
    whole k h = omega arith

-- ---- the loop: up to mark k - 1 the lengths stand, and their last is the total
abbrev pub length_at : List Float → ℕ → Calc Float
length_at ms k = give (along ms k).val

pub record Summed (ms ts ps : List Float) (total : Float) (k : ℕ) : Type 0 where
  pub some : 0 < k
  pub total_is : total ≡ (along ms (k - 1)).val
  pub done : Done (length_at ms) ts ps true k

pub first : (ms ts : List Float) → 0 < length ts → Summed ms (set ts 0 f0) (set ts 0 f0) f0 1
first ms [] h = absurd (omega arith)
first ms (x ∷ xs) h = record { some = omega arith; total_is = zero_is; done = (omega arith, one_fine, head) }
  where
    zero_is : f0 ≡ (along ms (1 - 1)).val
    zero_is = unfold along in refl

    one_fine : true ≡ (each 1 (length_at ms)).fine
    one_fine = unfold each in refl

    head : set (x ∷ xs) 0 f0 ≡ (each 1 (length_at ms)).val ++ drop 1 (set (x ∷ xs) 0 f0)
    head = unfold each along in refl

module _ (ms ts ps : List Float) (total : Float) (k : ℕ) (s : Summed ms ts ps total k) where
  pub count : length ps ≡ length ts
  count = len (length_at ms) ts ps true k s.done

  pub next : k < length ts → (q r : Float) → q ≡ (square_at ms k).val → r ≡ sqrt binary64 q → Summed ms ts (set ps k (add binary64 total r)) (add binary64 total r) (k + 1)
  next l q r sq rt =
      let is : add binary64 total r ≡ (along ms k).val = ap (λ (x : Float). add binary64 total x) (rt ∙ ap (sqrt binary64) sq) ∙ ap (λ (x : Float). add binary64 x (sqrt binary64 (square_at ms k).val)) s.total_is ∙ sym (along-step ms k s.some) in
      record {
        some = omega arith;
        total_is = is ∙ ap (λ (j : ℕ). (along ms j).val) (one k);
        done = more (length_at ms) ts ps true k s.done l (add binary64 total r) true is refl;
      }
    where
      one : (k : ℕ) → k ≡ k + 1 - 1
      one k = omega arith

  pub summed : length ps ≤ k → (total ≡ (along ms (length ts - 1)).val) × (ps ≡ lengths ms (length ts))
  unfolding lengths
  summed l =
      let all : k ≡ length ts = let h = s.done.0 in omega (arith, count) in
      (s.total_is ∙ ap (λ (j : ℕ). (along ms (j - 1)).val) all, (finish (length_at ms) ts ps true k s.done l).1)

-- ---- a total that is finite tells that every operation was
along-fine : (ms : List Float) (k : ℕ) → Fin (along ms k).val → Fine (along ms k)
unfolding along
along-fine ms zero h = refl
along-fine ms (suc k) h =
    let s = add-finite binary64 _ _ h in
    let a = along-fine ms k s.0 in
    let d = distance_fine _ _ s.1 in
    cc

along_good : (ms : List Float) (k : ℕ) → Fine (along ms k) → Fin (along ms k).val
unfolding along
along_good ms zero h = unfold finite of_bits in refl
along_good ms (suc k) h = and_right (distance_of (mark_at ms k) (mark_at ms (suc k))).fine _ (and_right (along ms k).fine _ h)

along_same : (ms : List Float) (k : ℕ) → (along ms k).fine ≡ finite (along ms k).val
along_same ms k = same _ _ (along_good ms k) (along-fine ms k)

-- ---- the whole
module _ (ms ts : List Float) (n : ℕ) (total : Float) (is : total ≡ (along ms (n - 1)).val) (of : ts ≡ lengths ms n) where
  size : length ts ≡ n
  size = ap length of ∙ (unfold lengths in each-length (length_at ms) n)

  stands : (k : ℕ) → k < n → get_or ts k nan ≡ (along ms k).val
  unfolding lengths
  stands k l = ap (λ (l : List Float). get_or l k nan) of ∙ each-get (length_at ms) n k l

  same_parts : parts ts total ≡ each n (λ k. (along ms k).val /! (along ms (n - 1)).val)
  unfolding parts part_at
  same_parts =
      ap (λ (m : ℕ). each m (part_at ts total)) size
      ∙ each_same (part_at ts total) (λ k. (along ms k).val /! (along ms (n - 1)).val) n
      (λ k l. ap (λ (x : Float). x /! total) (stands k l) ∙ ap (λ (x : Float). (along ms k).val /! x) is)

  pub chords_are : (f : Bool) (us : List Float) → f ≡ (parts ts total).fine → us ≡ (parts ts total).val → (finite total && f ≡ (chords_of ms n).fine) × (us ≡ (chords_of ms n).val)
  unfolding chords_of
  chords_are f us ef eu = (
    ap (λ (b : Bool). b && f) (ap finite is ∙ sym (along_same ms (n - 1))) ∙ ap (λ (b : Bool). (along ms (n - 1)).fine && b) (ef ∙ ap (λ (m : Calc (List Float)). m.fine) same_parts),
    eu ∙ ap (λ (m : Calc (List Float)). m.val) same_parts,
  )
