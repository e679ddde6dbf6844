-- The worst mark: if the root of the largest squared distance is within a tolerance, so is each mark's; a first mark that is off by nothing is the worst only if every mark is so, and a last one that is off by nothing does not count.
use mathlib.Core.Path.{◌≡◌, refl, sym, ap, ◌∙◌, subst}
use mathlib.Core.Bool.{Bool, true, false, cond}
use mathlib.Core.List.{List}
use Prim.Native.Nat.{ℕ, zero, suc, ◌+◌, ◌-◌, ◌≤◌, ◌<◌}
use native.Mathlib.Omega.{arith}
use native.Mathlib.Numerals.{add-one}
use borrow.Author.Count.{below_none, below_more}
use lib.Dec.{T}
use lib.ListN.{length, get_or}
use lib.Ieee.{Float, nan, binary64, fits, lt, of_bits}
use Rattle.float.specs.Number.{finite, f0}
use Rattle.float.specs.Calc.{Calc}
use Rattle.float.specs.Folds.{upto}
use Rattle.marks.specs.Marks.{mark_at}
use Rattle.plane.specs.declared.Point.{Point}
use Rattle.plane.specs.declared.Curve.{Curve}
use Rattle.float.proofs.Strict.{Fin}
use Rattle.float.proofs.Answers.{Fine}
use Rattle.float.proofs.Folds.{upto_all}
use Rattle.float.proofs.Ranks.{Le}
use Rattle.float.proofs.Truth.{and_left, and_right, is_so}
use Rattle.stages.specs.Worst.{error_of, larger, worst_at, no_worst, worst, max_error}
use Rattle.stages.specs.declared.worst.Worst.{Worst}
use Rattle.stages.proofs.Errors.{error_bad}
use Rattle.root.specs.Root.{sqrt, plain}
use Rattle.faults.specs.Tests.{distance_at}
use Rattle.ends.specs.Ends.{Near, rooted}
use Rattle.numbers.proofs.Zeros.{f0_is}
use Rattle.numbers.proofs.Order.{le_tr, le_self, lt_is_le, not_lt}
use Rattle.numbers.specs.Words.{zer}
use Rattle.numbers.proofs.Plain.{plain-fin, plain_not_below, sqrt-plain, sqrt-le}
use Rattle.ends.proofs.Squares.{dot-plain, dot-fits}

pub root-zero : sqrt binary64 f0 ≡ f0
root-zero = unfold sqrt of_bits in refl

-- ---- a squared distance
pub error_good : (m : Point) (c : Curve) (t : Float) → Fine (error_of m c t) → Fin (error_of m c t).val
error_good m c t h = is_so (error_of m c t).fine (finite (error_of m c t).val) h (error_bad m c t)

pub error_plain : (m : Point) (c : Curve) (t : Float) → Fin (error_of m c t).val → T (plain (error_of m c t).val)
unfolding error_of
error_plain m c t h = dot-plain _ h

pub error_fits : (m : Point) (c : Curve) (t : Float) → T (fits binary64 (error_of m c t).val)
unfolding error_of
error_fits m c t = dot-fits _ _

-- a mark that is off by nothing leaves the worst so far as it is
pub larger_none : (w : Worst) (e : Float) (k : ℕ) → T (plain w.err) → e ≡ zer false → larger w e k ≡ w
unfolding larger
larger_none w e k p z = ap (λ (b : Bool). cond {A = Worst} b (record { err = e; at = k }) w) (ap (lt w.err) z ∙ plain_not_below w.err p)

larger_at : (w : Worst) (e : Float) (k : ℕ) → w.at ≤ k → (larger w e k).at ≤ k
unfolding larger
larger_at w e k h = go (lt w.err e)
  where
    go : (b : Bool) → (cond {A = Worst} b (record { err = e; at = k }) w).at ≤ k
    go true = omega arith
    go false = h

module _ (ms : List Float) (c : Curve) (ts : List Float) where
  -- the squared distance of mark k
  abbrev pub off : ℕ → Float
  off k = (error_of (mark_at ms k) c (get_or ts k nan)).val

  -- the worst of the first n
  abbrev pub up_to : ℕ → Calc Worst
  up_to n = upto n no_worst (worst_at ms c ts)

  pub record Top (n : ℕ) (w : Worst) : Type 0 where
    pub sign : T (plain w.err)
    pub held : T (fits binary64 w.err)
    pub most : (k : ℕ) → k < n → Le (off k) w.err

  top_next : (n : ℕ) (w : Worst) → Top n w → Fin (off n) → (b : Bool) → lt w.err (off n) ≡ b → Top (n + 1) (cond b (record { err = off n; at = n }) w)
  top_next n w t g true e = record {
    sign = error_plain _ c _ g;
    held = error_fits _ c _;
    most = below_more (λ (k : ℕ). Le (off k) (off n)) n (λ k l. le_tr (off k) w.err (off n) (t.most k l) (lt_is_le w.err (off n) e)) (le_self (off n) g);
  }
  top_next n w t g false e = record {
    sign = t.sign;
    held = t.held;
    most = below_more (λ (k : ℕ). Le (off k) w.err) n t.most (not_lt w.err (off n) (plain-fin w.err t.sign) g e);
  }

  pub top : (n : ℕ) → Fine (up_to n) → Top n (up_to n).val
  unfolding upto worst_at larger
  top zero h = record {
    sign = unfold of_bits in tt;
    held = unfold of_bits fits in tt;
    most = below_none (λ (k : ℕ). Le (off k) f0);
  }
  top (suc n) h =
      let w = (up_to n).val in
      let g : Fin (off n) = error_good (mark_at ms n) c (get_or ts n nan) (and_left (error_of (mark_at ms n) c (get_or ts n nan)).fine true (and_right (up_to n).fine _ h)) in
      rw add-one at (top_next n w (top n (and_left (up_to n).fine _ h)) g (lt w.err (off n)) refl)

  each-fin : (n : ℕ) → Fine (up_to n) → (k : ℕ) → k < n → Fin (off k)
  unfolding worst_at
  each-fin n h k l = error_good (mark_at ms k) c (get_or ts k nan) (and_left (error_of (mark_at ms k) c (get_or ts k nan)).fine true (upto_all no_worst (worst_at ms c ts) n h k l))

  -- each mark is near where the worst is
  pub within : (tol : Float) → Fine (max_error ms c ts) → Le (max_error ms c ts).val.err tol → (k : ℕ) → k < length ts → Near tol (mark_at ms k) c (get_or ts k nan)
  unfolding max_error worst distance_at
  within tol h l k b =
      let f : Fine (up_to (length ts)) = and_left (up_to (length ts)).fine _ h in
      let t = top (length ts) f in
      let g : Fin (off k) = each-fin (length ts) f k b in
      let p : T (plain (off k)) = error_plain _ c _ g in (
        plain-fin (sqrt binary64 (off k)) (sqrt-plain (off k) (error_fits _ c _) p),
        le_tr (sqrt binary64 (off k)) (sqrt binary64 (up_to (length ts)).val.err) tol (sqrt-le (off k) (up_to (length ts)).val.err (error_fits _ c _) t.held p (t.most k b)) l,
      )

  -- the distance of the worst is kept with it
  pub max_is : (max_error ms c ts).val ≡ rooted (up_to (length ts)).val
  unfolding max_error worst
  max_is = refl

  -- the worst of the first n is one of them
  pub worst_among : (n : ℕ) → (up_to n).val.at ≤ n - 1
  unfolding upto worst_at
  worst_among zero = omega arith
  worst_among (suc n) =
      let h = worst_among n in
      let l = larger_at (up_to n).val (off n) n (omega arith) in
      omega arith

  -- where the first mark is off by nothing, it is the worst only if every mark is
  pub none_off : off 0 ≡ zer false → (n : ℕ) → (up_to n).val.at ≡ 0 → (up_to n).val.err ≡ f0
  unfolding upto worst_at larger
  none_off z zero e = refl
  none_off z (suc n) e = go (lt (up_to n).val.err (off n)) (none_off z n) e
    where
      go : (b : Bool) → ((up_to n).val.at ≡ 0 → (up_to n).val.err ≡ f0) → (cond {A = Worst} b (record { err = off n; at = n }) (up_to n).val).at ≡ 0 → (cond {A = Worst} b (record { err = off n; at = n }) (up_to n).val).err ≡ f0
      go true R e = ap off e ∙ z ∙ sym f0_is
      go false R e = R e

  -- a last mark that is off by nothing is not the worst
  pub max-less : (n : ℕ) → length ts ≡ suc n → Fine (max_error ms c ts) → off n ≡ zer false → (max_error ms c ts).val ≡ rooted (up_to n).val
  unfolding max_error worst upto worst_at
  max-less n l h z =
      let f : Fine (up_to (length ts)) = and_left (up_to (length ts)).fine _ h in
      let g : Fine (up_to n) = and_left (up_to n).fine _ (subst (λ (k : ℕ). Fine (up_to k)) l f) in
      max_is ∙ ap (λ (k : ℕ). rooted (up_to k).val) l ∙ ap rooted (larger_none (up_to n).val (off n) n (top n g).sign z)

  pub off_fin : (k : ℕ) → k < length ts → Fine (max_error ms c ts) → Fin (off k)
  unfolding max_error worst
  off_fin k l h = each-fin (length ts) (and_left (up_to (length ts)).fine _ h) k l
