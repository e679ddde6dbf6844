-- Through every round of a part the end marks keep the parameters 0 and 1 and are off by nothing. Assumes nothing.
use mathlib.Core.Path.{◌≡◌, refl, sym, ap, ◌∙◌, subst}
use mathlib.Core.Bool.{Bool, true, false, ◌||◌, cond}
use mathlib.Core.List.{List}
use Prim.Native.Nat.{ℕ, zero, suc, ◌-◌, ◌≤◌}
use native.Mathlib.Omega.{arith}
use lib.ListN.{length, get_or}
use lib.Ieee.{Float, nan, binary64, lt, le, div}
use Rattle.float.specs.Number.{finite}
use Rattle.float.specs.Calc.{Calc, give}
use Rattle.float.proofs.Truth.{and_left, and_right}
use Rattle.float.proofs.Answers.{Fine}
use Rattle.plane.specs.declared.Point.{Point}
use Rattle.plane.specs.declared.Curve.{Curve}
use Rattle.marks.specs.Marks.{count, mark_at}
use Rattle.stages.specs.Chords.{chords_of}
use Rattle.stages.specs.Newton.{reparam}
use Rattle.stages.specs.Worst.{max_error}
use Rattle.squares.specs.Squares.{generate_of}
use Rattle.squares.proofs.Controls.{GoodCurve}
use Rattle.squares.proofs.Least.{generate_ends, generate_good}
use Rattle.part.specs.Trial.{Trial, attempt, enough, improve, tried}
use Rattle.numbers.specs.Words.{one}
use Rattle.ends.specs.Ends.{Params, FitsP, EndsAt}
use Rattle.ends.specs.Rounds.{begun, onward, Round, first, next, EndInRound, EndsStay, RoundsKeepEnds}
use Rattle.ends.proofs.Chords.{chords_length, chords_params}
use Rattle.ends.proofs.Rounds.{reparam-length, reparam_keeps}
use Rattle.ends.proofs.Basis.{error_start, error_end}
use Rattle.ends.proofs.Worst.{off_fin}
use Rattle.ends.proofs.Usable.{marked}

-- ---- a trial of n marks whose run was fine
pub record Kept (ms : List Float) (n : ℕ) (a : Trial) : Type 0 where
  pub params : Params a.params
  pub many : length a.params ≡ n
  pub ends : EndsAt ms n a.curve
  pub good : GoodCurve a.curve
  pub fine : Fine (max_error ms a.curve a.params)
  pub far : a.far ≡ (max_error ms a.curve a.params).val

module _ (ms : List Float) (n : ℕ) (st et : Point) (fits_first : FitsP (mark_at ms 0)) (fits_last : FitsP (mark_at ms (n - 1))) where
  generated : (ts : List Float) → length ts ≡ n → EndsAt ms n (generate_of ms ts st et).val
  generated ts l =
      let g = generate_ends ms ts st et in
      record { first = sym g.0; last = sym (g.1 ∙ ap (λ (k : ℕ). mark_at ms (k - 1)) l); fits_first = fits_first; fits_last = fits_last }

  -- one round
  attempt-kept : (c : Curve) (ts : List Float) → EndsAt ms n c → Params ts → length ts ≡ n → Fine (attempt ms st et c ts) → Kept ms n (attempt ms st et c ts).val
  unfolding attempt
  attempt-kept c ts e p l h =
      let us = (reparam ms c ts).val in
      let d = (generate_of ms us st et).val in
      let m : length us ≡ n = reparam-length ms c ts ∙ l in
      let g = and_right (reparam ms c ts).fine _ h in
      let w = and_right (generate_of ms us st et).fine _ g in
      record {
        params = reparam_keeps ms c ts (subst (λ (k : ℕ). EndsAt ms k c) (sym l) e) (and_left (reparam ms c ts).fine _ h) p;
        many = m;
        ends = generated us m;
        good = generate_good ms us st et (and_left (generate_of ms us st et).fine _ g);
        fine = and_left (max_error ms d us).fine true w;
        far = refl;
      }

-- ---- every round
module _ (ms : List Float) (st et : Point) (two : 2 ≤ count ms) (fits_first : FitsP (mark_at ms 0)) (fits_last : FitsP (mark_at ms (count ms - 1))) where
  pub round-kept : {a : Trial} → Round ms st et a → Kept ms (count ms) a
  round-kept (first f h) =
      let n = count ms in
      let ts = (chords_of ms n).val in
      let l = chords_length ms n (omega arith) f in
      attempt-kept ms n st et fits_first fits_last (generate_of ms ts st et).val ts (generated ms n st et fits_first fits_last ts l) (chords_params ms n (omega arith) f) l h
  round-kept (next {a} r h) =
      let k = round-kept r in
      attempt-kept ms (count ms) st et fits_first fits_last a.curve a.params k.ends k.params k.many h

-- ---- the end marks
module _ (ms : List Float) (two : 2 ≤ count ms) (a : Trial) (k : Kept ms (count ms) a) where
  abbrev many : length a.params ≡ count ms
  many = k.many

  pub kept_stays : EndsStay ms a
  kept_stays =
      let last : get_or a.params (count ms - 1) nan ≡ one = subst (λ (n : ℕ). get_or a.params (n - 1) nan ≡ one) many k.params.last in
      record {
        first = k.params.first;
        last = last;
        first_off = error_start (mark_at ms 0) a.curve (get_or a.params 0 nan) k.ends.fits_first (off_fin ms a.curve a.params 0 (omega (arith, many)) k.fine) k.ends.first k.params.first;
        last_off = error_end (mark_at ms (count ms - 1)) a.curve (get_or a.params (count ms - 1) nan) k.ends.fits_last (off_fin ms a.curve a.params (count ms - 1) (omega (arith, many)) k.fine) k.ends.last last;
      }

pub rounds_keep_ends : RoundsKeepEnds
rounds_keep_ends ms st et a two near r = kept_stays ms two a (round-kept ms st et two (marked ms near 0 (omega arith)).0 (marked ms near (count ms - 1) (omega arith)).0 r)

-- ---- what a part's rounds come to is a round's
module _ (ms : List Float) (st et : Point) (tol : Float) where
  improve-round : (k : ℕ) (a : Trial) → Round ms st et a → Fine (improve k ms st et tol a) → Round ms st et (improve k ms st et tol a).val
  unfolding improve
  improve-round zero a r h = r
  improve-round (suc k) a r h =
      let t = onward ms st et a in
      let q = div binary64 t.val.far.err a.far.err in
      let s = next r (and_left t.fine _ h) in
      go (lt enough q || le t.val.far.err tol) t.val s (improve-round k t.val s) (and_right (finite q) _ (and_right t.fine _ h))
    where
      go : (b : Bool) (t : Trial) → Round ms st et t → (Fine (improve k ms st et tol t) → Round ms st et (improve k ms st et tol t).val) → Fine (cond {A = Calc Trial} b (give t) (improve k ms st et tol t))
          → Round ms st et (cond {A = Calc Trial} b (give t) (improve k ms st et tol t)).val
      go true t s R h = s
      go false t s R h = R h

  ends_in_round : Fine (tried (count ms) ms st et tol) → Round ms st et (tried (count ms) ms st et tol).val
  unfolding tried
  ends_in_round h =
      let c = generate_of ms (chords_of ms (count ms)).val st et in
      let t = begun ms st et in
      let g = and_right c.fine _ (and_right (chords_of ms (count ms)).fine _ h) in
      go (lt tol t.val.far.err) t.val (first (and_left (chords_of ms (count ms)).fine _ h) (and_left t.fine _ g)) (and_right t.fine _ g)
    where
      go : (b : Bool) (t : Trial) → Round ms st et t → Fine (cond {A = Calc Trial} b (improve 7 ms st et tol t) (give t)) → Round ms st et (cond {A = Calc Trial} b (improve 7 ms st et tol t) (give t)).val
      go true t s h = improve-round 7 t s h
      go false t s h = s

pub end_in_round : EndInRound
end_in_round = ends_in_round
