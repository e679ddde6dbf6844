-- All marks under one curve: a walk over those given, and where mark 0 counts again, one over it. Assumes nothing.
use Prim.Native.Nat.{ℕ, suc, ◌+◌, ◌-◌, ◌*◌, ◌≤◌, ◌<◌}
use native.Mathlib.Omega.{arith}
use mathlib.Core.Path.{◌≡◌, refl, sym, ap, ◌∙◌}
use mathlib.Core.List.{List}
use lib.ListN.{length, take, drop, get_or, length-take, length-drop}
use lib.Seq.{get_or-drop, get_or-take}
use lib.Ieee.{Float, nan}
use Rattle.std.specs.Prelude.{Result, Ok, Err}
use Rattle.plane.specs.declared.Point.{Point}
use Rattle.plane.specs.declared.Curve.{Curve}
use Rattle.marks.specs.Marks.{count, mark_at}
use Rattle.marks.proofs.Parts.{mark-drop, mark-take}
use Rattle.ring.specs.Ring.{whole, Even}
use Rattle.ring.specs.declared.Outline.TheVariants.{Closed}
use Rattle.ring.proofs.Whole.{given, comes_back}
use Rattle.stages.specs.Worst.{error_of, larger}
use Rattle.stages.specs.declared.worst.Worst.{Worst}
use Rattle.faults.specs.Tests.{square_at, farther, unmeasured}
use Rattle.faults.proofs.Farther.{farther_same}
use Rattle.checker.specs.declared.Fault.{Fault}
use Rattle.checker.specs.Check.{Verdict, passed, fault, in_turn}
use Rattle.checker.specs.Inner.{under_checked, walked_by, walked}
use Rattle.checker.proofs.Turns.{turn_last, turn_halted, turn_one, turn_same}

pub part_length : {A : Type 0} (a e : ℕ) (l : List A) → e ≤ length l → {t : List A} → t ≡ take (e - a) (drop a l) → length t ≡ e - a
part_length a e l h i = ap length i ∙ simp (length-take, length-drop) (omega arith)

-- ---- what a walk gave, by its cases

pub far_is : (v : Verdict) (w : Worst) {x : Worst} → walked_by v w ≡ Ok x → (v ≡ passed) × (w ≡ x)
far_is passed w h = (refl, cc)
far_is (fault f) w h = let z : ◌≡◌ {A = ℕ} 0 1 = cc in absurd (omega arith)

pub stop_is : (v : Verdict) (w : Worst) {f : Fault} → walked_by v w ≡ Err f → v ≡ fault f
stop_is passed w h = let z : ◌≡◌ {A = ℕ} 0 1 = cc in absurd (omega arith)
stop_is (fault f) w h = cc

module _ (steps : ℕ → Verdict) (w : Worst) (squares : ℕ → Float) (from m : ℕ) where
  -- one mark more, after a fault and after none
  walked_halted : {f : Fault} → walked m steps w squares from ≡ Err f → Err f ≡ walked (suc m) steps w squares from
  walked_halted {f} h = rw (turn_halted steps m f (stop_is (in_turn m steps) (farther w squares from m) h))

  walked_next : {x : Worst} → walked m steps w squares from ≡ Ok x → walked (suc m) steps w squares from ≡ walked_by (steps m) (larger x (squares m) (from + m))
  unfolding farther
  walked_next h =
      let f = far_is (in_turn m steps) (farther w squares from m) h in
      rw (turn_last steps m f.0, f.1)

  -- the same tests and squares
  walked_same : (steps' : ℕ → Verdict) (squares' : ℕ → Float) → ((i : ℕ) → i < m → (steps i ≡ steps' i) × (squares i ≡ squares' i)) → walked m steps w squares from ≡ walked m steps' w squares' from
  walked_same steps' squares' h =
      rw (turn_same steps steps' m (λ i l. (h i l).0), farther_same w squares squares' from m (λ i l. (h i l).1))

walked_one : (steps : ℕ → Verdict) (w : Worst) (squares : ℕ → Float) (from : ℕ) → walked 1 steps w squares from ≡ walked_by (steps 0) (larger w (squares 0) (from + 0))
unfolding farther
walked_one steps w squares from = rw (turn_one steps)

module _ (tol : Float) (n j first : ℕ) (c : Curve) (ms ps : List Float) where
  -- C and D at mark i from the first on
  abbrev pub walk : ℕ → Verdict
  walk = under_checked tol n j first first c (drop (2 * first) (whole Closed ms)) (drop first ps)

  -- and its square
  abbrev pub square : ℕ → Float
  square = square_at (drop (2 * first) (whole Closed ms)) c (drop first ps)

  -- the walk over the first m marks
  abbrev pub over : ℕ → Result Worst Fault
  over m = walked m walk (unmeasured first) square first

  pub same_square : (us ts vs qs : List Float) (i m : ℕ) → mark_at us i ≡ mark_at vs m → get_or ts i nan ≡ get_or qs m nan → square_at us c ts i ≡ square_at vs c qs m
  unfolding square_at
  same_square us ts vs qs i m u t = ap (λ (p : Point). (error_of p c (get_or ts i nan)).val) u ∙ ap (λ (x : Float). (error_of (mark_at vs m) c x).val) t

  -- a mark of a part that begins at mark `from`
  step : (from : ℕ) (us ts : List Float) (i m : ℕ) → from + i ≡ first + m → mark_at us i ≡ mark_at (whole Closed ms) (from + i) → get_or ts i nan ≡ get_or ps (from + i) nan
      → (under_checked tol n j first from c us ts i ≡ walk m) × (square_at us c ts i ≡ square m)
  unfolding under_checked
  step from us ts i m e u t =
      let p : mark_at us i ≡ mark_at (drop (2 * first) (whole Closed ms)) m = u ∙ ap (mark_at (whole Closed ms)) e ∙ sym (mark-drop (whole Closed ms) first m) in
      let x : get_or ts i nan ≡ get_or (drop first ps) m nan = t ∙ rw e (sym (get_or-drop first ps m nan)) in
      (rw (p, x, e), same_square us ts (drop (2 * first) (whole Closed ms)) (drop first ps) i m p x)

  param : (from stop : ℕ) (ts : List Float) → ts ≡ take (stop - from) (drop from ps) → (i : ℕ) → i < stop - from → get_or ts i nan ≡ get_or ps (from + i) nan
  param from stop ts is-ts i l = rw is-ts (get_or-take (stop - from) (drop from ps) i nan l ∙ get_or-drop from ps i nan)

  -- marks that were given
  pub walk-given : (stop : ℕ) (us ts : List Float) → us ≡ take (2 * stop - 2 * first) (drop (2 * first) ms) → ts ≡ take (stop - first) (drop first ps) → stop ≤ count ms → stop ≤ length ps
      → {a : Result Worst Fault} → a ≡ walked (length ts) (under_checked tol n j first first c us ts) (unmeasured first) (square_at us c ts) first → a ≡ over (stop - first)
  walk-given stop us ts is_us is-ts l p e =
      let s = part_length first stop ps p is-ts in
      e ∙ walked_same (under_checked tol n j first first c us ts) (unmeasured first) (square_at us c ts) first (length ts) walk square (λ i m. one i (rw s at m)) ∙ ap over s
    where
      one : (i : ℕ) → i < stop - first → (under_checked tol n j first first c us ts i ≡ walk i) × (square_at us c ts i ≡ square i)
      one i m =
          let u : mark_at us i ≡ mark_at ms (first + i) = rw is_us (mark-take (drop (2 * first) ms) (2 * stop - 2 * first) i (omega arith) ∙ mark-drop ms first i) in
          step first us ts i i refl (u ∙ sym (given Closed ms (first + i) (omega arith))) (param first stop ts is-ts i m)

  -- behind them mark 0
  module _ (stop : ℕ) (o : first ≤ count ms) (past : stop ≡ count ms + 1) where
    one_more : over (stop - first) ≡ over (suc (count ms - first))
    one_more = let e : stop - first ≡ suc (count ms - first) = omega arith in ap over e

    pub walk_halted : {r : Result Worst Fault} → r ≡ over (count ms - first) → {f : Fault} → r ≡ Err f → Err f ≡ over (stop - first)
    walk_halted e h = walked_halted walk (unmeasured first) square first (count ms - first) (sym e ∙ h) ∙ sym one_more

    pub walk-again : Even ms → (last : ℕ) (us ts : List Float) → last ≡ count ms → us ≡ take (2 * (stop - count ms) - 2 * (last - count ms)) (drop (2 * (last - count ms)) ms)
        → ts ≡ take (stop - last) (drop last ps) → stop ≤ length ps → {x : Worst} → over (count ms - first) ≡ Ok x
        → {a : Result Worst Fault} → a ≡ walked (length ts) (under_checked tol n j first last c us ts) x (square_at us c ts) last → a ≡ over (stop - first)
    walk-again even last us ts end is_us is-ts p {x} h e =
        let s = part_length last stop ps p is-ts in
        let one : length ts ≡ 1 = omega arith in
        let z : last - count ms + 0 ≡ 0 = omega arith in
        let u : mark_at us 0 ≡ mark_at ms 0 = rw is_us (mark-take (drop (2 * (last - count ms)) ms) (2 * (stop - count ms) - 2 * (last - count ms)) 0 (omega arith) ∙ mark-drop ms (last - count ms) 0 ∙ rw z) in
        let at : last + 0 ≡ first + (count ms - first) = omega arith in
        let q = step last us ts 0 (count ms - first) at (u ∙ sym (comes_back ms (last + 0) even (omega arith))) (param last stop ts is-ts 0 (omega arith)) in
        let r : walked 1 (under_checked tol n j first last c us ts) x (square_at us c ts) last ≡ walked_by (walk (count ms - first)) (larger x (square (count ms - first)) (first + (count ms - first)))
        = walked_one (under_checked tol n j first last c us ts) x (square_at us c ts) last ∙ rw (q.0, q.1, at) in
        (rw one at e) ∙ r ∙ sym (one_more ∙ walked_next walk (unmeasured first) square first (count ms - first) h)
