-- The candidates one by one: what is left to choose from stays the same. Assumes nothing.
use mathlib.Core.Path.{◌≡◌, refl, sym, ap, ◌∙◌, subst}
use mathlib.Core.Bool.{Bool, true, false, ◌&&◌, cond}
use mathlib.Core.List.{List, [], ◌∷◌, ◌++◌}
use Prim.Native.Nat.{ℕ, suc, ◌+◌, ◌≤◌, ◌<◌}
use native.Mathlib.Numerals.{add-one}
use lib.Ieee.{Float, nan, le}
use lib.ListN.{length, drop, get_or, drop_of_length-le}
use lib.Seq.{drop-cons}
use Rattle.float.specs.Number.{finite, f0, f1}
use Rattle.float.specs.Calc.{Calc, ◌>>=◌}
use Rattle.float.proofs.Truth.{and_assoc, and-true, and-false, same, is_so}
use Rattle.float.proofs.Strict.{Fin}
use Rattle.float.proofs.Answers.{Fine}
use Rattle.plane.specs.Plane.{dot_of}
use Rattle.plane.specs.declared.Point.{Point}
use Rattle.plane.specs.declared.Curve.{Curve}
use Rattle.plane.proofs.Fine.{minus-fine, dot-fine}
use Rattle.cubic.proofs.Fine.{point-fine}
use Rattle.nearest.specs.Choose.{Nearest, distance_sq, start_of, better_of, closest, inside, within, choose_of}
use Rattle.nearest.specs.Tests.{as_best, run_of, try_of}
use Rattle.nearest.specs.declared.choose.Best.{Best}

-- ---- a distance was fine exactly where it is finite
module _ (c : Curve) (p : Point) (t : Float) where
  distance_on : Fin (distance_sq c p t).val → Fine (distance_sq c p t)
  unfolding distance_sq
  distance_on g =
      let d = dot-fine _ _ g in
      let m = minus-fine _ _ d.1 in
      let q = point-fine c t m.1 in
      cc

  distance_off : finite (distance_sq c p t).val ≡ false → (distance_sq c p t).fine ≡ false
  unfolding distance_sq dot_of
  distance_off e = simp (e, and-false)

  pub distance_same : (distance_sq c p t).fine ≡ finite (distance_sq c p t).val
  distance_same = same _ _ (λ k. is_so (distance_sq c p t).fine (finite (distance_sq c p t).val) k distance_off) distance_on

  -- ---- one candidate more, of distance d
  module _ (d : Float) (is : d ≡ (distance_sq c p t).val) (best : Best) where
    pub wins : le d best.distance_sq ≡ true → record { t = t; distance_sq = d; fine = best.fine && finite d } ≡ try_of c p best t
    unfolding try_of as_best run_of better_of
    wins h = let k : le (distance_sq c p t).val best.distance_sq ≡ true = rw is at h in simp (is, k, distance_same, and-true)

    pub loses : le d best.distance_sq ≡ false → record { t = best.t; distance_sq = best.distance_sq; fine = best.fine && finite d } ≡ try_of c p best t
    unfolding try_of as_best run_of better_of
    loses h = let k : le (distance_sq c p t).val best.distance_sq ≡ false = rw is at h in simp (is, k, distance_same, and-true)

pub starts : (c : Curve) (p : Point) (d : Float) → d ≡ (distance_sq c p f0).val → record { t = f0; distance_sq = d; fine = finite d } ≡ as_best (start_of c p)
unfolding as_best start_of
starts c p d is = simp (is, distance_same, and-true)

-- ---- the loop: of the roots l the first i are done
module _ (c : Curve) (p : Point) where
  abbrev rest : List Float → Nearest → Calc Nearest
  rest ts = closest c p (within ts ++ f1 ∷ [])

  -- what is left to choose from, with the best so far at hand
  abbrev pub Left : Calc Nearest → List Float → Best → Type 0
  Left whole ts best = whole ≡ ◌>>=◌ (run_of best) (rest ts)

  pub at_first : (l : List Float) (best : Best) → best ≡ as_best (start_of c p) → Left (choose_of c p l) l best
  unfolding choose_of as_best run_of
  at_first l best e = ap (λ (b : Best). ◌>>=◌ (run_of b) (rest l)) (sym e)

  module _ (whole : Calc Nearest) (t : Float) (ts : List Float) (best : Best) (left : Left whole (t ∷ ts) best) where
    outside : inside t ≡ false → Left whole ts best
    unfolding within
    outside h = rw h at left

    took : inside t ≡ true → (b : Best) → b ≡ try_of c p best t → Left whole ts b
    unfolding within closest try_of as_best run_of
    took h b e = (rw h at left) ∙ and_then ∙ ap (λ (b : Best). ◌>>=◌ (run_of b) (rest ts)) (sym e)
      where
        m : Calc Nearest
        m = better_of c p t (run_of best).val

        and_then : ◌>>=◌ (run_of best) (λ b. ◌>>=◌ (better_of c p t b) (rest ts)) ≡ ◌>>=◌ (run_of (try_of c p best t)) (rest ts)
        and_then = ap (λ (x : Bool). record { val = (rest ts m.val).val; fine = x }) (sym (and_assoc best.fine m.fine (rest ts m.val).fine))

  last : (whole : Calc Nearest) (best b : Best) → Left whole [] best → b ≡ try_of c p best f1 → b ≡ as_best whole
  unfolding within closest try_of as_best run_of
  last whole best b left e = e ∙ ap as_best (one ∙ sym left)
    where
      m : Calc Nearest
      m = better_of c p f1 (run_of best).val

      one : ◌>>=◌ (run_of best) (better_of c p f1) ≡ ◌>>=◌ (run_of best) (rest [])
      one = ap (λ (x : Bool). record { val = m.val; fine = best.fine && x }) (sym (and-true m.fine))

  module _ (whole : Calc Nearest) (l : List Float) (i : ℕ) (best b : Best) (left : Left whole (drop i l) best) where
    pub steps : i < length l → b ≡ cond (inside (get_or l i nan)) (try_of c p best (get_or l i nan)) best → Left whole (drop (i + 1) l) b
    steps h e = rw add-one (go (inside (get_or l i nan)) refl)
      where
        now : Left whole (get_or l i nan ∷ drop (suc i) l) best
        now = rw (drop-cons l i nan h) at left

        go : (x : Bool) → inside (get_or l i nan) ≡ x → Left whole (drop (suc i) l) b
        go true k = took whole _ _ best now k b (e ∙ ap (λ (x : Bool). cond x (try_of c p best (get_or l i nan)) best) k)
        go false k = subst (Left whole (drop (suc i) l)) (sym (e ∙ ap (λ (x : Bool). cond x (try_of c p best (get_or l i nan)) best) k)) (outside whole _ _ best now k)

    pub settles : length l ≤ i → b ≡ try_of c p best f1 → b ≡ as_best whole
    settles h e = last whole best b (rw (drop_of_length-le l h) at left) e
