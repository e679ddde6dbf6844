-- From the sums to a curve: each run was fine exactly where the numbers that the code tests are finite. Assumes nothing.
use mathlib.Core.Path.{◌≡◌, refl, sym, ap, ◌∙◌}
use mathlib.Core.Bool.{Bool, true, false, ◌&&◌, ◌||◌, cond}
use lib.Ieee.{Float, binary64, lt, mul, div}
use Rattle.float.specs.Number.{finite, f0, f3, abs}
use Rattle.float.specs.Calc.{Calc, ◌>>=◌, ◌/!◌}
use Rattle.float.specs.Answer.{Answer, ok, refused, unless, outcome}
use Rattle.float.proofs.Truth.{and_left, and_right, and-true, and-false, and_implied, both, same, is_so}
use Rattle.float.proofs.Strict.{Fin, sub-finite, mul-finite}
use Rattle.float.proofs.Answers.{Fine, outcome_ok, outcome_no}
use Rattle.plane.specs.Plane.{plus, distance_of}
use Rattle.plane.specs.Range.{point_finite}
use Rattle.plane.specs.declared.Point.{Point}
use Rattle.plane.specs.declared.Curve.{Curve}
use Rattle.plane.proofs.Fine.{Good, plus-fine, times-fine, good_point, point_good, distance_fine}
use Rattle.squares.specs.Solve.{f1e_4, f1e_6, determinants_of, quotients_of, alphas_of, curve_of, place_of}
use Rattle.squares.specs.declared.sums.Sums.{Sums}
use Rattle.squares.specs.declared.solve.Determinants.{Determinants}
use Rattle.squares.specs.declared.solve.Alphas.{Alphas}

-- ---- the determinants
abbrev determinants_finite : Determinants → Bool
determinants_finite d = finite d.det_c0_c1 && (finite d.det_c0_x && finite d.det_x_c1)

determinants_fine : (s : Sums) → let d = (determinants_of s).val in Fin d.det_c0_c1 → Fin d.det_c0_x → Fin d.det_x_c1 → Fine (determinants_of s)
unfolding determinants_of
determinants_fine s a b c =
    let x = sub-finite binary64 _ _ a in
    let y = sub-finite binary64 _ _ b in
    let z = sub-finite binary64 _ _ c in
    cc

determinants_good : (s : Sums) → Fine (determinants_of s) → let d = (determinants_of s).val in Fin d.det_c0_c1 × Fin d.det_c0_x × Fin d.det_x_c1
unfolding determinants_of
determinants_good s h = (
  is_so (determinants_of s).fine (finite (determinants_of s).val.det_c0_c1) h (λ e. simp (e, and-false)),
  is_so (determinants_of s).fine (finite (determinants_of s).val.det_c0_x) h (λ e. simp (e, and-false)),
  is_so (determinants_of s).fine (finite (determinants_of s).val.det_x_c1) h (λ e. simp (e, and-false)),
)

determinants_same : (s : Sums) → (determinants_of s).fine ≡ determinants_finite (determinants_of s).val
determinants_same s =
    let d = (determinants_of s).val in
    same _ _
    (λ h. let g = determinants_good s h in both _ _ g.0 (both _ _ g.1 g.2))
    (λ h. let k = and_right (finite d.det_c0_c1) _ h in determinants_fine s (and_left _ _ h) (and_left _ _ k) (and_right (finite d.det_c0_x) _ k))

-- ---- the alphas, by what the code tests
quotients_same : (d : Determinants) → let a = quotients_of d in a.fine ≡ finite a.val.alpha_l && finite a.val.alpha_r
unfolding quotients_of
quotients_same d = ap (λ (b : Bool). finite (quotients_of d).val.alpha_l && b) (and-true _)

abbrev Zeros : Alphas
Zeros = record { alpha_l = f0; alpha_r = f0 }

module _ (s : Sums) (d : Determinants) (is : d ≡ (determinants_of s).val) where
  pub alphas_off : determinants_finite d ≡ false → refused 6 ≡ outcome (alphas_of s)
  unfolding alphas_of outcome
  alphas_off h = simp (determinants_same s, sym is, h)

  module _ (fine : determinants_finite d ≡ true) where
    pub alphas_zero : lt (abs d.det_c0_c1) f1e_4 ≡ true → ok Zeros ≡ outcome (alphas_of s)
    unfolding alphas_of outcome
    alphas_zero h = simp (determinants_same s, sym is, fine, h)

    module _ (h : lt (abs d.det_c0_c1) f1e_4 ≡ false) (a : Alphas) (by : a ≡ (quotients_of d).val) where
      pub alphas_on : finite a.alpha_l && finite a.alpha_r ≡ true → ok a ≡ outcome (alphas_of s)
      unfolding alphas_of outcome
      alphas_on g = simp (determinants_same s, sym is, fine, h, quotients_same d, sym by, g)

      pub alphas_lost : finite a.alpha_l && finite a.alpha_r ≡ false → refused 6 ≡ outcome (alphas_of s)
      unfolding alphas_of outcome
      alphas_lost g = simp (determinants_same s, sym is, fine, h, quotients_same d, sym by, g)

-- ---- the curve
module _ (first last st et : Point) (l r : Float) where
  curve-fine : Good (curve_of first last st et l r).val.cp1 → Good (curve_of first last st et l r).val.cp2 → Fine (curve_of first last st et l r)
  unfolding curve_of
  curve-fine g h =
      let a = plus-fine _ _ g in
      let b = plus-fine _ _ h in
      let s = times-fine _ _ a.2 in
      let t = times-fine _ _ b.2 in
      cc

  curve_good : Fine (curve_of first last st et l r) → Good (curve_of first last st et l r).val.cp1 × Good (curve_of first last st et l r).val.cp2
  unfolding curve_of plus
  curve_good h = (
    (is_so (curve_of first last st et l r).fine (finite (curve_of first last st et l r).val.cp1.x) h (λ e. simp (e, and-false)), is_so (curve_of first last st et l r).fine (finite (curve_of first last st et l r).val.cp1.y) h (λ e. simp (e, and-false))),
    (is_so (curve_of first last st et l r).fine (finite (curve_of first last st et l r).val.cp2.x) h (λ e. simp (e, and-false)), is_so (curve_of first last st et l r).fine (finite (curve_of first last st et l r).val.cp2.y) h (λ e. simp (e, and-false))),
  )

  -- the first control tells of the number that it stands out by
  curve-out : Fine (curve_of first last st et l r) → Fin l
  unfolding curve_of
  curve-out h = (times-fine st l (plus-fine first _ (curve_good h).0).2).2

  curve_same : (curve_of first last st et l r).fine ≡ point_finite (curve_of first last st et l r).val.cp1 && point_finite (curve_of first last st et l r).val.cp2
  curve_same =
      let c = (curve_of first last st et l r).val in
      same _ _
      (λ h. both _ _ (good_point c.cp1 (curve_good h).0) (good_point c.cp2 (curve_good h).1))
      (λ h. curve-fine (point_good c.cp1 (and_left _ _ h)) (point_good c.cp2 (and_right (point_finite c.cp1) _ h)))

  -- what the code makes of the two controls
  pub curve_made : (c : Curve) → c ≡ (curve_of first last st et l r).val → point_finite c.cp1 && point_finite c.cp2 ≡ true → ok c ≡ outcome (curve_of first last st et l r)
  curve_made c e h = ap ok e ∙ sym (outcome_ok (curve_of first last st et l r) (curve_same ∙ rw e at h))

  pub curve_lost : (c : Curve) → c ≡ (curve_of first last st et l r).val → point_finite c.cp1 && point_finite c.cp2 ≡ false → refused 6 ≡ outcome (curve_of first last st et l r)
  curve_lost c e h = sym (outcome_no (curve_of first last st et l r) (curve_same ∙ rw e at h))

-- ---- the controls, by what the code tests
module _ (first last st et : Point) (a : Alphas) (seg : Float) (is : seg ≡ (distance_of first last).val) where
  abbrev E : Float
  E = mul binary64 f1e_6 seg

  abbrev D : Float
  D = div binary64 seg f3

  pub place_off : finite E ≡ false → refused 6 ≡ outcome (place_of first last st et a)
  unfolding place_of outcome
  place_off h = simp (sym is, h, and-false)

  module _ (near : Fin E) where
    measured : Fine (distance_of first last)
    measured = distance_fine first last (rw is at (mul-finite binary64 f1e_6 seg near).1)

    -- either way the code answers as the curve does
    module _ {r : Answer Curve} where
      pub place_third : lt a.alpha_l E || lt a.alpha_r E ≡ true → r ≡ outcome (curve_of first last st et D D) → r ≡ outcome (place_of first last st et a)
      unfolding place_of outcome
      place_third h k =
          simp (measured, sym is, near, h)
          (k ∙ ap (λ (b : Bool). unless 6 b (ok (curve_of first last st et D D).val)) (sym (and_implied (finite D) _ (curve-out first last st et D D))))

      pub place_alphas : lt a.alpha_l E || lt a.alpha_r E ≡ false → r ≡ outcome (curve_of first last st et a.alpha_l a.alpha_r) → r ≡ outcome (place_of first last st et a)
      unfolding place_of outcome
      place_alphas h k = simp (measured, sym is, near, h) k

-- ---- the curve goes from the first point to the last, and is finite where the run was fine
abbrev pub GoodCurve : Curve → Type 0
GoodCurve c = Good c.start × Good c.cp1 × Good c.cp2 × Good c.end

module _ (first last st et : Point) where
  curve-ends : (l r : Float) → let c = (curve_of first last st et l r).val in (c.start ≡ first) × (c.end ≡ last)
  unfolding curve_of
  curve-ends l r = (refl, refl)

  curve_all : (l r : Float) → Fine (curve_of first last st et l r) → GoodCurve (curve_of first last st et l r).val
  unfolding curve_of
  curve_all l r h =
      let g = curve_good first last st et l r h in
      ((plus-fine first _ g.0).1, g.0, g.1, (plus-fine last _ g.1).1)

  module _ (a : Alphas) where
    abbrev Third : Calc Curve
    Third = do
      dist ← (distance_of first last).val /! f3
      curve_of first last st et dist dist

    abbrev Out : Calc Curve
    Out = curve_of first last st et a.alpha_l a.alpha_r

    abbrev Near : Bool
    Near = let e = mul binary64 f1e_6 (distance_of first last).val in lt a.alpha_l e || lt a.alpha_r e

    pub place-ends : let c = (place_of first last st et a).val in (c.start ≡ first) × (c.end ≡ last)
    unfolding place_of
    place-ends = go Near
      where
        go : (b : Bool) → let c = (cond b Third Out).val in (c.start ≡ first) × (c.end ≡ last)
        go true = curve-ends _ _
        go false = curve-ends _ _

    pub place_good : Fine (place_of first last st et a) → GoodCurve (place_of first last st et a).val
    unfolding place_of
    place_good h = go Near (and_right (finite (mul binary64 f1e_6 (distance_of first last).val)) _ (and_right (distance_of first last).fine _ h))
      where
        go : (b : Bool) → Fine (cond b Third Out) → GoodCurve (cond b Third Out).val
        go true h = curve_all _ _ (and_right (finite (div binary64 (distance_of first last).val f3)) _ h)
        go false h = curve_all _ _ h
