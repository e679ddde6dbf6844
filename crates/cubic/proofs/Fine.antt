-- Each run over a single curve was fine exactly where its ends are finite. Assumes nothing.
use mathlib.Core.Path.{◌≡◌, refl}
use mathlib.Core.Logic.{◌⊎◌, inl, inr}
use mathlib.Core.Bool.{false}
use lib.Ieee.{Float, binary64}
use Rattle.float.specs.Number.{finite}
use Rattle.float.specs.Calc.{Calc}
use Rattle.float.proofs.Truth.{and_left, and_right, and-false, both, same, is_so}
use Rattle.float.proofs.Strict.{Fin, add-finite, sub-finite}
use Rattle.float.proofs.Answers.{Fine}
use Rattle.plane.specs.Plane.{plus}
use Rattle.plane.specs.declared.Point.{Point}
use Rattle.plane.specs.declared.Curve.{Curve}
use Rattle.plane.proofs.Fine.{Good, plus-fine, times-fine, good_point, point_good}
use Rattle.cubic.specs.Basis.{basis, point_at, casteljau2, casteljau3, casteljau4, coefficients_of}
use Rattle.cubic.specs.Subdivide.{subdivide4_of}
use Rattle.plane.specs.Range.{point_finite}
use Rattle.cubic.specs.Tests.{coefficients_finite, halves_finite}

-- ---- from the end back
pub casteljau2-fine : (t : Float) (w1 w2 : Point) → Good (casteljau2 t w1 w2).val → Fine (casteljau2 t w1 w2) × Good w1 × Good w2
unfolding casteljau2
casteljau2-fine t w1 w2 g =
    let r = plus-fine _ _ g in
    let a = times-fine w1 _ r.1 in
    let b = times-fine w2 t r.2 in
    (cc, a.1, b.1)

pub casteljau3-fine : (t : Float) (w1 w2 w3 : Point) → Good (casteljau3 t w1 w2 w3).val → Fine (casteljau3 t w1 w2 w3) × Good w1 × Good w2 × Good w3
unfolding casteljau3
casteljau3-fine t w1 w2 w3 g =
    let r = casteljau2-fine t _ _ g in
    let a = casteljau2-fine t w1 w2 r.1 in
    let b = casteljau2-fine t w2 w3 r.2 in
    (cc, a.1, a.2, b.2)

pub casteljau4-fine : (t : Float) (w1 w2 w3 w4 : Point) → Good (casteljau4 t w1 w2 w3 w4).val → Fine (casteljau4 t w1 w2 w3 w4)
unfolding casteljau4
casteljau4-fine t w1 w2 w3 w4 g =
    let r = casteljau3-fine t _ _ _ g in
    let a = casteljau2-fine t w1 w2 r.1 in
    let b = casteljau2-fine t w2 w3 r.2 in
    let d = casteljau2-fine t w3 w4 r.3 in
    cc

pub basis-fine : (t : Float) (w1 w2 w3 w4 : Point) → Good (basis t w1 w2 w3 w4).val → Fine (basis t w1 w2 w3 w4)
unfolding basis
basis-fine t w1 w2 w3 w4 g =
    let s3 = plus-fine _ _ g in
    let s2 = plus-fine _ _ s3.1 in
    let s1 = plus-fine _ _ s2.1 in
    let a = times-fine _ _ s1.1 in
    let b3 = times-fine _ _ s1.2 in
    let b2 = times-fine _ _ b3.1 in
    let b1 = times-fine _ _ b2.1 in
    let c3 = times-fine _ _ s2.2 in
    let c2 = times-fine _ _ c3.1 in
    let c1 = times-fine _ _ c2.1 in
    let d = times-fine _ _ s3.2 in
    cc

pub point-fine : (c : Curve) (t : Float) → Good (point_at c t).val → Fine (point_at c t)
unfolding point_at
point-fine c t g = basis-fine t _ _ _ _ g

subdivide4-fine : (t : Float) (w1 w2 w3 w4 : Point) → Good (subdivide4_of t w1 w2 w3 w4).val.left.end → Fine (subdivide4_of t w1 w2 w3 w4)
unfolding subdivide4_of
subdivide4-fine t w1 w2 w3 w4 g =
    let p = casteljau2-fine t _ _ g in
    let b = casteljau2-fine t _ _ p.1 in
    let e = casteljau2-fine t _ _ p.2 in
    let w = casteljau2-fine t _ _ b.1 in
    let x = casteljau2-fine t _ _ b.2 in
    let y = casteljau2-fine t _ _ e.2 in
    cc

-- ---- and on to it
casteljau2_good : (t : Float) (w1 w2 : Point) → Fine (casteljau2 t w1 w2) → Good (casteljau2 t w1 w2).val
unfolding casteljau2 plus
casteljau2_good t w1 w2 h = (is_so (casteljau2 t w1 w2).fine (finite (casteljau2 t w1 w2).val.x) h (λ e. simp (e, and-false)), is_so (casteljau2 t w1 w2).fine (finite (casteljau2 t w1 w2).val.y) h (λ e. simp (e, and-false)))

casteljau3_good : (t : Float) (w1 w2 w3 : Point) → Fine (casteljau3 t w1 w2 w3) → Good (casteljau3 t w1 w2 w3).val
unfolding casteljau3
casteljau3_good t w1 w2 w3 h = casteljau2_good t (casteljau2 t w1 w2).val (casteljau2 t w2 w3).val (and_right (casteljau2 t w2 w3).fine _ (and_right (casteljau2 t w1 w2).fine _ h))

casteljau4_good : (t : Float) (w1 w2 w3 w4 : Point) → Fine (casteljau4 t w1 w2 w3 w4) → Good (casteljau4 t w1 w2 w3 w4).val
unfolding casteljau4
casteljau4_good t w1 w2 w3 w4 h =
    casteljau3_good t (casteljau2 t w1 w2).val (casteljau2 t w2 w3).val (casteljau2 t w3 w4).val
    (and_right (casteljau2 t w3 w4).fine _ (and_right (casteljau2 t w2 w3).fine _ (and_right (casteljau2 t w1 w2).fine _ h)))

basis_good : (t : Float) (w1 w2 w3 w4 : Point) → Fine (basis t w1 w2 w3 w4) → Good (basis t w1 w2 w3 w4).val
unfolding basis plus
basis_good t w1 w2 w3 w4 h = (is_so (basis t w1 w2 w3 w4).fine (finite (basis t w1 w2 w3 w4).val.x) h (λ e. simp (e, and-false)), is_so (basis t w1 w2 w3 w4).fine (finite (basis t w1 w2 w3 w4).val.y) h (λ e. simp (e, and-false)))

subdivide4_good : (t : Float) (w1 w2 w3 w4 : Point) → Fine (subdivide4_of t w1 w2 w3 w4) → Good (subdivide4_of t w1 w2 w3 w4).val.left.end
unfolding subdivide4_of
subdivide4_good t w1 w2 w3 w4 h =
    let m = (subdivide4_of t w1 w2 w3 w4).val in
    casteljau2_good t m.left.cp2 m.right.cp1 (is_so (subdivide4_of t w1 w2 w3 w4).fine (casteljau2 t m.left.cp2 m.right.cp1).fine h (λ e. simp (e, and-false)))

-- ---- so the test of the end is the run's
ends : (m : Calc Point) → (Good m.val → Fine m) → (Fine m → Good m.val) → m.fine ≡ point_finite m.val
ends m back on = same _ _ (λ h. good_point m.val (on h)) (λ h. back (point_good m.val h))

pub casteljau2_same : (t : Float) (w1 w2 : Point) → (casteljau2 t w1 w2).fine ≡ point_finite (casteljau2 t w1 w2).val
casteljau2_same t w1 w2 = ends (casteljau2 t w1 w2) (λ g. (casteljau2-fine t w1 w2 g).0) (casteljau2_good t w1 w2)

pub casteljau3_same : (t : Float) (w1 w2 w3 : Point) → (casteljau3 t w1 w2 w3).fine ≡ point_finite (casteljau3 t w1 w2 w3).val
casteljau3_same t w1 w2 w3 = ends (casteljau3 t w1 w2 w3) (λ g. (casteljau3-fine t w1 w2 w3 g).0) (casteljau3_good t w1 w2 w3)

pub casteljau4_same : (t : Float) (w1 w2 w3 w4 : Point) → (casteljau4 t w1 w2 w3 w4).fine ≡ point_finite (casteljau4 t w1 w2 w3 w4).val
casteljau4_same t w1 w2 w3 w4 = ends (casteljau4 t w1 w2 w3 w4) (casteljau4-fine t w1 w2 w3 w4) (casteljau4_good t w1 w2 w3 w4)

pub basis_same : (t : Float) (w1 w2 w3 w4 : Point) → (basis t w1 w2 w3 w4).fine ≡ point_finite (basis t w1 w2 w3 w4).val
basis_same t w1 w2 w3 w4 = ends (basis t w1 w2 w3 w4) (basis-fine t w1 w2 w3 w4) (basis_good t w1 w2 w3 w4)

pub subdivide4_same : (t : Float) (w1 w2 w3 w4 : Point) → (subdivide4_of t w1 w2 w3 w4).fine ≡ halves_finite (subdivide4_of t w1 w2 w3 w4).val
unfolding halves_finite
subdivide4_same t w1 w2 w3 w4 =
    same _ _
    (λ h. good_point _ (subdivide4_good t w1 w2 w3 w4 h))
    (λ h. subdivide4-fine t w1 w2 w3 w4 (point_good _ h))

-- ---- the coefficients
coefficients-fine : (w1 w2 w3 w4 : Float) → let k = (coefficients_of w1 w2 w3 w4).val in Fin k.a → Fin k.b → Fin k.c → Fine (coefficients_of w1 w2 w3 w4)
unfolding coefficients_of
coefficients-fine w1 w2 w3 w4 ga gb gc =
    let a2 = sub-finite binary64 _ _ ga in
    let a1 = add-finite binary64 _ _ a2.0 in
    let a0 = sub-finite binary64 _ _ a1.0 in
    let b1 = add-finite binary64 _ _ gb in
    let b0 = sub-finite binary64 _ _ b1.0 in
    let c0 = sub-finite binary64 _ _ gc in
    cc

coefficients_bad : (w1 w2 w3 w4 : Float) (x : Float) → let k = (coefficients_of w1 w2 w3 w4).val in (x ≡ k.a) ⊎ ((x ≡ k.b) ⊎ (x ≡ k.c)) → finite x ≡ false → (coefficients_of w1 w2 w3 w4).fine ≡ false
unfolding coefficients_of
coefficients_bad w1 w2 w3 w4 x (inl h) e = simp (rw h at e, and-false)
coefficients_bad w1 w2 w3 w4 x (inr (inl h)) e = simp (rw h at e, and-false)
coefficients_bad w1 w2 w3 w4 x (inr (inr h)) e = simp (rw h at e, and-false)

pub coefficients_same : (w1 w2 w3 w4 : Float) → (coefficients_of w1 w2 w3 w4).fine ≡ coefficients_finite (coefficients_of w1 w2 w3 w4).val
unfolding coefficients_finite
coefficients_same w1 w2 w3 w4 =
    let m = coefficients_of w1 w2 w3 w4 in
    let k = m.val in
    same _ _
    (λ h. both _ _ (is_so m.fine (finite k.a) h (coefficients_bad w1 w2 w3 w4 _ (inl refl))) (both _ _ (is_so m.fine (finite k.b) h (coefficients_bad w1 w2 w3 w4 _ (inr (inl refl)))) (is_so m.fine (finite k.c) h (coefficients_bad w1 w2 w3 w4 _ (inr (inr refl))))))
    (λ h. coefficients-fine w1 w2 w3 w4 (and_left _ _ h) (and_left (finite k.b) _ (and_right (finite k.a) _ h)) (and_right (finite k.b) _ (and_right (finite k.a) _ h)))
