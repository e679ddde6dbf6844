-- The run that makes a curve's vertices was fine exactly where those of the second derivative are finite. Assumes nothing.
use mathlib.Core.Path.{◌≡◌, refl}
use mathlib.Core.Logic.{◌⊎◌, inl, inr}
use Rattle.float.specs.Number.{finite}
use Rattle.float.proofs.Truth.{and_left, and_right, and-false, both, same, is_so}
use Rattle.float.proofs.Answers.{Fine}
use Rattle.plane.specs.Plane.{times}
use Rattle.plane.specs.Range.{point_finite}
use Rattle.plane.specs.declared.Point.{Point}
use Rattle.plane.specs.declared.Curve.{Curve}
use Rattle.plane.proofs.Fine.{Good, minus-fine, times-fine, good_point, point_good}
use Rattle.newton.specs.Newton.{vertices_of}
use Rattle.newton.specs.Tests.{vertices_finite}
use Rattle.newton.specs.declared.Vertices.{Vertices}

abbrev pub GoodVertices : Vertices → Type 0
GoodVertices q = Good q.qn1 × Good q.qn2 × Good q.qn3 × Good q.qnn1 × Good q.qnn2

pub vertices_fine : (c : Curve) → Good (vertices_of c).val.qnn1 → Good (vertices_of c).val.qnn2 → Fine (vertices_of c)
unfolding vertices_of
vertices_fine c g h =
    let e = times-fine _ _ g in
    let f = times-fine _ _ h in
    let e' = minus-fine _ _ e.1 in
    let f' = minus-fine _ _ f.1 in
    let a = times-fine _ _ e'.2 in
    let b = times-fine _ _ e'.1 in
    let d = times-fine _ _ f'.1 in
    let a' = minus-fine _ _ a.1 in
    let b' = minus-fine _ _ b.1 in
    let d' = minus-fine _ _ d.1 in
    cc

vertices_good : (c : Curve) (p : Point) → let q = (vertices_of c).val in (p ≡ q.qnn1) ⊎ (p ≡ q.qnn2) → Fine (vertices_of c) → Good p
unfolding vertices_of times
vertices_good c p (inl e) h = (
  is_so (vertices_of c).fine (finite p.x) h (λ b. simp (rw e at b, and-false)),
  is_so (vertices_of c).fine (finite p.y) h (λ b. simp (rw e at b, and-false)),
)
vertices_good c p (inr e) h = (
  is_so (vertices_of c).fine (finite p.x) h (λ b. simp (rw e at b, and-false)),
  is_so (vertices_of c).fine (finite p.y) h (λ b. simp (rw e at b, and-false)),
)

pub vertices_same : (c : Curve) → (vertices_of c).fine ≡ vertices_finite (vertices_of c).val
unfolding vertices_finite
vertices_same c =
    let q = (vertices_of c).val in
    same _ _
    (λ h. both _ _ (good_point q.qnn1 (vertices_good c _ (inl refl) h)) (good_point q.qnn2 (vertices_good c _ (inr refl) h)))
    (λ h. vertices_fine c (point_good q.qnn1 (and_left _ _ h)) (point_good q.qnn2 (and_right (point_finite q.qnn1) _ h)))
