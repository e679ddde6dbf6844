-- Each run over six points or numbers was fine exactly where its ends are finite. Assumes nothing.
use mathlib.Core.Path.{◌≡◌}
use mathlib.Core.Bool.{false, ◌&&◌}
use lib.Ieee.{Float, binary64}
use Rattle.float.specs.Number.{finite}
use Rattle.float.specs.Calc.{Calc}
use Rattle.float.proofs.Truth.{and_left, and_right, and-true, and-false, both, same, is_so}
use Rattle.float.proofs.Strict.{Fin, add-finite, mul-finite}
use Rattle.float.proofs.Answers.{Fine}
use Rattle.plane.specs.Plane.{plus}
use Rattle.plane.specs.declared.Point.{Point}
use Rattle.plane.specs.declared.Curve.{Curve}
use Rattle.plane.proofs.Fine.{Good, minus-fine, times-fine, dot-fine}
use Rattle.cubic.specs.Basis.{casteljau2, casteljau3, casteljau4}
use Rattle.plane.specs.Range.{point_finite}
use Rattle.plane.proofs.Fine.{point_good}
use Rattle.cubic.proofs.Fine.{casteljau2-fine, casteljau3-fine}
use Rattle.quintic.specs.Points.{casteljau5, casteljau6, subdivide6_of}
use Rattle.quintic.specs.Numbers.{number2, number3, number4, number5, number6, derivative6_of}
use Rattle.quintic.specs.Heights.{z0, z1, z2, offsets_of, products_of, sums_of, weighted_by, section_of, distance_form}
use Rattle.quintic.specs.Tests.{five_finite, heights_finite, halves_finite}
use Rattle.quintic.specs.declared.points.Section.{Section}
use Rattle.quintic.specs.declared.numbers.Six.{Six}
use Rattle.quintic.specs.declared.numbers.Five.{Five}
use Rattle.quintic.specs.declared.heights.Row.{Row}
use Rattle.quintic.specs.declared.heights.Offsets.{Offsets}

-- ---- numbers
number2-fine : (t y1 y2 : Float) → Fin (number2 t y1 y2).val → Fine (number2 t y1 y2) × Fin y1 × Fin y2
unfolding number2
number2-fine t y1 y2 g =
    let s = add-finite binary64 _ _ g in
    let a = mul-finite binary64 _ _ s.0 in
    let b = mul-finite binary64 _ _ s.1 in
    (cc, a.0, b.0)

number3-fine : (t y1 y2 y3 : Float) → Fin (number3 t y1 y2 y3).val → Fine (number3 t y1 y2 y3) × Fin y1 × Fin y2 × Fin y3
unfolding number3
number3-fine t y1 y2 y3 g =
    let r = number2-fine t _ _ g in
    let a = number2-fine t y1 y2 r.1 in
    let b = number2-fine t y2 y3 r.2 in
    (cc, a.1, a.2, b.2)

number4-fine : (t y1 y2 y3 y4 : Float) → Fin (number4 t y1 y2 y3 y4).val → Fine (number4 t y1 y2 y3 y4) × Fin y1 × Fin y2 × Fin y3 × Fin y4
unfolding number4
number4-fine t y1 y2 y3 y4 g =
    let r = number3-fine t _ _ _ g in
    let a = number2-fine t y1 y2 r.1 in
    let b = number2-fine t y2 y3 r.2 in
    let d = number2-fine t y3 y4 r.3 in
    (cc, a.1, a.2, b.2, d.2)

abbrev pub GoodFive : Five → Type 0
GoodFive h = Fin h.y1 × Fin h.y2 × Fin h.y3 × Fin h.y4 × Fin h.y5

number5-fine : (t : Float) (h : Five) → Fin (number5 t h).val → Fine (number5 t h) × GoodFive h
unfolding number5
number5-fine t h g =
    let r = number4-fine t _ _ _ _ g in
    let a = number2-fine t _ _ r.1 in
    let b = number2-fine t _ _ r.2 in
    let c = number2-fine t _ _ r.3 in
    let d = number2-fine t _ _ r.4 in
    (cc, (a.1, a.2, b.2, c.2, d.2))

number6-fine : (t : Float) (h : Six) → Fin (number6 t h).val → Fine (number6 t h)
unfolding number6
number6-fine t h g =
    let r = number5-fine t _ g in
    let a = number2-fine t _ _ r.1.0 in
    let b = number2-fine t _ _ r.1.1 in
    let c = number2-fine t _ _ r.1.2 in
    let d = number2-fine t _ _ r.1.3 in
    let e = number2-fine t _ _ r.1.4 in
    cc

-- a run that came to a number was fine only where the number is finite
number2_good : (t y1 y2 : Float) → finite (number2 t y1 y2).val ≡ false → (number2 t y1 y2).fine ≡ false
unfolding number2
number2_good t y1 y2 e = simp (e, and-false)

number5_good : (t : Float) (h : Five) → finite (number5 t h).val ≡ false → (number5 t h).fine ≡ false
unfolding number5 number4 number3
number5_good t h e = simp (number2_good _ _ _ e, and-false)

number6_good : (t : Float) (h : Six) → finite (number6 t h).val ≡ false → (number6 t h).fine ≡ false
unfolding number6
number6_good t h e = simp (number5_good _ _ e, and-false)

pub number5_same : (t : Float) (h : Five) → (number5 t h).fine ≡ finite (number5 t h).val
number5_same t h = same _ _ (λ k. is_so (number5 t h).fine (finite (number5 t h).val) k (number5_good t h)) (λ g. (number5-fine t h g).0)

pub number6_same : (t : Float) (h : Six) → (number6 t h).fine ≡ finite (number6 t h).val
number6_same t h = same _ _ (λ k. is_so (number6 t h).fine (finite (number6 t h).val) k (number6_good t h)) (number6-fine t h)

-- ---- the derivative
derivative_fine : (h : Six) → GoodFive (derivative6_of h).val → Fine (derivative6_of h)
unfolding derivative6_of
derivative_fine h g =
    let a = mul-finite binary64 _ _ g.0 in
    let b = mul-finite binary64 _ _ g.1 in
    let c = mul-finite binary64 _ _ g.2 in
    let d = mul-finite binary64 _ _ g.3 in
    let e = mul-finite binary64 _ _ g.4 in
    cc

derivative_good : (h : Six) → Fine (derivative6_of h) → GoodFive (derivative6_of h).val
unfolding derivative6_of
derivative_good h k =
    let m = derivative6_of h in (
      is_so m.fine (finite m.val.y1) k (λ e. simp (e, and-false)),
      is_so m.fine (finite m.val.y2) k (λ e. simp (e, and-false)),
      is_so m.fine (finite m.val.y3) k (λ e. simp (e, and-false)),
      is_so m.fine (finite m.val.y4) k (λ e. simp (e, and-false)),
      is_so m.fine (finite m.val.y5) k (λ e. simp (e, and-false)),
    )

pub derivative_same : (h : Six) → (derivative6_of h).fine ≡ five_finite (derivative6_of h).val
unfolding five_finite
derivative_same h =
    let v = (derivative6_of h).val in
    same _ _
    (λ k. let g = derivative_good h k in both _ _ (both _ _ g.0 (both _ _ g.1 g.2)) (both _ _ g.3 g.4))
    (λ k.
    let l = and_left _ _ k in
    let r = and_right (finite v.y1 && (finite v.y2 && finite v.y3)) _ k in
    let l' = and_right (finite v.y1) _ l in
    derivative_fine h (and_left _ _ l, and_left _ _ l', and_right (finite v.y2) _ l', and_left _ _ r, and_right (finite v.y4) _ r))

-- ---- points
casteljau4-fine : (t : Float) (w1 w2 w3 w4 : Point) → Good (casteljau4 t w1 w2 w3 w4).val → Fine (casteljau4 t w1 w2 w3 w4) × Good w1 × Good w2 × Good w3 × Good w4
unfolding casteljau4
casteljau4-fine t w1 w2 w3 w4 g =
    let r = casteljau3-fine t _ _ _ g in
    let a = casteljau2-fine t w1 w2 r.1 in
    let b = casteljau2-fine t w2 w3 r.2 in
    let d = casteljau2-fine t w3 w4 r.3 in
    (cc, a.1, a.2, b.2, d.2)

casteljau5-fine : (t : Float) (w1 w2 w3 w4 w5 : Point) → Good (casteljau5 t w1 w2 w3 w4 w5).val → Fine (casteljau5 t w1 w2 w3 w4 w5) × Good w1 × Good w2 × Good w3 × Good w4 × Good w5
unfolding casteljau5
casteljau5-fine t w1 w2 w3 w4 w5 g =
    let r = casteljau4-fine t _ _ _ _ g in
    let a = casteljau2-fine t w1 w2 r.1 in
    let b = casteljau2-fine t w2 w3 r.2 in
    let c = casteljau2-fine t w3 w4 r.3 in
    let d = casteljau2-fine t w4 w5 r.4 in
    (cc, a.1, a.2, b.2, c.2, d.2)

casteljau6-fine : (t : Float) (s : Section) → Good (casteljau6 t s).val → Fine (casteljau6 t s)
unfolding casteljau6
casteljau6-fine t s g =
    let r = casteljau5-fine t _ _ _ _ _ g in
    let a = casteljau2-fine t _ _ r.1 in
    let b = casteljau2-fine t _ _ r.2 in
    let c = casteljau2-fine t _ _ r.3 in
    let d = casteljau2-fine t _ _ r.4 in
    let e = casteljau2-fine t _ _ r.5 in
    cc

-- a run that came to a point was fine only where the point is finite
casteljau2_good : (t : Float) (w1 w2 : Point) → point_finite (casteljau2 t w1 w2).val ≡ false → (casteljau2 t w1 w2).fine ≡ false
unfolding casteljau2 plus point_finite
casteljau2_good t w1 w2 e = simp (e, and-true, and-false)

casteljau6_good : (t : Float) (s : Section) → point_finite (casteljau6 t s).val ≡ false → (casteljau6 t s).fine ≡ false
unfolding casteljau6 casteljau5 casteljau4 casteljau3
casteljau6_good t s e = simp (casteljau2_good _ _ _ e, and-false)

pub casteljau6_same : (t : Float) (s : Section) → (casteljau6 t s).fine ≡ point_finite (casteljau6 t s).val
casteljau6_same t s = same _ _ (λ k. is_so (casteljau6 t s).fine (point_finite (casteljau6 t s).val) k (casteljau6_good t s)) (λ g. casteljau6-fine t s (point_good _ g))

subdivide6-fine : (t : Float) (s : Section) → Good (subdivide6_of t s).val.left.w6 → Fine (subdivide6_of t s)
unfolding subdivide6_of
subdivide6-fine t s g =
    let p = casteljau2-fine t _ _ g in
    let d1 = casteljau2-fine t _ _ p.1 in
    let d2 = casteljau2-fine t _ _ p.2 in
    let c1 = casteljau2-fine t _ _ d1.1 in
    let c2 = casteljau2-fine t _ _ d1.2 in
    let c3 = casteljau2-fine t _ _ d2.2 in
    let b1 = casteljau2-fine t _ _ c1.1 in
    let b2 = casteljau2-fine t _ _ c1.2 in
    let b3 = casteljau2-fine t _ _ c2.2 in
    let b4 = casteljau2-fine t _ _ c3.2 in
    let a1 = casteljau2-fine t _ _ b1.1 in
    let a2 = casteljau2-fine t _ _ b1.2 in
    let a3 = casteljau2-fine t _ _ b2.2 in
    let a4 = casteljau2-fine t _ _ b3.2 in
    let a5 = casteljau2-fine t _ _ b4.2 in
    simp (p.0, d1.0, d2.0, c1.0, c2.0, c3.0, b1.0, b2.0, b3.0, b4.0, a1.0, a2.0, a3.0, a4.0, a5.0)

pub subdivide6_same : (t : Float) (s : Section) → (subdivide6_of t s).fine ≡ halves_finite (subdivide6_of t s).val
unfolding halves_finite
subdivide6_same t s =
    let m = subdivide6_of t s in
    same _ _ (λ k. is_so m.fine (point_finite m.val.left.w6) k (bad t s)) (λ g. subdivide6-fine t s (point_good _ g))
  where
    bad : (t : Float) (s : Section) → point_finite (subdivide6_of t s).val.left.w6 ≡ false → (subdivide6_of t s).fine ≡ false
    bad t s e = unfold subdivide6_of in simp (casteljau2_good _ _ _ e, and-false)

-- ---- the heights
offsets_fine : (c : Curve) (p : Point) → (let d = (offsets_of c p).val in Good d.d0 × Good d.d1 × Good d.d2 × Good d.d3) → Fine (offsets_of c p)
unfolding offsets_of
offsets_fine c p g =
    let a = minus-fine _ _ g.0 in
    let b = minus-fine _ _ g.1 in
    let d = minus-fine _ _ g.2 in
    let e = minus-fine _ _ g.3 in
    cc

abbrev GoodRow : Row → Type 0
GoodRow r = Fin r.i0 × Fin r.i1 × Fin r.i2 × Fin r.i3

products-fine : (v w : Point) (d : Offsets) (z : Row) → GoodRow (products_of v w d z).val → Fine (products_of v w d z) × Good d.d0 × Good d.d1 × Good d.d2 × Good d.d3
unfolding products_of
products-fine v w d z g =
    let a = mul-finite binary64 _ _ g.0 in
    let b = mul-finite binary64 _ _ g.1 in
    let c = mul-finite binary64 _ _ g.2 in
    let e = mul-finite binary64 _ _ g.3 in
    let a' = dot-fine _ _ a.0 in
    let b' = dot-fine _ _ b.0 in
    let c' = dot-fine _ _ c.0 in
    let e' = dot-fine _ _ e.0 in
    let n = times-fine _ _ a'.1 in
    let m = minus-fine _ _ n.1 in
    (cc, a'.2, b'.2, c'.2, e'.2)

abbrev GoodSix : Six → Type 0
GoodSix h = Fin h.y1 × Fin h.y2 × Fin h.y3 × Fin h.y4 × Fin h.y5 × Fin h.y6

sums-fine : (j0 j1 j2 : Row) → GoodSix (sums_of j0 j1 j2).val → Fine (sums_of j0 j1 j2) × GoodRow j0 × GoodRow j1 × GoodRow j2
unfolding sums_of
sums-fine j0 j1 j2 g =
    let a1 = add-finite binary64 _ _ g.0 in
    let b2 = add-finite binary64 _ _ g.1 in
    let b1 = add-finite binary64 _ _ b2.0 in
    let c3 = add-finite binary64 _ _ g.2 in
    let c2 = add-finite binary64 _ _ c3.0 in
    let c1 = add-finite binary64 _ _ c2.0 in
    let d3 = add-finite binary64 _ _ g.3 in
    let d2 = add-finite binary64 _ _ d3.0 in
    let d1 = add-finite binary64 _ _ d2.0 in
    let e2 = add-finite binary64 _ _ g.4 in
    let e1 = add-finite binary64 _ _ e2.0 in
    let f1 = add-finite binary64 _ _ g.5 in
    (cc, (a1.1, b2.1, c3.1, d3.1), (b1.1, c2.1, d2.1, e2.1), (c1.1, d1.1, e1.1, f1.1))

sums_good : (j0 j1 j2 : Row) → Fine (sums_of j0 j1 j2) → GoodSix (sums_of j0 j1 j2).val
unfolding sums_of
sums_good j0 j1 j2 k =
    let m = sums_of j0 j1 j2 in (
      is_so m.fine (finite m.val.y1) k (λ e. simp e),
      is_so m.fine (finite m.val.y2) k (λ e. simp (e, and-false)),
      is_so m.fine (finite m.val.y3) k (λ e. simp (e, and-false)),
      is_so m.fine (finite m.val.y4) k (λ e. simp (e, and-false)),
      is_so m.fine (finite m.val.y5) k (λ e. simp (e, and-false)),
      is_so m.fine (finite m.val.y6) k (λ e. simp (e, and-false)),
    )

module _ (c : Curve) (d : Offsets) (z0 z1 z2 : Row) where
  weighted-fine : GoodSix (weighted_by c d z0 z1 z2).val → Fine (weighted_by c d z0 z1 z2) × Good d.d0 × Good d.d1 × Good d.d2 × Good d.d3
  unfolding weighted_by
  weighted-fine g =
      let s = sums-fine _ _ _ g in
      let a = products-fine _ _ _ _ s.1 in
      let b = products-fine _ _ _ _ s.2 in
      let e = products-fine _ _ _ _ s.3 in
      (cc, a.1, a.2, a.3, a.4)

  weighted_good : Fine (weighted_by c d z0 z1 z2) → GoodSix (weighted_by c d z0 z1 z2).val
  unfolding weighted_by
  weighted_good k =
      let s = sums_of (products_of c.start c.cp1 d z0).val (products_of c.cp1 c.cp2 d z1).val (products_of c.cp2 c.end d z2).val in
      sums_good _ _ _ (is_so (weighted_by c d z0 z1 z2).fine s.fine k (λ e. simp (e, and-false)))

module _ (c : Curve) (p : Point) where
  abbrev S : Calc Six
  S = weighted_by c (offsets_of c p).val z0 z1 z2

  form-fine : GoodSix S.val → Fine (distance_form c p)
  unfolding distance_form
  form-fine g =
      let s = weighted-fine c (offsets_of c p).val z0 z1 z2 g in
      let o = offsets_fine c p (s.1, s.2, s.3, s.4) in
      simp (o, s.0)

  form_good : Fine (distance_form c p) → GoodSix S.val
  unfolding distance_form
  form_good k = weighted_good c (offsets_of c p).val z0 z1 z2 (is_so (distance_form c p).fine S.fine k (λ e. simp (e, and-false)))

  pub form_same : (distance_form c p).fine ≡ heights_finite (distance_form c p).val
  unfolding heights_finite distance_form section_of
  form_same =
      let h = S.val in
      same _ _
      (λ k. let g = form_good k in both _ _ (both _ _ g.0 (both _ _ g.1 g.2)) (both _ _ g.3 (both _ _ g.4 g.5)))
      (λ k.
      let l = and_left _ _ k in
      let r = and_right (finite h.y1 && (finite h.y2 && finite h.y3)) _ k in
      let l' = and_right (finite h.y1) _ l in
      let r' = and_right (finite h.y4) _ r in
      form-fine (and_left _ _ l, and_left _ _ l', and_right (finite h.y2) _ l', and_left _ _ r, and_left _ _ r', and_right (finite h.y5) _ r'))
