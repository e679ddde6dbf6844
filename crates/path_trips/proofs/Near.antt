-- The number that comes back, of one that export takes: it passes export's tests, and is written alike. Assumes nothing.
use Prim.Native.Nat.{ℕ, ◌≤◌}
use mathlib.Core.Path.{◌≡◌, refl, sym, ap, ◌∙◌}
use mathlib.Core.Bool.{Bool, true, false, ◌&&◌}
use borrow.Author.Tests.{le-leb}
use lib.Ieee.{Float}
use Rattle.float.specs.Number.{finite}
use Rattle.float.proofs.Truth.{never, and_left, and_right, both}
use Rattle.plane.specs.Range.{point_finite}
use Rattle.plane.specs.declared.Point.{Point}
use Rattle.plane.specs.declared.Curve.{Curve}
use Rattle.faults.specs.Tests.{curve_finite}
use Rattle.path.specs.Decimals.{signed, written_of, nearest_to, most, small}
use Rattle.path.specs.Curves.{place_small, segment_small}
use Rattle.path.specs.Text.{point_text, curve_text, number_text}
use Rattle.path.specs.Range.{within, point_within, curve_within}
use Rattle.path.specs.declared.Decimal.{Decimal}
use Rattle.thousandths.proofs.Back.{written_small, near-finite, near_within, near-back, canonical}
use Rattle.path_trips.specs.Trips.{near, near_point, near_curve}
use Rattle.path_trips.proofs.Steps.{place_of, segment_of}

-- ---- a number

pub record Near (x : Float) : Type 0 where
  pub small_is : small (written_of x) ≡ true
  pub finite_is : finite (near x) ≡ true
  pub within_is : within (near x) ≡ true
  pub alike : written_of (near x) ≡ written_of x

pub near_number : (x : Float) → finite x ≡ true → within x ≡ true → Near x
unfolding near small
near_number x f w =
    let s : Bool = (written_of x).negative in
    let t : ℕ = (written_of x).thousandths in
    let l : t ≤ most = written_small x f w in
    let c : written_of x ≡ signed s t = canonical x in
    record {
      small_is = le-leb t most l;
      finite_is = ap (λ (d : Decimal). finite (nearest_to d)) c ∙ near-finite s t l;
      within_is = ap (λ (d : Decimal). within (nearest_to d)) c ∙ near_within s t l;
      alike = ap (λ (d : Decimal). written_of (nearest_to d)) c ∙ near-back s t l ∙ sym c;
    }

-- ---- a point

pub record NearP (p : Point) : Type 0 where
  pub x : Near p.x
  pub y : Near p.y

near-point : (p : Point) → point_finite p ≡ true → point_within p ≡ true → NearP p
unfolding point_finite
near-point p f w =
    record {
      x = near_number p.x (and_left (finite p.x) (finite p.y) f) (and_left (within p.x) (within p.y) w);
      y = near_number p.y (and_right (finite p.x) (finite p.y) f) (and_right (within p.x) (within p.y) w);
    }

pub point-small : {p : Point} → NearP p → place_small (place_of p) ≡ true
unfolding place_small
point-small n = both _ _ n.x.small_is n.y.small_is

point-finite : {p : Point} → NearP p → point_finite (near_point p) ≡ true
unfolding point_finite near_point
point-finite n = both _ _ n.x.finite_is n.y.finite_is

point_within_is : {p : Point} → NearP p → point_within (near_point p) ≡ true
unfolding near_point
point_within_is n = both _ _ n.x.within_is n.y.within_is

pub point_alike : {p : Point} → NearP p → point_text (near_point p) ≡ point_text p
unfolding point_text number_text near_point
point_alike n = rw (n.x.alike, n.y.alike)

-- ---- a curve

pub record NearC (c : Curve) : Type 0 where
  pub start : NearP c.start
  pub cp1 : NearP c.cp1
  pub cp2 : NearP c.cp2
  pub end : NearP c.end

-- four tests that passed
record Four (a b c d : Bool) : Type 0 where
  first : a ≡ true
  second : b ≡ true
  third : c ≡ true
  fourth : d ≡ true

four : (a b c d : Bool) → a && (b && (c && d)) ≡ true → Four a b c d
four true true c d h = record { first = refl; second = refl; third = and_left c d h; fourth = and_right c d h }
four true false c d h = never h
four false b c d h = never h

pub near-curve : (c : Curve) → curve_finite c ≡ true → curve_within c ≡ true → NearC c
unfolding curve_finite curve_within
near-curve c f w =
    let g = four (point_finite c.start) (point_finite c.cp1) (point_finite c.cp2) (point_finite c.end) f in
    let v = four (point_within c.start) (point_within c.cp1) (point_within c.cp2) (point_within c.end) w in
    record {
      start = near-point c.start g.first v.first;
      cp1 = near-point c.cp1 g.second v.second;
      cp2 = near-point c.cp2 g.third v.third;
      end = near-point c.end g.fourth v.fourth;
    }

pub curve-small : {c : Curve} → NearC c → segment_small (segment_of c) ≡ true
unfolding segment_small
curve-small n = both _ _ (point-small n.cp1) (both _ _ (point-small n.cp2) (point-small n.end))

pub curve-finite : {c : Curve} → NearC c → curve_finite (near_curve c) ≡ true
unfolding curve_finite near_curve
curve-finite n = both _ _ (point-finite n.start) (both _ _ (point-finite n.cp1) (both _ _ (point-finite n.cp2) (point-finite n.end)))

pub curve_within_is : {c : Curve} → NearC c → curve_within (near_curve c) ≡ true
unfolding curve_within near_curve
curve_within_is n = both _ _ (point_within_is n.start) (both _ _ (point_within_is n.cp1) (both _ _ (point_within_is n.cp2) (point_within_is n.end)))

pub curve_alike : {c : Curve} → NearC c → curve_text (near_curve c) ≡ curve_text c
unfolding curve_text near_curve
curve_alike n = rw (point_alike n.cp1, point_alike n.cp2, point_alike n.end)
