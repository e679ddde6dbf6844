-- What is known of the numbers of a curve that passed its tests. Assumes nothing.
use mathlib.Core.Path.{◌≡◌}
use mathlib.Core.Bool.{true, ◌&&◌}
use mathlib.Core.List.{List}
use Prim.Native.Nat.{ℕ, ◌<◌}
use lib.Ieee.{Float}
use Rattle.float.specs.Number.{finite}
use Rattle.float.proofs.Truth.{and_left, and_right}
use Rattle.plane.specs.Range.{point_finite}
use Rattle.plane.specs.declared.Point.{Point}
use Rattle.plane.specs.declared.Curve.{Curve}
use Rattle.form.specs.declared.Form.{Form}
use Rattle.faults.specs.Tests.{curve_at, curve_finite}
use Rattle.path.specs.Range.{within, point_within, curve_within}
use Rattle.path_text.specs.Writable.{Writable}
use Rattle.path_text.proofs.Records.{every_at}

abbrev pub Fine : Float → Type 0
Fine x = (finite x ≡ true) × (within x ≡ true)

pub x_fine : (p : Point) → point_finite p ≡ true → point_within p ≡ true → Fine p.x
unfolding point_finite
x_fine p f w = (and_left (finite p.x) (finite p.y) f, and_left (within p.x) (within p.y) w)

pub y_fine : (p : Point) → point_finite p ≡ true → point_within p ≡ true → Fine p.y
unfolding point_finite
y_fine p f w = (and_right (finite p.x) (finite p.y) f, and_right (within p.x) (within p.y) w)

abbrev pub PointFine : Point → Type 0
PointFine p = (point_finite p ≡ true) × (point_within p ≡ true)

pub record CurveFine (c : Curve) : Type 0 where
  pub start : PointFine c.start
  pub cp1 : PointFine c.cp1
  pub cp2 : PointFine c.cp2
  pub end : PointFine c.end

pub curve-fine : (c : Curve) → curve_finite c ≡ true → curve_within c ≡ true → CurveFine c
unfolding curve_finite curve_within
curve-fine c f w =
    let F = point_finite in
    let W = point_within in
    let f1 = and_right (F c.start) (F c.cp1 && (F c.cp2 && F c.end)) f in
    let w1 = and_right (W c.start) (W c.cp1 && (W c.cp2 && W c.end)) w in
    let f2 = and_right (F c.cp1) (F c.cp2 && F c.end) f1 in
    let w2 = and_right (W c.cp1) (W c.cp2 && W c.end) w1 in
    record {
      start = (and_left (F c.start) (F c.cp1 && (F c.cp2 && F c.end)) f, and_left (W c.start) (W c.cp1 && (W c.cp2 && W c.end)) w);
      cp1 = (and_left (F c.cp1) (F c.cp2 && F c.end) f1, and_left (W c.cp1) (W c.cp2 && W c.end) w1);
      cp2 = (and_left (F c.cp2) (F c.end) f2, and_left (W c.cp2) (W c.end) w2);
      end = (and_right (F c.cp2) (F c.end) f2, and_right (W c.cp2) (W c.end) w2);
    }

-- of one curve of a list
pub curve_at_is : {form : Form} {C : List Float} {n : ℕ} (i : ℕ) → Writable form C n → i < n → (curve_finite (curve_at form C i) ≡ true) × (curve_within (curve_at form C i) ≡ true)
curve_at_is {form} {C} {n} i w h =
    (every_at n i (λ j. curve_finite (curve_at form C j)) w.finite h, every_at n i (λ j. curve_within (curve_at form C j)) w.within h)
