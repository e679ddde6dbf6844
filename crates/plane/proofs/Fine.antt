-- Where a run over points has a finite end, each operation on the way was finite, and so were the numbers that it started from. Assumes nothing.
use mathlib.Core.Path.{◌≡◌, refl, sym, ap, ◌∙◌}
use mathlib.Core.Bool.{Bool, true, false, ◌&&◌, cond}
use Rattle.std.proofs.Common.{Option, Some, None}
use Rattle.std.specs.Option.{unwrap_or}
use lib.Ieee.{Float, binary64, eq, mul, div, of_bits}
use Rattle.float.specs.Number.{finite, f0, f1}
use Rattle.float.specs.Calc.{Calc, give, ◌>>=◌, ◌/!◌}
use Rattle.float.proofs.Truth.{and_left, and_right, and-true, and-false, both, same}
use Rattle.float.proofs.Strict.{Fin, add-finite, sub-finite, mul-finite}
use Rattle.float.proofs.Signs.{negative, square_sign, add-sign}
use Rattle.float.proofs.Answers.{Fine}
use Rattle.root.proofs.Laws.{sqrt_strict}
use Rattle.plane.specs.Plane.{at, plus, minus, times, dot_of, magnitude_of, distance_of, direction_by, direction_of, or_zero, unit_of}
use Rattle.plane.specs.Range.{point_finite}
use Rattle.plane.specs.declared.Point.{Point}

-- both coordinates are finite
abbrev pub Good : Point → Type 0
Good p = Fin p.x × Fin p.y

pub plus-fine : (p q : Point) → Good (plus p q).val → Fine (plus p q) × Good p × Good q
unfolding plus
plus-fine p q g =
    let a = add-finite binary64 _ _ g.0 in
    let b = add-finite binary64 _ _ g.1 in
    (cc, (a.0, b.0), (a.1, b.1))

pub minus-fine : (p q : Point) → Good (minus p q).val → Fine (minus p q) × Good p × Good q
unfolding minus
minus-fine p q g =
    let a = sub-finite binary64 _ _ g.0 in
    let b = sub-finite binary64 _ _ g.1 in
    (cc, (a.0, b.0), (a.1, b.1))

pub times-fine : (p : Point) (k : Float) → Good (times p k).val → Fine (times p k) × Good p × Fin k
unfolding times
times-fine p k g =
    let a = mul-finite binary64 _ _ g.0 in
    let b = mul-finite binary64 _ _ g.1 in
    (cc, (a.0, b.0), a.1)

pub dot-fine : (p q : Point) → Fin (dot_of p q).val → Fine (dot_of p q) × Good p × Good q
unfolding dot_of
dot-fine p q g =
    let s = add-finite binary64 _ _ g in
    let a = mul-finite binary64 _ _ s.0 in
    let b = mul-finite binary64 _ _ s.1 in
    (cc, (a.0, b.0), (a.1, b.1))

pub dot_bad : (p q : Point) → finite (dot_of p q).val ≡ false → (dot_of p q).fine ≡ false
unfolding dot_of
dot_bad p q h = simp (h, and-false)

-- ---- the test of a point
pub good_point : (p : Point) → Good p → point_finite p ≡ true
unfolding point_finite
good_point p g = both _ _ g.0 g.1

pub point_good : (p : Point) → point_finite p ≡ true → Good p
unfolding point_finite
point_good p h = (and_left (finite p.x) _ h, and_right (finite p.x) _ h)

-- ---- magnitude, distance and unit vector: fine exactly where the ends are finite
pub magnitude-fine : (p : Point) → Fin (magnitude_of p).val → Fine (magnitude_of p) × Good p
unfolding magnitude_of
magnitude-fine p g =
    let d = dot-fine p p (sqrt_strict _ g) in
    (both _ _ d.0 g, d.1)

pub magnitude_same : (p : Point) → (magnitude_of p).fine ≡ finite (magnitude_of p).val
magnitude_same p = same _ _ (λ h. ends h) (λ h. (magnitude-fine p h).0)
  where
    ends : Fine (magnitude_of p) → Fin (magnitude_of p).val
    ends h = unfold magnitude_of in and_right (dot_of p p).fine _ h

pub distance_fine : (p q : Point) → Fin (distance_of p q).val → Fine (distance_of p q)
unfolding distance_of
distance_fine p q g =
    let m = magnitude-fine (minus q p).val g in
    both _ _ (minus-fine q p m.1).0 m.0

times_good : (p : Point) (k : Float) → Fine (times p k) → Good (times p k).val
unfolding times
times_good p k h = (and_left (finite (mul binary64 p.x k)) _ h, and_left (finite (mul binary64 p.y k)) _ (and_right (finite (mul binary64 p.x k)) _ h))

times-ends : (p : Point) (k : Float) → finite k && (times p k).fine ≡ point_finite (times p k).val
times-ends p k =
    same _ _
    (λ h. good_point (times p k).val (times_good p k (and_right (finite k) _ h)))
    (λ h. let t = times-fine p k (point_good (times p k).val h) in both _ _ t.2 t.0)

-- by a finite number
pub times_same : (p : Point) (k : Float) → Fin k → (times p k).fine ≡ point_finite (times p k).val
times_same p k h = ap (λ (b : Bool). b && (times p k).fine) (sym h) ∙ times-ends p k

-- ---- directions: fine exactly where the magnitude and the vector that the answer stands for are finite
pub zero_without : (d : Option Point) → unwrap_or d (at f0 f0) ≡ or_zero d
unfolding or_zero
zero_without (Some u) = refl
zero_without None = refl

pub none_finite : point_finite (or_zero None) ≡ true
unfolding or_zero point_finite finite of_bits
none_finite = refl

module _ (p : Point) (m : Float) where
  abbrev some : Calc (Option Point)
  some = do give (Some (← times p (← f1 /! m)))

  by_same : (direction_by p m).fine ≡ point_finite (or_zero (direction_by p m).val)
  unfolding direction_by or_zero
  by_same = go (eq m f0)
    where
      go : (b : Bool) → (cond b (give None) some).fine ≡ point_finite (or_zero (cond b (give None) some).val)
      go true = sym none_finite
      go false = ap (λ (b : Bool). finite (div binary64 f1 m) && b) (and-true (times p (div binary64 f1 m)).fine) ∙ times-ends p (div binary64 f1 m)

  -- by the test of the magnitude
  pub no_direction : eq m f0 ≡ true → None ≡ (direction_by p m).val
  unfolding direction_by
  no_direction h = rw h

  pub its_direction : (u : Point) → eq m f0 ≡ false → u ≡ (times p (div binary64 f1 m)).val → Some u ≡ (direction_by p m).val
  unfolding direction_by
  its_direction u h e = rw h (ap Some e)

pub direction_same : (p : Point) → (direction_of p).fine ≡ finite (magnitude_of p).val && point_finite (or_zero (direction_by p (magnitude_of p).val).val)
unfolding direction_of
direction_same p = ap (λ (b : Bool). b && (direction_by p (magnitude_of p).val).fine) (magnitude_same p) ∙ ap (λ (b : Bool). finite (magnitude_of p).val && b) (by_same p (magnitude_of p).val)

-- a vector whose direction or unit vector was worked out with no refusal is finite
pub direction_good : (p : Point) → Fine (direction_of p) → Good p
unfolding direction_of
direction_good p h = (magnitude-fine p (sym (magnitude_same p) ∙ and_left (magnitude_of p).fine _ h)).1

pub unit_good : (p : Point) → Fine (unit_of p) → Good p
unfolding unit_of
unit_good p h = direction_good p (and_left (direction_of p).fine _ h)

-- ---- a vector's dot with itself is never negative
pub dot-sign : (p : Point) → negative (dot_of p p).val ≡ false
unfolding dot_of
dot-sign p = add-sign _ _ (square_sign p.x) (square_sign p.y)
