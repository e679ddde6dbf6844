-- The line and the tangents: a run was fine exactly where the numbers that the code tests are finite. Assumes nothing.
use mathlib.Core.Path.{◌≡◌, refl, sym, ap, ◌∙◌}
use mathlib.Core.Bool.{Bool, true, false, ◌&&◌}
use mathlib.Core.List.{List}
use Prim.Native.Nat.{◌-◌}
use Rattle.std.proofs.Common.{Option, Some, None}
use lib.Ieee.{Float}
use Rattle.float.specs.Number.{finite}
use Rattle.float.specs.Calc.{Calc, give, ◌>>=◌}
use Rattle.float.specs.Answer.{Answer, ok, refused, unless, outcome}
use Rattle.float.specs.Answer.{◌>>=◌ as chain}
use Rattle.float.proofs.Truth.{and_left, and_right, and-false, and_implied, both, same, is_so}
use Rattle.float.proofs.Strict.{Fin}
use Rattle.float.proofs.Answers.{Fine, outcome_ok, outcome_no, outcome-then}
use Rattle.plane.specs.Plane.{plus, minus, magnitude_of, unit_of, direction_by, direction_of, or_zero}
use Rattle.plane.specs.Range.{point_finite}
use Rattle.plane.specs.declared.Point.{Point}
use Rattle.plane.specs.declared.Curve.{Curve}
use Rattle.plane.proofs.Fine.{Good, plus-fine, minus-fine, times-fine, good_point, point_good, direction_same, none_finite, unit_good, direction_good}
use Rattle.marks.specs.Marks.{count, mark_at}
use Rattle.marks.specs.Line.{line_of}
use Rattle.marks.specs.Tangent.{start_tangent, end_tangent, between, tangent_between, direction_between, along}

-- ---- the line
module _ (p1 p2 : Point) where
  line-fine : Good (line_of p1 p2).val.cp1 → Good (line_of p1 p2).val.cp2 → Fine (line_of p1 p2)
  unfolding line_of
  line-fine g h =
      let a = plus-fine _ _ g in
      let b = plus-fine _ _ h in
      let s = times-fine _ _ a.2 in
      let t = times-fine _ _ b.2 in
      let d = minus-fine _ _ s.1 in
      cc

  line_good : Fine (line_of p1 p2) → Good (line_of p1 p2).val.cp1 × Good (line_of p1 p2).val.cp2
  unfolding line_of plus
  line_good h = (
    (is_so (line_of p1 p2).fine (finite (line_of p1 p2).val.cp1.x) h (λ e. simp (e, and-false)), is_so (line_of p1 p2).fine (finite (line_of p1 p2).val.cp1.y) h (λ e. simp (e, and-false))),
    (is_so (line_of p1 p2).fine (finite (line_of p1 p2).val.cp2.x) h (λ e. simp (e, and-false)), is_so (line_of p1 p2).fine (finite (line_of p1 p2).val.cp2.y) h (λ e. simp (e, and-false))),
  )

  line_same : (line_of p1 p2).fine ≡ point_finite (line_of p1 p2).val.cp1 && point_finite (line_of p1 p2).val.cp2
  line_same =
      let c = (line_of p1 p2).val in
      same _ _
      (λ h. both _ _ (good_point c.cp1 (line_good h).0) (good_point c.cp2 (line_good h).1))
      (λ h. line-fine (point_good c.cp1 (and_left _ _ h)) (point_good c.cp2 (and_right (point_finite c.cp1) _ h)))

  -- what the code makes of the two controls
  pub line_made : (c : Curve) → c ≡ (line_of p1 p2).val → point_finite c.cp1 && point_finite c.cp2 ≡ true → ok c ≡ outcome (line_of p1 p2)
  line_made c e h = ap ok e ∙ sym (outcome_ok (line_of p1 p2) (line_same ∙ rw e at h))

  pub line_lost : (c : Curve) → c ≡ (line_of p1 p2).val → point_finite c.cp1 && point_finite c.cp2 ≡ false → refused 6 ≡ outcome (line_of p1 p2)
  line_lost c e h = sym (outcome_no (line_of p1 p2) (line_same ∙ rw e at h))

-- ---- directions
module _ (v : Point) (m : Float) (is : m ≡ (magnitude_of v).val) where
  pub far_off : finite m ≡ false → refused 6 ≡ outcome (direction_of v)
  far_off h = sym (outcome_no (direction_of v) (direction_same v ∙ ap (λ (b : Bool). b && point_finite (or_zero (direction_by v (magnitude_of v).val).val)) (rw is at h)))

  module _ (near : Fin m) (d : Option Point) (by : d ≡ (direction_by v m).val) where
    whole : (direction_of v).fine ≡ point_finite (or_zero d)
    whole =
        direction_same v
        ∙ ap (λ (b : Bool). b && point_finite (or_zero (direction_by v (magnitude_of v).val).val)) (rw is at near)
        ∙ ap (λ (x : Option Point). point_finite (or_zero x)) (ap (λ (x : Float). (direction_by v x).val) (sym is) ∙ sym by)

    found : point_finite (or_zero d) ≡ true → ok d ≡ outcome (direction_of v)
    unfolding direction_of
    found h = ap ok (by ∙ ap (λ (x : Float). (direction_by v x).val) is) ∙ sym (outcome_ok (direction_of v) (whole ∙ h))

    pub nowhere : d ≡ None → ok None ≡ outcome (direction_of v)
    nowhere e = ap ok (sym e) ∙ found (ap (λ (x : Option Point). point_finite (or_zero x)) e ∙ none_finite)

    pub toward_on : (u : Point) → d ≡ Some u → point_finite u ≡ true → ok (Some u) ≡ outcome (direction_of v)
    unfolding or_zero
    toward_on u e h = ap ok (sym e) ∙ found (ap (λ (x : Option Point). point_finite (or_zero x)) e ∙ h)

    pub toward_off : (u : Point) → d ≡ Some u → point_finite u ≡ false → refused 6 ≡ outcome (direction_of v)
    unfolding or_zero
    toward_off u e h = sym (outcome_no (direction_of v) (whole ∙ ap (λ (x : Option Point). point_finite (or_zero x)) e ∙ h))

-- ---- tangents: unit vectors, zero where there is no direction
unit_is : (v : Point) → chain (outcome (direction_of v)) (λ (d : Option Point). ok (or_zero d)) ≡ outcome (unit_of v)
unfolding outcome unit_of
unit_is v = sym (outcome-then (direction_of v) (λ (d : Option Point). give (or_zero d)))

pub unit_by : (v : Point) {a : Answer (Option Point)} {w : Answer Point} → w ≡ chain a (λ (d : Option Point). ok (or_zero d)) → a ≡ outcome (direction_of v) → w ≡ outcome (unit_of v)
unit_by v h e = h ∙ ap (λ (x : Answer (Option Point)). chain x (λ (d : Option Point). ok (or_zero d))) e ∙ unit_is v

-- what a vector's unit vector or direction comes to tells whether the vector was worked out with no refusal
through : {A : Type 0} (m : Calc Point) (f : Point → Calc A) → (Good m.val → Fine m) → ((v : Point) → Fine (f v) → Good v) → outcome (◌>>=◌ m f) ≡ outcome (f m.val)
unfolding outcome
through m f back good = ap (λ (b : Bool). unless 6 b (ok (f m.val).val)) (and_implied m.fine (f m.val).fine (λ h. back (good m.val h)))

pub along_is : (p q : Point) → outcome (along p q) ≡ outcome (unit_of (minus q p).val)
unfolding along
along_is p q = through (minus q p) unit_of (λ g. (minus-fine q p g).0) unit_good

pub start_is : (ms : List Float) → along (mark_at ms 0) (mark_at ms 1) ≡ start_tangent ms
unfolding along start_tangent
start_is ms = refl

pub end_is : (ms : List Float) → along (mark_at ms (count ms - 1)) (mark_at ms (count ms - 2)) ≡ end_tangent ms
unfolding along end_tangent
end_is ms = refl

module _ (p1 p2 p3 : Point) where
  between-fine : Good (between p1 p2 p3).val → Fine (between p1 p2 p3)
  unfolding between
  between-fine g =
      let t = times-fine _ _ g in
      let s = plus-fine _ _ t.1 in
      let a = minus-fine _ _ s.1 in
      let b = minus-fine _ _ s.2 in
      cc

  pub direction_is : outcome (direction_between p1 p2 p3) ≡ outcome (direction_of (between p1 p2 p3).val)
  unfolding direction_between
  direction_is = through (between p1 p2 p3) direction_of between-fine direction_good

  pub tangent_is : outcome (tangent_between p1 p2 p3) ≡ outcome (unit_of (between p1 p2 p3).val)
  unfolding tangent_between
  tangent_is = through (between p1 p2 p3) unit_of between-fine unit_good
