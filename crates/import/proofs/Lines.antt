-- The line of two points of a path is a run that is fine: no number is above 2 ^ 30 in size. Assumes nothing.
use Prim.Native.Nat.{ℕ}
use mathlib.Core.Path.{◌≡◌, refl, sym, ◌∙◌}
use mathlib.Core.Bool.{true, ◌&&◌}
use native.Mathlib.Omega.{arith}
use lib.Dec.{lit≤}
use lib.Ieee.{Float, binary64, of_bits}
use Rattle.std.proofs.Common.{Result}
use Rattle.std.specs.Result.{result_unwrap_or}
use Rattle.float.specs.Answer.{ok, outcome}
use Rattle.float.specs.Refusal.{answer}
use Rattle.float.specs.declared.refusal.Refusal.{Refusal}
use Rattle.float.proofs.Refusals.{accepted}
use Rattle.float.proofs.Truth.{both}
use Rattle.plane.specs.declared.Point.{Point}
use Rattle.plane.specs.declared.Curve.{Curve}
use Rattle.plane.specs.Plane.{plus, minus, times}
use Rattle.plane.specs.Range.{point_finite}
use Rattle.plane.proofs.Fine.{good_point}
use Rattle.marks.specs.Line.{f033, f066, line_of}
use Rattle.marks.proofs.Fine.{line_made}
use Rattle.numbers.proofs.Bounds.{W, w_fin, w_up, round_w, mul_w, add_w, sub_w}
use Rattle.path.specs.Decimals.{nearest_to}
use Rattle.path.specs.Curves.{point_at}
use Rattle.path.specs.declared.Decimal.{Decimal}
use Rattle.numerals.specs.Numerals.{capped}
use Rattle.import.specs.Drawn.{capped_place, Marked}

abbrev WP : ℕ → Point → Type 0
WP i p = W i p.x × W i p.y

f033_w : W 0 f033
unfolding W of_bits
f033_w = lit≤ tt

f066_w : W 0 f066
unfolding W of_bits
f066_w = lit≤ tt

nearest_w : (d : Decimal) → W 30 (nearest_to (capped d))
unfolding nearest_to capped
nearest_w d = round_w binary64 _ _ 1000 30 (omega arith) (lit≤ tt) (omega arith)

marked_w : (p : Point) → Marked p → WP 30 p
unfolding point_at capped_place
marked_w p h = rw h.is (nearest_w h.place.x, nearest_w h.place.y)

control_w : (a d : Point) (k : Float) → W 0 k → WP 30 a → WP 31 d → WP 32 (plus a (times d k).val).val
unfolding plus times
control_w a d k w h g = (
  add_w binary64 31 _ _ (lit≤ tt) (w_up 30 31 _ (lit≤ tt) h.0) (mul_w binary64 31 0 _ _ (lit≤ tt) g.0 w),
  add_w binary64 31 _ _ (lit≤ tt) (w_up 30 31 _ (lit≤ tt) h.1) (mul_w binary64 31 0 _ _ (lit≤ tt) g.1 w),
)

minus_w : (p q : Point) → WP 30 p → WP 30 q → WP 31 (minus p q).val
unfolding minus
minus_w p q h k = (sub_w binary64 30 _ _ (lit≤ tt) h.0 k.0, sub_w binary64 30 _ _ (lit≤ tt) h.1 k.1)

finite_w : (i : ℕ) (p : Point) → WP i p → point_finite p ≡ true
finite_w i p h = good_point p (w_fin i p.x h.0, w_fin i p.y h.1)

controls : (p q : Point) → WP 30 p → WP 30 q → point_finite (line_of p q).val.cp1 && point_finite (line_of p q).val.cp2 ≡ true
unfolding line_of
controls p q h k =
    let d = minus_w q p k h in
    both _ _ (finite_w 32 _ (control_w p _ f033 f033_w h d)) (finite_w 32 _ (control_w p _ f066 f066_w h d))

module _ (p q : Point) (h : Marked p) (k : Marked q) where
  line_ok : ok (line_of p q).val ≡ outcome (line_of p q)
  line_ok = line_made p q (line_of p q).val refl (controls p q (marked_w p h) (marked_w q k))

  -- the fit of the line answers with it
  pub line_is : (r : Result Curve Refusal) (d : Curve) → answer r ≡ outcome (line_of p q) → result_unwrap_or r d ≡ (line_of p q).val
  line_is r d e = rw (accepted r _ (e ∙ sym line_ok)) refl
