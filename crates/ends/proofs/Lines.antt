-- A part of two marks is a line, and no distance is measured: that the checker's distances there are finite is a fact about the ranges, not about a run.
use mathlib.Core.Path.{◌≡◌, refl, sym, ap, ◌∙◌, subst}
use mathlib.Core.Bool.{true, false}
use mathlib.Core.List.{List, [], ◌∷◌}
use Prim.Native.Nat.{ℕ, suc, ◌*◌, ◌^◌, ◌≤◌, ◌<◌}
use native.Mathlib.Omega.{arith}
use borrow.Author.Count.{below_none, below_more}
use lib.Dec.{lit≤}
use lib.ListN.{get_or}
use lib.Ieee.{Float, nan, inf, fin, up, down, binary64, mul, le, of_bits}
use Rattle.plane.specs.declared.Point.{Point}
use Rattle.plane.specs.declared.Curve.{Curve}
use Rattle.float.proofs.Strict.{Fin}
use Rattle.float.specs.Number.{finite, abs, f0, f1, f3}
use Rattle.float.proofs.Truth.{never}
use Rattle.float.proofs.Ranks.{Le, says}
use Rattle.root.specs.Root.{sqrt}
use Rattle.plane.specs.Plane.{plus, minus, times, dot_of}
use Rattle.plane.specs.Range.{million, up_to, coordinate}
use Rattle.plane.proofs.Ranges.{coordinate-size}
use Rattle.plane.proofs.Fine.{Good}
use Rattle.cubic.specs.Basis.{basis, point_at}
use Rattle.marks.specs.Marks.{mark_at}
use Rattle.marks.specs.Line.{f033, f066, line_of}
use Rattle.float.specs.Folds.{upto}
use Rattle.stages.specs.Worst.{error_of, larger, worst_at, no_worst}
use Rattle.stages.specs.declared.worst.Worst.{Worst}
use Rattle.squares.proofs.Controls.{GoodCurve}
use Rattle.numbers.specs.Words.{zer, InUnit}
use Rattle.faults.specs.Tests.{distance_at}
use Rattle.ends.specs.Ends.{FitsP, Near, Params, worst_of, rooted}
use Rattle.numbers.proofs.Zeros.{f0_is, f1_is}
use Rattle.ends.proofs.Basis.{part, om, error_start, error_end}
use Rattle.ends.proofs.Worst.{root-zero, larger_none}
use Rattle.numbers.proofs.Order.{zero_in, one_in}
use Rattle.numbers.proofs.Bounds.{W, w_fin, w_up, mul_w, add_w, sub_w}

abbrev pub WP : ℕ → Point → Type 0
WP i p = W i p.x × W i p.y

pub wp_up : (i j : ℕ) (p : Point) → i ≤ j → WP i p → WP j p
wp_up i j p l h = (w_up i j p.x l h.0, w_up i j p.y l h.1)

f1_w : W 0 f1
unfolding W of_bits
f1_w = lit≤ tt

f3_w : W 2 f3
unfolding W of_bits
f3_w = lit≤ tt

f033_w : W 0 f033
unfolding W of_bits
f033_w = lit≤ tt

f066_w : W 0 f066
unfolding W of_bits
f066_w = lit≤ tt

-- ---- a curve with coordinates up to 2 ^ 22, at a t up to 1 in size
part_w : (t w1 w2 w3 w4 : Float) → W 0 t → W 22 w1 → W 22 w2 → W 22 w3 → W 22 w4 → W 29 (part t w1 w2 w3 w4)
part_w t w1 w2 w3 w4 h h1 h2 h3 h4 =
    let o : W 1 (om t) = sub_w binary64 0 f1 t (lit≤ tt) f1_w h in
    let o2 : W 2 (mul binary64 (om t) (om t)) = mul_w binary64 1 1 _ _ (lit≤ tt) o o in
    let o3 : W 3 (mul binary64 (mul binary64 (om t) (om t)) (om t)) = mul_w binary64 2 1 _ _ (lit≤ tt) o2 o in
    let t2 : W 0 (mul binary64 t t) = mul_w binary64 0 0 t t (lit≤ tt) h h in
    let t3 : W 0 (mul binary64 (mul binary64 t t) t) = mul_w binary64 0 0 _ t (lit≤ tt) t2 h in
    let a : W 25 (mul binary64 w1 (mul binary64 (mul binary64 (om t) (om t)) (om t))) = mul_w binary64 22 3 w1 _ (lit≤ tt) h1 o3 in
    let b1 : W 24 (mul binary64 w2 f3) = mul_w binary64 22 2 w2 f3 (lit≤ tt) h2 f3_w in
    let b2 : W 26 (mul binary64 (mul binary64 w2 f3) (mul binary64 (om t) (om t))) = mul_w binary64 24 2 _ _ (lit≤ tt) b1 o2 in
    let b : W 26 (mul binary64 (mul binary64 (mul binary64 w2 f3) (mul binary64 (om t) (om t))) t) = mul_w binary64 26 0 _ t (lit≤ tt) b2 h in
    let c1 : W 24 (mul binary64 w3 f3) = mul_w binary64 22 2 w3 f3 (lit≤ tt) h3 f3_w in
    let c2 : W 25 (mul binary64 (mul binary64 w3 f3) (om t)) = mul_w binary64 24 1 _ _ (lit≤ tt) c1 o in
    let c : W 25 (mul binary64 (mul binary64 (mul binary64 w3 f3) (om t)) (mul binary64 t t)) = mul_w binary64 25 0 _ _ (lit≤ tt) c2 t2 in
    let d : W 22 (mul binary64 w4 (mul binary64 (mul binary64 t t) t)) = mul_w binary64 22 0 w4 _ (lit≤ tt) h4 t3 in
    add_w binary64 28 _ _ (lit≤ tt)
    (add_w binary64 27 _ _ (lit≤ tt) (add_w binary64 26 _ _ (lit≤ tt) (w_up 25 26 _ (lit≤ tt) a) b) (w_up 25 27 _ (lit≤ tt) c))
    (w_up 22 28 _ (lit≤ tt) d)

abbrev pub WC : Curve → Type 0
WC c = WP 22 c.start × WP 22 c.cp1 × WP 22 c.cp2 × WP 22 c.end

point_w : (c : Curve) (t : Float) → WC c → W 0 t → WP 29 (point_at c t).val
unfolding point_at basis plus times
point_w c t h k = (
  part_w t c.start.x c.cp1.x c.cp2.x c.end.x k h.0.0 h.1.0 h.2.0 h.3.0,
  part_w t c.start.y c.cp1.y c.cp2.y c.end.y k h.0.1 h.1.1 h.2.1 h.3.1,
)

minus_w : (i : ℕ) (p q : Point) → suc i ≤ 1023 → WP i p → WP i q → WP (suc i) (minus p q).val
unfolding minus
minus_w i p q l h k = (sub_w binary64 i _ _ l h.0 k.0, sub_w binary64 i _ _ l h.1 k.1)

plus_w : (i : ℕ) (p q : Point) → suc i ≤ 1023 → WP i p → WP i q → WP (suc i) (plus p q).val
unfolding plus
plus_w i p q l h k = (add_w binary64 i _ _ l h.0 k.0, add_w binary64 i _ _ l h.1 k.1)

dot_w : (p : Point) → WP 30 p → W 61 (dot_of p p).val
unfolding dot_of
dot_w p h = add_w binary64 60 _ _ (lit≤ tt) (mul_w binary64 30 30 _ _ (lit≤ tt) h.0 h.0) (mul_w binary64 30 30 _ _ (lit≤ tt) h.1 h.1)

-- the distance is finite
pub error_w : (m : Point) (c : Curve) (t : Float) → WP 20 m → WC c → W 0 t → Fin (error_of m c t).val
unfolding error_of
error_w m c t h k l = w_fin 61 _ (dot_w _ (minus_w 29 m _ (lit≤ tt) (wp_up 20 29 m (lit≤ tt) h) (point_w c t k l)))

-- ---- the line
line_part : (a d : Point) (k : Float) → W 0 k → WP 20 a → WP 21 d → WP 22 (plus a (times d k).val).val
unfolding times
line_part a d k w h g = plus_w 21 a _ (lit≤ tt) (wp_up 20 21 a (lit≤ tt) h) (mul_w binary64 21 0 _ _ (lit≤ tt) g.0 w, mul_w binary64 21 0 _ _ (lit≤ tt) g.1 w)

pub line_w : (a b : Point) → WP 20 a → WP 20 b → WC (line_of a b).val
unfolding line_of
line_w a b h k =
    let d = minus_w 20 b a (lit≤ tt) k h in
    (wp_up 20 22 a (lit≤ tt) h, line_part a _ f033 f033_w h d, line_part a _ f066 f066_w h d, wp_up 20 22 b (lit≤ tt) k)

good : (i : ℕ) (p : Point) → WP i p → Good p
good i p h = (w_fin i p.x h.0, w_fin i p.y h.1)

-- ---- two marks in range pass under their line, at the parameters 0 and 1, for any tolerance that is not below zero
module _ (ms : List Float) (tol : Float) (t : Le f0 tol) (w0 : WP 20 (mark_at ms 0)) (w1 : WP 20 (mark_at ms 1)) (k0 : FitsP (mark_at ms 0)) (k1 : FitsP (mark_at ms 1)) where
  abbrev c : Curve
  c = (line_of (mark_at ms 0) (mark_at ms 1)).val

  near-zero : (x : Float) → x ≡ zer false → (finite (sqrt binary64 x) ≡ true) × Le (sqrt binary64 x) tol
  near-zero x e = subst (λ (v : Float). (finite (sqrt binary64 v) ≡ true) × Le (sqrt binary64 v) tol) (sym e) (fin-zero, subst (λ (v : Float). Le v tol) (sym root-zero ∙ ap (sqrt binary64) f0_is) t)
    where
      fin-zero : finite (sqrt binary64 (zer false)) ≡ true
      fin-zero = unfold sqrt finite in refl

  f0_w : W 0 f0
  unfolding W of_bits
  f0_w = lit≤ tt

  start_is : mark_at ms 0 ≡ c.start
  unfolding line_of
  start_is = refl

  end_is : mark_at ms 1 ≡ c.end
  unfolding line_of
  end_is = refl

  off0 : (error_of (mark_at ms 0) c f0).val ≡ zer false
  off0 = error_start (mark_at ms 0) c f0 k0 (error_w (mark_at ms 0) c f0 w0 (line_w (mark_at ms 0) (mark_at ms 1) w0 w1) f0_w) start_is (false, f0_is)

  off1 : (error_of (mark_at ms 1) c f1).val ≡ zer false
  off1 = error_end (mark_at ms 1) c f1 k1 (error_w (mark_at ms 1) c f1 w1 (line_w (mark_at ms 0) (mark_at ms 1) w0 w1) f1_w) end_is f1_is

  abbrev ends : List Float
  ends = f0 ∷ f1 ∷ []

  Passes : ℕ → Type 0
  Passes k = Near tol (mark_at ms k) c (get_or ends k nan)

  pub line-near : (k : ℕ) → k < 2 → Near tol (mark_at ms k) c (get_or ends k nan)
  unfolding Passes distance_at
  line-near = below_more Passes 1 (below_more Passes 0 (below_none Passes) (near-zero _ off0)) (near-zero _ off1)

  -- neither mark is off: the worst of the first n is none
  none_off : (k : ℕ) (e : Float) → e ≡ zer false → larger no_worst e k ≡ no_worst
  none_off k e z = larger_none no_worst e k (unfold of_bits in tt) z

  one_off : worst_of ms c ends 1 ≡ no_worst
  unfolding upto worst_at
  one_off = none_off 0 _ off0

  two_off : worst_of ms c ends 2 ≡ no_worst
  unfolding upto worst_at
  two_off = ap (λ (w : Worst). larger w (error_of (mark_at ms 1) c f1).val 1) one_off ∙ none_off 1 _ off1

  root_none : no_worst ≡ rooted no_worst
  root_none = ap (λ (x : Float). record { err = x; at = 0 }) (sym root-zero)

  pub line-far : no_worst ≡ rooted (worst_of ms c ends 2)
  line-far = root_none ∙ ap rooted (sym two_off)

  pub line-far-less : no_worst ≡ rooted (worst_of ms c ends 1)
  line-far-less = root_none ∙ ap rooted (sym one_off)

  pub line_good : GoodCurve c
  line_good = let w = line_w (mark_at ms 0) (mark_at ms 1) w0 w1 in (good 22 _ w.0, good 22 _ w.1, good 22 _ w.2, good 22 _ w.3)

-- its parameters
Unit₂ : ℕ → Type 0
Unit₂ k = InUnit (get_or (f0 ∷ f1 ∷ []) k nan)

pub line-params : Params (f0 ∷ f1 ∷ [])
unfolding Unit₂
line-params = record { some = omega arith; unit = below_more Unit₂ 1 (below_more Unit₂ 0 (below_none Unit₂) zero_in) one_in; first = (false, f0_is); last = f1_is }

-- ---- a coordinate is at most 2 ^ 20 in size
size_w : (x : Float) → up_to million x ≡ true → W 20 x
unfolding finite abs le of_bits W
size_w nan h = never h
size_w (inf s) h = never h
size_w (fin s m e) h = few (m * up e) (down e) (says false (m * up e * 1) false (15625 * 2 ^ 6 * down e) h)
  where
    few : (a d : ℕ) → a * 1 ≤ 1000000 * d → a ≤ 1048576 * d
    few a d h = omega arith

pub coordinate_w : (x : Float) → coordinate x ≡ true → W 20 x
coordinate_w x h = size_w x (coordinate-size x h)
