-- `basis` at the ends: at a zero of either sign it gives the start, and at 1 the end, but for the sign of a zero. So the squared distance of a mark there is +0.
-- Of a run it is enough to know that its value is finite: then each operation was (calc's Strict and Fine).
use mathlib.Core.Path.{◌≡◌, refl, sym, ap, ◌∙◌, subst}
use mathlib.Core.Logic.{inl}
use mathlib.Core.Bool.{false}
use lib.Dec.{T}
use lib.Ieee.{Float, binary64, fits, add, sub, mul}
use Rattle.float.specs.Number.{finite, f1, f3}
use Rattle.plane.specs.Plane.{plus, minus, times, dot_of}
use Rattle.cubic.specs.Basis.{basis, point_at}
use Rattle.plane.specs.declared.Point.{Point}
use Rattle.plane.specs.declared.Curve.{Curve}
use Rattle.float.proofs.Strict.{Fin, add-finite, mul-finite}
use Rattle.plane.proofs.Fine.{Good, dot-fine, minus-fine}
use Rattle.stages.specs.Worst.{error_of}
use Rattle.numbers.specs.Words.{zer, one, Zero, Alike}
use Rattle.ends.specs.Ends.{FitsP}
use Rattle.numbers.proofs.Zeros.{f1_is, one_fits, mul-zero_r, mul-zero_l, mul_one_r, square_zero, add-zeros, add_zero_l, sub_same, alike_add_r, alike_sub-zero, alike_zero-sub, one_less-zero}

-- ---- one coordinate
abbrev pub om : Float → Float
om t = sub binary64 f1 t

-- the first three terms, and all four
abbrev pub three : Float → Float → Float → Float → Float
three t w1 w2 w3 =
    add binary64
    (add binary64 (mul binary64 w1 (mul binary64 (mul binary64 (om t) (om t)) (om t))) (mul binary64 (mul binary64 (mul binary64 w2 f3) (mul binary64 (om t) (om t))) t))
    (mul binary64 (mul binary64 (mul binary64 w3 f3) (om t)) (mul binary64 t t))

abbrev pub part : Float → Float → Float → Float → Float → Float
part t w1 w2 w3 w4 = add binary64 (three t w1 w2 w3) (mul binary64 w4 (mul binary64 (mul binary64 t t) t))

one_finite : Fin one
unfolding finite
one_finite = refl

ones : (x : Float) → x ≡ one → mul binary64 (mul binary64 x x) x ≡ one
ones x e = ap (λ (v : Float). mul binary64 (mul binary64 v v) v) e ∙ ap (λ (v : Float). mul binary64 v one) one_one ∙ one_one
  where
    one_one : mul binary64 one one ≡ one
    one_one = mul_one_r binary64 one (one_fits binary64) one_finite

part_start : (t w1 w2 w3 w4 : Float) → T (fits binary64 w1) → Zero t → Fin (part t w1 w2 w3 w4) → Alike (part t w1 w2 w3 w4) w1
part_start t w1 w2 w3 w4 k z h =
    let s3 = add-finite binary64 _ _ h in
    let s2 = add-finite binary64 _ _ s3.0 in
    let s1 = add-finite binary64 _ _ s2.0 in
    let a = mul-finite binary64 _ _ s1.0 in
    let b = mul-finite binary64 _ _ s1.1 in
    let c = mul-finite binary64 _ _ s2.1 in
    let d = mul-finite binary64 _ _ s3.1 in
    let o : om t ≡ one = ap (λ (v : Float). sub binary64 v t) f1_is ∙ one_less-zero binary64 t z in
    let A : mul binary64 w1 (mul binary64 (mul binary64 (om t) (om t)) (om t)) ≡ w1 = ap (mul binary64 w1) (ones (om t) o) ∙ mul_one_r binary64 w1 k a.0 in
    let t2 : Zero (mul binary64 t t) = mul-zero_r binary64 t t b.1 z in
    let t3 : Zero (mul binary64 (mul binary64 t t) t) = mul-zero_r binary64 (mul binary64 t t) t c.1 z in
    alike_add_r binary64 _ w1 _ k a.0
    (alike_add_r binary64 _ w1 _ k a.0
    (alike_add_r binary64 _ w1 _ k a.0 (inl A) (mul-zero_r binary64 _ t b.0 z))
    (mul-zero_r binary64 _ _ c.0 t2))
    (mul-zero_r binary64 _ _ d.0 t3)

part_end : (t w1 w2 w3 w4 : Float) → T (fits binary64 w4) → t ≡ one → Fin (part t w1 w2 w3 w4) → Alike (part t w1 w2 w3 w4) w4
part_end t w1 w2 w3 w4 k z h =
    let s3 = add-finite binary64 _ _ h in
    let s2 = add-finite binary64 _ _ s3.0 in
    let s1 = add-finite binary64 _ _ s2.0 in
    let a = mul-finite binary64 _ _ s1.0 in
    let b = mul-finite binary64 _ _ s1.1 in
    let c = mul-finite binary64 _ _ s2.1 in
    let d = mul-finite binary64 _ _ s3.1 in
    let b' = mul-finite binary64 _ _ b.0 in
    let c' = mul-finite binary64 _ _ c.0 in
    let o : Zero (om t) = (false, ap (λ (v : Float). sub binary64 v t) f1_is ∙ ap (sub binary64 one) z ∙ sub_same binary64 one one_finite) in
    let o2 : Zero (mul binary64 (om t) (om t)) = mul-zero_r binary64 (om t) (om t) c'.1 o in
    let o3 : Zero (mul binary64 (mul binary64 (om t) (om t)) (om t)) = mul-zero_r binary64 _ (om t) b'.1 o in
    let D : mul binary64 w4 (mul binary64 (mul binary64 t t) t) ≡ w4 = ap (mul binary64 w4) (ones t z) ∙ mul_one_r binary64 w4 k d.0 in
    let S : Zero (three t w1 w2 w3) = add-zeros binary64 _ _
    (add-zeros binary64 _ _ (mul-zero_r binary64 w1 _ a.0 o3) (mul-zero_l binary64 _ t (mul-zero_r binary64 _ _ b'.0 o2) b.1))
    (mul-zero_l binary64 _ _ (mul-zero_r binary64 _ _ c'.0 o) c.1) in
    subst (λ (v : Float). Alike (add binary64 (three t w1 w2 w3) v) w4) (sym D) (add_zero_l binary64 (three t w1 w2 w3) w4 S k d.0)

-- ---- points
abbrev pub AlikeP : Point → Point → Type 0
AlikeP p q = Alike p.x q.x × Alike p.y q.y

abbrev pub ZeroP : Point → Type 0
ZeroP p = Zero p.x × Zero p.y

pub point_start : (c : Curve) (t : Float) → FitsP c.start → Zero t → Good (point_at c t).val → AlikeP (point_at c t).val c.start
unfolding point_at basis plus times
point_start c t k z g = (part_start t _ _ _ _ k.0 z g.0, part_start t _ _ _ _ k.1 z g.1)

pub point_end : (c : Curve) (t : Float) → FitsP c.end → t ≡ one → Good (point_at c t).val → AlikeP (point_at c t).val c.end
unfolding point_at basis plus times
point_end c t k z g = (part_end t _ _ _ _ k.0 z g.0, part_end t _ _ _ _ k.1 z g.1)

-- the mark m less a point that is alike, and the other way round
pub mark-less : (m q : Point) → Good m → AlikeP q m → ZeroP (minus m q).val
unfolding minus
mark-less m q g a = (alike_sub-zero binary64 _ _ g.0 a.0, alike_sub-zero binary64 _ _ g.1 a.1)

pub less-mark : (m q : Point) → Good m → AlikeP q m → ZeroP (minus q m).val
unfolding minus
less-mark m q g a = (alike_zero-sub binary64 _ _ g.0 a.0, alike_zero-sub binary64 _ _ g.1 a.1)

pub dot-zero : (p q : Point) → ZeroP p → Good q → Zero (dot_of p q).val
unfolding dot_of
dot-zero p q z g = add-zeros binary64 _ _ (mul-zero_l binary64 _ _ z.0 g.0) (mul-zero_l binary64 _ _ z.1 g.1)

plus-zero : add binary64 (zer false) (zer false) ≡ zer false
unfolding add
plus-zero = refl

pub dot_self_zero : (p : Point) → ZeroP p → (dot_of p p).val ≡ zer false
unfolding dot_of
dot_self_zero p z = ap (λ (v : Float). add binary64 v (mul binary64 p.y p.y)) (square_zero binary64 _ z.0) ∙ ap (add binary64 (zer false)) (square_zero binary64 _ z.1) ∙ plus-zero

-- ---- the squared distance of a mark at an end
module _ (m : Point) (c : Curve) (t : Float) (k : FitsP m) (g : Fin (error_of m c t).val) where
  pub error_start : m ≡ c.start → Zero t → (error_of m c t).val ≡ zer false
  unfolding error_of
  error_start e z =
      let d = dot-fine _ _ g in
      let o = minus-fine _ _ d.1 in
      dot_self_zero _ (mark-less m _ o.1 (subst (λ (p : Point). AlikeP (point_at c t).val p) (sym e) (point_start c t (subst FitsP e k) z o.2)))

  pub error_end : m ≡ c.end → t ≡ one → (error_of m c t).val ≡ zer false
  unfolding error_of
  error_end e z =
      let d = dot-fine _ _ g in
      let o = minus-fine _ _ d.1 in
      dot_self_zero _ (mark-less m _ o.1 (subst (λ (p : Point). AlikeP (point_at c t).val p) (sym e) (point_end c t (subst FitsP e k) z o.2)))
