-- What is read at a place of a text, piece by piece. Assumes nothing.
use Prim.Native.Nat.{ℕ, ◌^◌, ◌≤◌, ◌<◌}
use mathlib.Core.Path.{◌≡◌, refl, sym, ap, ◌∙◌}
use mathlib.Core.Bool.{Bool, true, false, ◌&&◌}
use mathlib.Core.List.{List}
use native.Mathlib.Omega.{arith}
use borrow.Author.Tests.{le-leb, lt-leb, leb-true, leb-false}
use lib.Dec.{leb}
use lib.Ieee.{Float}
use Rattle.float.specs.Answer.{Answer, ok, refused}
use Rattle.plane.specs.declared.Point.{Point}
use Rattle.plane.specs.declared.Curve.{Curve}
use Rattle.marks.specs.Line.{line_of}
use Rattle.path.specs.Decimals.{most, small, nearest_to}
use Rattle.path.specs.Range.{no_path}
use Rattle.path.specs.Numbers.{Taken, taken, number}
use Rattle.path.specs.Grammar.{Place, apart, pair, arguments}
use Rattle.path.specs.Curves.{place_small, segment_small, point_at, curve_from}
use Rattle.path.specs.declared.Decimal.{Decimal}
use Rattle.path.specs.declared.Letter.TheVariants as letters
use Rattle.numerals.specs.Numerals.{cap, capped, mapped}
use Rattle.import.specs.Drawn.{capped_place, capped_segment, Marked, Standing, standing, bent}

-- ---- answers that hold what was made of a value

pub record From {A B : Type 0} (f : A → B) (a : Answer (Taken A)) (b : B) (t : List ℕ) : Type 0 where
  pub value : A
  pub found : a ≡ ok (taken value t)
  pub is : b ≡ f value

pub from : {A B : Type 0} (f : A → B) (a : Answer (Taken A)) {b : B} {t : List ℕ} → ok (taken b t) ≡ mapped f a → From f a b t
from f (ok n) {b} {t} h =
    let e : taken b t ≡ taken (f n.value) n.rest = cc in
    record { value = n.value; found = ap (λ (m : Taken _). ok (taken n.value m.rest)) (sym e); is = ap (λ m. m.value) e }
from f (refused q) h = let n : ◌≡◌ {A = ℕ} 0 1 = cc in absurd (omega arith)

pub none : {A B : Type 0} (f : A → B) (a : Answer (Taken A)) → refused no_path ≡ mapped f a → a ≡ refused no_path
none f (ok n) h = let n : ◌≡◌ {A = ℕ} 0 1 = cc in absurd (omega arith)
none f (refused q) h = cc

-- ---- numbers

pub small-capped : (d : Decimal) → small (capped d) ≡ small d
unfolding small capped
small-capped d = go (leb d.thousandths most) refl
  where
    go : (b : Bool) → leb d.thousandths most ≡ b → leb (cap d.thousandths) most ≡ leb d.thousandths most
    go true e = let m : d.thousandths ≤ most = leb-true d.thousandths most e in le-leb (cap d.thousandths) most (omega arith) ∙ sym e
    go false e = let m : most < d.thousandths = leb-false d.thousandths most e in lt-leb (cap d.thousandths) most (omega arith) ∙ sym e

pub fits : {a : Answer (Taken Decimal)} {d : Decimal} {t : List ℕ} → From capped a d t → d.thousandths ≤ 2 ^ 53
unfolding capped
fits f = let e = ap (λ d. d.thousandths) f.is in omega arith

-- ---- a pair

module _ (s : List ℕ) where
  pub pair_first : number s ≡ refused no_path → refused no_path ≡ mapped standing (pair s)
  unfolding pair
  pair_first h = rw h refl

  module _ {x : Decimal} {t u : List ℕ} (f : From capped (number s) x t) (b : u ≡ apart t) where
    pub pair_second : number u ≡ refused no_path → refused no_path ≡ mapped standing (pair s)
    unfolding pair
    pair_second h = rw (f.found, ← b, h) refl

    pub pair_both : {y : Decimal} {v : List ℕ} {px py : Float} {sx sy : Bool} → From capped (number u) y v → px ≡ nearest_to x → py ≡ nearest_to y → sx ≡ small x → sy ≡ small y → ok (taken (record { point = record { x = px; y = py }; small = sx && sy }) v) ≡ mapped standing (pair s)
    unfolding pair standing point_at capped_place place_small
    pair_both g hx hy kx ky =
        let i = kx ∙ ap small f.is ∙ small-capped f.value in
        let j = ky ∙ ap small g.is ∙ small-capped g.value in
        let k = hx ∙ ap nearest_to f.is in
        let l = hy ∙ ap nearest_to g.is in
        rw (f.found, ← b, g.found, i, j, k, l) refl

pub marked : {a : Answer (Taken Place)} {s : Standing} {t : List ℕ} → From standing a s t → Marked s.point
unfolding standing
marked f = record { place = f.value; is = ap (λ s. s.point) f.is }

-- ---- segments

module _ (p : Point) (s : List ℕ) where
  pub line_none : pair s ≡ refused no_path → refused no_path ≡ mapped (bent p) (arguments letters.Line s)
  unfolding arguments
  line_none h = rw h refl

  pub line_some : {a : Standing} {t : List ℕ} {c : Curve} → From standing (pair s) a t → c ≡ (line_of p a.point).val → ok (taken (record { curve = c; small = a.small }) t) ≡ mapped (bent p) (arguments letters.Line s)
  unfolding arguments bent standing capped_segment curve_from segment_small
  line_some f e = rw (f.found, e, f.is) refl

  pub curve_first : pair s ≡ refused no_path → refused no_path ≡ mapped (bent p) (arguments letters.Curve s)
  unfolding arguments
  curve_first h = rw h refl

  module _ {a : Standing} {t u : List ℕ} (f : From standing (pair s) a t) (b : u ≡ apart t) where
    pub curve_second : pair u ≡ refused no_path → refused no_path ≡ mapped (bent p) (arguments letters.Curve s)
    unfolding arguments
    curve_second h = rw (f.found, ← b, h) refl

    module _ {d : Standing} {v w : List ℕ} (g : From standing (pair u) d v) (k : w ≡ apart v) where
      pub curve_third : pair w ≡ refused no_path → refused no_path ≡ mapped (bent p) (arguments letters.Curve s)
      unfolding arguments
      curve_third h = rw (f.found, ← b, g.found, ← k, h) refl

      pub curve_all : {e : Standing} {x : List ℕ} → From standing (pair w) e x → ok (taken (record { curve = record { start = p; cp1 = a.point; cp2 = d.point; end = e.point }; small = a.small && (d.small && e.small) }) x) ≡ mapped (bent p) (arguments letters.Curve s)
      unfolding arguments bent standing capped_segment curve_from segment_small
      curve_all h = rw (f.found, ← b, g.found, ← k, h.found, f.is, g.is, h.is) refl
