-- Points and curves that export writes are read back, step by step. Assumes nothing.
use Prim.Native.Nat.{ℕ}
use mathlib.Core.Path.{◌≡◌, refl, sym}
use mathlib.Core.Bool.{Bool, true, false, cond}
use mathlib.Core.List.{List, ◌∷◌, ◌++◌, append_assoc}
use lib.Dec.{eqb-suc-zero}
use lib.ListN.{length}
use Rattle.float.specs.Answer.{ok}
use Rattle.plane.specs.declared.Point.{Point}
use Rattle.plane.specs.declared.Curve.{Curve}
use Rattle.path.specs.Decimals.{written_of, decimal_text}
use Rattle.path.specs.Numbers.{taken, is_space, leading, past}
use Rattle.path.specs.Grammar.{Place, Segment, curve, apart, pair, arguments, drawn, closed, ended, drawn_by, step}
use Rattle.path.specs.Text.{number_text, point_text, curve_text, closing_text}
use Rattle.path.specs.declared.Decimal.{Decimal}
use Rattle.path.specs.declared.Letter.{Letter}
use Rattle.path.specs.declared.Letter.TheVariants as letter
use Rattle.thousandths.proofs.Back.{canonical}
use Rattle.path_trips.proofs.Digits.{none, more, past_all}
use Rattle.path_trips.proofs.Numbers.{Clear, blank, Start, start_back, number_back}

-- ---- a point

abbrev pub place_of : Point → Place
place_of p = record { x = written_of p.x; y = written_of p.y }

-- a point's text behind its blank
abbrev pub pair_text : Point → List ℕ
pair_text p = decimal_text (written_of p.x) ++ number_text p.y

pub point-text : (p : Point) (r : List ℕ) → point_text p ++ r ≡ 32 ∷ (pair_text p ++ r)
unfolding point_text number_text
point-text p r = refl

pub blank-past : (s : List ℕ) → Start s → past is_space (32 ∷ s) ≡ s
unfolding is_space
blank-past s h = past_all (more refl none) s h.space

apart-blank : (s : List ℕ) → Start s → apart (32 ∷ s) ≡ s
unfolding apart
apart-blank s h = rw (blank-past s h, h.comma)

pub start_pair : (p : Point) (r : List ℕ) → Start (pair_text p ++ r)
start_pair p r = rw append_assoc (start_back (written_of p.x) (number_text p.y ++ r))

pub pair-back : (p : Point) (r : List ℕ) → Clear r → pair (pair_text p ++ r) ≡ ok (taken (place_of p) r)
unfolding pair number_text
pair-back p r c =
    let x : Decimal = written_of p.x in
    let y : Decimal = written_of p.y in
    rw (append_assoc (decimal_text x) (32 ∷ decimal_text y) r, number_back x (32 ∷ (decimal_text y ++ r)) (sym (canonical p.x)) blank, apart-blank (decimal_text y ++ r) (start_back y r), number_back y r (sym (canonical p.y)) c)

-- ---- a curve

abbrev pub segment_of : Curve → Segment
segment_of c = curve (place_of c.cp1) (place_of c.cp2) (place_of c.end)

-- its numbers behind ` C `
abbrev numbers_text : Curve → List ℕ → List ℕ
numbers_text c r = pair_text c.cp1 ++ (32 ∷ (pair_text c.cp2 ++ (32 ∷ (pair_text c.end ++ r))))

curve-text : (c : Curve) (r : List ℕ) → curve_text c ++ r ≡ 32 ∷ 67 ∷ 32 ∷ numbers_text c r
unfolding curve_text
curve-text c r =
    let a = point_text c.cp1 in
    let b = point_text c.cp2 in
    let e = point_text c.end in
    rw (append_assoc a (b ++ e) r, append_assoc b e r, point-text c.cp1 (b ++ (e ++ r)), point-text c.cp2 (e ++ r), point-text c.end r)

arguments-back : (c : Curve) (r : List ℕ) → Clear r → arguments letter.Curve (numbers_text c r) ≡ ok (taken (segment_of c) r)
unfolding arguments
arguments-back c r h =
    rw (
      pair-back c.cp1 (32 ∷ (pair_text c.cp2 ++ (32 ∷ (pair_text c.end ++ r)))) blank,
      apart-blank (pair_text c.cp2 ++ (32 ∷ (pair_text c.end ++ r))) (start_pair c.cp2 (32 ∷ (pair_text c.end ++ r))),
      pair-back c.cp2 (32 ∷ (pair_text c.end ++ r)) blank,
      apart-blank (pair_text c.end ++ r) (start_pair c.end r),
      pair-back c.end r h,
    )

pub step-curve : (l : Letter) (c : Curve) (r : List ℕ) → Clear r → step l (curve_text c ++ r) ≡ ok (drawn letter.Curve (segment_of c) r)
unfolding step drawn_by is_space
step-curve l c r h =
    let x : List ℕ = numbers_text c r in
    rw (curve-text c r, blank-past (67 ∷ 32 ∷ x) (record { space = refl; comma = refl }), eqb-suc-zero (length (32 ∷ x)), blank-past x (start_pair c.cp1 _), arguments-back c r h)

-- ---- the end

pub step_end : (l : Letter) (ring : Bool) → step l (closing_text ring) ≡ ok (cond ring closed ended)
unfolding step is_space leading
step_end l true = refl
step_end l false = refl
