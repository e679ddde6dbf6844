-- The path of an exported text: its curves one by one, and Z. Assumes nothing.
use Prim.Native.Nat.{ℕ, zero, suc, ◌≤◌, ◌<◌}
use mathlib.Core.Path.{◌≡◌, sym, ap, ◌∙◌}
use mathlib.Core.Bool.{Bool, true, false}
use mathlib.Core.List.{List, [], ◌∷◌, ◌++◌, append_assoc, append-nil}
use native.Mathlib.Omega.{arith}
use lib.ListN.{length, length-append}
use Rattle.float.specs.Answer.{ok}
use Rattle.plane.specs.declared.Curve.{Curve}
use Rattle.path.specs.Numbers.{is_space, leading}
use Rattle.path.specs.Grammar.{drawing, draws, path_of}
use Rattle.path.specs.Text.{point_text, curve_text, curves_text, closing_text, path_text}
use Rattle.path.specs.declared.Letter.{Letter}
use Rattle.path.specs.declared.Letter.TheVariants as letter
use Rattle.path_trips.specs.Trips.{row}
use Rattle.path_trips.proofs.Numbers.{Clear, end, blank}
use Rattle.path_trips.proofs.Steps.{place_of, pair_text, point-text, blank-past, start_pair, pair-back, segment_of, step-curve, step_end}

-- ---- the curves, from the front

abbrev pub next : {A : Type 0} → (ℕ → A) → ℕ → A
next f i = f (suc i)

first_text : (n : ℕ) (f : ℕ → Curve) → curves_text (suc n) f ≡ curve_text (f 0) ++ curves_text n (next f)
unfolding curves_text
first_text zero f = sym (append-nil (curve_text (f 0)))
first_text (suc n) f = ap (λ (s : List ℕ). s ++ curve_text (f (suc n))) (first_text n f) ∙ append_assoc (curve_text (f 0)) (curves_text n (next f)) (curve_text (f (suc n)))

-- a curve and all that is behind it
from_first : (n : ℕ) (f : ℕ → Curve) (r : List ℕ) → curves_text (suc n) f ++ r ≡ curve_text (f 0) ++ (curves_text n (next f) ++ r)
from_first n f r = ap (λ (s : List ℕ). s ++ r) (first_text n f) ∙ append_assoc (curve_text (f 0)) (curves_text n (next f)) r

clear_curve : (c : Curve) (r : List ℕ) → Clear (curve_text c ++ r)
unfolding curve_text
clear_curve c r = blank

clear_end : (ring : Bool) → Clear (closing_text ring)
clear_end true = blank
clear_end false = end

clear_curves : (n : ℕ) (f : ℕ → Curve) (ring : Bool) → Clear (curves_text n f ++ closing_text ring)
unfolding curves_text
clear_curves zero f ring = clear_end ring
clear_curves (suc n) f ring = rw (from_first n f (closing_text ring)) (clear_curve (f 0) (curves_text n (next f) ++ closing_text ring))

long_curve : (c : Curve) → 0 < length (curve_text c)
unfolding curve_text
long_curve c = omega arith

long_curves : (n : ℕ) (f : ℕ → Curve) → n ≤ length (curves_text n f)
unfolding curves_text
long_curves zero f = omega arith
long_curves (suc n) f = simp length-append (omega (arith, long_curves n f, long_curve (f n)))

-- ---- what is drawn

draws_end : (fuel : ℕ) (l : Letter) (ring : Bool) → draws (suc fuel) l (closing_text ring) ≡ ok (drawing [] ring)
unfolding draws
draws_end fuel l true = rw (step_end l true)
draws_end fuel l false = rw (step_end l false)

draws-back : (n fuel : ℕ) (f : ℕ → Curve) (l : Letter) (ring : Bool) → n < fuel → draws fuel l (curves_text n f ++ closing_text ring) ≡ ok (drawing (row n (λ i. segment_of (f i))) ring)
unfolding draws curves_text row
draws-back n zero f l ring h = absurd (omega arith)
draws-back zero (suc fuel) f l ring h = draws_end fuel l ring
draws-back (suc n) (suc fuel) f l ring h =
    let r : List ℕ = curves_text n (next f) ++ closing_text ring in
    let e = draws-back n fuel (next f) letter.Curve ring (omega arith) in
    rw (from_first n f (closing_text ring), step-curve l (f 0) r (clear_curves n (next f) ring), e)

-- ---- the path

pub path-back : (ring : Bool) (k : ℕ) (f : ℕ → Curve) → path_of (path_text ring k f) ≡ ok (record { start = place_of (f 0).start; segments = row k (λ i. segment_of (f i)); closed = ring })
unfolding path_of path_text is_space leading
path-back ring k f =
    let r : List ℕ = curves_text k f ++ closing_text ring in
    let n : k < suc (length (77 ∷ (point_text (f 0).start ++ r))) = simp length-append (omega (arith, long_curves k f)) in
    rw (point-text (f 0).start r, blank-past (pair_text (f 0).start ++ r) (start_pair (f 0).start r), pair-back (f 0).start r (clear_curves k f ring), draws-back k _ f letter.Line ring (rw (point-text (f 0).start r) at n))
