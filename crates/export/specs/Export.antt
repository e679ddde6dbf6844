-- Export: a list of curves in lent bytes, as path data. Definitions only.
use Rattle.std.specs.Prelude.{ℕ, suc, ◌-◌, ◌/◌, min, Bool, not, ◌&&◌, ◌||◌, List, ltb, leb, length, Float}
use Rattle.float.specs.Answer.{Answer, ok, unless}
use Rattle.plane.specs.declared.Curve.{Curve}
use Rattle.form.specs.Form.{width}
use Rattle.form.specs.declared.Form.{Form}
use Rattle.faults.specs.Tests.{curve_at, curve_finite, same}
use Rattle.lines.specs.Handed.{Handed, over_to}
use Rattle.path.specs.Range.{no_room, not_finite, too_large, not_joined, curve_within, every}
use Rattle.path.specs.Text.{path_text}

-- how many of k records a slice of n numbers holds whole
abbrev pub whole_in : Form → ℕ → ℕ → ℕ
whole_in form n k = min k (n / width form)

-- each of h curves ends, bit for bit, where the next one starts
unfoldable pub joined : ℕ → (ℕ → Curve) → Bool
joined h f = every (h - 1) (λ i. same (f i).end (f (suc i)).start)

-- there are curves, and those that are held meet; of a ring that is held whole also the last end and the first start
unfoldable pub meets : Bool → ℕ → ℕ → (ℕ → Curve) → Bool
meets ring k h f = ltb 0 k && (joined h f && (not (ring && leb k h) || same (f (k - 1)).end (f 0).start))

-- 5, 10, 12, 4, or the text. The tests are of the curves that the slice holds.
unfoldable pub export_text : Form → List Float → ℕ → Bool → Answer (List ℕ)
export_text form C k ring =
    let f = curve_at form C in
    let h = whole_in form (length C) k in
    unless not_finite (every h (λ i. curve_finite (f i)))
    (unless too_large (every h (λ i. curve_within (f i)))
    (unless not_joined (meets ring k h f)
    (unless no_room (leb k h) (ok (path_text ring k f)))))

unfoldable pub export_of : Form → List Float → ℕ → Bool → List ℕ → Handed
export_of form C k ring O = over_to O (export_text form C k ring)
