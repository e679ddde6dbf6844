-- What the inner functions test and return: words of their contracts alone, of which no public promise speaks. Definitions only.
use Rattle.std.specs.Prelude.{Bool, ◌≡◌, ◌&&◌, ◌||◌, cond, ℕ, suc, Float, Result, Ok, Err, Option, Some, None}
use Rattle.std.specs.Float.Ieee.{eq}
use Rattle.float.specs.Number.{finite, f0}
use Rattle.float.specs.Calc.{Calc, give, ◌>>=◌, ◌-!◌, ◌/!◌}
use Rattle.float.specs.Answer.{Answer, ok, refused, unless, outcome}
use Rattle.float.specs.Refusal.{number}
use Rattle.float.specs.declared.refusal.Refusal.{Refusal}
use Rattle.plane.specs.Range.{point_finite}
use Rattle.newton.specs.declared.Vertices.{Vertices}
use Rattle.newton.specs.declared.Ratio.{Ratio}
use Rattle.newton.specs.declared.Step.{Step}

-- the ends of a run, each finite only where every operation before it was
unfoldable pub vertices_finite : Vertices → Bool
vertices_finite q = point_finite q.qnn1 && point_finite q.qnn2

-- a run in the code's struct
unfoldable pub as_step : Calc Float → Step
as_step m = record { t = m.val; fine = m.fine }

-- what is left to answer of a search after one round from t, with n rounds to go: the next estimate, the search's end, or a refusal
unfoldable pub onward : (ℕ → Float → Calc Float) → ℕ → Float → Result (Option Float) Refusal → Answer Float
onward search n t (Ok (Some u)) = outcome (search n u)
onward search n t (Ok None) = ok t
onward search n t (Err q) = refused (number q)

-- a search goes on from t by the fraction r: refused where a side is not finite, and at its end where the numerator is near 0 or the denominator is 0
abbrev pub FractionBy : (ℕ → Float → Calc Float) → Float → Ratio → Bool → Type 0
FractionBy search t r near =
    (n : ℕ) → outcome (search (suc n) t)
    ≡ unless 6 (finite r.numerator && finite r.denominator)
    (outcome (cond (near || eq r.denominator f0) (give t) (do search n (← t -! (← r.numerator /! r.denominator)))))

-- a search with no round to go is at its end, and otherwise goes on as the round that post tells of
abbrev pub SearchBy : (Float → Result (Option Float) Refusal → Type 0) → (ℕ → Float → Calc Float) → Type 0
SearchBy post search = ((t : Float) → search 0 t ≡ give t) × ((t : Float) (r : Result (Option Float) Refusal) → post t r → (n : ℕ) → outcome (search (suc n) t) ≡ onward search n t r)
