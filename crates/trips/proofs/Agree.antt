-- Two answers to one call agree: a promise is an equation with one definition. (No two answers have one number and one set of values: `same_answer` in float/proofs/Refusals.antt.) Assumes nothing.
use mathlib.Core.Path.{◌≡◌, sym, ◌∙◌}

pub agree : {A : Type 0} {x y d : A} → x ≡ d → y ≡ d → x ≡ y
agree p q = p ∙ sym q
