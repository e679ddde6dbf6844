-- What C is handed of an answer: its number, 0 where nothing is refused, and its value; where something is refused, zeros in the value's place. And what C's words for an
-- outline and for a list of curves stand for. Definitions only.
use Rattle.std.specs.Prelude.{ℕ, ◌≡◌, Bool, true, false, List, [], ◌∷◌, replicate, Float}
use Rattle.float.specs.Number.{f0}
use Rattle.float.specs.Answer.{Answer, ok, refused}
use Rattle.plane.specs.declared.Point.{Point}
use Rattle.plane.specs.declared.Curve.{Curve}
use Rattle.cubic.specs.declared.eval.Coefficients.{Coefficients}
use Rattle.cubic.specs.declared.split.Halves.{Halves}
use Rattle.form.specs.declared.Form.{Form}
use Rattle.form.specs.declared.Form.TheVariants.{Eight, Nine}
use Rattle.ring.specs.declared.Outline.{Outline}
use Rattle.ring.specs.declared.Outline.TheVariants.{Open, Closed}
use Rattle.faults.specs.Tests.{curve_of}
use Rattle.checker.specs.Check.{Verdict, passed, fault, place}
use Rattle.checker.specs.declared.Place.{Place}
use Rattle.checker.specs.declared.Fault.{Fault}
use Rattle.checker.specs.declared.Fault.TheVariants.{A, B, C, D, E}
use Rattle.nearest.specs.Choose.{Nearest}
use Rattle.reader.specs.declared.Found.{Found}
use Rattle.salvaging.specs.Salvage.{sizes}
use Rattle.salvaging.specs.declared.Sizes.{Sizes}
use Rattle.import.specs.declared.Imported.{Imported}

-- ---- what comes in

-- ring: whether the outline is closed
abbrev pub outline_for : Bool → Outline
outline_for true = Closed
outline_for false = Open

-- nine: whether a curve has nine numbers and a worst mark
abbrev pub form_for : Bool → Form
form_for true = Nine
form_for false = Eight

-- ---- what goes out: a number, and what stands behind the references

pub record Crossed (X : Type 0) : Type 0 where
  pub number : ℕ
  pub value : X

abbrev pub crossed : {X : Type 0} → ℕ → X → Crossed X
crossed q v = record { number = q; value = v }

-- 0 and the value as f shows it; or the refusal's number, and z
abbrev pub crossing : {A X : Type 0} → (A → X) → X → Answer A → Crossed X
crossing f z (ok a) = crossed 0 (f a)
crossing f z (refused q) = crossed q z

-- how many
unfoldable pub count_crossed : Answer ℕ → Crossed ℕ
count_crossed = crossing (λ k. k) 0

-- a parameter
unfoldable pub number_crossed : Answer Float → Crossed Float
number_crossed = crossing (λ t. t) f0

-- a point, by its two numbers
abbrev pub xy : Point → List Float
xy p = p.x ∷ p.y ∷ []

unfoldable pub point_crossed : Answer Point → Crossed (List Float)
point_crossed = crossing xy (replicate 2 f0)

abbrev pub abcd : Coefficients → List Float
abcd k = k.a ∷ k.b ∷ k.c ∷ k.d ∷ []

unfoldable pub coefficients_crossed : Answer Coefficients → Crossed (List Float)
coefficients_crossed = crossing abcd (replicate 4 f0)

-- the two parts of a curve, each by its eight numbers
abbrev pub eight : Curve → List Float
eight c = c.start.x ∷ c.start.y ∷ c.cp1.x ∷ c.cp1.y ∷ c.cp2.x ∷ c.cp2.y ∷ c.end.x ∷ c.end.y ∷ []

-- they are the numbers by which a list holds a curve: what goes out comes in again as it was
abbrev pub ReadAgain : Type 0
ReadAgain = (c : Curve) → curve_of (eight c) ≡ c

pub record Parts : Type 0 where
  pub left : List Float
  pub right : List Float

abbrev pub parts : List Float → List Float → Parts
parts l r = record { left = l; right = r }

unfoldable pub halves_crossed : Answer Halves → Crossed Parts
halves_crossed = crossing (λ h. parts (eight h.left) (eight h.right)) (parts (replicate 8 f0) (replicate 8 f0))

-- the nearest point's parameter and its squared distance
abbrev pub nearest : Float → Float → Nearest
nearest t d = record { t = t; distance_sq_is = d }

unfoldable pub nearest_crossed : Answer Nearest → Crossed Nearest
nearest_crossed = crossing (λ n. n) (nearest f0 f0)

-- a fault, by its letter's number in ASCII and its place
abbrev pub fault_crossed : Fault → Crossed Place
fault_crossed (A p) = crossed 65 p
fault_crossed (B p) = crossed 66 p
fault_crossed (C p) = crossed 67 p
fault_crossed (D p) = crossed 68 p
fault_crossed (E p) = crossed 69 p

unfoldable pub verdict_crossed : Answer Verdict → Crossed Place
verdict_crossed (ok passed) = crossed 0 (place 0 0)
verdict_crossed (ok (fault f)) = fault_crossed f
verdict_crossed (refused q) = crossed q (place 0 0)

-- what a file holds beside the slices
abbrev pub found : Bool → ℕ → ℕ → ℕ → Found
found nine bits n k = record { form = form_for nine; tolerance = bits; marks = n; curves = k }

unfoldable pub found_crossed : Answer Found → Crossed Found
found_crossed = crossing (λ F. F) (found false 0 0 0)

-- how many bytes a cleaned file has, and how many its list
unfoldable pub salvaged_crossed : Answer Sizes → Crossed Sizes
salvaged_crossed = crossing (λ s. s) (sizes 0 0)

-- what path data draws beside the slice
abbrev pub drawn : ℕ → Bool → Imported
drawn k z = record { count = k; closed = z }

unfoldable pub drawn_crossed : Answer Imported → Crossed Imported
drawn_crossed = crossing (λ d. d) (drawn 0 false)
