-- What the code's answers and the lent parameters are, by the definitions: words of contracts. Definitions only.
use Rattle.std.specs.Prelude.{◌≡◌, Bool, true, false, List, ℕ, Float, Result, Ok, Err}
use Rattle.std.specs.Float.Ieee.{le}
use Rattle.float.specs.Calc.{Calc}
use Rattle.float.specs.Answer.{Answer, ok, refused, outcome}
use Rattle.float.specs.Refusal.{answer, number}
use Rattle.float.specs.declared.refusal.Refusal.{Refusal}
use Rattle.part.specs.Trial.{Trial}
use Rattle.part.specs.Part.{Part, fits, cuts, fails}
use Rattle.part.specs.declared.Solved.{Solved}
use Rattle.part.specs.declared.Unfitted.{Unfitted}
use Rattle.part.specs.declared.Unfitted.TheVariants as unfitted

-- a solution, with the parameters that stand beside it
abbrev pub trial_of : Solved → List Float → Trial
trial_of s ts = record { curve = s.curve; params = ts; far = s.far }

-- a run's answer r, and the parameters p that it leaves
abbrev pub SolvesAs : Answer Trial → Result Solved Refusal → List Float → Type 0
SolvesAs (ok a) r p = (r ≡ Ok (record { curve = a.curve; far = a.far })) × (p ≡ a.params)
SolvesAs (refused q) r p = answer r ≡ refused q

abbrev pub Solves : Calc Trial → Result Solved Refusal → List Float → Type 0
Solves m r p = SolvesAs (outcome m) r p

-- a refusal in a part's own words
abbrev pub refused_by : Refusal → Unfitted
refused_by q = unfitted.Refused q

-- what the code makes of a solution
abbrev pub pick_tried : Bool → Result Solved Unfitted → Result Solved Unfitted → Result Solved Unfitted
pick_tried true a b = a
pick_tried false a b = b

unfoldable pub verdict : Solved → Float → Result Solved Unfitted
verdict s tol = pick_tried (le s.far.err tol) (Ok s) (Err (unfitted.Cut s.far.at))

-- the part that an answer and its parameters tell of
abbrev pub told : Result Solved Unfitted → List Float → Part
told (Ok s) p = fits s.curve s.far p
told (Err (unfitted.Cut k)) p = cuts k
told (Err (unfitted.Refused q)) p = fails (number q)

-- a part's answer r, and the parameters p that it leaves
abbrev pub Did : Part → Result Solved Unfitted → List Float → Type 0
Did P r p = told r p ≡ P
