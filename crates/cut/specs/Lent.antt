-- What a run leaves in lent slices, and what it asks of them: words of the inner contracts. Definitions only.
use Rattle.std.specs.Prelude.{ℕ, Result, Ok, ◌+◌, ◌*◌, ◌≤◌, ◌≡◌, List, length, Float}
use Rattle.float.specs.Answer.{refused as no}
use Rattle.float.specs.Refusal.{answer}
use Rattle.float.specs.declared.refusal.Refusal.{Refusal}
use Rattle.float.specs.Slices.{written}
use Rattle.limits.specs.Limits.{most_numbered}
use Rattle.form.specs.Form.{record_numbers}
use Rattle.gate.specs.Gate.{Usable}
use Rattle.cut.specs.Run.{Run, refused, done, firsts_of, worsts_of}

-- the answer r, and of each lent slice what it held and holds (of a refused run, the answer alone)
abbrev pub Left : Run → Result ℕ Refusal → List Float → List Float → List ℕ → List ℕ → List ℕ → List ℕ → List Float → Type 0
Left (refused q) r C C' F F' W W' P' = answer r ≡ no q
Left (done cs bs ps) r C C' F F' W W' P' = (r ≡ Ok (length bs)) × (C' ≡ written cs C) × (F' ≡ written (firsts_of bs) F) × (W' ≡ written (worsts_of bs) W) × (P' ≡ ps)

-- a run is ready: marks and a tolerance in range, two marks or more, a number and a parameter for each, and room
pub record Ready (ms : List Float) (first : ℕ) (tol : Float) (C : List Float) (F W : List ℕ) (P : List Float) : Type 0 where
  pub usable : Usable ms tol
  pub even : length ms ≡ 2 * length P
  pub two : 2 ≤ length P
  pub near : first + length P ≤ most_numbered
  pub curves : record_numbers * length P ≤ length C + record_numbers
  pub firsts : length P ≤ length F + 1
  pub worsts : length P ≤ length W + 1
