-- The rounds of a part, one by one, and what holds of each: its end marks keep the parameters 0 and 1 and are not off its curve, so that a cut falls between them. Definitions only.
use Rattle.std.specs.Prelude.{◌≡◌, true, false, List, ℕ, ◌+◌, ◌-◌, ◌≤◌, ◌<◌, get_or, Float}
use Rattle.std.specs.Float.{nan}
use Rattle.float.specs.Calc.{Calc}
use Rattle.plane.specs.declared.Point.{Point}
use Rattle.marks.specs.Marks.{count, mark_at}
use Rattle.stages.specs.Chords.{chords_of}
use Rattle.stages.specs.Worst.{error_of}
use Rattle.squares.specs.Squares.{generate_of}
use Rattle.part.specs.Trial.{Trial, attempt, tried}
use Rattle.part.specs.Part.{cuts, part_of}
use Rattle.gate.specs.Gate.{in_range, Usable}
use Rattle.numbers.specs.Words.{zer, one, Zero}

-- the first round, from chord-length parameters and the curve at them, and one from the trial of the round before
abbrev pub begun : List Float → Point → Point → Calc Trial
begun ms st et = let ts = (chords_of ms (count ms)).val in attempt ms st et (generate_of ms ts st et).val ts

abbrev pub onward : List Float → Point → Point → Trial → Calc Trial
onward ms st et a = attempt ms st et a.curve a.params

-- what a round of a part comes to, where no operation of the rounds so far gave NaN or infinity
pub data Round (ms : List Float) (st et : Point) : Trial → Type 0 where
  first : (chords_of ms (count ms)).fine ≡ true → (begun ms st et).fine ≡ true → Round ms st et (begun ms st et).val
  next : {a : Trial} → Round ms st et a → (onward ms st et a).fine ≡ true → Round ms st et (onward ms st et a).val

-- what a part's rounds end in is one of these
abbrev pub EndInRound : Type 0
EndInRound = (ms : List Float) (st et : Point) (tol : Float) → (tried (count ms) ms st et tol).fine ≡ true → Round ms st et (tried (count ms) ms st et tol).val

-- the first mark's parameter is a zero of either sign, the last one's is 1, and the squares of both distances are plus zero
pub record EndsStay (ms : List Float) (a : Trial) : Type 0 where
  pub first : Zero (get_or a.params 0 nan)
  pub last : get_or a.params (count ms - 1) nan ≡ one
  pub first_off : (error_of (mark_at ms 0) a.curve (get_or a.params 0 nan)).val ≡ zer false
  pub last_off : (error_of (mark_at ms (count ms - 1)) a.curve (get_or a.params (count ms - 1) nan)).val ≡ zer false

-- they do in every round
abbrev pub RoundsKeepEnds : Type 0
RoundsKeepEnds = (ms : List Float) (st et : Point) (a : Trial) → 2 ≤ count ms → in_range ms ≡ true → Round ms st et a → EndsStay ms a

-- behind a part's first mark and before its last
abbrev pub Inside : List Float → ℕ → Type 0
Inside ms k = (0 < k) × (k + 1 < count ms)

-- so it is cut there
abbrev pub CutsInside : Type 0
CutsInside = (ms : List Float) (st et : Point) (tol : Float) (k : ℕ) → 2 ≤ count ms → Usable ms tol → part_of ms st et tol ≡ cuts k → Inside ms k
