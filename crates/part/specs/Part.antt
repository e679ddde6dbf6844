-- What one part comes to. Definitions only.
use Rattle.std.specs.Prelude.{Bool, true, false, List, [], ◌∷◌, ℕ, leb, Float}
use Rattle.std.specs.Float.Ieee.{le}
use Rattle.float.specs.Number.{f0, f1}
use Rattle.float.specs.Answer.{Answer, ok, refused, outcome}
use Rattle.plane.specs.declared.Point.{Point}
use Rattle.plane.specs.declared.Curve.{Curve}
use Rattle.marks.specs.Marks.{count, mark_at}
use Rattle.marks.specs.Line.{line_of}
use Rattle.stages.specs.Worst.{no_worst}
use Rattle.stages.specs.declared.worst.Worst.{Worst}
use Rattle.part.specs.Trial.{Trial, tried}

-- one curve with its largest distance and the mark that has it, and a parameter for each mark; or a cut at a mark; or a refusal
pub data Part : Type 0 where
  fits : Curve → Worst → List Float → Part
  cuts : ℕ → Part
  fails : ℕ → Part

abbrev pub pick : Bool → Part → Part → Part
pick true p q = p
pick false p q = q

-- two marks: a line, off neither of them, with the parameters 0 and 1
abbrev pub lined : Answer Curve → Part
lined (ok c) = fits c no_worst (f0 ∷ f1 ∷ [])
lined (refused q) = fails q

-- after the rounds: within the tolerance one curve, else a cut at the worst mark, which a fit's marks and tolerance put inside the part (`CutsInside` of `ends`)
abbrev pub judged : Float → Answer Trial → Part
judged tol (refused q) = fails q
judged tol (ok a) = pick (le a.far.err tol) (fits a.curve a.far a.params) (cuts a.far.at)

unfoldable pub part_of : List Float → Point → Point → Float → Part
part_of ms st et tol =
    pick (leb (count ms) 2)
    (lined (outcome (line_of (mark_at ms 0) (mark_at ms 1))))
    (judged tol (outcome (tried (count ms) ms st et tol)))
