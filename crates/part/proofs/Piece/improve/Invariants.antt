-- What the loop of `part::Piece::improve` keeps.
use mathlib.Core.Path.{◌≡◌}
use Prim.Native.Nat.{◌-◌}
use Rattle.float.specs.Answer.{outcome}
use Rattle.part.specs.Trial.{improve}
use Rattle.part.specs.Answers.{trial_of}
use Rattle.part.proofs.Piece.improve.Given as goal

abbrev pub invariant-loop : goal.invariant-loop
invariant-loop l = outcome (improve 7 l.self.marks.now l.self.start_tangent l.self.end_tangent l.self.tolerance (trial_of l.initial.s l.initial.params)) ≡ outcome (improve (7 - l.counter) l.self.marks.now l.self.start_tangent l.self.end_tangent l.self.tolerance (trial_of l.s l.params))
