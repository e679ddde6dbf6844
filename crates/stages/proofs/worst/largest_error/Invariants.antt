-- What the loops of `stages::worst::largest_error` keep.
use mathlib.Core.Path.{◌≡◌}
use mathlib.Core.List.{List}
use Prim.Native.Nat.{ℕ, ◌≤◌}
use lib.ListN.{length}
use lib.Ieee.{Float}
use Rattle.float.specs.Folds.{upto}
use Rattle.float.proofs.Strict.{Fin}
use Rattle.float.proofs.Answers.{Fine}
use Rattle.plane.specs.declared.Curve.{Curve}
use Rattle.stages.specs.Worst.{worst_at, no_worst}
use Rattle.stages.specs.declared.worst.Worst.{Worst}
use Rattle.stages.proofs.worst.largest_error.Given as goal

abbrev pub Sofar : List Float → Curve → List Float → Worst → ℕ → Type 0
Sofar ms c ts w i = (i ≤ length ts) × Fine (upto i no_worst (worst_at ms c ts)) × (w ≡ (upto i no_worst (worst_at ms c ts)).val) × Fin w.err

abbrev pub invariant-loop-i : goal.invariant-loop-i
invariant-loop-i l = Sofar l.marks l.c l.params l.w l.i
