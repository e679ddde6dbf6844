-- What the loops of `path_text::put_curves` keep.
use Rattle.text.specs.Put.{Put}
use Rattle.faults.specs.Tests.{curve_at}
use Rattle.path.specs.Text.{curves_text}
use Rattle.path_text.proofs.put_curves.Given as goal

abbrev pub invariant-loop-i : goal.invariant-loop-i
invariant-loop-i l = Put l.initial.out l.at (curves_text l.i (curve_at l.form l.curves)) l.out l.end
