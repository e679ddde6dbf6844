-- `waiting::put_curve`: a record behind those that stand, and two numbers beside it.
use mathlib.Core.Path.{refl}
use Rattle.cut.specs.Run.{flat}
use Rattle.waiting.proofs.Steps.{laid-behind}
use Rattle.waiting.proofs.put_curve.Goals as goal

pub returns : goal.returns
returns c = let a = c.args in (laid-behind (flat a.s.curve a.s.far.err) a.curves.now _ _ _ refl c.put_record.ensures, (refl, refl))
