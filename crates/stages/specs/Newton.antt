-- reparameterize of fit.rs: a Newton step for each mark. Definitions only.
use Rattle.std.specs.Prelude.{List, ℕ, length, get_or, Float}
use Rattle.std.specs.Float.{nan}
use Rattle.float.specs.Calc.{Calc}
use Rattle.float.specs.Folds.{each}
use Rattle.plane.specs.declared.Curve.{Curve}
use Rattle.newton.specs.Newton.{newton}
use Rattle.marks.specs.Marks.{mark_at}

unfoldable pub step_at : List Float → Curve → List Float → ℕ → Calc Float
step_at ms c ts k = newton c (mark_at ms k) (get_or ts k nan)

unfoldable pub reparam : List Float → Curve → List Float → Calc (List Float)
reparam ms c ts = each (length ts) (step_at ms c ts)
