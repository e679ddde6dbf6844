-- The square root as one operation of a run. Definitions only.
use Rattle.std.specs.Prelude.{Float}
use Rattle.std.specs.Float.{binary64}
use Rattle.float.specs.Calc.{Calc, op}
use Rattle.root.specs.Root.{sqrt}

abbrev pub sqrt! : Float → Calc Float
sqrt! x = op (sqrt binary64 x)
