-- de_casteljau_n of basis.rs and derivative_n of derivative.rs, of numbers. Definitions only.
use Rattle.std.specs.Prelude.{Float}
use Rattle.std.specs.Float.{binary64}
use Rattle.std.specs.Float.Ieee.{of_bits}
use Rattle.float.specs.Number.{f1}
use Rattle.float.specs.Calc.{Calc, give, ◌>>=◌, ◌+!◌, ◌-!◌, ◌*!◌}
use Rattle.quintic.specs.declared.numbers.Six.{Six}
use Rattle.quintic.specs.declared.numbers.Five.{Five}

unfoldable pub number2 : Float → Float → Float → Calc Float
number2 t y1 y2 = do (← y1 *! (← f1 -! t)) +! (← y2 *! t)

unfoldable pub number3 : Float → Float → Float → Float → Calc Float
number3 t y1 y2 y3 = do
  yn1 ← number2 t y1 y2
  yn2 ← number2 t y2 y3
  number2 t yn1 yn2

unfoldable pub number4 : Float → Float → Float → Float → Float → Calc Float
number4 t y1 y2 y3 y4 = do
  yn1 ← number2 t y1 y2
  yn2 ← number2 t y2 y3
  yn3 ← number2 t y3 y4
  number3 t yn1 yn2 yn3

unfoldable pub number5 : Float → Five → Calc Float
number5 t h = do
  yn1 ← number2 t h.y1 h.y2
  yn2 ← number2 t h.y2 h.y3
  yn3 ← number2 t h.y3 h.y4
  yn4 ← number2 t h.y4 h.y5
  number4 t yn1 yn2 yn3 yn4

unfoldable pub number6 : Float → Six → Calc Float
number6 t h = do
  y1 ← number2 t h.y1 h.y2
  y2 ← number2 t h.y2 h.y3
  y3 ← number2 t h.y3 h.y4
  y4 ← number2 t h.y4 h.y5
  y5 ← number2 t h.y5 h.y6
  number5 t (record { y1 = y1; y2 = y2; y3 = y3; y4 = y4; y5 = y5 })

-- 5
abbrev pub f5 : Float
f5 = of_bits binary64 0x4014_0000_0000_0000

-- the derivative of six heights: their five differences times five
unfoldable pub derivative6_of : Six → Calc Five
derivative6_of h = do
  y1 ← (← h.y2 -! h.y1) *! f5
  y2 ← (← h.y3 -! h.y2) *! f5
  y3 ← (← h.y4 -! h.y3) *! f5
  y4 ← (← h.y5 -! h.y4) *! f5
  y5 ← (← h.y6 -! h.y5) *! f5
  give (record { y1 = y1; y2 = y2; y3 = y3; y4 = y4; y5 = y5 })
