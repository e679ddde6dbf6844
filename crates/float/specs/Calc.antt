-- Runs of rounded binary64 operations. A run has the value that its operations give, and whether each of them gave a finite number:
-- one text then says both the bits and refusal 6, of values that are dropped later too. Definitions only.
use Rattle.std.specs.Prelude.{Bool, true, ◌&&◌, Float}
use Rattle.std.specs.Float.Ieee as Ieee
use Rattle.std.specs.Float.{binary64}
use Rattle.float.specs.Number.{finite}

pub record Calc (A : Type 0) : Type 0 where
  pub val : A
  pub fine : Bool

-- no operation
abbrev pub give : {A : Type 0} → A → Calc A
give a = record { val = a; fine = true }

-- one operation, whose result is x
abbrev pub op : Float → Calc Float
op x = record { val = x; fine = finite x }

-- one run, and then another that goes on with its value
abbrev pub ◌>>=◌ : {A B : Type 0} → Calc A → (A → Calc B) → Calc B
◌>>=◌ m f = record { val = (f m.val).val; fine = m.fine && (f m.val).fine }

infixl 65 ◌+!◌ ◌-!◌
infixl 70 ◌*!◌ ◌/!◌
abbrev pub ◌+!◌ : Float → Float → Calc Float
x +! y = op (Ieee.add binary64 x y)

abbrev pub ◌-!◌ : Float → Float → Calc Float
x -! y = op (Ieee.sub binary64 x y)

abbrev pub ◌*!◌ : Float → Float → Calc Float
x *! y = op (Ieee.mul binary64 x y)

abbrev pub ◌/!◌ : Float → Float → Calc Float
x /! y = op (Ieee.div binary64 x y)
