-- How a test of the code tells a run: words of contracts. Definitions only.
use Rattle.std.specs.Prelude.{Bool, true, false, Result, Ok, Err}
use Rattle.float.specs.Calc.{Calc}
use Rattle.flat.specs.declared.flat.Lost.{Lost}

-- a run in the code's result, which tells what was compared of one that is lost too
abbrev pub test_in : Bool → Bool → Result Bool Lost
test_in true b = Ok b
test_in false b = Err (record { holds = b })

unfoldable pub as_test : Calc Bool → Result Bool Lost
as_test m = test_in m.fine m.val

-- and back
unfoldable pub run_of : Result Bool Lost → Calc Bool
run_of (Ok b) = record { val = b; fine = true }
run_of (Err l) = record { val = l.holds; fine = false }

abbrev pub held_in : Result Bool Lost → Bool
held_in r = (run_of r).val

abbrev pub fine_in : Result Bool Lost → Bool
fine_in r = (run_of r).fine
