-- `root::first_of` meets its contract.
use Prim.Native.Nat.{ℕ, ◌-◌, ◌/◌, ◌%◌, ◌^◌}
use mathlib.Core.Path.{ap}
use native.Mathlib.Omega.{arith}
use lib.Ieee.{binary64, of_bits}
use Rattle.root.specs.Guess.{first_of}
use Rattle.root.proofs.Whole.{no_nan}
use Rattle.root.proofs.first_of.Goals as goal

pub float_from_bits-result : goal.float_from_bits-result
float_from_bits-result c = no_nan _ (omega arith)

pub returns : goal.returns
unfolding first_of
returns c = ap (λ (b : ℕ). of_bits binary64 (0x5fe6_eb50_c7b5_37a9 - b / 2 % 2 ^ 62)) c.bits_of.ensures
