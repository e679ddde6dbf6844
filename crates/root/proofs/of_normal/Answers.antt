-- `root::of_normal` meets its contract.
use Prim.Native.Nat.{◌+◌, ◌*◌, ◌/◌, ◌%◌, ◌^◌, ◌-◌}
use lib.Ieee.{binary64, of_bits}
use Rattle.root.proofs.Low.{normal_places}
use Rattle.float.proofs.Patterns.{normal_value}
use Rattle.root.proofs.of_normal.Goals as goal

pub returns : goal.returns
returns c =
    let b = c.args.b in
    c.of_digits.ensures (of_bits binary64 b) ((2 ^ 52 + b % 2 ^ 52) * 2 ^ (b / 2 ^ 52 - 1)) (normal_value b c.requires.0 c.requires.1) (normal_places b c.requires.0)
