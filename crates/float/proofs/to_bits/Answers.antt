-- `float::to_bits` meets its contract.
use mathlib.Core.Path.{sym, ap}
use lib.Ieee.{binary64, to_bits}
use Rattle.float.proofs.Bits.{no_number}
use Rattle.float.proofs.to_bits.Goals as goal

pub returns : goal.returns
unfolding to_bits
returns c = sym (ap (to_bits binary64) (no_number c.args.x c.if-x.false))
