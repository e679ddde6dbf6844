-- `nearest_cases::words::bits` meets its contract.
use Rattle.float.proofs.Bits.{number}
use Rattle.nearest_cases.proofs.words.bits.Goals as goal

pub float_to_bits-result : goal.float_to_bits-result
float_to_bits-result c = number c.args.x c.if-x.true
