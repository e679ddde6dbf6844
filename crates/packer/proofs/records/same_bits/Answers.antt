-- `packer::records::same_bits` meets its contract.
use mathlib.Core.Path.{refl}
use Rattle.packer.proofs.records.same_bits.Goals as goal

pub returns : goal.returns
returns c = refl
