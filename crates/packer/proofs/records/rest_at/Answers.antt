-- `packer::records::rest_at` meets its contract.
use native.Mathlib.Omega.{arith}
use Rattle.packer.proofs.records.rest_at.Goals as goal

pub numbers_at-requires : goal.numbers_at-requires
numbers_at-requires c = omega (arith, c.requires)

pub overflow_add-result : goal.overflow_add-result
overflow_add-result c = omega (arith, c.numbers_at.ensures, c.requires)

pub returns : goal.returns
returns c = omega (arith, c.numbers_at.ensures)
