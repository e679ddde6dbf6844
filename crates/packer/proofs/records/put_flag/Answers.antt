-- `packer::records::put_flag` meets its contract.
use native.Mathlib.Omega.{arith}
use Rattle.packed.proofs.Sizes.{flag-few}
use Rattle.packer.proofs.Puts.{flag-put}
use Rattle.packer.proofs.records.put_flag.Goals as goal

pub overflow_cast-out : goal.overflow_cast-out
overflow_cast-out c = omega (arith, flag-few c.args.form, c.flag.ensures)

pub returns : goal.returns
returns c = rw c.flag.ensures (flag-put c.args.out.now c.args.at c.args.form)
