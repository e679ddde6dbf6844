-- `packer::records::put_lead` meets its contract.
use mathlib.Core.Path.{refl}
use Prim.Native.Nat.{◌+◌, ◌*◌}
use native.Mathlib.Omega.{arith}
use Rattle.packer.proofs.Pieces.{numbers_within}
use Rattle.packer.proofs.Puts.{lead_put}
use Rattle.packer.proofs.records.put_lead.Goals as goal

pub packed_length-requires : goal.packed_length-requires
packed_length-requires c = omega (arith, c.requires.1.1.1)

pub numbers_at-from-requires : goal.numbers_at-from-requires
numbers_at-from-requires c = let a = c.args in omega (arith, numbers_within a.form a.n a.k 0 c.requires.1.1.0, c.requires.0)

pub put_numbers-requires : goal.put_numbers-requires
put_numbers-requires c = let a = c.args in (omega (arith, numbers_within a.form a.n a.k 0 c.requires.1.1.0, c.numbers_at-from.ensures, c.requires.0), omega (arith, c.start_place.ensures, c.requires.1.1.1))

pub returns : goal.returns
returns c = let a = c.args in lead_put a.file.now a.form a.n a.k a.out.now (20 + 16 * a.n) c.requires.1.1.0 c.packed_length.ensures c.mark_at.ensures c.put_head.ensures c.put_flag.ensures c.put_four.ensures (rw c.numbers_at-from.ensures at c.put_numbers.ensures.1) refl (omega (arith, c.first_place.ensures)) (omega (arith, c.start_place.ensures))
