-- `packer::records::put_entry` meets its contract.
use mathlib.Core.Path.{refl}
use native.Mathlib.Omega.{arith}
use Rattle.house.specs.Limits.{field_for, curve_bytes}
use Rattle.house.proofs.Forms.{within}
use Rattle.packer.proofs.Pieces.{numbers_within}
use Rattle.packer.proofs.Puts.{entry_put}
use Rattle.packer.proofs.records.put_entry.Goals as goal

pub rest_at-from-requires : goal.rest_at-from-requires
rest_at-from-requires c = let a = c.args in omega (arith, numbers_within a.form a.n a.k a.i c.requires.1.1.0, c.requires.0)

pub put_numbers-end-requires : goal.put_numbers-end-requires
put_numbers-end-requires c = let a = c.args in (omega (arith, numbers_within a.form a.n a.k a.i c.requires.1.1.0, c.rest_at-from.ensures, c.rest_numbers.ensures, c.requires.0), omega (arith, c.rest_numbers.ensures, c.requires.1.1.1))

pub put_worst-requires : goal.put_worst-requires
put_worst-requires c = let a = c.args in (omega (arith, within (curve_bytes a.form (field_for a.n)) a.k a.i c.requires.1.1.0, c.requires.0), omega (arith, c.put_numbers-end.ensures.0, c.rest_numbers.ensures, c.requires.1.1.1))

pub returns : goal.returns
returns c =
    let a = c.args in
    entry_put a.file.now a.form a.n a.k a.out.now a.at a.i c.rest_at-from.result c.rest_numbers.result c.requires.1.1.0 c.rest_at-from.ensures c.rest_numbers.ensures c.mark_at.ensures c.put_four.ensures c.put_numbers-end.ensures.1 c.put_worst.ensures refl c.put_numbers-end.ensures.0
