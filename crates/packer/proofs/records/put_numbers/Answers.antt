-- `packer::records::put_numbers` meets its contract.
use mathlib.Core.Path.{◌≡◌}
use mathlib.Core.Bool.{true}
use Prim.Native.Nat.{◌+◌, ◌-◌, ◌*◌}
use native.Mathlib.Omega.{arith}
use lib.ListN.{length-take, length-drop}
use Rattle.house.specs.Bytes.{all_fit}
use Rattle.house.proofs.Numbers.{fit-each}
use Rattle.packer.proofs.Pieces.{part_put}
use Rattle.packer.proofs.records.put_numbers.Goals as goal

pub put_bytes-requires : goal.put_bytes-requires
put_bytes-requires c = simp (length-take, length-drop) (omega (arith, c.requires.0, c.requires.1))

pub returns : goal.returns
returns c =
    let bytes : all_fit 1 c.args.file.now ≡ true = fit-each 1 c.args.file.now (λ i. omega (arith, c.shared_slice_known-1.given i)) in
    let a = c.args in part_put a.file.now a.out.now a.m a.from a.at (a.from + 8 * a.m - a.from) bytes c.requires.0 (omega arith) c.put_bytes.ensures
