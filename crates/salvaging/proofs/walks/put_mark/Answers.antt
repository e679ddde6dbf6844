-- `salvaging::walks::put_mark` meets its contract.
use mathlib.Core.Path.{◌≡◌, refl, sym}
use mathlib.Core.Bool.{true}
use Prim.Native.Nat.{◌+◌, ◌-◌, ◌*◌}
use native.Mathlib.Nat.{add-zero}
use native.Mathlib.Omega.{arith}
use lib.ListN.{length-take, length-drop}
use Rattle.house.specs.Bytes.{row_bytes, all_fit}
use Rattle.house.proofs.Numbers.{fit-each}
use Rattle.salvaging.proofs.Walk.{kept-length, mark-put}
use Rattle.salvaging.proofs.walks.put_mark.Goals as goal

pub put_bytes-requires : goal.put_bytes-requires
put_bytes-requires c = let a = c.args in simp (length-take, length-drop) (omega (arith, c.requires.0, c.requires.1, kept-length a.file.now a.i c.in-Kept.is))

pub returns-in-Kept : goal.returns-in-Kept
returns-in-Kept c =
    let bytes : all_fit 1 c.args.file.now ≡ true = fit-each 1 c.args.file.now (λ i. omega (arith, c.type_inv.file i)) in
    mark-put c.args.file.now c.args.i bytes c.requires.0 (20 + 16 * c.args.i + 16 - (20 + 16 * c.args.i)) c.in-Kept.is (omega arith) c.put_bytes.ensures

pub returns-in-Dropped : goal.returns-in-Dropped
unfolding row_bytes
returns-in-Dropped c = rw c.in-Dropped.is (record { end = sym (add-zero _); out = refl })
