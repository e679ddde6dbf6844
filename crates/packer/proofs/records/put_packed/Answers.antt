-- `packer::records::put_packed` meets its contract.
use mathlib.Core.Path.{◌≡◌, refl, sym}
use mathlib.Core.Bool.{true}
use Prim.Native.Nat.{◌+◌, ◌*◌, ◌≤◌}
use native.Mathlib.Omega.{arith}
use lib.ListN.{length, length-take, length-drop}
use lib.Seq.{length-take-le}
use Rattle.house.specs.Bytes.{all_fit}
use Rattle.house.proofs.Numbers.{fit-each}
use Rattle.grammar.proofs.Laid.{Ended, laid_started}
use Rattle.heads.proofs.Ways.{Told, told}
use Rattle.packed.specs.Unpacked.{entry_at}
use Rattle.packed.proofs.Sizes.{packed_size_some}
use Rattle.packer.proofs.Whole.{with_curves, whole-put}
use Rattle.packer.proofs.records.put_packed.Goals as goal
use Rattle.packer.proofs.records.put_packed.Goals.{Start}

-- how the file is laid out, its curves, and the room for the packed file
laid_of : (c : Start) → let a = c.args in Told a.file.now a.form a.n a.k
laid_of c = told _ _ _ _ c.requires.0

curves_of : (c : Start) → let a = c.args in Ended a.file.now a.form a.n a.k
curves_of c = with_curves (laid_of c).laid c.requires.1.0

room_of : (c : Start) → let a = c.args in entry_at a.form a.n a.k + 6 + 8 * a.n ≤ length a.out.now
room_of c = let a = c.args in omega (arith, packed_size_some a.form a.n c.requires.1.0, c.requires.1.1)

pub overflow_mul-end : goal.overflow_mul-end
overflow_mul-end c =
    let room = room_of (goal.at.overflow_mul-end c).Start in
    omega (arith, room)

pub overflow_add-end : goal.overflow_add-end
overflow_add-end c =
    let room = room_of (goal.at.overflow_add-end c).Start in
    omega (arith, room)

pub slice_bounds-put_bytes-end : goal.slice_bounds-put_bytes-end
slice_bounds-put_bytes-end c =
    let curves = curves_of (goal.at.slice_bounds-put_bytes-end c).Start in
    let d = curves in sym (length-take-le _ _ (omega (arith, d.size)))

pub put_bytes-requires : goal.put_bytes-requires
put_bytes-requires c =
    let curves = curves_of (goal.at.put_bytes-requires c).Start in
    let room = room_of (goal.at.put_bytes-requires c).Start in
    let d = curves in simp length-take (omega (arith, d.size, room))

pub put_lead-requires : goal.put_lead-requires
put_lead-requires c =
    let curves = curves_of (goal.at.put_lead-requires c).Start in
    let room = room_of (goal.at.put_lead-requires c).Start in
    let d = curves in (omega (arith, d.size), (d.few, (d.some, omega (arith, room))))

pub entry_at-requires : goal.entry_at-requires
entry_at-requires c =
    let room = room_of (goal.at.entry_at-requires c).Start in
    omega (arith, room)

pub put_entries-requires : goal.put_entries-requires
put_entries-requires c =
    let curves = curves_of (goal.at.put_entries-requires c).Start in
    let room = room_of (goal.at.put_entries-requires c).Start in
    let d = curves in (omega (arith, d.size), (d.few, omega (arith, c.entry_at.ensures, room)))

pub entry_at-requires-2 : goal.entry_at-requires-2
entry_at-requires-2 c =
    let room = room_of (goal.at.entry_at-requires-2 c).Start in
    omega (arith, room)

pub record_at-requires : goal.record_at-requires
record_at-requires c =
    let curves = curves_of (goal.at.record_at-requires c).Start in
    let d = curves in omega (arith, d.size)

pub slice_bounds-put_bytes-count : goal.slice_bounds-put_bytes-count
slice_bounds-put_bytes-count c =
    let curves = curves_of (goal.at.slice_bounds-put_bytes-count c).Start in
    let d = curves in omega (arith, d.size, c.record_at.ensures)

pub slice_bounds-put_bytes-start : goal.slice_bounds-put_bytes-start
slice_bounds-put_bytes-start c =
    let curves = curves_of (goal.at.slice_bounds-put_bytes-start c).Start in
    let d = curves in omega (arith, d.size, c.record_at.ensures)

pub put_bytes-requires-2 : goal.put_bytes-requires-2
put_bytes-requires-2 c =
    let curves = curves_of (goal.at.put_bytes-requires-2 c).Start in
    let room = room_of (goal.at.put_bytes-requires-2 c).Start in
    let d = curves in simp (length-take, length-drop) (omega (arith, d.size, c.record_at.ensures, c.entry_at-2.ensures, room))

pub returns : goal.returns
returns c =
    let laid = laid_of (goal.at.returns c).Start in
    let curves = curves_of (goal.at.returns c).Start in
    let bytes : all_fit 1 c.args.file.now ≡ true = fit-each 1 c.args.file.now (λ i. omega (arith, c.type_inv.file i)) in
    let a = c.args in whole-put a.file.now bytes a.form a.n a.k (laid_started laid.laid) curves a.out.now c.requires.1.1 c.put_bytes.ensures.1 c.put_lead.ensures c.put_entries.ensures c.put_bytes-2.ensures.1 c.record_at.ensures refl c.entry_at.ensures c.entry_at-2.ensures
