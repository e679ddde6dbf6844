-- `unpacker::records::put_numbers` meets its contract.
use mathlib.Core.Path.{◌≡◌, ◌∙◌}
use mathlib.Core.Bool.{true}
use Prim.Native.Nat.{◌+◌, ◌*◌, ◌-◌, ◌≤◌}
use native.Mathlib.Omega.{arith}
use lib.ListN.{length, take, drop, length-take, length-drop}
use lib.Seq.{length-take-le}
use Rattle.house.specs.Bytes.{all_fit}
use Rattle.house.proofs.Numbers.{fit-each}
use Rattle.packed.specs.Packed.{rest_numbers}
use Rattle.packed.specs.Unpacked.{start_place, rest_place}
use Rattle.packed.proofs.Sizes.{rest_is}
use Rattle.packed.proofs.Places.{start_before}
use Rattle.unpacker.proofs.Pieces.{numbers-put}
use Rattle.unpacker.proofs.records.put_numbers.Goals as goal
use Rattle.unpacker.proofs.records.put_numbers.Goals.{Start}

-- the start and the rest are within the file
there_of : (c : Start) → let a = c.args in (start_place a.form a.n a.i + 16 ≤ length a.file.now) × (rest_place a.form a.n a.i + 8 * rest_numbers a.form ≤ length a.file.now)
there_of c = let a = c.args in (omega (arith, start_before a.form a.n a.i, c.requires.0), omega (arith, c.requires.0))

pub overflow_add-start : goal.overflow_add-start
overflow_add-start c =
    let there = there_of (goal.at.overflow_add-start c).Start in
    omega (arith, c.start_place-start.ensures, there.0)

pub slice_bounds-put_bytes-end : goal.slice_bounds-put_bytes-end
slice_bounds-put_bytes-end c =
    let there = there_of (goal.at.slice_bounds-put_bytes-end c).Start in
    omega (arith, c.start_place-start.ensures, there.0)

pub put_bytes-behind-requires : goal.put_bytes-behind-requires
put_bytes-behind-requires c = simp (length-take, length-drop) (omega (arith, rest_is c.args.form, c.requires.1))

pub slice_bounds-put_bytes-end-2 : goal.slice_bounds-put_bytes-end-2
slice_bounds-put_bytes-end-2 c =
    let there = there_of (goal.at.slice_bounds-put_bytes-end-2 c).Start in
    omega (arith, c.entry_at-rest.ensures, c.rest_numbers.ensures, there.1)

pub put_bytes-requires : goal.put_bytes-requires
put_bytes-requires c = simp (length-take, length-drop) (omega (arith, c.rest_numbers.ensures, rest_is c.args.form, c.requires.1))

pub returns : goal.returns
returns c =
    let bytes : all_fit 1 c.args.file.now ≡ true = fit-each 1 c.args.file.now (λ i. omega (arith, c.shared_slice_known-1.given i)) in
    let there = there_of (goal.at.returns c).Start in
    let a = c.args in
    let h = there in
    let p = start_place a.form a.n a.i in
    let q = rest_place a.form a.n a.i in
    let r = 8 * rest_numbers a.form in
    let e : p + 16 - p ≡ 16 = omega arith in
    let f : q + r - q ≡ r = omega arith in
    let z : length (take 16 (drop p a.file.now)) ≡ 16 = length-take-le 16 (drop p a.file.now) (simp length-drop (omega (arith, h.0))) in
    c.put_bytes.ensures.1 ∙ rw (c.put_bytes-behind.ensures.1, c.put_bytes-behind.ensures.0, c.start_place-start.ensures, c.entry_at-rest.ensures, c.rest_numbers.ensures, e, f, z) (numbers-put a.out.now a.at a.file.now p q (rest_numbers a.form) bytes h.0 h.1)
