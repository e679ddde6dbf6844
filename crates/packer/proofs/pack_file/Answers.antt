-- `packer::pack_file` meets its contract.
use mathlib.Core.Path.{◌≡◌, sym, ◌∙◌}
use mathlib.Core.Bool.{true}
use Prim.Native.Nat.{◌+◌, ◌*◌, ◌≤◌}
use native.Mathlib.Omega.{arith}
use lib.ListN.{length}
use Rattle.house.specs.Bytes.{all_fit}
use Rattle.house.proofs.Numbers.{fit-each}
use Rattle.grammar.proofs.Laid.{Ended}
use Rattle.heads.proofs.Ways.{Told, told, untold}
use Rattle.packed.specs.Unpacked.{entry_at}
use Rattle.packed.specs.Layout.{packed_size}
use Rattle.packed.proofs.Sizes.{packed_size_some}
use Rattle.packer.proofs.Whole.{with_curves}
use Rattle.packer.proofs.Ways.{entries_within, pack_broken, pack-plain, pack_long, pack-apart, pack-small, pack-done}
use Rattle.packer.proofs.pack_file.Goals as goal
use Rattle.packer.proofs.pack_file.Goals.{After-entry_at, Else-k-eq0, In-Some}

-- what the layout tells, and of a file with curves where they stand and how long it is packed
found_of : (c : In-Some) → Told c.args.file.now c.in-Some.layout.form c.in-Some.layout.marks c.in-Some.layout.curves
found_of c = told _ _ _ _ (sym c.in-Some.ensures)

curves_of : (c : Else-k-eq0) → Ended c.args.file.now c.in-Some.layout.form c.in-Some.layout.marks c.in-Some.layout.curves
curves_of c = with_curves (told _ _ _ _ (sym c.in-Some.ensures)).laid (omega arith)

few_of : (c : Else-k-eq0) → entry_at c.in-Some.layout.form c.in-Some.layout.marks c.in-Some.layout.curves + 6 + 8 * c.in-Some.layout.marks ≤ length c.args.file.now + 27
few_of c = omega (arith, (curves_of c).size, entries_within c.in-Some.layout.form c.in-Some.layout.marks c.in-Some.layout.curves)

size_of : (c : After-entry_at) → packed_size c.in-Some.layout.form c.in-Some.layout.marks c.in-Some.layout.curves ≡ c.entry_at.result + 6 + 8 * c.in-Some.layout.marks
size_of c = omega (arith, packed_size_some c.in-Some.layout.form c.in-Some.layout.marks {k = c.in-Some.layout.curves} (omega arith), c.entry_at.ensures)

pub returns-in_default : goal.returns-in_default
returns-in_default c = let a = c.args in pack_broken a.file.now a.out.now (untold a.file.now (sym c.in_default.ensures))

pub returns-then-k-eq0 : goal.returns-then-k-eq0
returns-then-k-eq0 c =
    let bytes : all_fit 1 c.args.file.now ≡ true = fit-each 1 c.args.file.now (λ i. omega (arith, c.type_inv.file i)) in
    let found = found_of (goal.at.returns-then-k-eq0 c).In-Some in
    let a = c.args in pack-plain a.file.now a.out.now found bytes (omega arith) c.hand_over.ensures

pub packed_length-requires : goal.packed_length-requires
packed_length-requires c =
    let few = few_of (goal.at.packed_length-requires c).Else-k-eq0 in
    omega (arith, few)

pub curves_meet-requires : goal.curves_meet-requires
curves_meet-requires c =
    let curves = curves_of (goal.at.curves_meet-requires c).Else-k-eq0 in
    let d = curves in (omega (arith, d.size), d.some)

pub entry_at-requires : goal.entry_at-requires
entry_at-requires c =
    let few = few_of (goal.at.entry_at-requires c).Else-k-eq0 in
    omega (arith, few)

pub overflow_add-size : goal.overflow_add-size
overflow_add-size c =
    let few = few_of (goal.at.overflow_add-size c).Else-k-eq0 in
    omega (arith, few, c.entry_at.ensures)

pub overflow_add-size-then-curves_meet : goal.overflow_add-size-then-curves_meet
overflow_add-size-then-curves_meet c =
    let few = few_of (goal.at.overflow_add-size-then-curves_meet c).Else-k-eq0 in
    omega (arith, few, c.entry_at.ensures)

pub returns-then-out-size : goal.returns-then-out-size
returns-then-out-size c =
    let found = found_of (goal.at.returns-then-out-size c).In-Some in
    let size = size_of (goal.at.returns-then-out-size c).After-entry_at in
    let a = c.args in pack-small a.file.now a.out.now found (omega arith) c.packed_length.ensures (sym c.length_fits.ensures ∙ c.if-length_fits.true) (sym c.curves_meet.ensures ∙ c.if-curves_meet.true) (omega (arith, size))

pub put_packed-requires : goal.put_packed-requires
put_packed-requires c =
    let size = size_of (goal.at.put_packed-requires c).After-entry_at in
    (sym c.in-Some.ensures, (omega arith, omega (arith, size)))

pub returns-then-curves_meet : goal.returns-then-curves_meet
returns-then-curves_meet c =
    let found = found_of (goal.at.returns-then-curves_meet c).In-Some in
    let size = size_of (goal.at.returns-then-curves_meet c).After-entry_at in
    let a = c.args in pack-done a.file.now a.out.now found (omega arith) c.packed_length.ensures (sym c.length_fits.ensures ∙ c.if-length_fits.true) (sym c.curves_meet.ensures ∙ c.if-curves_meet.true) (omega (arith, size)) (sym size) c.put_packed.ensures

pub returns-then-length_fits : goal.returns-then-length_fits
returns-then-length_fits c =
    let found = found_of (goal.at.returns-then-length_fits c).In-Some in
    let a = c.args in pack-apart a.file.now a.out.now found (omega arith) c.packed_length.ensures (sym c.length_fits.ensures ∙ c.if-length_fits.true) (sym c.curves_meet.ensures ∙ c.if-curves_meet.false)

pub returns : goal.returns
returns c =
    let found = found_of (goal.at.returns c).In-Some in
    let a = c.args in pack_long a.file.now a.out.now found (omega arith) c.packed_length.ensures (sym c.length_fits.ensures ∙ c.if-length_fits.false)
