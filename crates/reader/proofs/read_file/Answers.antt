-- `reader::read_file` meets its contract.
use mathlib.Core.Path.{◌≡◌, sym, ◌∙◌}
use native.Mathlib.Omega.{arith}
use Rattle.std.proofs.Common.{Some}
use Rattle.packed_heads.specs.Layout.{held_layout_of}
use Rattle.packed_heads.proofs.Told.{HeldTold, held_told, stored}
use Rattle.reader.proofs.Ways.{held-room, read_broken, read_many, read-few, read_short, read-given}
use Rattle.reader.proofs.read_file.Goals as goal
use Rattle.reader.proofs.read_file.Goals.{In-Some}

-- how the file is laid out, and what that tells
layout_of : (c : In-Some) → held_layout_of c.args.file.now ≡ Some (stored c.in-Some.held.joints c.in-Some.held.layout.form c.in-Some.held.layout.marks c.in-Some.held.layout.curves)
layout_of c = sym c.in-Some.ensures

found_of : (c : In-Some) → HeldTold c.args.file.now c.in-Some.held.joints c.in-Some.held.layout.form c.in-Some.held.layout.marks c.in-Some.held.layout.curves
found_of c = held_told _ _ _ _ _ (layout_of c)

pub returns-in_default : goal.returns-in_default
returns-in_default c = read_broken _ (sym c.in_default.ensures)

pub returns-then-n-gt-MOST_MARKS : goal.returns-then-n-gt-MOST_MARKS
returns-then-n-gt-MOST_MARKS c =
    let found = found_of (goal.at.returns-then-n-gt-MOST_MARKS c).In-Some in
    read_many found (omega arith)

pub returns-then-marks-n : goal.returns-then-marks-n
returns-then-marks-n c =
    let found = found_of (goal.at.returns-then-marks-n c).In-Some in
    read-few found (omega arith) (omega arith)

pub copy_held-requires : goal.copy_held-requires
copy_held-requires c =
    let layout = layout_of (goal.at.copy_held-requires c).In-Some in
    held-room _ _ _ _ c.args.marks.now c.args.firsts.now c.args.worsts.now c.args.curves.now c.args.params.now _ layout (omega arith) (sym c.has_room.ensures ∙ c.if-has_room.true)

pub eight-requires : goal.eight-requires
eight-requires c =
    let found = found_of (goal.at.eight-requires c).In-Some in
    omega (arith, found.starts.long)

pub returns-then-has_room : goal.returns-then-has_room
returns-then-has_room c =
    let found = found_of (goal.at.returns-then-has_room c).In-Some in
    read-given found (omega arith) (omega arith) (sym c.has_room.ensures ∙ c.if-has_room.true) c.eight.ensures c.copy_held.ensures

pub returns : goal.returns
returns c =
    let found = found_of (goal.at.returns c).In-Some in
    read_short found (omega arith) (omega arith) (sym c.has_room.ensures ∙ c.if-has_room.false)
