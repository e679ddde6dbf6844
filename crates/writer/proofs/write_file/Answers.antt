-- `writer::write_file` meets its contract.
use mathlib.Core.Path.{sym, ◌∙◌}
use Prim.Native.Nat.{◌/◌}
use native.Mathlib.Omega.{arith}
use lib.ListN.{length}
use Rattle.house.proofs.Forms.{size_few}
use Rattle.grammar.proofs.Rooms.{Places, places}
use Rattle.writer.proofs.Ways.{Call, write_odd, write_many, write_short, write_small, write_unfit, write_done}
use Rattle.writer.proofs.write_file.Goals as goal
use Rattle.writer.proofs.write_file.Goals.{Start}

-- the call's arguments, as one
abbrev w_of : (c : Start) → Call
w_of c = record { form = c.args.form; tolerance = c.args.tolerance; marks = c.args.marks.now; count = c.args.count; firsts = c.args.firsts.now; worsts = c.args.worsts.now; curves = c.args.curves.now; params = c.args.params.now; out = c.args.out.now }

pub returns-then-marks-ne0 : goal.returns-then-marks-ne0
returns-then-marks-ne0 c =
    let w = w_of (goal.at.returns-then-marks-ne0 c).Start in
    write_odd w c.if-marks-ne0.true

pub returns-then-n-gt-MOST_MARKS : goal.returns-then-n-gt-MOST_MARKS
returns-then-n-gt-MOST_MARKS c =
    let w = w_of (goal.at.returns-then-n-gt-MOST_MARKS c).Start in
    write_many w c.if-marks-ne0.false (omega arith)

pub size_for-size-requires : goal.size_for-size-requires
size_for-size-requires c =
    let w = w_of (goal.at.size_for-size-requires c).Start in
    let roomy : Places w.form (length w.marks / 2) w.count (length w.firsts) (length w.worsts) (length w.curves) (length w.params) = places _ _ _ _ _ _ _ (sym c.has_room.ensures ∙ c.if-has_room.true) in
    size_few w.form _ w.count _ roomy.curves (omega arith) (omega arith)

pub returns-then-out-size : goal.returns-then-out-size
returns-then-out-size c =
    let w = w_of (goal.at.returns-then-out-size c).Start in
    write_small w c.if-marks-ne0.false (omega arith) (sym c.has_room.ensures ∙ c.if-has_room.true) (omega (arith, c.size_for-size.ensures))

pub can_hold-requires : goal.can_hold-requires
can_hold-requires c =
    let w = w_of (goal.at.can_hold-requires c).Start in
    let roomy : Places w.form (length w.marks / 2) w.count (length w.firsts) (length w.worsts) (length w.curves) (length w.params) = places _ _ _ _ _ _ _ (sym c.has_room.ensures ∙ c.if-has_room.true) in
    let s = roomy in (s.firsts, s.worsts)

pub put_file-requires : goal.put_file-requires
put_file-requires c =
    let w = w_of (goal.at.put_file-requires c).Start in
    let roomy : Places w.form (length w.marks / 2) w.count (length w.firsts) (length w.worsts) (length w.curves) (length w.params) = places _ _ _ _ _ _ _ (sym c.has_room.ensures ∙ c.if-has_room.true) in
    let s = roomy in
    record { mark_numbers_len = c.if-marks-ne0.false; room = record { bytes = omega (arith, c.size_for-size.ensures); marks = omega arith; firsts = s.firsts; worsts = s.worsts; curves = s.curves; params = s.params } }

pub returns-then-can_hold : goal.returns-then-can_hold
returns-then-can_hold c =
    let w = w_of (goal.at.returns-then-can_hold c).Start in
    write_done w c.if-marks-ne0.false (omega arith) (sym c.has_room.ensures ∙ c.if-has_room.true) (omega (arith, c.size_for-size.ensures)) (sym c.can_hold.ensures ∙ c.if-can_hold.true) c.size_for-size.ensures c.put_file.ensures

pub returns-then-has_room : goal.returns-then-has_room
returns-then-has_room c =
    let w = w_of (goal.at.returns-then-has_room c).Start in
    write_unfit w c.if-marks-ne0.false (omega arith) (sym c.has_room.ensures ∙ c.if-has_room.true) (omega (arith, c.size_for-size.ensures)) (sym c.can_hold.ensures ∙ c.if-can_hold.false)

pub returns : goal.returns
returns c =
    let w = w_of (goal.at.returns c).Start in
    write_short w c.if-marks-ne0.false (omega arith) (sym c.has_room.ensures ∙ c.if-has_room.false)
