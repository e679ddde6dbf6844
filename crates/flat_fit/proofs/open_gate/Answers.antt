-- `flat_fit::open_gate` meets its contract.
use native.Mathlib.Omega.{arith}
use mathlib.Core.Path.{sym, ap, ◌∙◌}
use Rattle.std.specs.Prelude.{Err}
use Rattle.float.specs.Refusal.{refusal}
use Rattle.marks.specs.Marks.{count}
use Rattle.flat_fit.specs.Flat.{open_gate}
use Rattle.flat_fit.proofs.Flat.{roomy, no_room, no_room_first, other_first}
use Rattle.flat_fit.proofs.open_gate.Goals as goal

pub returns-then-wanted-room : goal.returns-then-wanted-room
returns-then-wanted-room c = let a = c.args in roomy (refusal a.passes) a.room (count a.marks.now) (omega (arith, c.if-wanted-room))

pub returns-in_default : goal.returns-in_default
returns-in_default c = no_room c.args.room (count c.args.marks.now) (omega (arith, c.if-wanted-room)) ∙ ap (λ r. open_gate (refusal r) c.args.room (count c.args.marks.now)) (sym c.in_default.is)

pub returns-in-OutOfRange : goal.returns-in-OutOfRange
returns-in-OutOfRange c = no_room_first c.args.room (count c.args.marks.now) (omega (arith, c.if-wanted-room)) ∙ ap (λ r. open_gate (refusal r) c.args.room (count c.args.marks.now)) (sym (c.in-Err.is ∙ ap Err c.in-OutOfRange.is))

pub returns-in_default-q : goal.returns-in_default-q
returns-in_default-q c = other_first c.args.room (count c.args.marks.now) (omega (arith, c.if-wanted-room)) c.in-Err.q c.in_default-q.not-OutOfRange ∙ ap (λ r. open_gate (refusal r) c.args.room (count c.args.marks.now)) (sym c.in-Err.is)
