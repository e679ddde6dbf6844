-- `gate::gate_for`: each return is decided by the tests before it.
use native.Mathlib.Omega.{arith}
use Rattle.gate.proofs.Tests.{half-marks, too_few, too_many, no_room, no_params, not_near, not_usable, lets_pass}
use Rattle.gate.proofs.gate_for.Goals as goal

pub returns-then-len-ne0 : goal.returns-then-len-ne0
returns-then-len-ne0 c = half-marks _ _ _ _ _ _ _ _ _ _ c.if-len-ne0.true

pub returns-then-n-more : goal.returns-then-n-more
returns-then-n-more c = too_few _ _ _ _ _ _ _ _ _ _ (omega arith) (omega (arith, c.again-more.ensures))

pub returns-then-n-top : goal.returns-then-n-top
returns-then-n-top c = too_many _ _ _ _ _ _ _ _ _ _ (omega arith) (omega (arith, c.again-more.ensures)) (omega arith)

pub returns-then-not-has_room : goal.returns-then-not-has_room
returns-then-not-has_room c = no_room _ _ _ _ _ _ _ _ _ _ (omega arith) (omega (arith, c.again-more.ensures)) (omega arith) c.has_room.ensures c.if-not-has_room.true

pub returns-then-room-more : goal.returns-then-room-more
returns-then-room-more c = no_params _ _ _ _ _ _ _ _ _ _ (omega arith) (omega (arith, c.again-more.ensures)) (omega arith) c.has_room.ensures c.if-not-has_room.false (omega (arith, c.again-more.ensures))

pub returns-then-not-all_in_range : goal.returns-then-not-all_in_range
returns-then-not-all_in_range c = not_near _ _ _ _ _ _ _ _ _ _ (omega arith) (omega (arith, c.again-more.ensures)) (omega arith) c.has_room.ensures c.if-not-has_room.false (omega (arith, c.again-more.ensures)) c.all_in_range.ensures c.if-not-all_in_range.true

pub returns-then-not-is_tolerable : goal.returns-then-not-is_tolerable
returns-then-not-is_tolerable c = not_usable _ _ _ _ _ _ _ _ _ _ (omega arith) (omega (arith, c.again-more.ensures)) (omega arith) c.has_room.ensures c.if-not-has_room.false (omega (arith, c.again-more.ensures)) c.all_in_range.ensures c.if-not-all_in_range.false c.is_tolerable.ensures c.if-not-is_tolerable.true

pub returns : goal.returns
returns c = lets_pass _ _ _ _ _ _ _ _ _ _ (omega arith) (omega (arith, c.again-more.ensures)) (omega arith) c.has_room.ensures c.if-not-has_room.false (omega (arith, c.again-more.ensures)) c.all_in_range.ensures c.if-not-all_in_range.false c.is_tolerable.ensures c.if-not-is_tolerable.false
