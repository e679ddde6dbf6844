-- `gate::has_room`: the room is divided.
use Rattle.gate.specs.Gate.{room_for}
use Rattle.gate.proofs.Tests.{room_by}
use Rattle.gate.proofs.has_room.Goals as goal

pub returns : goal.returns
unfolding room_for
returns c = rw (c.worsts_for.ensures, c.width-width.ensures, room_by)
