-- `lines::hand_refusal` meets its contract.
use native.Mathlib.Omega.{arith}
use Rattle.lines.proofs.Handed.{over-front}
use Rattle.lines.proofs.hand_refusal.Goals as goal

pub returns : goal.returns
returns c = over-front c.put_refusal-size.ensures.1 (omega (arith, c.put_refusal-size.ensures.0, c.line_room-text.ensures)) c.args.out.now c.hand_over.ensures
