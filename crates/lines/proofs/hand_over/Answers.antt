-- `lines::hand_over` meets its contract.
use native.Mathlib.Omega.{arith}
use Rattle.lines.proofs.Handed.{over-short, over-whole}
use Rattle.lines.proofs.hand_over.Goals as goal

pub returns-then-out-text : goal.returns-then-out-text
returns-then-out-text c = let a = c.args in over-short a.text.now a.out.now (omega arith)

pub returns : goal.returns
returns c = let a = c.args in over-whole a.text.now a.out.now (omega arith) c.put_bytes.ensures
