-- `flat_fit::gate_in` meets its contract.
use Rattle.limits.specs.Limits.{most_marks}
use Rattle.fit.proofs.Entries.{of_outline}
use Rattle.flat_fit.proofs.Flat.{given-gate, by_gate}
use Rattle.flat_fit.proofs.gate_in.Goals as goal

pub returns-in-Given : goal.returns-in-Given
returns-in-Given c = let a = c.args in given-gate a.heading c.in-Given.ways a.marks.now a.tolerance a.room.curves a.room.firsts a.room.worsts a.room.params _ c.in-Given.is c.gate_cubic.ensures

pub returns-in-By : goal.returns-in-By
returns-in-By c =
    let a = c.args in
    by_gate a.heading c.in-By.cutting a.marks.now a.tolerance a.room.curves a.room.firsts a.room.worsts a.room.params _ c.in-By.is
    (of_outline most_marks _ _ a.marks.now a.tolerance a.room.curves a.room.firsts a.room.worsts a.room.params _ c.outline_of.ensures c.gate.ensures)
