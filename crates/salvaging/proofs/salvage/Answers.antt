-- `salvaging::salvage` meets its contract.
use mathlib.Core.Path.{sym}
use Rattle.packed_heads.proofs.Told.{held_told}
use Rattle.salvaging.proofs.Ways.{held-few, salvage_broken, salvage-done}
use Rattle.salvaging.proofs.salvage.Goals as goal

pub returns-in_default : goal.returns-in_default
returns-in_default c = let a = c.args in salvage_broken a.file.now a.out.now a.report.now (sym c.in_default.ensures)

pub clean-requires : goal.clean-requires
clean-requires c = let t = held_told _ _ _ _ _ (sym c.in-Some.ensures) in (t.marks, held-few t)

pub returns : goal.returns
returns c = let a = c.args in salvage-done a.out.now a.report.now (held_told _ _ _ _ _ (sym c.in-Some.ensures)) c.clean.ensures
