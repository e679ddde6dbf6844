-- `salvaging::put_report` meets its contract.
use native.Mathlib.Omega.{arith}
use Rattle.salvaging.proofs.Texts.{report-room, report-put}
use Rattle.salvaging.proofs.put_report.Goals as goal

pub put_pair-lines-requires : goal.put_pair-lines-requires
put_pair-lines-requires c = let a = c.args in omega (arith, c.requires.n_in_bounds.1.1, report-room a.file.now a.n a.kept c.requires.kept_value)

pub put_part-requires : goal.put_part-requires
put_part-requires c = let a = c.args in (c.requires.n_in_bounds.0, omega (arith, c.requires.n_in_bounds.1.1, report-room a.file.now a.n a.kept c.requires.kept_value, c.put_pair-lines.ensures.end))

pub returns : goal.returns
returns c = let a = c.args in report-put a.file.now a.n a.kept c.requires.kept_value a.report.now c.requires.n_in_bounds.1.1 c.put_pair-lines.ensures c.put_part.ensures
