-- `part::try_line` meets its contract.
use Rattle.part.proofs.Trials.{line-done, two_set}
use Rattle.part.proofs.try_line.Goals as goal

pub returns : goal.returns
returns c = line-done _ _ _ (simp (c.mark_at-2.ensures, c.mark_at.ensures) at c.in_ok-curve.ensures) (two_set c.args.params.now c.requires.0)
