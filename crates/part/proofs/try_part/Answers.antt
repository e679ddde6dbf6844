-- `part::try_part` meets its contract.
use Rattle.part.proofs.Trials.{found, lost, refused_told, part_line, part_lost, part_judged}
use Rattle.part.proofs.try_part.Goals as goal

pub returns-then-n-le2 : goal.returns-then-n-le2
returns-then-n-le2 c = part_line _ _ _ _ _ c.requires.1 c.if-n-le2.true _ _ c.try_line.ensures

pub returns-in_err-s : goal.returns-in_err-s
returns-in_err-s c = part_lost _ _ _ _ _ c.requires.1 c.if-n-le2.false _ _ _ (lost _ _ _ c.in_err-s.ensures) (refused_told _ _ _ c.from_residual.ensures.1)

pub returns : goal.returns
returns c = part_judged _ _ _ _ _ c.requires.1 c.if-n-le2.false _ _ _ (found _ _ _ c.in_ok-s.ensures) c.judge.ensures
