-- `flat::flat::crosses` meets its contract.
use Rattle.flat.specs.Flat.{crosses}
use Rattle.flat.proofs.flat.crosses.Goals as goal

pub returns-then-y1-y2-clause-value : goal.returns-then-y1-y2-clause-value
unfolding crosses
returns-then-y1-y2-clause-value c = simp c.if-y1-y2.true

pub returns-then-y1-y2-2-clause-value : goal.returns-then-y1-y2-2-clause-value
unfolding crosses
returns-then-y1-y2-2-clause-value c = simp (c.if-y1-y2-2.true, c.if-y1-y2.false)

pub returns-clause-value : goal.returns-clause-value
unfolding crosses
returns-clause-value c = simp (c.if-y1-y2-2.false, c.if-y1-y2.false)
