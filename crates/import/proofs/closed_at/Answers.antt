-- `import::closed_at` meets its contract.
use Rattle.import.proofs.Steps.{closed_not, closed_so}
use Rattle.import.proofs.closed_at.Goals as goal

pub returns-then-past_space-text : goal.returns-then-past_space-text
returns-then-past_space-text c = closed_not c.args.text.now c.args.at c.past_space.ensures c.if-past_space-text.true

pub returns : goal.returns
returns c = closed_so c.args.text.now c.args.at c.past_space.ensures c.if-past_space-text.false
