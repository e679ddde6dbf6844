-- `import::close` meets its contract.
use mathlib.Core.Path.{sym, ◌∙◌}
use Rattle.import.proofs.Walks.{closes_there, closes_line}
use Rattle.import.proofs.close.Goals as goal

pub returns-then-equal : goal.returns-then-equal
returns-then-equal c =
    let a = c.args in
    closes_there a.start a.p a.count a.out.now (sym c.equal.ensures ∙ c.if-equal.true)

pub returns : goal.returns
returns c =
    let a = c.args in
    closes_line a.start a.p a.count a.out.now (sym c.equal.ensures ∙ c.if-equal.false) c.line.ensures c.put_curve.ensures
