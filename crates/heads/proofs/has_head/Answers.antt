-- `heads::has_head` meets its contract.
use mathlib.Core.Path.{◌≡◌, ◌∙◌}
use borrow.Author.Tests.{eq-eqb, ne_eqb}
use Rattle.house.specs.Bytes.{num}
use Rattle.house.specs.Layout.{head_at}
use Rattle.heads.proofs.has_head.Goals as goal

pub returns-then-four-size : goal.returns-then-four-size
unfolding head_at
returns-then-four-size c =
    let a = c.args in
    let h : num 4 a.b.now a.at ≡ a.size → ⊥ = λ e. c.if-four-size.true (c.four.ensures.0 ∙ e) in
    rw (ne_eqb (num 4 a.b.now a.at) a.size h)

pub returns : goal.returns
unfolding head_at
returns c =
    let a = c.args in
    rw (← c.four.ensures.0, eq-eqb c.four.result a.size c.if-four-size.false, c.two.ensures.0)
