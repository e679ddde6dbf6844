-- `import::step_at` meets its contract.
use Rattle.import.proofs.Steps.{step-ended, step-closed, step_line, step-curve, step-again}
use Rattle.import.proofs.step_at.Goals as goal

pub returns-then-next-text : goal.returns-then-next-text
returns-then-next-text c =
    let a = c.args in
    step-ended a.text.now a.at a.letter a.p c.past_space-next.ensures c.if-next-text.true

pub returns-then-b-eq90 : goal.returns-then-b-eq90
returns-then-b-eq90 c =
    let a = c.args in
    step-closed a.text.now a.at a.letter a.p c.past_space-next.ensures c.if-next-text.false c.byte_at-b.ensures c.if-b-eq90.true c.closed_at.ensures

pub returns-then-b-eq76 : goal.returns-then-b-eq76
returns-then-b-eq76 c =
    let a = c.args in
    step_line a.text.now a.at a.letter a.p c.past_space-next.ensures c.if-next-text.false c.byte_at-b.ensures c.if-b-eq90.false c.if-b-eq76.true c.past_space.ensures c.drawn_at.ensures

pub returns-then-b-eq67 : goal.returns-then-b-eq67
returns-then-b-eq67 c =
    let a = c.args in
    step-curve a.text.now a.at a.letter a.p c.past_space-next.ensures c.if-next-text.false c.byte_at-b.ensures c.if-b-eq90.false c.if-b-eq76.false c.if-b-eq67.true c.past_space-then-b-eq67.ensures c.drawn_at-then-b-eq67.ensures

pub returns : goal.returns
returns c =
    let a = c.args in
    step-again a.text.now a.at a.letter a.p c.past_space-next.ensures c.if-next-text.false c.byte_at-b.ensures c.if-b-eq90.false c.if-b-eq76.false c.apart_at.result c.if-b-eq67.false c.apart_at.ensures c.drawn_at-2.ensures
