-- `waiting::Course::try_marks`: a part of the marks given, or of those with mark 0 behind them.
use native.Mathlib.Omega.{arith}
use lib.ListN.{length-take, length-drop}
use Rattle.waiting.proofs.Steps.{same_part, given_part, round_part, behind}
use Rattle.waiting.proofs.Course.try_marks.Goals as goal

pub returns-then-past-self : goal.returns-then-past-self
returns-then-past-self c =
    let a = c.args in
    same_part _ _ a.start a.end a.self.now.tolerance _ _ (given_part a.self.now.marks.now a.from a.to c.requires.even.1.0 c.if-past-self.true) c.try_part.ensures

pub overflow_mul-behind : goal.overflow_mul-behind
overflow_mul-behind c =
    let l = c.args.self.now in
    let b = behind l.marks.now l.round.now l.tail c.args.from c.args.to c.requires.even c.requires.tail_le_from c.if-past-self.false in
    omega (arith, b, c.requires)

pub overflow_sub-behind : goal.overflow_sub-behind
overflow_sub-behind c =
    let l = c.args.self.now in
    let b = behind l.marks.now l.round.now l.tail c.args.from c.args.to c.requires.even c.requires.tail_le_from c.if-past-self.false in
    omega (arith, b, c.requires)

pub offset_bounds-self-behind : goal.offset_bounds-self-behind
offset_bounds-self-behind c =
    let l = c.args.self.now in
    let b = behind l.marks.now l.round.now l.tail c.args.from c.args.to c.requires.even c.requires.tail_le_from c.if-past-self.false in
    omega (arith, b, c.requires)

pub slice_bounds-try_part-count-2 : goal.slice_bounds-try_part-count-2
slice_bounds-try_part-count-2 c =
    let l = c.args.self.now in
    let b = behind l.marks.now l.round.now l.tail c.args.from c.args.to c.requires.even c.requires.tail_le_from c.if-past-self.false in
    omega (arith, b, c.requires)

pub slice_bounds-try_part-start-2 : goal.slice_bounds-try_part-start-2
slice_bounds-try_part-start-2 c =
    let l = c.args.self.now in
    let b = behind l.marks.now l.round.now l.tail c.args.from c.args.to c.requires.even c.requires.tail_le_from c.if-past-self.false in
    omega (arith, b, c.requires)

pub slice_bounds-try_part-end-2 : goal.slice_bounds-try_part-end-2
slice_bounds-try_part-end-2 c =
    let l = c.args.self.now in
    let b = behind l.marks.now l.round.now l.tail c.args.from c.args.to c.requires.even c.requires.tail_le_from c.if-past-self.false in
    omega (arith, b, c.requires)

pub try_part-requires-2 : goal.try_part-requires-2
try_part-requires-2 c =
    let l = c.args.self.now in
    let b = behind l.marks.now l.round.now l.tail c.args.from c.args.to c.requires.even c.requires.tail_le_from c.if-past-self.false in
    simp (length-take, length-drop) (omega (arith, b, c.requires), omega (arith, b, c.requires))

pub returns : goal.returns
returns c =
    let l = c.args.self.now in
    let b = behind l.marks.now l.round.now l.tail c.args.from c.args.to c.requires.even c.requires.tail_le_from c.if-past-self.false in
    same_part _ _ c.args.start c.args.end l.tolerance _ _ (round_part l.marks.now c.args.from c.args.to c.requires.even.1.0 c.requires.even.0 b.last l.round.now l.tail b.reach b.laid) c.try_part-2.ensures
