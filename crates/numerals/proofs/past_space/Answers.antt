-- `numerals::past_space` meets its contract.
use native.Mathlib.Omega.{arith}
use Rattle.path.specs.Numbers.{is_space}
use Rattle.numerals.proofs.Leading.{read_as, space_here, space_more, space_end}
use Rattle.numerals.proofs.past_space.Goals as goal

pub overflow_add-i : goal.overflow_add-i
overflow_add-i c = omega (arith, space_here c.args.text.now c.loop-i.i (read_as is_space c.byte_at.ensures c.is_space.ensures c.loop-i-test.true))

pub loop-i-smaller : goal.loop-i-smaller
loop-i-smaller c = omega (arith, space_here c.args.text.now c.loop-i.i (read_as is_space c.byte_at.ensures c.is_space.ensures c.loop-i-test.true))

pub loop-i-preserved : goal.loop-i-preserved
loop-i-preserved c = space_more _ _ c.loop-i.invariant (read_as is_space c.byte_at.ensures c.is_space.ensures c.loop-i-test.true)

pub returns : goal.returns
returns c = space_end _ _ c.loop-i.invariant (read_as is_space c.byte_at.ensures c.is_space.ensures c.loop-i-test.false)
