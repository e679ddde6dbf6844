-- `waiting::wait_blocks`: the ends of the blocks, from the last one back to the first.
use native.Mathlib.Omega.{arith}
use native.Mathlib.Nat.{div-mul-le_self}
use Prim.Native.Nat.{◌-◌}
use Rattle.waiting.proofs.Steps.{laid_first, below, falls, laid_next, laid_all}
use Rattle.waiting.proofs.wait_blocks.Goals as goal

pub overflow_sub-from : goal.overflow_sub-from
overflow_sub-from c = omega (arith, c.requires)

pub nonzero_div-from : goal.nonzero_div-from
nonzero_div-from c = omega (arith, c.requires)

pub overflow_mul-from : goal.overflow_mul-from
overflow_mul-from c = let l = div-mul-le_self (c.args.last - 1) c.args.size in omega (arith, c.requires)

pub loop-from-init : goal.loop-from-init
loop-from-init c = let p = c.requires in laid_first c.args.last c.args.size c.args.open.now (p.0, p.1.0)

pub overflow_cast-open : goal.overflow_cast-open
overflow_cast-open c = omega (arith, c.requires, below _ _ _ (c.requires.0, c.requires.1.0) c.loop-from.invariant)

pub offset_bounds-open-depth : goal.offset_bounds-open-depth
offset_bounds-open-depth c = omega (arith, c.requires, below _ _ _ (c.requires.0, c.requires.1.0) c.loop-from.invariant, c.loop-from.invariant)

pub bounds-open-depth : goal.bounds-open-depth
bounds-open-depth c = omega (arith, c.requires, below _ _ _ (c.requires.0, c.requires.1.0) c.loop-from.invariant, c.loop-from.invariant.same)

pub overflow_add-depth : goal.overflow_add-depth
overflow_add-depth c = omega (arith, c.requires, below _ _ _ (c.requires.0, c.requires.1.0) c.loop-from.invariant)

pub overflow_sub-from-in-loop-from : goal.overflow_sub-from-in-loop-from
overflow_sub-from-in-loop-from c = falls _ _ _ (c.requires.0, c.requires.1.0) c.loop-from.invariant c.loop-from-test.true

pub loop-from-smaller : goal.loop-from-smaller
loop-from-smaller c = omega (arith, c.requires, falls _ _ _ (c.requires.0, c.requires.1.0) c.loop-from.invariant c.loop-from-test.true)

pub loop-from-preserved : goal.loop-from-preserved
loop-from-preserved c = laid_next _ _ _ (c.requires.0, c.requires.1.0) c.loop-from.invariant c.loop-from-test.true (omega (arith, c.requires, below _ _ _ (c.requires.0, c.requires.1.0) c.loop-from.invariant, c.loop-from.invariant.same))

pub shape_of-open : goal.shape_of-open
shape_of-open c = c.loop-from.invariant.same

pub returns : goal.returns
returns c = laid_all _ _ _ (c.requires.0, c.requires.1.0) c.loop-from.invariant c.loop-from-test.false
