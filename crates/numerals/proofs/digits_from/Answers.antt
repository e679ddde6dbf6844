-- `numerals::digits_from` meets its contract.
use Prim.Native.Nat.{ℕ, ◌+◌, ◌-◌, ◌*◌}
use mathlib.Core.Path.{ap, ◌∙◌}
use native.Mathlib.Omega.{arith}
use Rattle.path.specs.Numbers.{is_digit}
use Rattle.numerals.specs.Numerals.{cap}
use Rattle.numerals.proofs.Leading.{read_as, digit_here, more, end}
use Rattle.numerals.proofs.digits_from.Goals as goal

pub grown-v-requires : goal.grown-v-requires
grown-v-requires c =
    omega (arith, digit_here c.args.text.now c.loop-v.i (read_as is_digit c.byte_at.ensures c.is_digit.ensures c.loop-v-test.true), c.byte_at-in-loop-v.ensures)

pub overflow_add-i : goal.overflow_add-i
overflow_add-i c = omega (arith, digit_here c.args.text.now c.loop-v.i (read_as is_digit c.byte_at.ensures c.is_digit.ensures c.loop-v-test.true))

pub loop-v-smaller : goal.loop-v-smaller
loop-v-smaller c = omega (arith, digit_here c.args.text.now c.loop-v.i (read_as is_digit c.byte_at.ensures c.is_digit.ensures c.loop-v-test.true))

pub loop-v-preserved : goal.loop-v-preserved
loop-v-preserved c = (
  omega (arith, c.grown-v.ensures),
  more _ _ _ c.loop-v.invariant.1 (read_as is_digit c.byte_at.ensures c.is_digit.ensures c.loop-v-test.true)
      (c.grown-v.ensures ∙ ap (λ (b : ℕ). cap (10 * c.loop-v.v + (b - 48))) c.byte_at-in-loop-v.ensures),
)

pub returns : goal.returns
returns c =
    end _ _ _ c.loop-v.invariant.1 (read_as is_digit c.byte_at.ensures c.is_digit.ensures c.loop-v-test.false) c.loop-v.invariant.0
