-- `words::number_in` meets its contract: what is left to read stays the same.
use Prim.Native.Nat.{◌≤◌, ◌<◌, ◌*◌}
use mathlib.Core.Path.{sym}
use native.Mathlib.Omega.{arith}
use Rattle.words.proofs.Reading as reading
use Rattle.words.proofs.number_in.Goals as goal

pub returns-then-d-base : goal.returns-then-d-base
returns-then-d-base c =
    reading.foreign_at c.args.base c.loop-b.v c.args.s.now c.loop-b.b-index c.digit-d.result (omega arith) c.digit-d.ensures (sym c.loop-b.invariant) (omega arith)

pub returns-then-v-most : goal.returns-then-v-most
returns-then-v-most c =
    let positive : 0 < c.args.base = omega arith in
    let above = reading.above {base = c.args.base} {v = c.loop-b.v} {m = 18446744073709551615} positive (omega arith) in
    reading.passing_at c.args.base c.loop-b.v c.args.s.now c.loop-b.b-index c.digit-d.result (omega arith) c.digit-d.ensures (sym c.loop-b.invariant) (omega (arith, above))

pub returns-then-d-w : goal.returns-then-d-w
returns-then-d-w c =
    let fits : c.loop-b.v * c.args.base ≤ 18446744073709551615 = reading.within {base = c.args.base} (omega arith) (omega arith) in
    reading.passing_at c.args.base c.loop-b.v c.args.s.now c.loop-b.b-index c.digit-d.result (omega arith) c.digit-d.ensures (sym c.loop-b.invariant) (omega (arith, fits))

pub loop-b-preserved : goal.loop-b-preserved
loop-b-preserved c =
    let fits : c.loop-b.v * c.args.base ≤ 18446744073709551615 = reading.within {base = c.args.base} (omega arith) (omega arith) in
    reading.more c.args.base c.loop-b.v c.args.s.now c.loop-b.b-index c.digit-d.result (omega arith) c.digit-d.ensures c.loop-b.invariant (omega arith) (omega (arith, fits))

pub returns : goal.returns
returns c =
    reading.end c.args.base c.loop-b.v c.loop-b.b-index c.args.s.now c.loop-b.invariant (omega arith)
