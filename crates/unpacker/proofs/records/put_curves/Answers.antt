-- `unpacker::records::put_curves` meets its contract. After i turns the records of the first i curves are put.
use mathlib.Core.Path.{◌≡◌, refl, ap, ◌∙◌}
use Prim.Native.Nat.{ℕ, ◌+◌, ◌*◌, ◌≤◌}
use native.Mathlib.Omega.{arith}
use Rattle.house.specs.Limits.{curve_bytes}
use Rattle.house.proofs.Forms.{body-few, within}
use Rattle.packed.specs.Each.{each}
use Rattle.packed.specs.Packed.{entry_bytes}
use Rattle.unpacker.proofs.Pieces.{records_put}
use Rattle.unpacker.proofs.records.put_curves.Goals as goal
use Rattle.unpacker.proofs.records.put_curves.Goals.{In-loop-i}

-- record i is within the bytes
inside_of : (c : In-loop-i) → let a = c.args in let step = 6 + c.body_bytes-step.result in (step * c.loop-i.i + step ≤ step * a.k) × (step * a.k ≡ curve_bytes a.form a.field * a.k)
inside_of c = let a = c.args in (within (6 + c.body_bytes-step.result) a.k c.loop-i.i (omega arith), ap (λ (x : ℕ). (6 + x) * a.k) c.body_bytes-step.ensures)

pub overflow_add-step : goal.overflow_add-step
overflow_add-step c = let a = c.args in omega (arith, body-few a.form a.field, c.body_bytes-step.ensures)

pub loop-i-init : goal.loop-i-init
unfolding each
loop-i-init c = refl

pub overflow_mul-step : goal.overflow_mul-step
overflow_mul-step c =
    let inside = inside_of (goal.at.overflow_mul-step c).In-loop-i in
    omega (arith, inside, c.requires.1)

pub overflow_add-at : goal.overflow_add-at
overflow_add-at c =
    let inside = inside_of (goal.at.overflow_add-at c).In-loop-i in
    omega (arith, inside, c.requires.1)

pub put_curve-requires : goal.put_curve-requires
put_curve-requires c =
    let inside = inside_of (goal.at.put_curve-requires c).In-loop-i in
    let a = c.args in (omega (arith, within (entry_bytes a.form) a.k c.loop-i.i (omega arith), c.requires.0), omega (arith, inside, c.body_bytes-step.ensures, c.requires.1))

pub loop-i-preserved : goal.loop-i-preserved
loop-i-preserved c =
    let l = c.loop-i in
    let a = c.args in
    c.put_curve.ensures ∙ rw (l.invariant, c.body_bytes-step.ensures) (records_put a.file.now a.form a.field a.n a.out.now a.at l.i)

pub returns : goal.returns
returns c =
    let l = c.loop-i in
    let e : l.i ≡ c.args.k = omega arith in
    rw e at l.invariant
