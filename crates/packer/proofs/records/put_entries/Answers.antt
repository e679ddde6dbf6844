-- `packer::records::put_entries` meets its contract. After i turns the first i curves are put.
use mathlib.Core.Path.{◌≡◌, refl, ap}
use Prim.Native.Nat.{ℕ, ◌+◌, ◌*◌, ◌≤◌}
use native.Mathlib.Omega.{arith}
use Rattle.house.proofs.Forms.{within}
use Rattle.packed.specs.Each.{each}
use Rattle.packed.specs.Packed.{entry_bytes}
use Rattle.packer.proofs.Puts.{entries_put}
use Rattle.packer.proofs.records.put_entries.Goals as goal
use Rattle.packer.proofs.records.put_entries.Goals.{In-loop-i}

-- curve i is within the bytes
inside_of : (c : In-loop-i) → let a = c.args in (c.entry_bytes-step.result * c.loop-i.i ≡ entry_bytes a.form * c.loop-i.i) × (entry_bytes a.form * c.loop-i.i + entry_bytes a.form ≤ entry_bytes a.form * a.k)
inside_of c = let a = c.args in (ap (λ (x : ℕ). x * c.loop-i.i) c.entry_bytes-step.ensures, within (entry_bytes a.form) a.k c.loop-i.i (omega arith))

pub loop-i-init : goal.loop-i-init
unfolding each
loop-i-init c = refl

pub overflow_mul-step : goal.overflow_mul-step
overflow_mul-step c =
    let inside = inside_of (goal.at.overflow_mul-step c).In-loop-i in
    omega (arith, inside, c.requires.1.1)

pub overflow_add-at : goal.overflow_add-at
overflow_add-at c =
    let inside = inside_of (goal.at.overflow_add-at c).In-loop-i in
    omega (arith, inside, c.requires.1.1)

pub put_entry-requires : goal.put_entry-requires
put_entry-requires c =
    let inside = inside_of (goal.at.put_entry-requires c).In-loop-i in
    (c.requires.0, (c.requires.1.0, (omega arith, omega (arith, inside, c.requires.1.1))))

pub loop-i-preserved : goal.loop-i-preserved
loop-i-preserved c = let a = c.args in entries_put a.file.now a.form a.n a.k a.out.now a.at c.loop-i.i (omega arith) c.loop-i.invariant c.put_entry.ensures (ap (λ (x : ℕ). a.at + x * c.loop-i.i) c.entry_bytes-step.ensures)

pub returns : goal.returns
returns c = let e : c.loop-i.i ≡ c.args.k = omega arith in rw e at c.loop-i.invariant
