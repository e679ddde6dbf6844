-- `packed_heads::find_packed` meets its contract.
use mathlib.Core.Path.{◌≡◌, refl, sym, ap, ◌∙◌}
use mathlib.Core.Bool.{true}
use Prim.Native.Nat.{ℕ, ◌+◌, ◌-◌, ◌*◌, ◌/◌}
use native.Mathlib.Omega.{arith}
use lib.ListN.{length}
use Rattle.float.proofs.Truth.{true-false}
use Rattle.house.specs.Bytes.{all_fit}
use Rattle.house.specs.Held.{marks_held}
use Rattle.house.proofs.Numbers.{fit-each}
use Rattle.grammar.proofs.Laid.{Started, started, starting}
use Rattle.packed.specs.Unpacked.{packed_curves}
use Rattle.packed.proofs.Laid.{plain, full, joined, joining, packed_started, packed_joined}
use Rattle.packed_heads.proofs.Ways.{packed_counted, packed_broken, counted_by}
use Rattle.packed_heads.proofs.find_packed.Goals as goal

pub returns-then-len-lt-MARKS_AT : goal.returns-then-len-lt-MARKS_AT
returns-then-len-lt-MARKS_AT c = packed_broken c.args.b.now _ _ _ refl refl refl (λ l. let s = packed_started l in omega (arith, s.long))

pub returns-then-len-end : goal.returns-then-len-end
returns-then-len-end c =
    let bytes : all_fit 1 c.args.b.now ≡ true = fit-each 1 c.args.b.now (λ i. omega (arith, c.shared_slice_known-1.given i)) in
    let begun : Started c.args.b.now (c.four.result / 16) = started _ _ (omega arith) (sym c.starts_with.ensures ∙ c.if-starts_with.true) in
    packed_counted c.args.b.now bytes (plain begun (omega arith) refl refl)

pub returns-then-len-least : goal.returns-then-len-least
returns-then-len-least c =
    let marks : marks_held c.args.b.now ≡ c.four.result / 16 = ap (λ (x : ℕ). x / 16) (sym c.four.ensures.0) in
    packed_broken c.args.b.now _ (c.four.result / 16) _ marks refl refl (λ l. let d = packed_joined l (λ z. omega arith) in omega (arith, d.size))

pub returns-then-ends_packed : goal.returns-then-ends_packed
returns-then-ends_packed c =
    let bytes : all_fit 1 c.args.b.now ≡ true = fit-each 1 c.args.b.now (λ i. omega (arith, c.shared_slice_known-1.given i)) in
    let begun : Started c.args.b.now (c.four.result / 16) = started _ _ (omega arith) (sym c.starts_with.ensures ∙ c.if-starts_with.true) in
    packed_counted c.args.b.now bytes (full begun (joined c.args.b.now c.form_at-form.result (c.four.result / 16) _ (sym c.ends_packed.ensures ∙ c.if-ends_packed.true)))

pub returns-then-starts_with : goal.returns-then-starts_with
returns-then-starts_with c =
    let marks : marks_held c.args.b.now ≡ c.four.result / 16 = ap (λ (x : ℕ). x / 16) (sym c.four.ensures.0) in
    let count : let n = c.four.result / 16 in packed_curves c.args.b.now c.form_at-form.result n ≡ (length c.args.b.now - (20 + 16 * n + 6 + 21 + 6 + 8 * n)) / c.entry_bytes.result = counted_by c.args.b.now c.form_at-form.result (c.four.result / 16) c.entry_bytes.ensures in
    packed_broken c.args.b.now c.form_at-form.result (c.four.result / 16) _ marks (sym c.form_at-form.ensures) count (λ l. true-false _ (joining (packed_joined l (λ z. omega arith))) (sym c.ends_packed.ensures ∙ c.if-ends_packed.false))

pub returns : goal.returns
returns c =
    let marks : marks_held c.args.b.now ≡ c.four.result / 16 = ap (λ (x : ℕ). x / 16) (sym c.four.ensures.0) in
    packed_broken c.args.b.now _ (c.four.result / 16) _ marks refl refl (λ l. true-false _ (starting (packed_started l)) (sym c.starts_with.ensures ∙ c.if-starts_with.false))
