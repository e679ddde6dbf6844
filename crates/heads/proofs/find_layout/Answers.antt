-- `heads::find_layout` meets its contract.
use mathlib.Core.Path.{◌≡◌, refl, sym, ap, ◌∙◌}
use mathlib.Core.Bool.{true}
use Prim.Native.Nat.{ℕ, ◌+◌, ◌-◌, ◌*◌, ◌/◌}
use native.Mathlib.Omega.{arith}
use lib.ListN.{length}
use Rattle.float.proofs.Truth.{true-false}
use Rattle.house.specs.declared.sizes.Field.{Field}
use Rattle.house.specs.Limits.{field_for, body_bytes}
use Rattle.house.specs.Bytes.{all_fit}
use Rattle.house.specs.Held.{marks_held, form_held, curves_held}
use Rattle.house.proofs.Numbers.{fit-each}
use Rattle.grammar.proofs.Laid.{Started, plain, full, started, starting, ended, ending, laid_started, laid-ended}
use Rattle.heads.proofs.Ways.{counted, broken, form_by}
use Rattle.heads.proofs.find_layout.Goals as goal

pub returns-then-len-lt-MARKS_AT : goal.returns-then-len-lt-MARKS_AT
returns-then-len-lt-MARKS_AT c = broken c.args.b.now _ _ _ refl refl refl (λ l. let s = laid_started l in omega (arith, s.long))

pub returns-then-len-end : goal.returns-then-len-end
returns-then-len-end c =
    let bytes : all_fit 1 c.args.b.now ≡ true = fit-each 1 c.args.b.now (λ i. omega (arith, c.shared_slice_known-1.given i)) in
    let begun : Started c.args.b.now (c.four.result / 16) = started _ _ (omega arith) (sym c.starts_with.ensures ∙ c.if-starts_with.true) in
    counted c.args.b.now bytes (plain begun (omega arith) refl refl)

pub returns-then-len-least : goal.returns-then-len-least
returns-then-len-least c =
    let marks : marks_held c.args.b.now ≡ c.four.result / 16 = ap (λ (x : ℕ). x / 16) (sym c.four.ensures.0) in
    broken c.args.b.now _ (c.four.result / 16) _ marks refl refl (λ l. let d = laid-ended l (λ z. omega arith) in omega (arith, d.size))

pub returns-then-ends_with : goal.returns-then-ends_with
returns-then-ends_with c =
    let bytes : all_fit 1 c.args.b.now ≡ true = fit-each 1 c.args.b.now (λ i. omega (arith, c.shared_slice_known-1.given i)) in
    let begun : Started c.args.b.now (c.four.result / 16) = started _ _ (omega arith) (sym c.starts_with.ensures ∙ c.if-starts_with.true) in
    let b = c.args.b.now in
    counted b bytes (full begun (ended b c.form_of-form.result (c.four.result / 16) _ (sym c.ends_with.ensures ∙ c.if-ends_with.true)))

pub returns-then-starts_with : goal.returns-then-starts_with
returns-then-starts_with c =
    let marks : marks_held c.args.b.now ≡ c.four.result / 16 = ap (λ (x : ℕ). x / 16) (sym c.four.ensures.0) in
    let form : form_held c.args.b.now (c.four.result / 16) ≡ c.form_of-form.result = form_by c.args.b.now (c.four.result / 16) c.field_for-field.ensures c.two.ensures.0 c.form_of-form.ensures in
    let body : c.body_bytes.result ≡ body_bytes c.form_of-form.result (field_for (c.four.result / 16)) = c.body_bytes.ensures ∙ ap (λ (f : Field). body_bytes c.form_of-form.result f) c.field_for-field.ensures in
    let count : let n = c.four.result / 16 in let b = c.args.b.now in curves_held b c.form_of-form.result n ≡ (length b - (20 + 16 * n + 6 + 8 * n)) / (6 + c.body_bytes.result) = let n = c.four.result / 16 in ap (λ (x : ℕ). (length c.args.b.now - (20 + 16 * n + 6 + 8 * n)) / (6 + x)) (sym body) in
    broken c.args.b.now c.form_of-form.result (c.four.result / 16) _ marks form count (λ l. true-false _ (ending (laid-ended l (λ z. omega arith))) (sym c.ends_with.ensures ∙ c.if-ends_with.false))

pub returns : goal.returns
returns c =
    let marks : marks_held c.args.b.now ≡ c.four.result / 16 = ap (λ (x : ℕ). x / 16) (sym c.four.ensures.0) in
    broken c.args.b.now _ (c.four.result / 16) _ marks refl refl (λ l. true-false _ (starting (laid_started l)) (sym c.starts_with.ensures ∙ c.if-starts_with.false))
