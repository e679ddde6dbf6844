-- `packed_heads::numbers_fit` meets its contract.
use mathlib.Core.Path.{sym, ◌∙◌}
use native.Mathlib.Omega.{arith}
use Rattle.packed_heads.proofs.Ways.{first_unfit, next_unfit, numbers_by}
use Rattle.packed_heads.proofs.numbers_fit.Goals as goal

pub returns-then-all_fit-2 : goal.returns-then-all_fit-2
returns-then-all_fit-2 c = numbers_by c.args.b.now c.args.form c.args.n c.args.k c.field_for-field.ensures c.entry_bytes-step.ensures c.first_place-first.ensures c.requires.1 c.entry_at-at.ensures (sym c.all_fit.ensures ∙ c.if-all_fit.true) (omega (arith, c.entry_at-at.ensures, c.rest_numbers.ensures)) c.worsts_for.ensures (sym c.all_fit-then-all_fit.ensures ∙ c.if-all_fit-2.true) c.all_fit-then-all_fit-2.ensures

pub returns-else-all_fit-2 : goal.returns-else-all_fit-2
returns-else-all_fit-2 c = next_unfit c.args.b.now c.args.form c.args.n c.args.k c.field_for-field.ensures c.entry_bytes-step.ensures c.first_place-first.ensures c.requires.1 c.entry_at-at.ensures (sym c.all_fit.ensures ∙ c.if-all_fit.true) (sym c.all_fit-then-all_fit.ensures ∙ c.if-all_fit-2.false)

pub returns-else-all_fit : goal.returns-else-all_fit
returns-else-all_fit c = first_unfit c.args.b.now c.args.form c.args.n c.args.k c.field_for-field.ensures c.entry_bytes-step.ensures c.first_place-first.ensures c.requires.1 (sym c.all_fit.ensures ∙ c.if-all_fit.false)
