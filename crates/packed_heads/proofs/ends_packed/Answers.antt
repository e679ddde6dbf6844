-- `packed_heads::ends_packed` meets its contract.
use mathlib.Core.Path.{sym, ◌∙◌}
use native.Mathlib.Omega.{arith}
use Rattle.float.proofs.Truth.{not_so, true-false}
use Rattle.packed.proofs.Laid.{joined}
use Rattle.packed_heads.proofs.Ways.{ends_by, ends_leads, ends-marks}
use Rattle.packed_heads.proofs.ends_packed.Goals as goal

pub returns-then-b-last : goal.returns-then-b-last
returns-then-b-last c = let a = c.args in sym (not_so _ (λ h. let s = joined a.b.now a.form a.n a.k h in omega (arith, c.entry_at-last.ensures, s.size)))

pub returns-then-k-eq0 : goal.returns-then-k-eq0
returns-then-k-eq0 c = let a = c.args in sym (not_so _ (λ h. let s = joined a.b.now a.form a.n a.k h in omega (arith, s.some)))

pub returns-then-n-k : goal.returns-then-n-k
returns-then-n-k c = let a = c.args in sym (not_so _ (λ h. let s = joined a.b.now a.form a.n a.k h in omega (arith, s.few)))

pub returns-then-marks_packed : goal.returns-then-marks_packed
returns-then-marks_packed c = let a = c.args in ends_by a.b.now a.form a.n a.k c.entry_at-last.ensures (omega arith) (omega arith) (omega arith) (sym c.leads_packed.ensures ∙ c.if-leads_packed.true) (sym c.marks_packed.ensures ∙ c.if-marks_packed.true) c.has_head.ensures

pub returns-else-marks_packed : goal.returns-else-marks_packed
returns-else-marks_packed c = let a = c.args in sym (not_so _ (λ h. true-false _ (ends-marks a.b.now a.form a.n a.k h) (sym c.marks_packed.ensures ∙ c.if-marks_packed.false)))

pub returns-else-leads_packed : goal.returns-else-leads_packed
returns-else-leads_packed c = let a = c.args in sym (not_so _ (λ h. true-false _ (ends_leads a.b.now a.form a.n a.k h) (sym c.leads_packed.ensures ∙ c.if-leads_packed.false)))
