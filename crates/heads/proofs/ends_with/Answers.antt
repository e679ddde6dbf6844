-- `heads::ends_with` meets its contract.
use mathlib.Core.Path.{◌≡◌, sym, ap, ◌∙◌}
use Prim.Native.Nat.{ℕ, ◌+◌, ◌*◌}
use native.Mathlib.Omega.{arith}
use Rattle.float.proofs.Truth.{not_so, true-false}
use Rattle.house.specs.declared.sizes.Field.{Field}
use Rattle.house.specs.Limits.{field_for, curve_kind, body_bytes, curve_bytes}
use Rattle.grammar.proofs.Laid.{ended}
use Rattle.heads.proofs.Ways.{ends_by, leads_by}
use Rattle.heads.proofs.ends_with.Goals as goal
use Rattle.heads.proofs.ends_with.Goals.{After-body_bytes-body}

-- the body's length, and that of the curves, as they were worked out
body_of : (c : After-body_bytes-body) → c.body_bytes-body.result ≡ body_bytes c.args.form (field_for c.args.n)
body_of c = c.body_bytes-body.ensures ∙ ap (λ (f : Field). body_bytes c.args.form f) c.field_for-field.ensures

curves_of : (c : After-body_bytes-body) → (6 + c.body_bytes-body.result) * c.args.k ≡ curve_bytes c.args.form (field_for c.args.n) * c.args.k
curves_of c = ap (λ (x : ℕ). (6 + x) * c.args.k) (body_of c)

pub returns-then-b-last : goal.returns-then-b-last
returns-then-b-last c =
    let body = body_of (goal.at.returns-then-b-last c).After-body_bytes-body in
    let curves = curves_of (goal.at.returns-then-b-last c).After-body_bytes-body in
    let a = c.args in sym (not_so _ (λ h. let s = ended a.b.now a.form a.n a.k h in omega (arith, curves, s.size)))

pub returns-then-k-eq0 : goal.returns-then-k-eq0
returns-then-k-eq0 c = let a = c.args in sym (not_so _ (λ h. let s = ended a.b.now a.form a.n a.k h in omega (arith, s.some)))

pub returns-then-n-k : goal.returns-then-n-k
returns-then-n-k c = let a = c.args in sym (not_so _ (λ h. let s = ended a.b.now a.form a.n a.k h in omega (arith, s.few)))

pub returns-then-records_lead : goal.returns-then-records_lead
returns-then-records_lead c =
    let body = body_of (goal.at.returns-then-records_lead c).After-body_bytes-body in
    let kind : c.curve_kind.result ≡ curve_kind c.args.form (field_for c.args.n) = c.curve_kind.ensures ∙ ap (λ (f : Field). curve_kind c.args.form f) c.field_for-field.ensures in
    let a = c.args in
    c.has_head.ensures
    ∙ ends_by a.b.now a.form a.n a.k body kind (omega arith) (omega arith) (omega arith) (sym c.records_lead.ensures ∙ c.if-records_lead.true)

pub returns : goal.returns
returns c =
    let body = body_of (goal.at.returns c).After-body_bytes-body in
    let kind : c.curve_kind.result ≡ curve_kind c.args.form (field_for c.args.n) = c.curve_kind.ensures ∙ ap (λ (f : Field). curve_kind c.args.form f) c.field_for-field.ensures in
    let a = c.args in
    sym
    (not_so _ (λ h. true-false _ (leads_by a.form (field_for a.n) a.k _ body kind (ended a.b.now a.form a.n a.k h).heads) (sym c.records_lead.ensures ∙ c.if-records_lead.false)))
