-- `heads::records_lead` meets its contract. After i turns what is asked is asked of the records that are left.
use mathlib.Core.Path.{◌≡◌, sym, ◌∙◌}
use Prim.Native.Nat.{◌-◌}
use native.Mathlib.Omega.{arith}
use Rattle.house.specs.Layout.{records_lead}
use Rattle.heads.proofs.Turns.{lead_more, lead_stop}
use Rattle.heads.proofs.records_lead.Goals as goal

pub loop-i-preserved : goal.loop-i-preserved
loop-i-preserved c =
    let l = c.loop-i in
    let a = c.args in
    l.invariant ∙ lead_more a.b.now a.at a.body a.kind a.k l.i (omega arith) (sym c.has_head.ensures ∙ c.if-not-has_head.false)

pub returns-then-not-has_head : goal.returns-then-not-has_head
returns-then-not-has_head c =
    let l = c.loop-i in
    let a = c.args in
    sym (l.invariant ∙ lead_stop a.b.now a.at a.body a.kind a.k l.i (omega arith) (sym c.has_head.ensures ∙ c.if-not-has_head.true))

pub returns : goal.returns
unfolding records_lead
returns c =
    let l = c.loop-i in
    let a = c.args in
    let e : a.k - l.i ≡ 0 = omega arith in
    sym (l.invariant ∙ rw e)
