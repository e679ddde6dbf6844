-- `flat::flat::and_then` meets its contract.
use mathlib.Core.Path.{sym, ap, ◌∙◌}
use Rattle.std.proofs.Common.{Err}
use Rattle.flat.specs.Tests.{run_of}
use Rattle.flat.proofs.Baseline.{back, failed, held_on, held_lost}
use Rattle.flat.proofs.flat.and_then.Goals as goal

pub returns-then-not-held : goal.returns-then-not-held
returns-then-not-held c = let a = c.args in back a.a ∙ failed (run_of a.a) (run_of a.b) (sym c.held.ensures ∙ c.if-not-held.true)

pub returns-then-is_fine : goal.returns-then-is_fine
returns-then-is_fine c = let a = c.args in back a.b ∙ held_on (run_of a.a) (run_of a.b) (sym c.held.ensures ∙ c.if-not-held.false) (sym c.is_fine.ensures ∙ c.if-is_fine.true)

pub returns : goal.returns
returns c =
    let a = c.args in
    ap (λ x. Err (record { holds = x })) c.held-2.ensures
    ∙ held_lost (run_of a.a) (run_of a.b) (sym c.held.ensures ∙ c.if-not-held.false) (sym c.is_fine.ensures ∙ c.if-is_fine.false)
