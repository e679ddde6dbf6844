-- `faults::curve_at` meets its contract.
use Prim.Native.Nat.{ℕ, ◌*◌}
use mathlib.Core.Path.{ap, ◌∙◌}
use Rattle.faults.specs.Tests.{curve_of, curve_at}
use Rattle.faults.proofs.Forms.{behind}
use Rattle.faults.proofs.curve_at.Goals as goal

pub returns : goal.returns
unfolding curve_at
returns c = c.curve_of.ensures ∙ ap curve_of (behind _ _ _ (ap (λ (x : ℕ). x * c.args.j) c.width.ensures))
