-- `stages::steps::reparameterize` meets its contract: the steps are made one by one.
use mathlib.Core.Path.{◌≡◌}
use mathlib.Core.Bool.{Bool, ◌&&◌}
use mathlib.Core.List.{List}
use Prim.Native.Nat.{ℕ, ◌<◌, ◌+◌}
use native.Mathlib.Omega.{arith}
use lib.ListN.{length, get_or, set}
use lib.Ieee.{Float, nan}
use Rattle.plane.specs.declared.Curve.{Curve}
use Rattle.newton.specs.Newton.{vertices_of, newton_by}
use Rattle.newton.specs.Tests.{as_step}
use Rattle.newton.specs.declared.Vertices.{Vertices}
use Rattle.newton.specs.declared.Step.{Step}
use Rattle.newton.proofs.Steps.{step-newton}
use Rattle.marks.specs.Marks.{mark_at}
use Rattle.stages.specs.Newton.{step_at, reparam}
use Rattle.stages.proofs.InPlace.{Done, start, len, read, more, finish}
use Rattle.stages.proofs.steps.reparameterize.Goals as goal

-- the code's step at i is the run's
next : (ms : List Float) (c : Curve) (ts ps : List Float) (fine : Bool) (i : ℕ) → Done (step_at ms c ts) ts ps fine i → i < length ts
    → (q : Vertices) → q ≡ (vertices_of c).val → (s : Step) → s ≡ as_step (newton_by c q (mark_at ms i) (get_or ps i nan))
    → Done (step_at ms c ts) ts (set ps i s.t) (fine && s.fine) (i + 1)
unfolding step_at
next ms c ts ps fine i d l q v s e =
    let n = rw (read (step_at ms c ts) ts ps fine i d l) at (step-newton c (mark_at ms i) (get_or ps i nan) q s v e) in
    more (step_at ms c ts) ts ps fine i d l s.t s.fine n.0 n.1

pub loop-i-init : goal.loop-i-init
loop-i-init c = start _ _

pub loop-i-preserved : goal.loop-i-preserved
loop-i-preserved c = next _ _ _ _ _ _ c.loop-i.invariant (omega (arith, len _ _ _ _ _ c.loop-i.invariant)) _ c.vertices_of-q.ensures _ c.step_at-s.ensures

pub returns : goal.returns
unfolding reparam
returns c = finish _ _ _ _ _ c.loop-i.invariant (omega (arith, len _ _ _ _ _ c.loop-i.invariant))
