-- `stages::chords::divide_by` meets its contract: the numbers are divided one by one.
use mathlib.Core.Path.{◌≡◌, ap, ◌∙◌}
use mathlib.Core.Bool.{Bool, ◌&&◌}
use mathlib.Core.List.{List}
use Prim.Native.Nat.{ℕ, ◌<◌, ◌+◌}
use native.Mathlib.Omega.{arith}
use lib.ListN.{length, get_or, set}
use lib.Ieee.{Float, nan, binary64, div}
use Rattle.float.specs.Number.{finite}
use Rattle.stages.specs.Chords.{part_at, parts}
use Rattle.stages.proofs.InPlace.{Done, start, len, read, more, finish}
use Rattle.stages.proofs.chords.divide_by.Goals as goal

next : (ts ps : List Float) (total : Float) (fine : Bool) (i : ℕ) → Done (part_at ts total) ts ps fine i → i < length ts
    → (b : Bool) → b ≡ finite (div binary64 (get_or ps i nan) total)
    → Done (part_at ts total) ts (set ps i (div binary64 (get_or ps i nan) total)) (fine && b) (i + 1)
unfolding part_at
next ts ps total fine i d l b e =
    let same = ap (λ (x : Float). div binary64 x total) (read (part_at ts total) ts ps fine i d l) in
    more (part_at ts total) ts ps fine i d l _ b same (e ∙ ap finite same)

pub loop-part-init : goal.loop-part-init
loop-part-init c = start _ _

pub loop-part-preserved : goal.loop-part-preserved
loop-part-preserved c = next _ _ _ _ _ c.loop-part.invariant (omega (arith, len _ _ _ _ _ c.loop-part.invariant)) _ c.finite-fine.ensures

pub returns : goal.returns
unfolding parts
returns c = finish _ _ _ _ _ c.loop-part.invariant (omega (arith, len _ _ _ _ _ c.loop-part.invariant))
