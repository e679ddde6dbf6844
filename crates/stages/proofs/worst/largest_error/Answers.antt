-- `stages::worst::largest_error` meets its contract: w is the worst of the first i marks, each of their distances was fine, and the worst is
-- a finite number.
use mathlib.Core.Path.{◌≡◌, refl, sym, ap, ◌∙◌}
use mathlib.Core.Bool.{Bool, true, false, cond}
use mathlib.Core.List.{List}
use Prim.Native.Nat.{ℕ, ◌≤◌, ◌<◌, ◌+◌, zero-le}
use native.Mathlib.Omega.{arith}
use lib.ListN.{length, get_or}
use lib.Ieee.{Float, nan, lt, le, of_bits}
use Rattle.float.specs.Number.{finite}
use Rattle.float.specs.Answer.{ok, refused, outcome}
use Rattle.float.specs.Folds.{upto}
use Rattle.float.proofs.Truth.{both}
use Rattle.float.proofs.Strict.{Fin}
use Rattle.float.proofs.Signs.{negative, held}
use Rattle.float.proofs.Folds.{upto_next, upto_both, upto_bad}
use Rattle.plane.specs.declared.Curve.{Curve}
use Rattle.marks.specs.Marks.{mark_at}
use Rattle.stages.specs.Worst.{worst_at, worst, no_worst, error_of, larger}
use Rattle.stages.specs.declared.worst.Worst.{Worst}
use Rattle.stages.proofs.Errors.{error_fine, error_bad, error_sign}
use Rattle.stages.proofs.worst.largest_error.Invariants.{Sofar}
use Rattle.stages.proofs.worst.largest_error.Goals as goal

larger-fin : (w : Worst) (e : Float) (k : ℕ) → Fin w.err → Fin e → Fin (larger w e k).err
unfolding larger
larger-fin w e k f g = go (lt w.err e)
  where
    go : (b : Bool) → Fin (cond b (record { err = e; at = k }) w).err
    go true = g
    go false = f

module _ (ms : List Float) (c : Curve) (ts : List Float) (w : Worst) (i : ℕ) (d : Sofar ms c ts w i) where
  module _ (l : i < length ts) (e : Float) (is : e ≡ (error_of (mark_at ms i) c (get_or ts i nan)).val) where
    more : Fin e → (v : Worst) → v ≡ larger w e i → Sofar ms c ts v (i + 1)
    unfolding worst_at
    more g v h =
        let fine = error_fine _ _ _ (rw is at g) in
        (omega arith, upto_both no_worst (worst_at ms c ts) i ∙ both _ _ d.1 (cc), cc (upto_next no_worst (worst_at ms c ts) i), rw h (larger-fin w e i d.3 g))

    -- one comparison: the distance is finite, and no worse
    skip : le e w.err ≡ true → Sofar ms c ts w (i + 1)
    unfolding larger
    skip h =
        let k = held e w.err (ap negative is ∙ error_sign _ _ _) d.3 h in
        more k.0 w (simp k.1)

    halt : finite e ≡ false → refused 6 ≡ outcome (worst ms c ts)
    unfolding worst worst_at outcome
    halt b =
        let bad = error_bad _ _ _ (rw is at b) in
        simp (upto_bad no_worst (worst_at ms c ts) (length ts) i l (cc))

  end : length ts ≤ i → ok w ≡ outcome (worst ms c ts)
  unfolding worst outcome
  end l =
      let n : i ≡ length ts = omega arith in
      simp (rw n at d.1) (ap ok (rw n at d.2))

pub loop-i-init : goal.loop-i-init
unfolding upto finite of_bits
loop-i-init c = (zero-le, refl, refl, refl)

pub loop-i-preserved-then-e-w : goal.loop-i-preserved-then-e-w
loop-i-preserved-then-e-w c = skip _ _ _ _ _ c.loop-i.invariant c.loop-i-test.true _ c.error_at-e.ensures c.if-e-w.true

pub returns-then-not-finite : goal.returns-then-not-finite
returns-then-not-finite c = halt _ _ _ _ _ c.loop-i.invariant c.loop-i-test.true _ c.error_at-e.ensures (sym c.finite.ensures ∙ c.if-not-finite.true)

pub loop-i-preserved : goal.loop-i-preserved
loop-i-preserved c = more _ _ _ _ _ c.loop-i.invariant c.loop-i-test.true _ c.error_at-e.ensures (sym c.finite.ensures ∙ c.if-not-finite.false) _ c.larger-w.ensures

pub returns : goal.returns
returns c = end _ _ _ _ _ c.loop-i.invariant c.loop-i-test.false
