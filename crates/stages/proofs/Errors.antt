-- The distance of a mark: fine exactly where it is finite, and never negative. Assumes nothing.
use mathlib.Core.Path.{◌≡◌, refl, sym, ap, ◌∙◌}
use mathlib.Core.Bool.{true, false}
use mathlib.Core.List.{List}
use Prim.Native.Nat.{ℕ}
use lib.Ieee.{Float, binary64}
use Rattle.float.specs.Number.{finite}
use Rattle.float.specs.Calc.{Calc, give, ◌>>=◌}
use Rattle.float.specs.Answer.{ok, refused, outcome}
use Rattle.float.specs.Answer.{◌>>=◌ as chain}
use Rattle.float.proofs.Truth.{and-false}
use Rattle.float.proofs.Strict.{Fin}
use Rattle.float.proofs.Signs.{negative}
use Rattle.float.proofs.Answers.{Fine, outcome-then}
use Rattle.root.specs.Root.{sqrt}
use Rattle.root.specs.Operation.{sqrt! }
use Rattle.plane.specs.declared.Point.{Point}
use Rattle.plane.specs.declared.Curve.{Curve}
use Rattle.plane.proofs.Fine.{dot-fine, dot_bad, minus-fine, dot-sign}
use Rattle.cubic.proofs.Fine.{point-fine}
use Rattle.stages.specs.Worst.{error_of, worst, max_error}
use Rattle.stages.specs.declared.worst.Worst.{Worst}

pub error_fine : (m : Point) (c : Curve) (t : Float) → Fin (error_of m c t).val → Fine (error_of m c t)
unfolding error_of
error_fine m c t g =
    let d = dot-fine _ _ g in
    let o = minus-fine _ _ d.1 in
    let q = point-fine c t o.2 in
    cc

pub error_bad : (m : Point) (c : Curve) (t : Float) → finite (error_of m c t).val ≡ false → (error_of m c t).fine ≡ false
unfolding error_of
error_bad m c t h = simp (dot_bad _ _ h, and-false)

pub error_sign : (m : Point) (c : Curve) (t : Float) → negative (error_of m c t).val ≡ false
unfolding error_of
error_sign m c t = dot-sign _

-- ---- the largest distance, from the largest square
module _ (ms : List Float) (c : Curve) (ts : List Float) where
  abbrev after : Worst → Calc Worst
  after w = ◌>>=◌ (sqrt! w.err) (λ err. give (record { err = err; at = w.at }))

  then : outcome (max_error ms c ts) ≡ chain (outcome (worst ms c ts)) (λ w. outcome (after w))
  unfolding max_error
  then = outcome-then (worst ms c ts) after

  pub far_lost : (q : ℕ) → refused q ≡ outcome (worst ms c ts) → refused q ≡ outcome (max_error ms c ts)
  far_lost q h = sym (then ∙ ap (λ a. chain a (λ w. outcome (after w))) (sym h))

  module _ (w : Worst) (is : ok w ≡ outcome (worst ms c ts)) (e : Float) (root : e ≡ sqrt binary64 w.err) where
    known : outcome (max_error ms c ts) ≡ outcome (after w)
    known = then ∙ ap (λ a. chain a (λ w. outcome (after w))) (sym is)

    pub far-found : finite e ≡ true → ok (record { err = e; at = w.at }) ≡ outcome (max_error ms c ts)
    unfolding outcome
    far-found h = sym (known ∙ rw (← root) (rw h refl))

    pub far_off : finite e ≡ false → refused 6 ≡ outcome (max_error ms c ts)
    unfolding outcome
    far_off h = sym (known ∙ rw (← root) (rw h refl))
