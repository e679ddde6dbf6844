-- A record keeps the worst mark that the checker finds exactly when it keeps the first of the farthest marks. Assumes nothing.
use Prim.Native.Nat.{ℕ, suc, ◌+◌, ◌-◌, ◌≤◌, ◌<◌}
use native.Mathlib.Omega.{arith}
use mathlib.Core.Path.{◌≡◌, refl, sym, ap, ◌∙◌}
use mathlib.Core.Bool.{true}
use mathlib.Core.List.{List}
use lib.ListN.{get_or}
use lib.Dec.{eqb}
use lib.Ieee.{Float, nan, binary64, to_bits}
use borrow.Author.Tests.{eqb-true, eq-eqb}
use Rattle.float.specs.Number.{finite}
use Rattle.float.proofs.Truth.{and_left, and_right, both}
use Rattle.root.specs.Root.{sqrt}
use Rattle.root.proofs.Laws.{sqrt_strict}
use Rattle.plane.specs.declared.Curve.{Curve}
use Rattle.marks.specs.Marks.{mark_at}
use Rattle.form.specs.declared.Form.{Form}
use Rattle.form.specs.declared.Form.TheVariants.{Eight, Nine}
use Rattle.stages.specs.declared.worst.Worst.{Worst}
use Rattle.ends.proofs.Worst.{error_plain, error_fits}
use Rattle.faults.specs.Tests.{worst_mark_at, far_at, distance_at, square_at, farthest, kept}
use Rattle.sound.specs.Sound.{Farthest}
use Rattle.sound.proofs.Farthest.{Squares, Found, only_one, walk_finds}

-- by the form: eight numbers keep nothing
pub kept_by : (form : Form) (cs : List Float) (ws : List ℕ) (j : ℕ) (w : Worst) → (form ≡ Nine → kept Nine cs ws j w ≡ true) → kept form cs ws j w ≡ true
unfolding kept
kept_by Eight cs ws j w h = refl
kept_by Nine cs ws j w h = h refl

-- marks `first` up to `stop` under a curve c, whose distances are finite
module _ (ms : List Float) (c : Curve) (ps : List Float) (first stop : ℕ) where
  -- how far mark i is
  abbrev pub distance : ℕ → Float
  distance i = distance_at (mark_at ms i) c (get_or ps i nan)

  -- record j keeps the first of the farthest marks, and its distance
  pub record Keeps (cs : List Float) (ws : List ℕ) (j : ℕ) : Type 0 where
    pub mark : Farthest (square_at ms c ps) first stop (worst_mark_at ws j)
    pub bits : to_bits binary64 (far_at cs j) ≡ to_bits binary64 (distance (worst_mark_at ws j))

  module _ (some : first < stop) (near : (i : ℕ) → first ≤ i → i < stop → finite (distance i) ≡ true) where
    squares : Squares (square_at ms c ps) first stop
    unfolding square_at distance_at
    squares i a u = (error_fits (mark_at ms i) c (get_or ps i nan), error_plain (mark_at ms i) c (get_or ps i nan) (sqrt_strict _ (near i a u)))

    -- what the checker finds
    abbrev walk : Worst
    walk = farthest ms c ps first (stop - first)

    found : Found (square_at ms c ps) first stop walk
    found =
        let n : suc (stop - first - 1) ≡ stop - first = omega arith in
        let e : first + (stop - first) ≡ stop = omega arith in
        rw e at (rw n at (walk_finds (square_at ms c ps) first (stop - first - 1) (λ i a u. squares i a (omega arith))))

    root_is : sqrt binary64 walk.err ≡ distance walk.at
    unfolding distance_at square_at
    root_is = ap (sqrt binary64) found.err

    module _ (cs : List Float) (ws : List ℕ) (j : ℕ) where
      -- a record of what the checker finds
      pub of_walk : to_bits binary64 (far_at cs j) ≡ to_bits binary64 (sqrt binary64 walk.err) → worst_mark_at ws j ≡ walk.at → Keeps cs ws j
      of_walk b m = record { mark = rw m found.far; bits = b ∙ rw m (ap (to_bits binary64) root_is) }

      pub kept_keeps : kept Nine cs ws j walk ≡ true → Keeps cs ws j
      unfolding kept
      kept_keeps h =
          of_walk
          (eqb-true _ _ (and_left (eqb (to_bits binary64 (far_at cs j)) (to_bits binary64 (sqrt binary64 walk.err))) _ h))
          (eqb-true _ _ (and_right (eqb (to_bits binary64 (far_at cs j)) (to_bits binary64 (sqrt binary64 walk.err))) _ h))

      pub keeps_kept : Keeps cs ws j → kept Nine cs ws j walk ≡ true
      unfolding kept
      keeps_kept h =
          let m = only_one (square_at ms c ps) first stop squares (worst_mark_at ws j) walk.at h.mark found.far in
          both _ _ (eq-eqb _ _ (h.bits ∙ rw m (sym (ap (to_bits binary64) root_is)))) (eq-eqb _ _ m)
