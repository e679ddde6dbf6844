-- The second engine beside the first. Assumes nothing.
use Prim.Native.Nat.{ℕ, ◌+◌, ◌-◌, ◌*◌, ◌≤◌}
use native.Mathlib.Omega.{arith}
use mathlib.Core.Path.{◌≡◌, refl, sym, ap, ◌∙◌}
use mathlib.Core.Bool.{Bool, true, false, ◌&&◌, ◌||◌, cond}
use mathlib.Core.Logic.{◌⊎◌, inl, inr}
use mathlib.Core.List.{List}
use lib.ListN.{length, replicate}
use lib.Dec.{eqb, ltb}
use lib.Ieee.{Float}
use borrow.Author.Tests.{le-ltb, eqb-true, eqb-false}
use Rattle.float.specs.Answer.{ok}
use Rattle.float.specs.Answer.{refused as no}
use Rattle.float.specs.Refusal.{answer}
use Rattle.limits.specs.Limits.{most_marks}
use Rattle.marks.specs.Marks.{count}
use Rattle.marks.specs.Block.{block_size}
use Rattle.form.specs.declared.Form.TheVariants.{Nine}
use Rattle.ring.specs.Ring.{again}
use Rattle.cut.specs.Run.{Run}
use Rattle.tangents.specs.Ways.{outline_of}
use Rattle.parts.specs.declared.Heading.{Heading}
use Rattle.parts.specs.declared.Heading.TheVariants.{Given, By}
use Rattle.parts.specs.Headings.{marks_in}
use Rattle.waiting.specs.Waiting.{run_in}
use Rattle.fit.specs.Fit.{Ending, ending, ended, entered, fit_of, cubic_of}
use Rattle.flat_fit.specs.Flat.{FlatEnding, flat_ending, gate_in, open_gate, none_open, flat_of}
use Rattle.flat_fit.proofs.Flat.{opened, none_open_is}
use Rattle.accepted.proofs.Theorem.{joined-passes, ring_passes, direct_passes}
use Rattle.accepted.proofs.Refusals.{gate-most, cubic_most}
use Rattle.engines.specs.Engines.{first_of, Agree, JoinedFlatPasses, RingFlatPasses, DirectFlatPasses, Untouched, Leaves}

-- ---- they agree

pub engines_agree : Agree
unfolding flat_of fit_of cubic_of
engines_agree (Given w) ms tol C F W P O room = rw (le-ltb (length O) (2 * count ms) room)
engines_agree (By k) ms tol C F W P O room = rw (le-ltb (length O) (2 * count ms) room)

-- ---- what is accepted

-- a fit that is accepted had room
had_room : (g o n : ℕ) (R : Run) (k : ℕ) (C C' : List Float) (F F' W W' : List ℕ) (P P' : List Float) → ending (ok k) C' F' W' P' ≡ entered (open_gate g o n) R C F W P → 2 * n ≤ o
had_room g o n R k C C' F F' W W' P P' e = go (eqb (open_gate g o n) 0) refl e
  where
    go : (b : Bool) → eqb (open_gate g o n) 0 ≡ b → ending (ok k) C' F' W' P' ≡ cond b (ended R C F W P) (ending (no (open_gate g o n)) C F W P) → 2 * n ≤ o
    go true t e = (opened g o n (eqb-true (open_gate g o n) 0 t)).1
    go false t e = let a = ap (λ (x : Ending). x.answer) e in let z : ◌≡◌ {A = ℕ} 0 1 = cc in absurd (omega arith)

accepted : (h : Heading) (ms : List Float) (tol : Float) (k : ℕ) (C C' : List Float) (F F' W W' : List ℕ) (P P' : List Float) (O O' : List ℕ)
    → flat_ending (ok k) C' F' W' P' O' ≡ flat_of h ms tol C F W P O → ending (ok k) C' F' W' P' ≡ first_of h ms tol C F W P
unfolding flat_of
accepted h ms tol k C C' F F' W W' P P' O O' e =
    let f = ap (λ (x : FlatEnding). x.fit) e in
    f ∙ engines_agree h ms tol C F W P O (had_room (gate_in h ms tol (length C) (length F) (length W) (length P)) (length O) (count ms) (run_in h (marks_in h ms) (block_size (count (marks_in h ms))) tol) k C C' F F' W W' P P' f)

pub joined-flat-passes : JoinedFlatPasses
joined-flat-passes ms tol k C C' F F' W W' P P' O O' answer e checks = joined-passes ms tol k C C' F F' W W' P P' answer (accepted _ ms tol k C C' F F' W W' P P' O O' e) checks

pub ring_flat-passes : RingFlatPasses
ring_flat-passes ms tol k C C' F F' W W' P P' O O' answer e checks = ring_passes ms tol k C C' F F' W W' P P' answer (accepted _ ms tol k C C' F F' W W' P P' O O' e) checks

pub direct_flat-passes : DirectFlatPasses
direct_flat-passes w ms tol k C C' F F' W W' P P' O O' answer e checks = direct_passes ms w.start w.end tol k C C' F F' W W' P P' answer (accepted (Given w) ms tol k C C' F F' W W' P P' O O' e) checks

-- ---- what is left

in_most : (h : Heading) (ms : List Float) (tol : Float) (c f w p : ℕ) → gate_in h ms tol c f w p ≤ 5
in_most (Given v) ms tol c f w p = cubic_most ms v.start v.end tol c f w p
in_most (By k) ms tol c f w p = gate-most most_marks (outline_of k) Nine (again (outline_of k) + count ms - 1) ms tol c f w p

open-most : (g o n : ℕ) → g ≤ 5 → open_gate g o n ≤ 5
open-most g o n h = go (ltb o (2 * n) && (eqb g 0 || eqb g 5))
  where
    go : (b : Bool) → cond b 4 g ≤ 5
    go true = omega arith
    go false = h

pub flat_leaves : Leaves
unfolding flat_of
flat_leaves h ms tol r C C' F F' W W' P P' O O' e =
    go (eqb g 0) refl (ap (λ (x : FlatEnding). x.fit) e) (ap (λ (x : FlatEnding). x.parts) e)
  where
    g : ℕ
    g = open_gate (gate_in h ms tol (length C) (length F) (length W) (length P)) (length O) (count ms)

    most : g ≤ 5
    most = open-most (gate_in h ms tol (length C) (length F) (length W) (length P)) (length O) (count ms) (in_most h ms tol (length C) (length F) (length W) (length P))

    go : (b : Bool) → eqb g 0 ≡ b → ending (answer r) C' F' W' P' ≡ cond b (ended (run_in h (marks_in h ms) (block_size (count (marks_in h ms))) tol) C F W P) (ending (no g) C F W P) → O' ≡ cond b (none_open (run_in h (marks_in h ms) (block_size (count (marks_in h ms))) tol) O) O
        → Untouched r C C' F F' W W' P P' O O' ⊎ (O' ≡ replicate (length O) 0)
    go true t x y = inr (y ∙ sym (none_open_is (run_in h (marks_in h ms) (block_size (count (marks_in h ms))) tol) O))
    go false t x y = inl (record {
      number = g;
      is = ap (λ (x : Ending). x.answer) x;
      least = let z : (g ≡ 0 → ⊥) = eqb-false g 0 t in omega (arith, z);
      most = most;
      curves = ap (λ (x : Ending). x.curves) x;
      firsts = ap (λ (x : Ending). x.firsts) x;
      worsts = ap (λ (x : Ending). x.worsts) x;
      params = ap (λ (x : Ending). x.params) x;
      parts = y;
    })
