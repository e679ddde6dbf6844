-- A fit refuses by 1 to 6 and by no other number: the bounds that end the recursions of the definitions are out of reach. Assumes nothing.
use Prim.Native.Nat.{ℕ, zero, suc, ◌+◌, ◌-◌, ◌*◌, ◌%◌, ◌≤◌, ◌<◌}
use native.Mathlib.Omega.{arith}
use mathlib.Core.Path.{◌≡◌, refl, sym, ap, ◌∙◌}
use mathlib.Core.Logic.{◌⊎◌, inl, inr}
use mathlib.Core.Bool.{Bool, true, false, not, cond}
use mathlib.Core.List.{List}
use lib.ListN.{length}
use lib.Dec.{leb, ltb, eqb}
use lib.Ieee.{Float}
use borrow.Author.Tests.{leb-false, ltb-false, eqb-true, eqb-false}
use Rattle.float.specs.Answer.{Answer, ok, unless, outcome}
use Rattle.float.specs.Answer.{refused as no}
use Rattle.plane.specs.declared.Point.{Point}
use Rattle.limits.specs.Limits.{most_marks}
use Rattle.marks.specs.Marks.{count}
use Rattle.marks.specs.Block.{block_size}
use Rattle.cut.specs.Run.{Run, refused, done, join, turned, run_of}
use Rattle.tangents.specs.declared.Ways.{Ways}
use Rattle.cut.proofs.Run.{run_ind}
use Rattle.ring.specs.Ring.{again}
use Rattle.ring.specs.declared.Outline.{Outline}
use Rattle.ring.specs.declared.Outline.TheVariants.{Open}
use Rattle.ring.proofs.Whole.{whole-even}
use Rattle.form.specs.declared.Form.{Form}
use Rattle.form.specs.declared.Form.TheVariants.{Nine}
use Rattle.gate.specs.Gate.{in_range, tolerable, Usable, refuse, room_for, gate_for, gate_of}
use Rattle.gate.proofs.Tests.{passed, passed-even}
use Rattle.tangents.specs.declared.Cutting.{Cutting}
use Rattle.blocks.specs.Blocks.{block_at, block_of, last_of, blocks, blocks_from, blocks_of}
use Rattle.tangents.specs.Ways.{over, outline_of, marks_of, ways_of}
use Rattle.fit.specs.Fit.{Ending, ending, ended, entered, fit_of, are_tangents, cubic_gate, cubic_of}
use Rattle.blocks.proofs.Blocks.{usable_block}
use Rattle.fit.proofs.Entries.{size_within, cubic_passed, passed-usable}
use Rattle.accepted.specs.Refusals.{Before, Inside, FitRefuses, DirectRefuses}
use Rattle.accepted.proofs.Within.{block_count}

-- ---- a run refuses by 6

abbrev Stopped : Run → Type 0
Stopped (refused q) = q ≡ 6
Stopped (done cs bs ps) = Unit {0}

join_stops : (k : ℕ) (R R' : Run) → Stopped R → Stopped R' → Stopped (join k R R')
join_stops k (refused q) R' a b = a
join_stops k (done c f p) (refused q) a b = b
join_stops k (done c f p) (done c' f' p') a b = tt

run_stops : (ms : List Float) (first : ℕ) (s e : Point) (tol : Float) → 2 ≤ count ms → Usable ms tol → Stopped (run_of ms first s e tol)
run_stops ms first s e tol = run_ind tol (λ ms first R. Stopped R) (λ ms first c w ps h f. tt) (λ ms first. refl) (λ ms first k R R' i j a b. join_stops k R R' a b) ms first s e

module _ (k : Cutting) (ms : List Float) (n size : ℕ) (tol : Float) (even : length ms ≡ 2 * n) (u : Usable ms tol) (two : 2 ≤ size) where
  block_stops : (from to : ℕ) → from + 2 ≤ to → to ≤ n → Stopped (block_of k ms n tol from to)
  unfolding outcome
  block_stops from to h l = go (ways_of k ms n from to).fine (ways_of k ms n from to).val
    where
      go : (b : Bool) (w : Ways) → Stopped (turned (unless 6 b (ok w)) (λ w. run_of (block_at ms from to) from w.start w.end tol))
      go true w = let many = block_count ms n even from to h l in run_stops (block_at ms from to) from w.start w.end tol (omega arith) (usable_block from to u)
      go false w = refl

  last_stops : (b : Bool) (from : ℕ) → ltb (n - from) 2 ≡ b → Stopped (last_of b k ms n tol from)
  last_stops true from e = tt
  last_stops false from e = let l = ltb-false (n - from) 2 e in block_stops from n (omega arith) (omega arith)

  from_stops : (d from : ℕ) → from < n → n - from ≤ d → Stopped (blocks d (leb (n - from) (size + over k)) k ms n size tol from)
  unfolding blocks
  from_stops zero from h l = absurd (omega arith)
  from_stops (suc d) from h l = go (leb (n - from) (size + over k)) refl (λ j. from_stops d (from + size) (omega arith) (omega arith))
    where
      go : (b : Bool) → leb (n - from) (size + over k) ≡ b → (size + over k < n - from → Stopped (blocks d (leb (n - (from + size)) (size + over k)) k ms n size tol (from + size))) → Stopped (blocks (suc d) b k ms n size tol from)
      go true e R = last_stops (ltb (n - from) 2) from refl
      go false e R =
          let j : size + over k < n - from = leb-false _ _ e in
          join_stops size (block_of k ms n tol from (from + (size + over k))) _ (block_stops from (from + (size + over k)) (omega arith) (omega arith)) (R j)

  pub blocks_stop : 0 < n → Stopped (blocks_from k ms n size tol 0)
  unfolding blocks_from
  blocks_stop h = from_stops n 0 h (omega arith)

-- ---- a gate refuses by 1 to 5

one_of : (b : Bool) (q n : ℕ) → q ≤ 5 → n ≤ 5 → refuse b q n ≤ 5
one_of true q n h l = h
one_of false q n h l = l

pub gate-most : (top : ℕ) (o : Outline) (form : Form) (k : ℕ) (ms : List Float) (tol : Float) (c f w p : ℕ) → gate_for top o form k ms tol c f w p ≤ 5
unfolding gate_for
gate-most top o form k ms tol c f w p =
    one_of (not (eqb (length ms % 2) 0)) 3 _ (omega arith)
    (one_of (ltb (count ms) (again o + 2)) 1 _ (omega arith)
    (one_of (ltb top (count ms)) 2 _ (omega arith)
    (one_of (not (room_for form k c f w)) 4 _ (omega arith)
    (one_of (ltb p (again o + count ms)) 4 _ (omega arith)
    (one_of (not (in_range ms)) 5 _ (omega arith)
    (one_of (not (tolerable tol)) 5 0 (omega arith) (omega arith)))))))

pub cubic_most : (ms : List Float) (s e : Point) (tol : Float) (c f w p : ℕ) → cubic_gate ms s e tol c f w p ≤ 5
unfolding cubic_gate
cubic_most ms s e tol c f w p = go (eqb (gate_of 512 Open ms tol c f w p) 0)
  where
    go : (b : Bool) → cond b (refuse (not (are_tangents s e)) 5 0) (gate_of 512 Open ms tol c f w p) ≤ 5
    go true = one_of (not (are_tangents s e)) 5 0 (omega arith) (omega arith)
    go false = gate-most 512 Open Nine (0 + count ms - 1) ms tol c f w p

-- ---- a call that is refused

module _ (q g : ℕ) (R : Run) (C C' : List Float) (F F' W W' : List ℕ) (P P' : List Float) where
  before : g ≤ 5 → (g ≡ 0 → ⊥) → ending (no q) C' F' W' P' ≡ ending (no g) C F W P → Before q C C' F F' W W' P P'
  before l z h =
      let a : ◌≡◌ {A = Answer ℕ} (no q) (no g) = ap (λ (x : Ending). x.answer) h in
      let e : q ≡ g = cc in
      let n : (q ≡ 0 → ⊥) = λ y. z (let w : g ≡ 0 = omega arith in w) in
      record { least = above q n; most = omega arith; curves = ap (λ (x : Ending). x.curves) h; firsts = ap (λ (x : Ending). x.firsts) h; worsts = ap (λ (x : Ending). x.worsts) h; params = ap (λ (x : Ending). x.params) h }
    where
      above : (q : ℕ) → (q ≡ 0 → ⊥) → 1 ≤ q
      above zero n = absurd (n refl)
      above (suc q) n = omega arith

  inside : (R : Run) → Stopped R → ending (no q) C' F' W' P' ≡ ended R C F W P → Inside q C C' F F' W W' P P'
  inside (done cs bs ps) s h = let a : ◌≡◌ {A = Answer ℕ} (no q) (ok (length bs)) = ap (λ (x : Ending). x.answer) h in let y : ◌≡◌ {A = ℕ} 0 1 = cc in absurd (omega arith)
  inside (refused r) s h =
      let a : ◌≡◌ {A = Answer ℕ} (no q) (no r) = ap (λ (x : Ending). x.answer) h in
      let e : q ≡ r = cc in
      record { is = e ∙ s; curves = ap (λ (x : Ending). x.curves) h; firsts = ap (λ (x : Ending). x.firsts) h; worsts = ap (λ (x : Ending). x.worsts) h; params = ap (λ (x : Ending). x.params) h }

  refuses : g ≤ 5 → (g ≡ 0 → Stopped R) → ending (no q) C' F' W' P' ≡ entered g R C F W P → Before q C C' F F' W W' P P' ⊎ Inside q C C' F F' W W' P P'
  refuses l s h = go (eqb g 0) refl h
    where
      go : (b : Bool) → eqb g 0 ≡ b → ending (no q) C' F' W' P' ≡ cond b (ended R C F W P) (ending (no g) C F W P) → Before q C C' F F' W W' P P' ⊎ Inside q C C' F F' W W' P P'
      go true e h = inr (inside R (s (eqb-true g 0 e)) h)
      go false e h = inl (before l (eqb-false g 0 e) h)

pub fit_refuses : FitRefuses
unfolding fit_of blocks_of
fit_refuses k ms tol q C C' F F' W W' P P' h =
    refuses q g (blocks_of k ws (block_size (count ws)) tol) C C' F F' W W' P P' (gate-most most_marks (outline_of k) Nine (again (outline_of k) + count ms - 1) ms tol (length C) (length F) (length W) (length P)) stops h
  where
    ws : List Float
    ws = marks_of k ms

    g : ℕ
    g = gate_of most_marks (outline_of k) ms tol (length C) (length F) (length W) (length P)

    stops : g ≡ 0 → Stopped (blocks_of k ws (block_size (count ws)) tol)
    stops z =
        let p = passed most_marks (outline_of k) ms tol (length C) (length F) (length W) (length P) z in
        let e = whole-even (outline_of k) ms (passed-even p) in
        let even : length ws ≡ 2 * count ws = omega (arith, e) in
        blocks_stop k ws (count ws) (block_size (count ws)) tol even (passed-usable p) (size_within (count ws) (block_size (count ws)) refl).0 e.1

pub direct_refuses : DirectRefuses
unfolding cubic_of
direct_refuses ms s e tol q C C' F F' W W' P P' h =
    refuses q g (run_of ms 0 s e tol) C C' F F' W W' P P' (cubic_most ms s e tol (length C) (length F) (length W) (length P)) (λ z. let p = cubic_passed ms s e tol (length C) (length F) (length W) (length P) (sym z) in run_stops ms 0 s e tol (let two = p.two in omega arith) (passed-usable p)) h
  where
    g : ℕ
    g = cubic_gate ms s e tol (length C) (length F) (length W) (length P)
