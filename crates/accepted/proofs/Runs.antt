-- Every run that is done, of marks in range and within a tolerance that is not below zero, lays its curves from the part's first mark to its last. Assumes nothing.
use mathlib.Core.Path.{◌≡◌, sym, ap, subst, ◌∙◌}
use mathlib.Core.List.{List, [], ◌∷◌, ◌++◌}
use Prim.Native.Nat.{ℕ, suc, ◌+◌, ◌-◌, ◌*◌, ◌≤◌, ◌<◌}
use native.Mathlib.Omega.{arith}
use lib.ListN.{length, take, get_or}
use lib.Ieee.{Float, nan}
use Rattle.plane.specs.declared.Point.{Point}
use Rattle.plane.specs.declared.Curve.{Curve}
use Rattle.marks.specs.Marks.{count, mark_at}
use Rattle.cut.specs.Run.{Beside, beside, Run, refused, done, flat, left_of, right_of, join, run_of}
use Rattle.stages.specs.Worst.{error_of}
use Rattle.stages.specs.declared.worst.Worst.{Worst}
use Rattle.faults.specs.Tests.{square_at, unmeasured}
use Rattle.tangents.specs.declared.Ways.{Ways}
use Rattle.cut.proofs.Run.{run_ind, left_count, right_count}
use Rattle.tangents.specs.declared.Cutting.{Cutting}
use Rattle.tangents.specs.Ways.{over}
use Rattle.blocks.specs.Blocks.{block_at, blocks_from}
use Rattle.blocks.proofs.Blocks.{usable_block}
use Rattle.gate.specs.Gate.{Usable}
use Rattle.ends.specs.Ends.{Near, worst_of, rooted}
use Rattle.ends.proofs.Parts.{Fits}
use Rattle.accepted.proofs.Within.{Within, within_left, within_right, block_count, block_within}
use Rattle.accepted.proofs.ByBlocks.{blocks_by}
use Rattle.faults.proofs.Farther.{farther_same, shifted, upto-farther}
use Rattle.accepted.proofs.Laid.{squares, Far, Laid, last, laid_append}

own : (ms : List Float) → Within ms ms 0
own ms i l = ap (mark_at ms) (let z : 0 + i ≡ i = omega arith in z)

module _ (tol : Float) where
  abbrev Lays : List Float → ℕ → Run → Type 0
  Lays ms first (refused q) = Unit {0}
  Lays ms first (done cs bs ps) = (ws : List Float) → Within ws ms first → Laid ws tol first (first + (count ms - 1)) cs bs ps

  -- what a part keeps is the worst of the outline's marks
  kept-far : (ws ms : List Float) (first : ℕ) (c : Curve) (w : Worst) (ps : List Float) (m : ℕ) → ((i : ℕ) → i < m → mark_at ws (first + i) ≡ mark_at ms i) → w ≡ rooted (worst_of ms c ps m)
      → Far ws c (shifted first w) first ps m
  unfolding square_at
  kept-far ws ms first c w ps m same k =
      ap (shifted first) k
      ∙ ap rooted (sym (farther_same (unmeasured first) (squares ws c first ps) (square_at ms c ps) first m (λ i l. ap (λ (p : Point). (error_of p c (get_or ps i nan)).val) (same i l)) ∙ upto-farther ms c ps first m))

  lays_one : (ms : List Float) (first : ℕ) (c : Curve) (w : Worst) (ps : List Float) → 2 ≤ count ms → Fits ms tol c w ps → Lays ms first (done (flat c w.err) (beside first (first + w.at) ∷ []) ps)
  lays_one ms first c w ps h a ws inside =
      let n = a.many in
      let z : first + 0 ≡ first = omega arith in
      let k : first + (count ms - 1) - first ≡ length ps - 1 = omega arith in
      let all : suc (first + (count ms - 1) - first) ≡ count ms = omega arith in
      let less : first + (count ms - 1) - first ≡ count ms - 1 = omega arith in
      last {f = first} {e = first + (count ms - 1)} {p = ps} c (shifted first w) (omega arith) (a.end ∙ sym (inside (count ms - 1) (omega arith)))
      record {
        good = a.good;
        start = a.start ∙ sym (inside 0 (omega arith)) ∙ ap (mark_at ws) z;
        many = omega arith;
        first = a.params.first;
        unit = λ i l. a.params.unit i (omega arith);
        near = λ i l. let b : i < count ms = omega arith in subst (λ (p : Point). Near tol p c (get_or ps i nan)) (sym (inside i b)) (a.near i b);
        far = subst (Far ws c (shifted first w) first ps) (sym all) (kept-far ws ms first c w ps (count ms) inside a.far);
      }
      (subst (Far ws c (shifted first w) first ps) (sym less) (kept-far ws ms first c w ps (count ms - 1) (λ i l. inside i (omega arith)) a.far-less))
      (ap (λ (x : ℕ). get_or ps x nan) k ∙ a.params.last)

  lays_both : (ms : List Float) (first k : ℕ) (R R' : Run) → 0 < k → k + 1 < count ms → Lays (left_of k ms) first R → Lays (right_of k ms) (first + k) R' → Lays ms first (join k R R')
  lays_both ms first k (refused q) R' i j l r = tt
  lays_both ms first k (done c f p) (refused q) i j l r = tt
  lays_both ms first k (done c f p) (done c' f' p') i j l r = λ ws w.
      let a : first + (count (left_of k ms) - 1) ≡ first + k = let n = left_count k ms j in omega arith in
      let b : first + k + (count (right_of k ms) - 1) ≡ first + (count ms - 1) = let n = right_count k ms j in omega arith in
      let d : first + k - first ≡ k = omega arith in
      subst (λ (x : ℕ). Laid ws tol first (first + (count ms - 1)) (c ++ c') (f ++ f') (take x p ++ p')) d
      (laid_append (subst (λ (e : ℕ). Laid ws tol first e c f p) a (l ws (within_left ws ms first k j w)))
      (subst (λ (e : ℕ). Laid ws tol (first + k) e c' f' p') b (r ws (within_right ws ms first k j w))))

  run_lays : (ms : List Float) (first : ℕ) (s e : Point) → 2 ≤ count ms → Usable ms tol → Lays ms first (run_of ms first s e tol)
  run_lays = run_ind tol Lays lays_one (λ ms first. tt) lays_both

  -- the direct fit's run
  pub run-laid : (ms : List Float) (s e : Point) (cs : List Float) (bs : List Beside) (ps : List Float) → 2 ≤ count ms → Usable ms tol → run_of ms 0 s e tol ≡ done cs bs ps → Laid ms tol 0 (count ms - 1) cs bs ps
  run-laid ms s e cs bs ps h u q =
      let l : Lays ms 0 (done cs bs ps) = rw q at (run_lays ms 0 s e h u) in
      let z : 0 + (count ms - 1) ≡ count ms - 1 = omega arith in
      subst (λ (x : ℕ). Laid ms tol 0 x cs bs ps) z (l ms (own ms))

  -- a fit's by blocks that meet
  module _ (ms : List Float) (n size : ℕ) (even : length ms ≡ 2 * n) (u : Usable ms tol) where
    block_laid : (from to : ℕ) (w : Ways) (cs : List Float) (bs : List Beside) (ps : List Float) → from + 2 ≤ to → to ≤ n → run_of (block_at ms from to) from w.start w.end tol ≡ done cs bs ps
        → Laid ms tol from (to - 1) cs bs ps
    block_laid from to w cs bs ps h l q =
        let ws = block_at ms from to in
        let many : count ws ≡ to - from = block_count ms n even from to h l in
        let r : Lays ws from (done cs bs ps) = rw q at (run_lays ws from w.start w.end (omega (arith, many)) (usable_block from to u)) in
        let z : from + (count ws - 1) ≡ to - 1 = omega (arith, many) in
        subst (λ (e : ℕ). Laid ms tol from e cs bs ps) z (r ms (block_within ms n even from to h l))

    pub blocks-laid : (k : Cutting) → over k ≡ 1 → (cs : List Float) (bs : List Beside) (ps : List Float) → 0 < size → 2 ≤ n → blocks_from k ms n size tol 0 ≡ done cs bs ps → Laid ms tol 0 (n - 1) cs bs ps
    blocks-laid k meet = blocks_by k meet ms n size tol (Laid ms tol) block_laid (λ f g e cs cs' bs bs' ps ps' l x y. laid_append x y)
