-- Laws of the blocks' definition. Assumes nothing.
use Prim.Native.Nat.{ℕ, zero, suc, ◌+◌, ◌-◌, ◌*◌, ◌≤◌, ◌<◌}
use native.Mathlib.Omega.{arith}
use mathlib.Core.Path.{◌≡◌, refl, sym, ap, subst, ◌∙◌}
use mathlib.Core.Bool.{Bool, true, false}
use mathlib.Core.List.{List, [], ◌++◌, append_assoc}
use lib.ListN.{length, take, drop, length-take, length-drop}
use lib.Seq.{take_all, take_at}
use lib.Dec.{leb, ltb}
use lib.Ieee.{Float}
use borrow.Author.Tests.{le-leb, lt-leb, leb-false}
use Rattle.std.specs.Prelude.{Result, Err}
use Rattle.float.specs.Answer.{Answer, ok, outcome}
use Rattle.float.specs.Answer.{refused as no}
use Rattle.float.specs.declared.refusal.Refusal.{Refusal}
use Rattle.float.specs.declared.refusal.Refusal.TheVariants.{NotFinite}
use Rattle.float.proofs.Answers.{only_six}
use Rattle.float.specs.Slices.{written}
use Rattle.plane.specs.declared.Point.{Point}
use Rattle.limits.specs.Limits.{most_numbered}
use Rattle.marks.specs.Marks.{count}
use Rattle.form.specs.Form.{record_numbers}
use Rattle.cut.specs.Run.{Run, refused, done, Beside, join, turned, run_of}
use Rattle.tangents.specs.declared.Ways.{Ways}
use Rattle.gate.specs.Gate.{Usable}
use Rattle.ends.proofs.Usable.{usable-take, usable-drop}
use Rattle.cut.specs.Lent.{Left, Ready}
use Rattle.cut.proofs.Run.{Sizes}
use Rattle.cut.proofs.Cut.{sizes}
use Rattle.tangents.specs.declared.Cutting.{Cutting}
use Rattle.blocks.specs.Blocks.{block_at, block_of, last_of, blocks, blocks_from}
use Rattle.tangents.specs.Ways.{over, outline_of, marks_of, ways_of}
use Rattle.ring.specs.Ring.{whole, Even}
use Rattle.ring.specs.declared.Outline.TheVariants.{Closed}
use Rattle.ring.proofs.Whole.{whole_length, part_given, part_as-closed}

-- the marks of a block are in range
pub usable_block : (from to : ℕ) {ms : List Float} {tol : Float} → Usable ms tol → Usable (block_at ms from to) tol
usable_block from to u = usable-take (2 * to - 2 * from) (usable-drop (2 * from) u)

module _ (k : Cutting) (ms : List Float) (n size : ℕ) (tol : Float) where
  -- ---- the blocks by cases: proofs unfold them by `blocks_last` and `blocks_more`, and never see the bound

  abbrev at : ℕ → ℕ → Run
  at d from = blocks d (leb (n - from) (size + over k)) k ms n size tol from

  blocks_fuel : (d d' from : ℕ) → 0 < size → from < n → n - from ≤ d → n - from ≤ d' → at d from ≡ at d' from
  unfolding blocks
  blocks_fuel zero d' from z h l l' = absurd (omega arith)
  blocks_fuel (suc d) zero from z h l l' = absurd (omega arith)
  blocks_fuel (suc d) (suc d') from z h l l' =
      go (leb (n - from) (size + over k)) refl (λ j. blocks_fuel d d' (from + size) z (omega arith) (omega arith) (omega arith))
    where
      go : (b : Bool) → leb (n - from) (size + over k) ≡ b → (size + over k < n - from → at d (from + size) ≡ at d' (from + size)) → blocks (suc d) b k ms n size tol from ≡ blocks (suc d') b k ms n size tol from
      go true e R = refl
      go false e R = ap (join size (block_of k ms n tol from (from + (size + over k)))) (R (leb-false _ _ e))

  pub blocks_last : (from : ℕ) → from < n → n - from ≤ size + over k → blocks_from k ms n size tol from ≡ last_of (ltb (n - from) 2) k ms n tol from
  unfolding blocks_from blocks
  blocks_last from h l = rw (le-leb (n - from) (size + over k) l) (go n (omega arith))
    where
      go : (d : ℕ) → 0 < d → blocks d true k ms n size tol from ≡ last_of (ltb (n - from) 2) k ms n tol from
      go zero l = absurd (omega arith)
      go (suc d) l = refl

  pub blocks_more : (from : ℕ) → 0 < size → size + over k < n - from → blocks_from k ms n size tol from ≡ join size (block_of k ms n tol from (from + (size + over k))) (blocks_from k ms n size tol (from + size))
  unfolding blocks_from blocks
  blocks_more from z l = rw (lt-leb (n - from) (size + over k) l) (go n refl)
    where
      go : (d : ℕ) → n ≡ d → blocks d false k ms n size tol from ≡ join size (block_of k ms n tol from (from + (size + over k))) (at n (from + size))
      go zero e = absurd (omega arith)
      go (suc d) e = ap (join size (block_of k ms n tol from (from + (size + over k)))) (blocks_fuel d n (from + size) z (omega arith) (omega arith) (omega arith))

  -- ---- one block: fewer curves than marks, nine numbers for each, and a parameter for each mark

  pub block_sized : (from to : ℕ) (cs : List Float) (bs : List Beside) (p : List Float) → length ms ≡ 2 * n → Usable ms tol → from + 2 ≤ to → to ≤ n → block_of k ms n tol from to ≡ done cs bs p → Sizes (to - from) cs bs p
  block_sized from to cs bs p e u h l q = go (outcome (ways_of k ms n from to)) q
    where
      many : count (block_at ms from to) ≡ to - from
      many = simp (length-take, length-drop) (omega arith)

      go : (w : Answer Ways) → turned w (λ w. run_of (block_at ms from to) from w.start w.end tol) ≡ done cs bs p → Sizes (to - from) cs bs p
      go (ok w) q =
          let z = sizes (block_at ms from to) from w.start w.end tol cs bs p (omega (arith, many)) (usable_block from to u) q in
          (z.0, omega (arith, many, z.1), z.2, z.3 ∙ many)
      go (no i) q = let z : ◌≡◌ {A = ℕ} 0 1 = cc in absurd (omega arith)

-- ---- fit_block's returns

pub block_ready : (ms : List Float) (n from to : ℕ) (tol : Float) (C : List Float) (F W : List ℕ) (P : List Float) → (length ms ≡ 2 * n) × Usable ms tol → (from + 2 ≤ to) × (to ≤ n) × (n ≤ most_numbered)
    → (to ≡ from + length P) × (length P ≤ 201) × (record_numbers * length P ≤ length C + record_numbers) × (length P ≤ length F + 1) × (length P ≤ length W + 1) → Ready (block_at ms from to) from tol C F W P
block_ready ms n from to tol C F W P e h l =
    let m : length (block_at ms from to) ≡ 2 * to - 2 * from = simp (length-take, length-drop) (omega arith) in
    record { usable = usable_block from to e.1; even = omega arith; two = omega arith; near = omega arith; curves = omega arith; firsts = omega arith; worsts = omega arith }

-- a run over one list of marks is that over another, where the two are equal
pub same_marks : (ms ws : List Float) (first : ℕ) (s e : Point) (tol : Float) (r : Result ℕ Refusal) (C C₁ : List Float) (F F₁ W W₁ : List ℕ) (p : List Float) → ms ≡ ws → Left (run_of ms first s e tol) r C C₁ F F₁ W W₁ p → Left (run_of ws first s e tol) r C C₁ F F₁ W W₁ p
same_marks ms ws first s e tol r C C₁ F F₁ W W₁ p h ran = subst (λ (l : List Float). Left (run_of l first s e tol) r C C₁ F F₁ W W₁ p) h ran

pub same_ready : (ms ws : List Float) (first : ℕ) (tol : Float) (C : List Float) (F W : List ℕ) (P : List Float) → ms ≡ ws → Ready ms first tol C F W P → Ready ws first tol C F W P
same_ready ms ws first tol C F W P h ready = subst (λ (l : List Float). Ready l first tol C F W P) h ready

-- the marks of a block that were all given, and of one that mark 0 ends
module _ (ms : List Float) (from to : ℕ) (even : Even ms) (l : from ≤ to) where
  pub all_given : 2 * to ≤ length ms → block_at (whole Closed ms) from to ≡ block_at ms from to
  all_given h = part_given Closed ms (2 * from) (2 * to) (omega arith) h

  pub to_the_end : 2 * to ≡ length ms + 2 → block_at (whole Closed ms) from to ≡ drop (2 * from) (whole Closed ms)
  to_the_end h =
      let n = whole_length Closed ms even in
      take_all (2 * to - 2 * from) (drop (2 * from) (whole Closed ms)) (simp length-drop (omega arith))

-- these, laid over the front of an array
pub laid-front : (xs room : List Float) (m : ℕ) {R : List Float} → R ≡ written xs room → length xs ≡ m → take m R ≡ xs
laid-front xs room m e l = rw e (take_at xs _ m l)

-- they are the block's, however the outline is cut
pub block_as-closed : (k : Cutting) (ms : List Float) (n from to : ℕ) → length (marks_of k ms) ≡ 2 * n → from ≤ to → to ≤ n → block_at (whole Closed ms) from to ≡ block_at (marks_of k ms) from to
block_as-closed k ms n from to e h l = part_as-closed (outline_of k) ms (2 * from) (2 * to) (omega arith) (omega (arith, e))

module _ (k : Cutting) (ms : List Float) (n : ℕ) (tol : Float) (from to : ℕ) where
  pub block_lost : {q : ℕ} → no q ≡ outcome (ways_of k ms n from to) → (C C₁ : List Float) (F F₁ W W₁ : List ℕ) (p : List Float) → Left (block_of k ms n tol from to) (Err NotFinite) C C₁ F F₁ W W₁ p
  block_lost e C C₁ F F₁ W W₁ p = rw (only_six (ways_of k ms n from to) _ e) refl

  pub block_ran : {T : Ways} → ok T ≡ outcome (ways_of k ms n from to) → (r : Result ℕ Refusal) (C C₁ : List Float) (F F₁ W W₁ : List ℕ) (p : List Float)
      → Left (run_of (block_at ms from to) from T.start T.end tol) r C C₁ F F₁ W W₁ p → Left (block_of k ms n tol from to) r C C₁ F F₁ W W₁ p
  block_ran e r C C₁ F F₁ W W₁ p ran = rw (sym e) ran

-- ---- what has been written stands before the rest of the run

abbrev pub prepend : List Float → List Beside → List Float → Run → Run
prepend c b p (refused q) = refused q
prepend c b p (done c' b' p') = done (c ++ c') (b ++ b') (p ++ p')

pub join_prepend : (k : ℕ) (c : List Float) (b : List Beside) (p : List Float) (R : Run) → join k (done c b p) R ≡ prepend c b (take k p) R
join_prepend k c b p (refused q) = refl
join_prepend k c b p (done c' b' p') = refl

pub prepend_twice : (c c' : List Float) (b b' : List Beside) (p p' : List Float) (R : Run) → prepend c b p (prepend c' b' p' R) ≡ prepend (c ++ c') (b ++ b') (p ++ p') R
prepend_twice c c' b b' p p' (refused q) = refl
prepend_twice c c' b b' p p' (done c'' b'' p'') = rw (← append_assoc c c' c'', ← append_assoc b b' b'', ← append_assoc p p' p'')

pub prepend_none : (R : Run) → R ≡ prepend [] [] [] R
prepend_none (refused q) = refl
prepend_none (done c b p) = refl
