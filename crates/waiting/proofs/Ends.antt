-- The parts that wait first are the blocks: worked off, they are the run that is asked for. Assumes nothing.
use Prim.Native.Nat.{ℕ, ◌+◌, ◌-◌, ◌*◌, ◌%◌, ◌≤◌, ◌<◌}
use native.Mathlib.Omega.{arith}
use mathlib.Core.Path.{◌≡◌, refl, sym, ap, ◌∙◌}
use mathlib.Core.Bool.{Bool, true, false, ◌&&◌, ◌||◌}
use mathlib.Core.List.{List, [], ◌∷◌}
use lib.ListN.{length}
use lib.Seq.{take_all}
use lib.Arith.{digits_mod}
use lib.Dec.{eqb}
use lib.Ieee.{Float}
use borrow.Author.Tests.{eq-eqb, ne_eqb, le-ltb}
use Rattle.float.specs.Calc.{Calc, give, ◌>>=◌}
use Rattle.float.specs.Answer.{Answer, ok, unless, outcome}
use Rattle.plane.specs.declared.Point.{Point}
use Rattle.marks.specs.Marks.{count}
use Rattle.tangents.specs.declared.Ways.{Ways}
use Rattle.tangents.specs.declared.Cutting.{Cutting}
use Rattle.tangents.specs.Ways.{over, start_of, end_of, ways_of}
use Rattle.cut.specs.Run.{Run, refused, join, turned, run_of}
use Rattle.blocks.specs.Blocks.{block_of, blocks_from, blocks_of}
use Rattle.blocks.proofs.Blocks.{blocks_last, blocks_more}
use Rattle.parts.specs.declared.Heading.{Heading}
use Rattle.parts.specs.declared.Heading.TheVariants.{Given, By}
use Rattle.parts.specs.Headings.{outer, own_start, own_end, start_in, end_in}
use Rattle.parts.proofs.Headings.{at_outer, at_cut}
use Rattle.waiting.specs.Waiting.{part_at, headed, run_at, open_of, run_in}
use Rattle.waiting.specs.Lent.{Meeting, Blocks, final, more}
use Rattle.waiting.proofs.Open.{Free}

-- ---- numbers

module _ {size last : ℕ} (some : 0 < size) where
  pub ahead : {q c : ℕ} {cs : List ℕ} → Blocks size last q c cs → q * size < c
  ahead (final q a b) = a
  ahead (more q c cs r) = omega arith

  pub wide : {q c : ℕ} {cs : List ℕ} → Blocks size last q c cs → c ≤ q * size + size
  wide (final q a b) = b
  wide (more q c cs r) = omega arith

  pub reaches : {q c : ℕ} {cs : List ℕ} → Blocks size last q c cs → length cs + c ≤ last
  reaches (final q a b) = omega arith
  reaches (more q c cs r) = let i = ahead r in let j = reaches r in omega arith

-- ---- where blocks end

or_true : (a : Bool) → (a || true) ≡ true
or_true true = refl
or_true false = refl

module _ (n size : ℕ) where
  pub outer_last : (j : ℕ) → j + 1 ≡ n → outer n size j ≡ true
  unfolding outer
  outer_last j e = rw (eq-eqb (j + 1) n e) (or_true (eqb (j % size) 0))

  pub outer_multiple : (q j : ℕ) → 0 < size → j ≡ q * size → outer n size j ≡ true
  unfolding outer
  outer_multiple q j z e =
      let d : j % size ≡ 0 = let f : j ≡ q * size + 0 = omega arith in ap (λ (i : ℕ). i % size) f ∙ digits_mod q z in
      rw (eq-eqb (j % size) 0 d)

  pub outer_none : (q j : ℕ) → q * size < j → j < q * size + size → j + 1 < n → outer n size j ≡ false
  unfolding outer
  outer_none q j a b l =
      let r : j - q * size < size = omega arith in
      let d : j % size ≡ j - q * size = let f : j ≡ q * size + (j - q * size) = omega arith in ap (λ (i : ℕ). i % size) f ∙ digits_mod q r in
      rw (ne_eqb (j % size) 0 (λ e. omega arith), ne_eqb (j + 1) n (λ e. omega arith))

-- ---- a part within a block, and parts one behind the other to the last mark

pub record Tile (h : Heading) (ms : List Float) (n size a b : ℕ) : Type 0 where
  pub some : a < b
  pub wide : b ≤ a + size
  pub free : Free (start_in h ms n size) (end_in h ms n size) ms a b

pub data Tiled (h : Heading) (ms : List Float) (n size : ℕ) : ℕ → ℕ → List ℕ → Type 0 where
  alone : {a b : ℕ} → Tile h ms n size a b → b + 1 ≡ n → Tiled h ms n size a b []
  next : {a b c : ℕ} {cs : List ℕ} → Tile h ms n size a b → Tiled h ms n size b c cs → Tiled h ms n size a b (c ∷ cs)

module _ {h : Heading} {ms : List Float} {n size : ℕ} where
  pub tile_of : {a b : ℕ} {cs : List ℕ} → Tiled h ms n size a b cs → Tile h ms n size a b
  tile_of (alone t e) = t
  tile_of (next t r) = t

  pub tiled_behind : {a b c : ℕ} {cs : List ℕ} → Tiled h ms n size a b (c ∷ cs) → Tiled h ms n size b c cs
  tiled_behind (next t r) = r

  pub tiled_end : {a b : ℕ} → Tiled h ms n size a b [] → b + 1 ≡ n
  tiled_end (alone t e) = e

  pub tiled_long : {a b : ℕ} {cs : List ℕ} → Tiled h ms n size a b cs → length cs + b < n
  tiled_long (alone t e) = omega arith
  tiled_long (next t r) = let i = tiled_long r in let j = (tile_of r).some in omega arith

  -- a part that is cut at k
  pub tiled_cut : {a b : ℕ} {cs : List ℕ} (k : ℕ) → 0 < k → a + k < b → Tiled h ms n size a b cs → Tiled h ms n size a (a + k) (b ∷ cs)
  tiled_cut {a} {b} k low high r = next (left (tile_of r)) (whole r)
    where
      left : Tile h ms n size a b → Tile h ms n size a (a + k)
      left t = record { some = omega arith; wide = let w = t.wide in omega arith; free = λ j x y. t.free j x (omega arith) }

      right : Tile h ms n size a b → Tile h ms n size (a + k) b
      right t = record { some = high; wide = let w = t.wide in omega arith; free = λ j x y. t.free j (omega arith) y }

      whole : {ds : List ℕ} → Tiled h ms n size a b ds → Tiled h ms n size (a + k) b ds
      whole (alone t e) = alone (right t) e
      whole (next t r) = next (right t) r

module _ (h : Heading) (ms : List Float) (n size last : ℕ) (some : 0 < size) (top : last + 1 ≡ n) where
  tile : (q a b : ℕ) → a ≡ q * size → a < b → b ≤ a + size → b ≤ last → Tile h ms n size a b
  tile q a b e l w t = record {
    some = l;
    wide = w;
    free = λ j x y. let o = outer_none n size q j (omega arith) (omega arith) (omega arith) in (at_cut (λ w. w.start) (own_start h ms n j) ms n size j o, at_cut (λ w. w.end) (own_end h ms n j) ms n size j o);
  }

  pub tiled : {q c : ℕ} {cs : List ℕ} → Blocks size last q c cs → Tiled h ms n size (q * size) c cs
  tiled (final q a b) = alone (tile q (q * size) last refl a b (omega arith)) top
  tiled (more q c cs r) =
      let i = reaches some r in
      let j = ahead some r in
      next (tile q (q * size) ((q + 1) * size) refl (omega arith) (omega arith) (omega arith)) (tiled r)

-- ---- the run that is asked for

-- on with two tangents, or with each in turn
ways_headed : (m p : Calc Point) (F : Point → Point → Run)
    → turned (outcome (◌>>=◌ m (λ s. ◌>>=◌ p (λ e. give (record { end = e; start = s }))))) (λ w. F w.start w.end) ≡ headed refused (outcome m) (outcome p) F
unfolding outcome
ways_headed m p F = go m.fine p.fine
  where
    go : (x y : Bool) → turned (unless 6 (x && (y && true)) (ok (record { end = p.val; start = m.val }))) (λ w. F w.start w.end) ≡ headed refused (unless 6 x (ok m.val)) (unless 6 y (ok p.val)) F
    go true true = refl
    go true false = refl
    go false y = refl

module _ (k : Cutting) (ms : List Float) (tol : Float) (n size last : ℕ) (meets : over k ≡ 1) (some : 0 < size) (top : last + 1 ≡ n) where
  block_run : (a b : ℕ) → outer n size a ≡ true → outer n size b ≡ true → block_of k ms n tol a (b + 1) ≡ run_at (start_in (By k) ms n size) (end_in (By k) ms n size) ms tol a b
  unfolding ways_of
  block_run a b x y =
      ways_headed (start_of k ms n a) (end_of k ms n (b + 1)) (λ s e. run_of (part_at ms a b) a s e tol)
      ∙ ap (λ (S : Answer Point). headed refused S (outcome (end_of k ms n (b + 1))) (λ s e. run_of (part_at ms a b) a s e tol)) (at_outer (λ w. w.start) (own_start (By k) ms n a) ms n size a x _ refl)
      ∙ ap (λ (E : Answer Point). headed refused (start_in (By k) ms n size a) E (λ s e. run_of (part_at ms a b) a s e tol)) (at_outer (λ w. w.end) (own_end (By k) ms n b) ms n size b y _ refl)

  blocks-open : {q c : ℕ} {cs : List ℕ} → Blocks size last q c cs → blocks_from k ms n size tol (q * size) ≡ open_of (start_in (By k) ms n size) (end_in (By k) ms n size) ms tol (q * size) c cs
  unfolding open_of
  blocks-open (final q a b) =
      blocks_last k ms n size tol (q * size) (omega arith) (rw meets (omega arith))
      ∙ rw (le-ltb (n - q * size) 2 (omega arith))
      (ap (block_of k ms n tol (q * size)) (sym top) ∙ block_run (q * size) last (outer_multiple n size q (q * size) some refl) (outer_last n size last top))
  blocks-open (more q c cs r) =
      let i = ahead some r in
      let j = reaches some r in
      let e : q * size + size ≡ (q + 1) * size = omega arith in
      let d : q * size + (size + 1) ≡ (q + 1) * size + 1 = omega arith in
      let w : size ≡ (q + 1) * size - q * size = omega arith in
      blocks_more k ms n size tol (q * size) some (rw meets (omega arith))
      ∙ rw (meets, d, e) (ap (join size (block_of k ms n tol (q * size) ((q + 1) * size + 1))) (blocks-open r)
      ∙ ap (λ (R : Run). join size R (open_of (start_in (By k) ms n size) (end_in (By k) ms n size) ms tol ((q + 1) * size) c cs)) (block_run (q * size) ((q + 1) * size) (outer_multiple n size q (q * size) some refl) (outer_multiple n size (q + 1) ((q + 1) * size) some refl))
      ∙ ap (λ (i : ℕ). join i (run_at (start_in (By k) ms n size) (end_in (By k) ms n size) ms tol (q * size) ((q + 1) * size)) (open_of (start_in (By k) ms n size) (end_in (By k) ms n size) ms tol ((q + 1) * size) c cs)) w)

-- all marks as one part, with the tangents given
module _ (w : Ways) (ms : List Float) (tol : Float) (n size last : ℕ) (meets : size + 1 ≡ n) (some : 0 < size) (top : last + 1 ≡ n) (even : length ms ≡ 2 * n) where
  given-open : {q c : ℕ} {cs : List ℕ} → q ≡ 0 → Blocks size last q c cs → run_of ms 0 w.start w.end tol ≡ open_of (start_in (Given w) ms n size) (end_in (Given w) ms n size) ms tol 0 c cs
  unfolding open_of
  given-open z (final q a b) =
      let all : part_at ms 0 last ≡ ms = take_all (2 * (last + 1) - 2 * 0) ms (omega arith) in
      ap (λ (l : List Float). headed refused (ok w.start) (ok w.end) (λ s e. run_of l 0 s e tol)) (sym all)
      ∙ ap (λ (S : Answer Point). headed refused S (ok w.end) (λ s e. run_of (part_at ms 0 last) 0 s e tol)) (at_outer (λ w. w.start) (own_start (Given w) ms n 0) ms n size 0 (outer_multiple n size 0 0 some (omega arith)) _ refl)
      ∙ ap (λ (E : Answer Point). headed refused (start_in (Given w) ms n size 0) E (λ s e. run_of (part_at ms 0 last) 0 s e tol)) (at_outer (λ w. w.end) (own_end (Given w) ms n last) ms n size last (outer_last n size last top) _ refl)
  given-open z (more q c cs r) = let i = ahead some r in let j = reaches some r in let u : q * size ≡ 0 = rw z (omega arith) in absurd (omega arith)

from_count : (k : Cutting) (ms : List Float) (size : ℕ) (tol : Float) (n : ℕ) → count ms ≡ n → blocks_of k ms size tol ≡ blocks_from k ms n size tol 0
unfolding blocks_of
from_count k ms size tol n e = ap (λ (m : ℕ). blocks_from k ms m size tol 0) e

pub run-open : (h : Heading) (ms : List Float) (tol : Float) (n size last : ℕ) → Meeting h n size → 0 < size → last + 1 ≡ n → length ms ≡ 2 * n → {c : ℕ} {cs : List ℕ} → Blocks size last 0 c cs
    → run_in h ms size tol ≡ open_of (start_in h ms n size) (end_in h ms n size) ms tol 0 c cs
run-open (Given w) ms tol n size last meets some top even r = given-open w ms tol n size last meets some top even refl r
run-open (By k) ms tol n size last meets some top even {c} {cs} r = from_count k ms size tol n many ∙ ap (blocks_from k ms n size tol) none ∙ blocks-open k ms tol n size last meets some top r ∙ ap (λ (i : ℕ). open_of (start_in (By k) ms n size) (end_in (By k) ms n size) ms tol i c cs) (sym none)
  where
    none : 0 ≡ 0 * size
    none = omega arith

    many : count ms ≡ n
    many = omega arith
