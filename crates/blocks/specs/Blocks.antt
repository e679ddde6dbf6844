-- Source cutting, the joined fit and the ring fit: blocks of `size` marks, each a run of its own. Definitions only.
use Rattle.std.specs.Prelude.{ℕ, zero, suc, ◌+◌, ◌-◌, ◌*◌, Bool, true, false, List, [], ◌∷◌, take, drop, leb, ltb, Float}
use Rattle.float.specs.Number.{f0}
use Rattle.float.specs.Answer.{outcome}
use Rattle.marks.specs.Marks.{count}
use Rattle.cut.specs.Run.{Run, refused, done, join, turned, run_of}
use Rattle.tangents.specs.declared.Cutting.{Cutting}
use Rattle.tangents.specs.Ways.{over, ways_of}

-- the marks from `from` up to `to`, which is not among them
abbrev pub block_at : List Float → ℕ → ℕ → List Float
block_at ms from to = take (2 * to - 2 * from) (drop (2 * from) ms)

-- one block
abbrev pub block_of : Cutting → List Float → ℕ → Float → ℕ → ℕ → Run
block_of k ms n tol from to = turned (outcome (ways_of k ms n from to)) (λ w. run_of (block_at ms from to) from w.start w.end tol)

-- the last block: of a single mark there is no curve, and its parameter is 0
abbrev pub last_of : Bool → Cutting → List Float → ℕ → Float → ℕ → Run
last_of true k ms n tol from = done [] [] (f0 ∷ [])
last_of false k ms n tol from = block_of k ms n tol from n

-- The blocks from mark `from` on. The test says whether the next is the last; the number bounds how many there are.
unfoldable pub blocks : ℕ → Bool → Cutting → List Float → ℕ → ℕ → Float → ℕ → Run
unfolding over
blocks zero b k ms n size tol from = refused 0
blocks (suc d) true k ms n size tol from = last_of (ltb (n - from) 2) k ms n tol from
blocks (suc d) false k ms n size tol from =
    join size (block_of k ms n tol from (from + (size + over k))) (blocks d (leb (n - (from + size)) (size + over k)) k ms n size tol (from + size))

unfoldable pub blocks_from : Cutting → List Float → ℕ → ℕ → Float → ℕ → Run
unfolding blocks over
blocks_from k ms n size tol from = blocks n (leb (n - from) (size + over k)) k ms n size tol from

unfoldable pub blocks_of : Cutting → List Float → ℕ → Float → Run
unfolding blocks_from
blocks_of k ms size tol = blocks_from k ms (count ms) size tol 0
