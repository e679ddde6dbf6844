-- Marks of a part are marks of the whole outline. Assumes nothing.
use Prim.Native.Nat.{ℕ, ◌+◌, ◌-◌, ◌*◌, ◌≤◌, ◌<◌}
use native.Mathlib.Omega.{arith}
use mathlib.Core.Path.{◌≡◌, sym, ap, ◌∙◌}
use mathlib.Core.List.{List}
use lib.ListN.{length, drop, length-take, length-drop}
use lib.Seq.{get_or-take, get_or-drop}
use lib.Ieee.{Float, nan}
use Rattle.marks.specs.Marks.{count, mark_at}
use Rattle.cut.specs.Run.{left_of, right_of}
use Rattle.blocks.specs.Blocks.{block_at}
use Rattle.cut.proofs.Run.{left_count, right_count}

-- ms is ws from mark `first` on, as far as ms goes
abbrev pub Within : List Float → List Float → ℕ → Type 0
Within ws ms first = (i : ℕ) → i < count ms → mark_at ws (first + i) ≡ mark_at ms i

pub within_left : (ws ms : List Float) (first k : ℕ) → k + 1 < count ms → Within ws ms first → Within ws (left_of k ms) first
unfolding mark_at
within_left ws ms first k h w i l =
    let n = left_count k ms h in
    w i (omega arith) ∙ sym (rw (get_or-take (2 * k + 2) ms (2 * i) nan (omega arith), get_or-take (2 * k + 2) ms (2 * i + 1) nan (omega arith)))

pub within_right : (ws ms : List Float) (first k : ℕ) → k + 1 < count ms → Within ws ms first → Within ws (right_of k ms) (first + k)
unfolding mark_at
within_right ws ms first k h w i l =
    let n = right_count k ms h in
    let a : first + k + i ≡ first + (k + i) = omega arith in
    let x : 2 * k + 2 * i ≡ 2 * (k + i) = omega arith in
    let y : 2 * k + (2 * i + 1) ≡ 2 * (k + i) + 1 = omega arith in
    ap (mark_at ws) a ∙ w (k + i) (omega arith) ∙ sym (rw (get_or-drop (2 * k) ms (2 * i) nan, get_or-drop (2 * k) ms (2 * i + 1) nan, x, y))

-- the marks of a block of an outline of n
module _ (ms : List Float) (n : ℕ) (even : length ms ≡ 2 * n) (from to : ℕ) (h : from + 2 ≤ to) (l : to ≤ n) where
  pub block_count : count (block_at ms from to) ≡ to - from
  block_count = simp (length-take, length-drop) (omega arith)

  pub block_within : Within ms (block_at ms from to) from
  unfolding mark_at
  block_within i less =
      let many = block_count in
      let x : 2 * from + 2 * i ≡ 2 * (from + i) = omega arith in
      let y : 2 * from + (2 * i + 1) ≡ 2 * (from + i) + 1 = omega arith in
      sym (rw (get_or-take (2 * to - 2 * from) (drop (2 * from) ms) (2 * i) nan (omega (arith, many)), get_or-take (2 * to - 2 * from) (drop (2 * from) ms) (2 * i + 1) nan (omega (arith, many)), get_or-drop (2 * from) ms (2 * i) nan, get_or-drop (2 * from) ms (2 * i + 1) nan, x, y))
