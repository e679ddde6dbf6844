-- A mark of a part of the marks. Assumes nothing.
use mathlib.Core.Path.{◌≡◌}
use mathlib.Core.List.{List}
use Prim.Native.Nat.{ℕ, ◌+◌, ◌*◌, ◌<◌}
use native.Mathlib.Omega.{arith}
use lib.ListN.{take, drop}
use lib.Seq.{get_or-drop, get_or-take}
use lib.Ieee.{Float, nan}
use Rattle.marks.specs.Marks.{mark_at}

pub mark-drop : (ms : List Float) (a k : ℕ) → mark_at (drop (2 * a) ms) k ≡ mark_at ms (a + k)
unfolding mark_at
mark-drop ms a k =
    let x : 2 * a + 2 * k ≡ 2 * (a + k) = omega arith in
    let y : 2 * a + (2 * k + 1) ≡ 2 * (a + k) + 1 = omega arith in
    simp (get_or-drop, x, y)

pub mark-take : (ms : List Float) (n k : ℕ) → 2 * k + 1 < n → mark_at (take n ms) k ≡ mark_at ms k
unfolding mark_at
mark-take ms n k l =
    let h : 2 * k < n = omega arith in
    simp (get_or-take n ms (2 * k) nan h, get_or-take n ms (2 * k + 1) nan l)
