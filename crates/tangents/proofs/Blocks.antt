-- Where a block's tangents are taken from. Assumes nothing.
use Prim.Native.Nat.{ℕ, ◌+◌, ◌-◌, ◌*◌, ◌≤◌, ◌<◌}
use native.Mathlib.Omega.{arith}
use mathlib.Core.Path.{◌≡◌, refl, sym, ap, ◌∙◌}
use mathlib.Core.Bool.{Bool, true, false, cond}
use mathlib.Core.List.{List}
use lib.ListN.{length, take, drop}
use lib.Dec.{leb, ltb}
use lib.Ieee.{Float}
use borrow.Author.Tests.{leb-false, ltb-true}
use Rattle.float.proofs.Truth.{and_right}
use Rattle.marks.specs.Marks.{count}
use Rattle.marks.specs.Tangent.{start_tangent, end_tangent}
use Rattle.tangents.specs.declared.Cutting.{Cutting}
use Rattle.tangents.specs.declared.Cutting.TheVariants.{Source, Loop, Joined, Ring}
use Rattle.ring.specs.Ring.{again, whole, Even}
use Rattle.ring.specs.declared.Outline.{Outline}
use Rattle.ring.specs.declared.Outline.TheVariants.{Open, Closed}
use Rattle.ring.proofs.Whole.{again-small, whole_length, halves, as-closed}
use Rattle.joints.specs.Joints.{Inner, joint_at, seam_of, left_end, right_start}
use Rattle.joints.specs.declared.Joint.{Joint}
use Rattle.tangents.specs.Ways.{tangent_at, ways_at, over, outline_of, marks_of, start_at, end_at, meets, start_of, end_of}

pub over-small : (k : Cutting) → over k ≤ 1
unfolding over
over-small Source = omega arith
over-small Loop = omega arith
over-small Joined = omega arith
over-small Ring = omega arith

-- the two marks of a block's start tangent, and those of its end tangent, are marks of the outline
start_low : (k : Cutting) (n from : ℕ) → from + 2 ≤ n → start_at k n from + 2 ≤ n
unfolding start_at
start_low Source n from h = h
start_low Joined n from h = h
start_low Ring n from h = h
start_low Loop n from h = go (leb from 1) refl
  where
    go : (b : Bool) → leb from 1 ≡ b → cond b (n - 2) (from - 2) + 2 ≤ n
    go true e = omega arith
    go false e = let l = leb-false from 1 e in omega arith

pub start_within : (k : Cutting) (n from a : ℕ) → from + 2 ≤ n → a ≡ start_at k n from → a + 2 ≤ n
start_within k n from a h e = rw e (start_low k n from h)

end_low : (k : Cutting) (n to : ℕ) → 2 ≤ to → to ≤ n → (2 ≤ end_at k n to) × (end_at k n to ≤ n)
unfolding end_at
end_low Joined n to h l = (h, l)
end_low Ring n to h l = (h, l)
end_low Source n to h l = go (ltb (to + 1) n) refl
  where
    go : (b : Bool) → ltb (to + 1) n ≡ b → (2 ≤ cond b (to + 1) to) × (cond b (to + 1) to ≤ n)
    go true e = let m = ltb-true (to + 1) n e in (omega arith, omega arith)
    go false e = (h, l)
end_low Loop n to h l = go (ltb (to + 1) n) refl
  where
    go : (b : Bool) → ltb (to + 1) n ≡ b → (2 ≤ cond b (to + 2) 2) × (cond b (to + 2) 2 ≤ n)
    go true e = let m = ltb-true (to + 1) n e in (omega arith, omega arith)
    go false e = (omega arith, omega arith)

pub end_within : (k : Cutting) (n to b : ℕ) → 2 ≤ to → to ≤ n → b ≡ end_at k n to → (2 ≤ b) × (b ≤ n)
end_within k n to b h l e = rw e (end_low k n to h l)

pub met : (k : Cutting) (a b : ℕ) → meets k a b ≡ true → a < b
unfolding meets
met k a b h = ltb-true a b (and_right (ltb 0 (over k)) (ltb a b) h)

-- the marks given, where n are cut into blocks
pub marks_of_is : (k : Cutting) (ms : List Float) (n : ℕ) → length (marks_of k ms) ≡ 2 * n → 2 ≤ n → Even ms × (again (outline_of k) + count ms ≡ n)
marks_of_is k ms n l h = halves (outline_of k) ms n l h

pub open-marks : (k : Cutting) (ms : List Float) → outline_of k ≡ Open → marks_of k ms ≡ ms
open-marks k ms h = rw h refl

pub open-length : (k : Cutting) (ms : List Float) (n : ℕ) → length (marks_of k ms) ≡ 2 * n → outline_of k ≡ Open → length ms ≡ 2 * n
open-length k ms n l h = sym (ap length (open-marks k ms h)) ∙ l

-- of an open outline the two marks that a block's tangent is taken from lie in the slice
module _ (k : Cutting) (ms : List Float) (n : ℕ) (l : length (marks_of k ms) ≡ 2 * n) (o : outline_of k ≡ Open) where
  pub head_within : (from a : ℕ) → from + 2 ≤ n → a ≡ start_at k n from → 2 * a + 4 ≤ length ms
  head_within from a h e = omega (arith, start_within k n from a h e, open-length k ms n l o)

  pub tail_within : (to b : ℕ) → 2 ≤ to → to ≤ n → b ≡ end_at k n to → (4 ≤ 2 * b) × (2 * b ≤ length ms)
  tail_within to b h m e = let w = end_within k n to b h m e in let s = open-length k ms n l o in (omega arith, omega arith)

-- the mark where a block meets another has one before it and one after it
module _ (k : Cutting) (ms : List Float) (n : ℕ) (l : length (marks_of k ms) ≡ 2 * n) where
  pub joint_inner : (j : ℕ) → 0 < j → j + 1 < n → Inner (outline_of k) ms j
  joint_inner j a b = let m = marks_of_is k ms n l (omega arith) in (m.0, (a, omega arith))

  pub joint_closed : (j : ℕ) → 0 < j → j + 1 < n → Inner Closed ms j
  joint_closed j a b =
      let i = joint_inner j a b in
      let s = again-small (outline_of k) in
      (i.0, (a, omega (arith, i)))

-- its neighbours, whether the outline is closed or not
pub joint_as-closed : (o : Outline) (ms : List Float) (k : ℕ) → Inner o ms k → joint_at (whole Closed ms) k ≡ joint_at (whole o ms) k
joint_as-closed o ms k i =
    let l = whole_length o ms i.0 in
    let s = again-small o in
    rw (as-closed o ms (k - 1) (omega (arith, i)), as-closed o ms k (omega (arith, i)), as-closed o ms (k + 1) (omega (arith, i)))

-- the tangent at a block's end where it meets another, and where it meets none, at the end of an open outline or where a ring comes back
module _ (k : Cutting) (ms : List Float) (n j : ℕ) where
  pub start_met : meets k 0 j ≡ true → start_of k ms n j ≡ right_start (joint_at ms j)
  unfolding start_of
  start_met h = rw h

  pub start_alone : meets k 0 j ≡ false → outline_of k ≡ Open → start_of k ms n j ≡ start_tangent (drop (2 * start_at k n j) ms)
  unfolding start_of
  start_alone h o = rw (h, o)

  pub start_seam : meets k 0 j ≡ false → outline_of k ≡ Closed → start_of k ms n j ≡ right_start (seam_of ms n)
  unfolding start_of
  start_seam h o = rw (h, o)

  pub end_met : meets k j n ≡ true → end_of k ms n j ≡ left_end (joint_at ms (j - 1))
  unfolding end_of
  end_met h = rw h

  pub end_alone : meets k j n ≡ false → outline_of k ≡ Open → end_of k ms n j ≡ end_tangent (take (2 * end_at k n j) ms)
  unfolding end_of
  end_alone h o = rw (h, o)

  pub end_seam : meets k j n ≡ false → outline_of k ≡ Closed → end_of k ms n j ≡ left_end (seam_of ms n)
  unfolding end_of
  end_seam h o = rw (h, o)

-- where a ring comes back
pub seam_of_is : (k : Cutting) (ms : List Float) (n : ℕ) → length (marks_of k ms) ≡ 2 * n → 2 ≤ n → outline_of k ≡ Closed → seam_of (whole Closed ms) (1 + count ms) ≡ seam_of (marks_of k ms) n
seam_of_is k ms n l h o =
    let e : 1 + count ms ≡ n = sym (ap (λ (o : Outline). again o + count ms) o) ∙ (marks_of_is k ms n l h).1 in
    rw (o, e) refl

-- and so the tangents at a cut
pub ways_as-closed : (o : Outline) (ms : List Float) (k : ℕ) → Inner o ms k → ways_at (whole Closed ms) k ≡ ways_at (whole o ms) k
unfolding ways_at tangent_at
ways_as-closed o ms k i = let e = joint_as-closed o ms k i in rw (ap (λ (j : Joint). j.before) e, ap (λ (j : Joint). j.at) e, ap (λ (j : Joint). j.after) e)
