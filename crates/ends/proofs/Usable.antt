-- Marks that a gate let pass: so are those of each part, and each is a pair of f64 within the range of coordinates. Assumes nothing.
use mathlib.Core.Path.{◌≡◌, refl, sym, subst}
use mathlib.Core.Bool.{true}
use mathlib.Core.List.{List, [], ◌∷◌, ◌++◌}
use Prim.Native.Nat.{ℕ, zero, suc, ◌+◌, ◌*◌, ◌<◌}
use native.Mathlib.Omega.{arith}
use lib.Dec.{T}
use lib.ListN.{length, take, drop, get_or}
use lib.Ieee.{Float, nan}
use Rattle.float.specs.Number.{f0, finite}
use Rattle.float.proofs.Ranks.{Le}
use Rattle.float.proofs.Truth.{and_left, and_right, both}
use Rattle.plane.specs.Range.{coordinate}
use Rattle.plane.proofs.Ranges.{coordinate-fits}
use Rattle.marks.specs.Marks.{count, mark_at}
use Rattle.gate.specs.Gate.{in_range, tolerable, Usable}
use Rattle.ends.specs.Ends.{FitsP}
use Rattle.ends.proofs.Lines.{WP, coordinate_w}

range-take : (k : ℕ) (xs : List Float) → in_range xs ≡ true → in_range (take k xs) ≡ true
unfolding in_range
range-take zero xs h = refl
range-take (suc k) [] h = refl
range-take (suc k) (x ∷ xs) h = both (coordinate x) (in_range (take k xs)) (and_left (coordinate x) (in_range xs) h) (range-take k xs (and_right (coordinate x) (in_range xs) h))

range-drop : (k : ℕ) (xs : List Float) → in_range xs ≡ true → in_range (drop k xs) ≡ true
unfolding in_range
range-drop zero xs h = h
range-drop (suc k) [] h = refl
range-drop (suc k) (x ∷ xs) h = range-drop k xs (and_right (coordinate x) (in_range xs) h)

range_append : (xs ys : List Float) → in_range xs ≡ true → in_range ys ≡ true → in_range (xs ++ ys) ≡ true
unfolding in_range
range_append [] ys h k = k
range_append (x ∷ xs) ys h k = both (coordinate x) (in_range (xs ++ ys)) (and_left (coordinate x) (in_range xs) h) (range_append xs ys (and_right (coordinate x) (in_range xs) h) k)

module _ {tol : Float} where
  pub usable-take : (k : ℕ) {ms : List Float} → Usable ms tol → Usable (take k ms) tol
  usable-take k {ms} u = record { near = range-take k ms u.near; tolerance = u.tolerance }

  pub usable-drop : (k : ℕ) {ms : List Float} → Usable ms tol → Usable (drop k ms) tol
  usable-drop k {ms} u = record { near = range-drop k ms u.near; tolerance = u.tolerance }

  pub usable_append : {ms ws : List Float} → Usable ms tol → Usable ws tol → Usable (ms ++ ws) tol
  usable_append {ms} {ws} u v = record { near = range_append ms ws u.near v.near; tolerance = u.tolerance }

pub not_below : (tol : Float) → tolerable tol ≡ true → Le f0 tol
unfolding tolerable
not_below tol h = and_right (finite tol) _ h

-- ---- mark by mark

in_range_at : (xs : List Float) → in_range xs ≡ true → (i : ℕ) → i < length xs → coordinate (get_or xs i nan) ≡ true
unfolding in_range
in_range_at [] h i l = absurd (omega arith)
in_range_at (x ∷ xs) h zero l = and_left (coordinate x) (in_range xs) h
in_range_at (x ∷ xs) h (suc i) l = in_range_at xs (and_right (coordinate x) (in_range xs) h) i (omega arith)

pub marked : (ms : List Float) → in_range ms ≡ true → (k : ℕ) → k < count ms → FitsP (mark_at ms k) × WP 20 (mark_at ms k)
unfolding mark_at
marked ms r k l =
    let a = in_range_at ms r (2 * k) (omega arith) in
    let b = in_range_at ms r (2 * k + 1) (omega arith) in
    ((subst T (sym (coordinate-fits _ a)) tt, subst T (sym (coordinate-fits _ b)) tt), (coordinate_w _ a, coordinate_w _ b))
