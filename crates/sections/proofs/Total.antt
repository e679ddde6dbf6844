-- How many sections are taken in all, to depth 64: fewer than 2,049, from the finite check `Creators`. Assumes nothing else.
use mathlib.Core.Path.{◌≡◌, refl, ap}
use Prim.Native.Nat.{ℕ, zero, suc, ◌+◌, ◌*◌, ◌≤◌, ◌<◌, zero-le}
use native.Mathlib.Nat.{le_refl}
use native.Mathlib.Omega.{arith}
use mathlib.Core.Bool.{Bool, true, false, ◌&&◌}
use lib.Dec.{T}
use lib.Ieee.{Format, fits}
use lib.Ieee.Fits.{and_l}
use lib.Ieee.Bits.{is_true}
use Rattle.quintic.specs.declared.numbers.Six.{Six}
use Rattle.sections.specs.Halving.{All, left, right, live, fine, bit, step, live_at, Creators}
use Rattle.sections.proofs.Bound.{at_most_15}

-- the sections taken below p, itself included, where all live ones above the n-th level are halved
unfoldable pub taken : Format → ℕ → Six → ℕ
taken f zero p = 1
taken f (suc n) p = 1 + step (live p && fine f p) (taken f n (left f p)) (taken f n (right f p))

-- the live ones on the first n levels
unfoldable pub lives : Format → ℕ → Six → ℕ
lives f zero p = 0
lives f (suc n) p = lives f n p + live_at f n p

regroup : (s t a b x y z : ℕ) → s ≡ 1 + (a + b) → t ≡ x + y → z ≡ s + t → z ≡ 1 + (a + x + (b + y))
regroup s t a b x y z h k l = omega arith

levels : (f : Format) (n : ℕ) (p : Six) → T (live p && fine f p) → lives f (suc n) p ≡ 1 + (lives f n (left f p) + lives f n (right f p))
unfolding lives live_at
levels f zero p t = ap (λ (b : Bool). 0 + bit b) (is_true (live p) (and_l (live p) (fine f p) t))
levels f (suc n) p t =
    regroup (lives f (suc n) p) (live_at f (suc n) p) (lives f n (left f p)) (lives f n (right f p)) (live_at f n (left f p)) (live_at f n (right f p)) (lives f (suc (suc n)) p)
    (levels f n p t) (ap (λ (b : Bool). step b (live_at f n (left f p)) (live_at f n (right f p))) (is_true (live p && fine f p) t)) refl

both : (x y a b s : ℕ) → x ≤ 1 + 2 * a → y ≤ 1 + 2 * b → s ≡ 1 + (a + b) → 1 + (x + y) ≤ 1 + 2 * s
both x y a b s h k e = omega arith

least : (s : ℕ) → 1 + 0 ≤ 1 + 2 * s
least s = omega arith

pub taken_lives : (f : Format) (n : ℕ) (p : Six) → taken f n p ≤ 1 + 2 * lives f n p
unfolding taken
taken_lives f zero p = least (lives f 0 p)
taken_lives f (suc n) p = go (live p && fine f p) (levels f n p) (taken_lives f n (left f p)) (taken_lives f n (right f p))
  where
    go : (b : Bool) → (T b → lives f (suc n) p ≡ 1 + (lives f n (left f p) + lives f n (right f p))) → taken f n (left f p) ≤ 1 + 2 * lives f n (left f p) → taken f n (right f p) ≤ 1 + 2 * lives f n (right f p)
        → 1 + step b (taken f n (left f p)) (taken f n (right f p)) ≤ 1 + 2 * lives f (suc n) p
    go true e x y = both (taken f n (left f p)) (taken f n (right f p)) (lives f n (left f p)) (lives f n (right f p)) (lives f (suc n) p) x y (e tt)
    go false e x y = least (lives f (suc n) p)

add15 : (s t n : ℕ) → s ≤ 15 * n → t ≤ 15 → s + t ≤ 15 * suc n
add15 s t n h k = omega arith

less : (n : ℕ) → suc n ≤ 64 → n ≤ 64
less n h = omega arith

under : (n : ℕ) → suc n ≤ 64 → n ≤ 63
under n h = omega arith

lives_15 : (f : Format) → Creators f → (n : ℕ) → n ≤ 64 → (p : Six) → All (fits f) p → lives f n p ≤ 15 * n
unfolding lives
lives_15 f hyp zero h p w = zero-le
lives_15 f hyp (suc n) h p w = add15 (lives f n p) (live_at f n p) n (lives_15 f hyp n (less n h) p w) (at_most_15 f hyp n (under n h) p w)

final : (x s : ℕ) → x ≤ 1 + 2 * s → s ≤ 15 * 64 → x < 2049
final x s h k = omega arith

-- The bound: no 2,049th section
pub no_2049 : (f : Format) → Creators f → (p : Six) → All (fits f) p → taken f 64 p < 2049
no_2049 f hyp p w = final (taken f 64 p) (lives f 64 p) (taken_lives f 64 p) (lives_15 f hyp 64 (le_refl 64) p w)
