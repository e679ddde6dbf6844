-- The square root of IEEE 754: the words of `sqrt`'s contract, over the values of `lib.Ieee`. Definitions only.
use Rattle.std.specs.Prelude.{ℕ, zero, suc, ◌+◌, ◌*◌, ◌-◌, ◌/◌, ◌^◌, ◌≤◌, ◌<◌, Bool, true, false, not, cond, T, leb, eqb, Float}
use Rattle.std.specs.Float.{nan, inf, fin, Format}
use Rattle.std.specs.Float.Ieee.{low, up, down, size, round, fits, lt}
use Rattle.std.specs.Float.Ieee.Positive.{num, den}

-- r is the whole part of √n
pub record IsRoot (n r : ℕ) : Type 0 where
  pub lower : r * r ≤ n
  pub upper : n < suc r * suc r

-- √n is within 1 of 2 * c, strictly: so c is √n / 2, rounded to a whole number
pub record IsNear (n c : ℕ) : Type 0 where
  pub lower : (2 * c - 1) * (2 * c - 1) < n
  pub upper : n < (2 * c + 1) * (2 * c + 1)

-- r or the next number up: the larger whose square is not above n
abbrev pub step : ℕ → ℕ → ℕ
step n r = cond (leb (suc r * suc r) n) (suc r) r

-- the whole part of √n, for an n below 4 ^ d: one binary digit of the root for each two of n
unfoldable pub root_in : ℕ → ℕ → ℕ
root_in zero n = 0
root_in (suc d) n = step n (2 * root_in d (n / 4))

-- the whole part of √n
unfoldable pub root : ℕ → ℕ
unfolding size root_in
root n = root_in (suc (size n / 2)) n

-- √n to the half: twice its whole part, and one more where there is a rest
unfoldable pub twice_root : ℕ → ℕ
unfolding root
twice_root n = let r = root n in cond (eqb (r * r) n) (2 * r) (2 * r + 1)

-- squareRoot of IEEE 754, 5.4.1. The root of a zero is that zero, and the root of a number below zero is `nan`.
-- Above zero x is u of the format's smallest values 2 ^ -low, so √x is √(u * 2 ^ low) of them. `round` is handed it to the half, by a fraction:
-- that is exact, or it has the same whole numbers on either side as the root.
unfoldable pub sqrt : Format → Float → Float
unfolding twice_root round
sqrt f nan = nan
sqrt f (inf s) = cond s nan (inf false)
sqrt f (fin s zero e) = fin s zero e
sqrt f (fin true (suc m) e) = nan
sqrt f (fin false (suc m) e) =
    let u = suc m * up e * 2 ^ low f / down e in
    round f false (twice_root (u * 2 ^ low f)) (2 * 2 ^ low f)

-- ---- What the definition comes to: `sqrt` is the value of the format that is nearest to √x, and there is never a tie. There are no real numbers here,
-- so it is said of the middle of two values: √x is on r's side of the middle of r and y where the middle's square is on the same side of x.

-- finite, with the sign clear
abbrev pub plain : Float → Bool
plain nan = false
plain (inf s) = false
plain (fin s m e) = not s

-- ((y + r) / 2) ^ 2 < x, and x < ((y + r) / 2) ^ 2. y + r is the fraction s / d.
abbrev pub MiddleUnder : Float → Float → Float → Type 0
MiddleUnder y r x =
    let s = num y * den r + num r * den y in
    let d = den y * den r in
    s * s * den x < num x * (4 * (d * d))

abbrev pub MiddleOver : Float → Float → Float → Type 0
MiddleOver y r x =
    let s = num y * den r + num r * den y in
    let d = den y * den r in
    num x * (4 * (d * d)) < s * s * den x

pub record Nearest (f : Format) (x r : Float) : Type 0 where
  pub held : T (fits f r)
  pub above_zero : T (plain r)
  pub from_below : (y : Float) → T (fits f y) → T (plain y) → T (lt y r) → MiddleUnder y r x
  pub from_above : (y : Float) → T (fits f y) → T (plain y) → T (lt r y) → MiddleOver y r x
