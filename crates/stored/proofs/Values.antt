-- Lists of values that an f64 holds: written as bits and read again they are the same. Assumes nothing.
use mathlib.Core.Path.{◌≡◌, refl, ap₂}
use mathlib.Core.Bool.{true}
use mathlib.Core.List.{List, [], ◌∷◌, ◌++◌}
use Prim.Native.Nat.{ℕ, zero, suc, ◌*◌, ◌+◌, ◌<◌, ◌^◌}
use lib.Dec.{T}
use lib.ListN.{take, drop, get_or}
use lib.Ieee.{Float, nan, binary64, fits, to_bits, top}
use lib.Ieee.Bits.{of_bits-to_bits, to_bits-lt, of_bits-fits}
use lib.Ieee.Fits.{nan-fits}
use Rattle.float.specs.Calc.{Calc}
use Rattle.float.specs.Folds.{each}
use Rattle.marks.specs.Marks.{mark_at}
use Rattle.ends.specs.Ends.{FitsP}
use Rattle.house.specs.Bytes.{all_fit}
use Rattle.house.proofs.Numbers.{fit_cons}
use Rattle.desk.specs.Desk.{floats, patterns}

pub data Held : List Float → Type 0 where
  none : Held []
  more : {x : Float} {xs : List Float} → T (fits binary64 x) → Held xs → Held (x ∷ xs)

pub held_append : {xs ys : List Float} → Held xs → Held ys → Held (xs ++ ys)
held_append none k = k
held_append (more h r) k = more h (held_append r k)

pub held-take : (k : ℕ) {xs : List Float} → Held xs → Held (take k xs)
held-take zero h = none
held-take (suc k) none = none
held-take (suc k) (more h r) = more h (held-take k r)

pub held-drop : (k : ℕ) {xs : List Float} → Held xs → Held (drop k xs)
held-drop zero h = h
held-drop (suc k) none = none
held-drop (suc k) (more h r) = held-drop k r

pub held-get : {xs : List Float} → Held xs → (k : ℕ) → T (fits binary64 (get_or xs k nan))
held-get none k = nan-fits binary64
held-get (more h r) zero = h
held-get (more h r) (suc k) = held-get r k

-- the values of a loop
pub held-each : (f : ℕ → Calc Float) → ((k : ℕ) → T (fits binary64 (f k).val)) → (n : ℕ) → Held (each n f).val
unfolding each
held-each f h zero = none
held-each f h (suc n) = held_append (held-each f h n) (more (h n) none)

pub held-mark : {ms : List Float} → Held ms → (k : ℕ) → FitsP (mark_at ms k)
unfolding mark_at
held-mark h k = (held-get h (2 * k), held-get h (2 * k + 1))

-- whatever the bits, they are those of a value
pub held-floats : (M : List ℕ) → Held (floats M)
held-floats [] = none
held-floats (x ∷ M) = more (of_bits-fits binary64 x) (held-floats M)

pub back : {xs : List Float} → Held xs → floats (patterns xs) ≡ xs
back none = refl
back (more {x = x} h r) = ap₂ ◌∷◌ (of_bits-to_bits binary64 x h) (back r)

-- a number's bits fill its field at most
below : (x : ℕ) → x < 2 * top binary64 → x < 256 ^ 8
below x h = h

pub bits_fit : {xs : List Float} → Held xs → all_fit 8 (patterns xs) ≡ true
unfolding all_fit
bits_fit none = refl
bits_fit (more {x = x} {xs = xs} h r) = fit_cons 8 (to_bits binary64 x) (patterns xs) (below (to_bits binary64 x) (to_bits-lt binary64 x h)) (bits_fit r)
