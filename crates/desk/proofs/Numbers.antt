-- What is in front of a slice, and numbers and patterns there. Assumes nothing.
use mathlib.Core.Path.{◌≡◌}
use mathlib.Core.List.{List}
use Prim.Native.Nat.{ℕ}
use lib.ListN.{length, take, drop, length-map}
use lib.Seq.{take_at}
use lib.Ieee.{Float, binary64, of_bits, to_bits}
use Rattle.float.specs.Slices.{written}
use Rattle.desk.specs.Desk.{floats, patterns}

-- the front of a slice over which xs was written
pub front : {A : Type 0} (xs l : List A) {m : List A} (i : ℕ) → m ≡ written xs l → length xs ≡ i → take i m ≡ xs
front xs l i e h = rw e (take_at xs (drop (length xs) l) i h)

pub length-floats : (xs : List ℕ) → length (floats xs) ≡ length xs
length-floats xs = length-map xs (of_bits binary64)

pub length-patterns : (xs : List Float) → length (patterns xs) ≡ length xs
length-patterns xs = length-map xs (to_bits binary64)

pub floats-front : (xs : List ℕ) (l : List Float) {m : List Float} → m ≡ written (floats xs) l → take (length xs) m ≡ floats xs
floats-front xs l e = front (floats xs) l (length xs) e (length-floats xs)
