-- What holds of every trace: the statements, and the words that they need. Definitions only.
use Rattle.std.specs.Prelude.{ℕ, zero, suc, ◌+◌, ◌*◌, ◌/◌, ◌≡◌, cond, List, [], ◌∷◌, ◌++◌, map, eqb, length, take, drop}
use Rattle.house.specs.Limits.{mark_numbers}
use Rattle.sieve.specs.declared.Fate.{Fate}
use Rattle.sieve.specs.declared.Fate.TheVariants.{Kept, Dropped}
use Rattle.sieve.specs.Sieve.{Drop, fates_of, kept_of, drops_of}

-- ---- words

-- how often j stands in a list
unfoldable pub times : ℕ → List ℕ → ℕ
times j [] = 0
times j (x ∷ xs) = cond (eqb j x) 1 0 + times j xs

-- n numbers from i on
unfoldable pub counting : ℕ → ℕ → List ℕ
counting i zero = []
counting i (suc n) = i ∷ counting (suc i) n

-- the numbers of the marks kept, where the first mark has the number i
unfoldable pub kept_numbers : ℕ → List Fate → List ℕ
kept_numbers i [] = []
kept_numbers i (Kept ∷ fs) = i ∷ kept_numbers (suc i) fs
kept_numbers i (Dropped c ∷ fs) = kept_numbers (suc i) fs

-- the numbers of the marks dropped
abbrev pub drop_numbers : List Drop → List ℕ
drop_numbers ds = map (λ (d : Drop). d.number) ds

-- the marks with these numbers
unfoldable pub picked : List ℕ → List ℕ → List ℕ
picked M [] = []
picked M (j ∷ js) = take mark_numbers (drop (mark_numbers * j) M) ++ picked M js

-- ---- statements

-- marks kept and marks dropped add up to the marks read
abbrev pub Adds : Type 0
Adds = (M : List ℕ) → length (kept_of M) / mark_numbers + length (drops_of M) ≡ length M / mark_numbers

-- each mark is kept or dropped, and once: the numbers of both together are 0, 1, .. of the marks read, each as often
abbrev pub Once : Type 0
Once = (M : List ℕ) (j : ℕ) → times j (kept_numbers 0 (fates_of M)) + times j (drop_numbers (drops_of M)) ≡ times j (counting 0 (length M / mark_numbers))

-- what is kept are the marks of those numbers, in order, as they were
abbrev pub Picks : Type 0
Picks = (M : List ℕ) → kept_of M ≡ picked M (kept_numbers 0 (fates_of M))

-- of what is kept, nothing is dropped
abbrev pub Again : Type 0
Again = (M : List ℕ) → (kept_of (kept_of M) ≡ kept_of M) × (drops_of (kept_of M) ≡ [])
