-- Little-endian numbers and rows of them, both ways. Definitions only.
use Rattle.std.specs.Prelude.{ℕ, zero, suc, ◌+◌, ◌*◌, ◌/◌, ◌%◌, ◌^◌, Bool, true, false, ◌&&◌, List, [], ◌∷◌, ◌++◌, ltb, eqb, take, drop}
use Rattle.house.specs.Limits.{number_field}

-- the number that bytes hold, lowest first
unfoldable pub val : List ℕ → ℕ
val [] = 0
val (x ∷ xs) = x + 256 * val xs

-- the k bytes of a number, lowest first
unfoldable pub le : ℕ → ℕ → List ℕ
le zero x = []
le (suc k) x = x % 256 ∷ le k (x / 256)

-- the number in the k bytes at p
abbrev pub num : ℕ → List ℕ → ℕ → ℕ
num k b p = val (take k (drop p b))

-- the first n numbers of a row, of k bytes each
unfoldable pub row : ℕ → ℕ → List ℕ → List ℕ
row k zero b = []
row k (suc n) b = val (take k b) ∷ row k n (drop k b)

-- the bytes of a row of numbers, k bytes for each
unfoldable pub row_bytes : ℕ → List ℕ → List ℕ
row_bytes k [] = []
row_bytes k (x ∷ xs) = le k x ++ row_bytes k xs

-- the same for numbers that are no mark's
abbrev pub words : ℕ → List ℕ → List ℕ
words n b = row number_field n b

abbrev pub les : List ℕ → List ℕ
les xs = row_bytes number_field xs

-- whether k bytes hold the number
abbrev pub fits : ℕ → ℕ → Bool
fits k x = ltb x (256 ^ k)

-- whether k bytes hold every number of a list
unfoldable pub all_fit : ℕ → List ℕ → Bool
all_fit k [] = true
all_fit k (x ∷ xs) = fits k x && all_fit k xs

-- whether two lists are the same
unfoldable pub same : List ℕ → List ℕ → Bool
same [] [] = true
same [] (y ∷ ys) = false
same (x ∷ xs) [] = false
same (x ∷ xs) (y ∷ ys) = eqb x y && same xs ys
