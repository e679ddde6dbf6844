-- Laws of rows of numbers and of their bytes. Assumes nothing.
use mathlib.Core.Path.{◌≡◌, refl, sym, ap, ◌∙◌}
use mathlib.Core.Bool.{true}
use mathlib.Core.List.{List, [], ◌∷◌, ◌++◌, append_assoc}
use Prim.Native.Nat.{ℕ, zero, suc, ◌+◌, ◌*◌, ◌<◌, ◌≤◌, ◌^◌}
use native.Mathlib.Nat.{mul-zero, pow-le-pow_right}
use native.Mathlib.Omega.{arith}
use lib.ListN.{length, take, drop, length-append, length-take, length-drop}
use lib.Seq.{drop-drop, take_at}
use Rattle.house.specs.Bytes.{val, le, num, row, words, row_bytes, les, all_fit}
use Rattle.house.proofs.Numbers.{fit_head, fit_tail, fit_cons, fit-take, fit-drop, length-le, val-lt, val-front, drop-front, le-front}

pub length-row : (k n : ℕ) (b : List ℕ) → length (row k n b) ≡ n
unfolding row
length-row k zero b = refl
length-row k (suc n) b = ap suc (length-row k n (drop k b))

pub length-bytes : (k : ℕ) (xs : List ℕ) → length (row_bytes k xs) ≡ k * length xs
unfolding row_bytes
length-bytes k [] = rw (mul-zero k)
length-bytes k (x ∷ xs) = simp (length-append, length-le, length-bytes k xs) (omega arith)

pub row-suc : (k i : ℕ) (b : List ℕ) → row k (suc i) b ≡ row k i b ++ (num k b (k * i) ∷ [])
unfolding row
row-suc k zero b = rw (mul-zero k)
row-suc k (suc i) b =
    let e : k + k * i ≡ k * suc i = omega arith in
    ap (λ (l : List ℕ). val (take k b) ∷ l) (row-suc k i (drop k b) ∙ rw (drop-drop, e))

pub bytes_append : (k : ℕ) (xs ys : List ℕ) → row_bytes k (xs ++ ys) ≡ row_bytes k xs ++ row_bytes k ys
unfolding row_bytes
bytes_append k [] ys = refl
bytes_append k (x ∷ xs) ys = rw (bytes_append k xs ys, append_assoc)

-- what bytes hold fits its field
pub fit-num : (k p : ℕ) (b : List ℕ) → all_fit 1 b ≡ true → num k b p < 256 ^ k
fit-num k p b g =
    let f : all_fit 1 (take k (drop p b)) ≡ true = fit-take 1 k (drop p b) (fit-drop 1 p b g) in
    let l : length (take k (drop p b)) ≤ k = simp length-take (omega arith) in
    let m : 256 ^ length (take k (drop p b)) ≤ 256 ^ k = pow-le-pow_right (omega arith) l in
    let h = val-lt (take k (drop p b)) f in
    omega arith

pub fit_row : (k n : ℕ) (b : List ℕ) → all_fit 1 b ≡ true → all_fit k (row k n b) ≡ true
unfolding row all_fit
fit_row k zero b g = refl
fit_row k (suc n) b g = fit_cons k (val (take k b)) (row k n (drop k b)) (fit-num k 0 b g) (fit_row k n (drop k b) (fit-drop 1 k b g))

-- a row at the front: from the bytes and back, from the numbers and back
pub row-front : (k n : ℕ) (d : List ℕ) → all_fit 1 d ≡ true → k * n ≤ length d → row_bytes k (row k n d) ++ drop (k * n) d ≡ d
unfolding row row_bytes
row-front k zero d g h = rw (mul-zero k)
row-front k (suc n) d g h =
    let e : k * suc n ≡ k + k * n = omega arith in
    let i : row_bytes k (row k n (drop k d)) ++ drop (k * n) (drop k d) ≡ drop k d = row-front k n (drop k d) (fit-drop 1 k d g) (simp length-drop (omega arith)) in
    let j : drop (k * n) (drop k d) ≡ drop (k * suc n) d = rw (drop-drop, e) in
    rw (append_assoc, ← j, i) (le-front d k (val (take k d)) g (omega arith) refl)

pub row_back : (k : ℕ) (xs r : List ℕ) → all_fit k xs ≡ true → row k (length xs) (row_bytes k xs ++ r) ≡ xs
unfolding row row_bytes
row_back k [] r h = refl
row_back k (x ∷ xs) r h =
    let e : (le k x ++ row_bytes k xs) ++ r ≡ le k x ++ (row_bytes k xs ++ r) = append_assoc (le k x) (row_bytes k xs) r in
    let v : val (take k (le k x ++ (row_bytes k xs ++ r))) ≡ x = val-front k x (row_bytes k xs ++ r) (fit_head k x xs h) in
    let t : row k (length xs) (row_bytes k xs ++ r) ≡ xs = row_back k xs r (fit_tail k x xs h) in
    rw (e, v, drop-front k x (row_bytes k xs ++ r), t)

-- the same for numbers of eight bytes
pub length-words : (n : ℕ) (b : List ℕ) → length (words n b) ≡ n
length-words = length-row 8

pub length-les : (xs : List ℕ) → length (les xs) ≡ 8 * length xs
length-les = length-bytes 8

pub words-suc : (i : ℕ) (b : List ℕ) → words (suc i) b ≡ words i b ++ (num 8 b (8 * i) ∷ [])
words-suc = row-suc 8

-- ---- a part of a row, and the bytes of one

-- m numbers from the place q on
pub row_part : (f q m w : ℕ) (d : List ℕ) → q + m ≤ w → take m (drop q (row f w d)) ≡ row f m (drop (f * q) d)
unfolding row
row_part f zero zero w d h = refl
row_part f zero (suc m) zero d h = absurd (omega arith)
row_part f zero (suc m) (suc w) d h =
    let z : drop (f * 0) d ≡ d = rw (mul-zero f) in
    let z' : drop (f * 0) (drop f d) ≡ drop f d = rw (mul-zero f) in
    let i : take m (row f w (drop f d)) ≡ row f m (drop f d) = row_part f zero m w (drop f d) (omega arith) ∙ rw z' in
    rw (z, i)
row_part f (suc q) m zero d h = absurd (omega arith)
row_part f (suc q) m (suc w) d h =
    let e : f + f * q ≡ f * suc q = omega arith in
    row_part f q m w (drop f d) (omega arith) ∙ rw (drop-drop, e)

-- the bytes of numbers are those that they were read from
pub bytes_there : (b : List ℕ) (p m : ℕ) → all_fit 1 b ≡ true → p + 8 * m ≤ length b → take (8 * m) (drop p b) ≡ les (words m (drop p b))
bytes_there b p m g h =
    let d : List ℕ = drop p b in
    let z : length (les (words m d)) ≡ 8 * m = length-les (words m d) ∙ rw length-words in
    let e : les (words m d) ++ drop (8 * m) d ≡ d = row-front 8 m d (fit-drop 1 p b g) (simp length-drop (omega arith)) in
    sym (ap (λ (x : List ℕ). take (8 * m) x) e) ∙ take_at (les (words m d)) (drop (8 * m) d) (8 * m) z
