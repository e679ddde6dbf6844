-- Turns of the loops that read and write rows, and bytes that are put one after another. Assumes nothing.
use mathlib.Core.Path.{◌≡◌, sym, ap, ◌∙◌}
use mathlib.Core.List.{List, [], ◌∷◌, ◌++◌, append_assoc, append-nil}
use Prim.Native.Nat.{ℕ, ◌+◌, ◌-◌, ◌*◌, ◌/◌, ◌%◌, ◌<◌, ◌≤◌}
use native.Mathlib.Numerals.{add-one}
use native.Mathlib.Omega.{arith}
use lib.ListN.{length, take, drop, set, get_or, length-append, length-drop, drop_of_length-le}
use lib.Seq.{drop-drop, drop-cons, set_at, append_snoc, take-suc, take_at, drop_at, take_all, length-take-le, sets}
use Rattle.float.specs.Slices.{written}
use Rattle.text.proofs.Stores.{sets_append}
use Rattle.house.specs.Bytes.{num, le, row_bytes, words, les}
use Rattle.house.proofs.Numbers.{length-le}
use Rattle.house.proofs.Rows.{length-words, length-les, words-suc, bytes_append}

-- a store that makes a front one longer
pub front-suc : {A : Type 0} (d : A) (xs l : List A) (x : A) (i : ℕ) → length xs ≡ i → i < length l → set (xs ++ drop i l) i x ≡ (xs ++ (x ∷ [])) ++ drop (i + 1) l
front-suc d xs l x i e h = rw (drop-cons l i d, set_at xs _ _ x i, append_snoc, add-one)

-- what holds of a slice after some turns: xs stands in front
pub record Front (xs l out : List ℕ) (n : ℕ) : Type 0 where
  pub whole : out ≡ xs ++ drop n l
  pub same : length out ≡ length l

-- a front replaced keeps the length
pub same_front : (xs l r : List ℕ) (n : ℕ) → r ≡ xs ++ drop n l → length xs ≡ n → n ≤ length l → Front xs l r n
same_front xs l r n e x h = record { whole = e; same = ap length e ∙ simp (length-append, length-drop, x) (omega arith) }

-- the front as it is, and ys behind it, where the part from there on was lent
pub front_part : (xs ys l m last : List ℕ) (n : ℕ) → m ≡ xs ++ drop n l → length xs ≡ n → n ≤ length m → last ≡ written ys (take (length m - n) (drop n m))
    → take n m ++ (last ++ drop (length m - n) (drop n m)) ≡ (xs ++ ys) ++ drop (n + length ys) l
front_part xs ys l m last n e z h s =
    let g : length (drop n m) ≤ length m - n = simp length-drop (omega arith) in
    let a : take (length m - n) (drop n m) ≡ drop n m = take_all (length m - n) (drop n m) g in
    let b : drop (length m - n) (drop n m) ≡ [] = drop_of_length-le (drop n m) {i = length m - n} g in
    let t : take n m ≡ xs = rw e (take_at xs (drop n l) n z) in
    let d : drop n m ≡ drop n l = rw e (drop_at xs (drop n l) n z) in
    let s' : last ≡ ys ++ drop (length ys) (drop n m) = s ∙ rw a in
    rw (b, append-nil, s') (simp (t, d, drop-drop, append_assoc))

-- one more number read
pub words-turn : (b : List ℕ) (at : ℕ) (l : List ℕ) (i : ℕ) → i < length l
    → set (words i (drop at b) ++ drop i l) i (num 8 b (at + 8 * i)) ≡ words (i + 1) (drop at b) ++ drop (i + 1) l
words-turn b at l i h =
    let e : words (i + 1) (drop at b) ≡ words i (drop at b) ++ (num 8 b (at + 8 * i) ∷ []) = rw (add-one i, words-suc, drop-drop) in
    front-suc 0 (words i (drop at b)) l (num 8 b (at + 8 * i)) i (length-words i (drop at b)) h
    ∙ ap (λ (r : List ℕ). r ++ drop (i + 1) l) (sym e)

-- a number's bytes, and its halves
pub le_two : (l : List ℕ) (at x : ℕ) → set (set l at (x % 256)) (at + 1) (x / 256 % 256) ≡ sets l at (le 2 x)
unfolding le
le_two l at x = rw (add-one at)

pub le_four : (x : ℕ) → le 4 x ≡ le 2 x ++ le 2 (x / 65536)
unfolding le
le_four x = let c : x / 65536 ≡ x / 256 / 256 = omega arith in rw c

pub le-eight : (x : ℕ) → le 8 x ≡ le 4 x ++ le 4 (x / 4294967296)
unfolding le
le-eight x = let c : x / 4294967296 ≡ x / 256 / 256 / 256 / 256 = omega arith in rw c

pub put_both : (l : List ℕ) (at j k x y : ℕ) → sets (sets l at (le j x)) (at + j) (le k y) ≡ sets l at (le j x ++ le k y)
put_both l at j k x y = let e = sets_append (le j x) (le k y) l at in sym (rw length-le at e)

-- one more number written
pub words-put : (l xs : List ℕ) (at i : ℕ) → i < length xs → sets (sets l at (les (take i xs))) (at + 8 * i) (le 8 (get_or xs i 0)) ≡ sets l at (les (take (i + 1) xs))
unfolding row_bytes
words-put l xs at i h =
    let z : length (les (take i xs)) ≡ 8 * i = length-les (take i xs) ∙ rw (length-take-le i xs (omega arith)) in
    let t : les (take (i + 1) xs) ≡ les (take i xs) ++ le 8 (get_or xs i 0) = rw (add-one i, take-suc xs i 0, bytes_append, append-nil) in
    let e = sets_append (les (take i xs)) (le 8 (get_or xs i 0)) l at in
    rw t (sym (rw z at e))
