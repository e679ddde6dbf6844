-- Laws of little-endian numbers. Assumes nothing.
use mathlib.Core.Path.{◌≡◌, refl, ap, ◌∙◌}
use mathlib.Core.Bool.{Bool, true, ◌&&◌}
use mathlib.Core.List.{List, [], ◌∷◌, ◌++◌}
use Prim.Native.Nat.{ℕ, zero, suc, ◌+◌, ◌*◌, ◌/◌, ◌%◌, ◌<◌, ◌≤◌, ◌^◌}
use native.Mathlib.Nat.{mul_assoc, pow-succ'}
use native.Mathlib.Omega.{arith}
use borrow.Author.Tests.{lt-ltb, ltb-true}
use lib.ListN.{length, take, drop, get_or, length-drop, take-append-drop}
use lib.Seq.{take-add, drop-drop, drop-cons, length-take-le, take_at, drop_at}
use Rattle.float.proofs.Truth.{and_left, and_right, both}
use Rattle.house.specs.Bytes.{val, le, num, fits, all_fit}

pub split : (a b : Bool) → a && b ≡ true → (a ≡ true) × (b ≡ true)
split a b h = (and_left a b h, and_right a b h)

-- ---- numbers that fit their field

pub fit_head : (k x : ℕ) (b : List ℕ) → all_fit k (x ∷ b) ≡ true → x < 256 ^ k
unfolding all_fit
fit_head k x b h = ltb-true x (256 ^ k) (and_left (fits k x) (all_fit k b) h)

pub fit_tail : (k x : ℕ) (b : List ℕ) → all_fit k (x ∷ b) ≡ true → all_fit k b ≡ true
unfolding all_fit
fit_tail k x b h = and_right (fits k x) (all_fit k b) h

pub fit_cons : (k x : ℕ) (b : List ℕ) → x < 256 ^ k → all_fit k b ≡ true → all_fit k (x ∷ b) ≡ true
unfolding all_fit
fit_cons k x b h g = both (fits k x) (all_fit k b) (lt-ltb x (256 ^ k) h) g

pub fit-take : (k n : ℕ) (b : List ℕ) → all_fit k b ≡ true → all_fit k (take n b) ≡ true
unfolding all_fit
fit-take k zero b h = refl
fit-take k (suc n) [] h = refl
fit-take k (suc n) (x ∷ b) h = fit_cons k x (take n b) (fit_head k x b h) (fit-take k n b (fit_tail k x b h))

pub fit-drop : (k n : ℕ) (b : List ℕ) → all_fit k b ≡ true → all_fit k (drop n b) ≡ true
unfolding all_fit
fit-drop k zero b h = h
fit-drop k (suc n) [] h = refl
fit-drop k (suc n) (x ∷ b) h = fit-drop k n b (fit_tail k x b h)

pub fit-each : (k : ℕ) (b : List ℕ) → ((i : ℕ) → get_or b i 0 < 256 ^ k) → all_fit k b ≡ true
unfolding all_fit
fit-each k [] h = refl
fit-each k (x ∷ b) h = fit_cons k x b (h zero) (fit-each k b (λ i. h (suc i)))

pub fit_append : (k : ℕ) (xs ys : List ℕ) → all_fit k xs ≡ true → all_fit k ys ≡ true → all_fit k (xs ++ ys) ≡ true
fit_append k [] ys h g = g
fit_append k (x ∷ xs) ys h g = fit_cons k x (xs ++ ys) (fit_head k x xs h) (fit_append k xs ys (fit_tail k x xs h) g)

pub fit_at : (k : ℕ) (xs : List ℕ) (i : ℕ) → all_fit k xs ≡ true → i < length xs → get_or xs i 0 < 256 ^ k
fit_at k [] i h l = absurd (omega arith)
fit_at k (x ∷ xs) zero h l = fit_head k x xs h
fit_at k (x ∷ xs) (suc i) h l = fit_at k xs i (fit_tail k x xs h) (omega arith)

-- ---- a number and its bytes

pub length-le : (k x : ℕ) → length (le k x) ≡ k
unfolding le
length-le zero x = refl
length-le (suc k) x = ap suc (length-le k (x / 256))

pub val-lt : (b : List ℕ) → all_fit 1 b ≡ true → val b < 256 ^ length b
unfolding val
val-lt [] h = omega arith
val-lt (x ∷ b) h =
    let i = val-lt b (fit_tail 1 x b h) in
    let g : x < 256 = fit_head 1 x b h in
    rw (pow-succ' 256 (length b)) (omega arith)

-- the bytes of a number have that number
val-le : (k x : ℕ) → x < 256 ^ k → val (le k x) ≡ x
unfolding val le
val-le zero x h = omega arith
val-le (suc k) x h = let g : x < 256 * 256 ^ k = rw (pow-succ' 256 k) at h in rw (val-le k (x / 256) (omega arith)) (omega arith)

-- and a number's bytes are those it was read from
le_val : (b : List ℕ) → all_fit 1 b ≡ true → le (length b) (val b) ≡ b
unfolding val le
le_val [] h = refl
le_val (x ∷ b) h =
    let g : x < 256 = fit_head 1 x b h in
    let a : (x + 256 * val b) % 256 ≡ x = omega arith in
    let d : (x + 256 * val b) / 256 ≡ val b = omega arith in
    let t : le (length b) (val b) ≡ b = le_val b (fit_tail 1 x b h) in
    rw (a, d, t)

-- ---- a number at a place, from the numbers in its halves

val_append : (a b : List ℕ) → val (a ++ b) ≡ val a + 256 ^ length a * val b
unfolding val
val_append [] b = omega arith
val_append (x ∷ a) b = rw (val_append a b, pow-succ' 256 (length a)) (omega (arith, mul_assoc 256 (256 ^ length a) (val b)))

module _ (b : List ℕ) (p : ℕ) where
  num-add : (j k : ℕ) → p + j ≤ length b → num (j + k) b p ≡ num j b p + 256 ^ j * num k b (p + j)
  num-add j k h =
      let e : length (take j (drop p b)) ≡ j = length-take-le j (drop p b) (simp length-drop (omega arith)) in
      rw (take-add, val_append, drop-drop, e)

  pub num_one : p < length b → num 1 b p ≡ get_or b p 0
  unfolding val
  num_one h = rw (drop-cons b p 0) (omega arith)

pub num_two : (b : List ℕ) (p : ℕ) → p + 2 ≤ length b → num 2 b p ≡ get_or b p 0 + 256 * get_or b (p + 1) 0
num_two b p h = num-add b p 1 1 (omega arith) ∙ rw (num_one b p (omega arith), num_one b (p + 1) (omega arith))

pub num-four : (b : List ℕ) (p : ℕ) → p + 4 ≤ length b → num 4 b p ≡ num 2 b p + 65536 * num 2 b (p + 2)
num-four b p h = num-add b p 2 2 (omega arith)

pub num-eight : (b : List ℕ) (p : ℕ) → p + 8 ≤ length b → num 8 b p ≡ num 4 b p + 4294967296 * num 4 b (p + 4)
num-eight b p h = num-add b p 4 4 (omega arith)

-- ---- a number at the front

pub val-front : (k x : ℕ) (r : List ℕ) → x < 256 ^ k → val (take k (le k x ++ r)) ≡ x
val-front k x r h = rw (take_at (le k x) r k (length-le k x)) (val-le k x h)

pub drop-front : (k x : ℕ) (r : List ℕ) → drop k (le k x ++ r) ≡ r
drop-front k x r = drop_at (le k x) r k (length-le k x)

pub le-front : (d : List ℕ) (k x : ℕ) → all_fit 1 d ≡ true → k ≤ length d → val (take k d) ≡ x → le k x ++ drop k d ≡ d
le-front d k x g h e =
    let l : length (take k d) ≡ k = length-take-le k d h in
    let t : le k x ≡ take k d = rw (← e) (rw l at (le_val (take k d) (fit-take 1 k d g))) in
    rw t (take-append-drop k d)
