-- Laws of stores one behind the other. Assumes nothing.
use mathlib.Core.Path.{◌≡◌, refl, sym, ap, ◌∙◌}
use mathlib.Core.List.{List, [], ◌∷◌, ◌++◌}
use Prim.Native.Nat.{ℕ, suc, ◌+◌, ◌<◌, ◌≤◌}
use native.Mathlib.Nat.{add-zero}
use native.Mathlib.Numerals.{add-one}
use native.Mathlib.Omega.{arith}
use lib.ListN.{length, take, set, get_or, length-append}
use lib.Seq.{set_comm, take-suc, length-take-le, sets, sets-eq, length-sets}
use Rattle.float.specs.Slices.{written}
use Rattle.text.specs.Put.{Put}

-- two runs of stores, the second behind the first, are one
pub sets_append : (xs ys l : List ℕ) (i : ℕ) → sets l i (xs ++ ys) ≡ sets (sets l i xs) (i + length xs) ys
sets_append [] ys l i = rw (add-zero i)
sets_append (x ∷ xs) ys l i =
    let e : suc i + length xs ≡ i + suc (length xs) = omega arith in
    sets_append xs ys (set l i x) (suc i) ∙ rw e

-- a store before a run of stores may come first
pub set-sets : (vs l : List ℕ) (i j x : ℕ) → i < j → set (sets l j vs) i x ≡ sets (set l i x) j vs
set-sets [] l i j x h = refl
set-sets (v ∷ vs) l i j x h = set-sets vs (set l j v) i (suc j) x (omega arith) ∙ ap (λ (m : List ℕ). sets m (suc j) vs) (set_comm l j i v x (λ e. omega arith))

-- one more byte of a text
pub sets-suc : (l xs : List ℕ) (at i : ℕ) → i < length xs → set (sets l at (take i xs)) (at + i) (get_or xs i 0) ≡ sets l at (take (i + 1) xs)
sets-suc l xs at i h =
    let z : length (take i xs) ≡ i = length-take-le i xs (omega arith) in
    let t : take (i + 1) xs ≡ take i xs ++ (get_or xs i 0 ∷ []) = rw (add-one i, take-suc xs i 0) in
    let e = sets_append (take i xs) (get_or xs i 0 ∷ []) l at in
    rw t (sym (rw z at e))

-- a run of stores from the front on
pub written-sets : (xs l : List ℕ) → length xs ≤ length l → sets l 0 xs ≡ written xs l
written-sets xs l h = let z : 0 + length xs ≡ length xs = omega arith in rw (sets-eq xs l 0 (omega arith), z)

-- ---- texts put one behind the other

pub one : (l : List ℕ) (at : ℕ) (xs : List ℕ) {m : List ℕ} {e : ℕ} → (e ≡ at + length xs) × (m ≡ sets l at xs) → Put l at xs m e
one l at xs h = record { end = h.0; out = h.1 }

pub next : {l : List ℕ} {at : ℕ} {xs m : List ℕ} {e : ℕ} {ys m' : List ℕ} {e' : ℕ} → Put l at xs m e → Put m e ys m' e' → Put l at (xs ++ ys) m' e'
next {l} {at} {xs} {m} {e} {ys} p q = record {
  end = simp length-append (omega (arith, p.end, q.end));
  out = q.out ∙ rw (p.out, p.end) (sym (sets_append xs ys l at));
}

pub put-length : {l : List ℕ} {at : ℕ} {xs m : List ℕ} {e : ℕ} → Put l at xs m e → length m ≡ length l
put-length {l} {at} {xs} p = ap length p.out ∙ length-sets l at xs
