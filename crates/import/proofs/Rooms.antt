-- Curves that are put at their places in a slice. Assumes nothing.
use Prim.Native.Nat.{ℕ, suc, ◌+◌, ◌-◌, ◌*◌, ◌/◌, ◌≤◌}
use mathlib.Core.Path.{◌≡◌, refl, sym, ap, ◌∙◌}
use mathlib.Core.List.{List, [], ◌∷◌, ◌++◌, append-nil, append_assoc}
use native.Mathlib.Omega.{arith}
use borrow.Author.Tests.{lt-ltb}
use lib.Ieee.{Float}
use lib.ListN.{length, take, drop, length-drop, drop_of_length-le}
use lib.Seq.{take_all, drop-drop, sets, sets-eq, length-sets}
use Rattle.float.specs.Slices.{written}
use Rattle.plane.specs.declared.Curve.{Curve}
use Rattle.path.specs.Curves.{eights}
use Rattle.import.specs.Walk.{placed, filled}

-- a slice whose part from i on was lent, and came back with xs at its front
pub lent_back : (C xs : List Float) (i : ℕ) → take i C ++ ((xs ++ drop (length xs) (take (length C - i) (drop i C))) ++ drop (length C - i) (drop i C)) ≡ take i C ++ written xs (drop i C)
lent_back C xs i =
    let n : length (drop i C) ≤ length C - i = omega (arith, length-drop i C) in
    rw (take_all (length C - i) (drop i C) n, drop_of_length-le (drop i C) n, append-nil (xs ++ drop (length xs) (drop i C))) refl

placed_is : (C : List Float) (k : ℕ) (c : Curve) → 8 * k + 8 ≤ length C → placed C k c ≡ sets C (8 * k) (eights (c ∷ []))
unfolding placed eights
placed_is C k c h =
    rw (lt-ltb k (length C / 8) (omega arith))
    (ap (λ l. take (8 * k) C ++ (eights (c ∷ []) ++ l)) (drop-drop 8 (8 * k) C) ∙ sym (append_assoc (take (8 * k) C) (eights (c ∷ [])) (drop (8 * k + 8) C)) ∙ sym (sets-eq (eights (c ∷ [])) C (8 * k) h))

eight-more : (C : List Float) (k : ℕ) (c : Curve) (cs : List Curve) → sets (sets C (8 * k) (eights (c ∷ []))) (8 * (k + 1)) (eights cs) ≡ sets C (8 * k) (eights (c ∷ cs))
unfolding eights
eight-more C k c cs =
    let e : 8 * (k + 1) ≡ suc (suc (suc (suc (suc (suc (suc (suc (8 * k)))))))) = omega arith in
    rw e refl

filled_is : (cs : List Curve) (C : List Float) (k : ℕ) → 8 * (k + length cs) ≤ length C → filled C k cs ≡ sets C (8 * k) (eights cs)
unfolding filled
filled_is [] C k h = unfold eights in refl
filled_is (c ∷ cs) C k h =
    let p : placed C k c ≡ sets C (8 * k) (eights (c ∷ [])) = placed_is C k c (omega arith) in
    let n : length (placed C k c) ≡ length C = ap length p ∙ length-sets C (8 * k) (eights (c ∷ [])) in
    filled_is cs (placed C k c) (k + 1) (omega arith) ∙ ap (λ D. sets D (8 * (k + 1)) (eights cs)) p ∙ eight-more C k c cs

eights-length : (cs : List Curve) → length (eights cs) ≡ 8 * length cs
unfolding eights
eights-length [] = refl
eights-length (c ∷ cs) = omega (arith, eights-length cs)

-- with room for all of them
pub filled-written : (cs : List Curve) (C : List Float) → 8 * length cs ≤ length C → filled C 0 cs ≡ written (eights cs) C
filled-written cs C h =
    let z : 0 + length (eights cs) ≡ length (eights cs) = omega arith in
    filled_is cs C 0 (omega arith) ∙ sets-eq (eights cs) C 0 (omega (arith, eights-length cs)) ∙ ap (λ n. eights cs ++ drop n C) z
