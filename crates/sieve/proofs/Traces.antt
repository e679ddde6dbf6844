-- What holds of every trace. Assumes nothing.
use Prim.Native.Nat.{ℕ, suc, ◌+◌, ◌*◌, ◌/◌}
use mathlib.Core.Path.{◌≡◌, refl, ap, ◌∙◌}
use mathlib.Core.List.{List, [], ◌∷◌, ◌++◌}
use native.Mathlib.Omega.{arith}
use lib.ListN.{length, take, drop}
use lib.Seq.{drop-drop}
use Rattle.std.proofs.Common.{Option, Some, None}
use Rattle.plane.specs.declared.Point.{Point}
use Rattle.sieve.specs.declared.Fate.{Fate}
use Rattle.sieve.specs.declared.Fate.TheVariants.{Kept, Dropped}
use Rattle.sieve.specs.Sieve.{mark, fate_of, after, fates, kept_in, drops_from, fates_of}
use Rattle.sieve.specs.Traces.{times, counting, kept_numbers, drop_numbers, picked, Adds, Once, Picks, Again}

-- ---- one fate for each mark

pub length-fates : (last : Option Point) (M : List ℕ) → length (fates last M) ≡ length M / 2
unfolding fates
length-fates last [] = refl
length-fates last (x ∷ []) = refl
length-fates last (x ∷ (y ∷ M)) = let e = length-fates (after last (mark x y) (fate_of last (mark x y))) M in omega arith

-- ---- kept and dropped

adds_from : (fs : List Fate) (M : List ℕ) (i : ℕ) → length fs ≡ length M / 2 → length (kept_in fs M) + 2 * length (drops_from i fs) ≡ 2 * length fs
unfolding kept_in drops_from
adds_from [] M i e = refl
adds_from (Kept ∷ fs) [] i e = absurd (omega arith)
adds_from (Kept ∷ fs) (x ∷ []) i e = absurd (omega arith)
adds_from (Kept ∷ fs) (x ∷ (y ∷ M)) i e = let r = adds_from fs M (suc i) (omega arith) in omega arith
adds_from (Dropped c ∷ fs) [] i e = absurd (omega arith)
adds_from (Dropped c ∷ fs) (x ∷ []) i e = absurd (omega arith)
adds_from (Dropped c ∷ fs) (x ∷ (y ∷ M)) i e = let r = adds_from fs M (suc i) (omega arith) in omega arith

pub kept_and_dropped : (M : List ℕ) → length (kept_in (fates_of M) M) + 2 * length (drops_from 0 (fates_of M)) ≡ 2 * (length M / 2)
kept_and_dropped M = let e = length-fates None M in adds_from (fates_of M) M 0 e ∙ ap (λ (n : ℕ). 2 * n) e

pub adds : Adds
adds M = let e = kept_and_dropped M in omega arith

-- ---- each once

once_from : (fs : List Fate) (i j : ℕ) → times j (kept_numbers i fs) + times j (drop_numbers (drops_from i fs)) ≡ times j (counting i (length fs))
unfolding kept_numbers drops_from counting times
once_from [] i j = refl
once_from (Kept ∷ fs) i j = let r = once_from fs (suc i) j in omega arith
once_from (Dropped c ∷ fs) i j = let r = once_from fs (suc i) j in omega arith

pub once : Once
once M j = once_from (fates_of M) 0 j ∙ ap (λ (n : ℕ). times j (counting 0 n)) (length-fates None M)

-- ---- the marks of those numbers

picks_from : (fs : List Fate) (M : List ℕ) (i : ℕ) → kept_in fs (drop (2 * i) M) ≡ picked M (kept_numbers i fs)
unfolding kept_in kept_numbers picked
picks_from [] M i = refl
picks_from (f ∷ fs) M i = go f (rw next (picks_from fs M (suc i)))
  where
    next : drop 2 (drop (2 * i) M) ≡ drop (2 * suc i) M
    next = let e : 2 * i + 2 ≡ 2 * suc i = omega arith in rw (drop-drop, e)

    go : (f : Fate) → kept_in fs (drop 2 (drop (2 * i) M)) ≡ picked M (kept_numbers (suc i) fs) → kept_in (f ∷ fs) (drop (2 * i) M) ≡ picked M (kept_numbers i (f ∷ fs))
    go Kept e = ap (λ (l : List ℕ). take 2 (drop (2 * i) M) ++ l) e
    go (Dropped c) e = e

pub picks : Picks
picks M = picks_from (fates_of M) M 0

-- ---- nothing more to drop

again_from : (last : Option Point) (M : List ℕ) (i : ℕ) → let K = kept_in (fates last M) M in (kept_in (fates last K) K ≡ K) × (drops_from i (fates last K) ≡ [])
unfolding fates kept_in drops_from after
again_from last [] i = (refl, refl)
again_from last (x ∷ []) i = (refl, refl)
again_from last (x ∷ (y ∷ M)) i = go (fate_of last (mark x y)) refl (again_from last M i) (again_from (Some (mark x y)) M (suc i))
  where
    go : (f : Fate) → fate_of last (mark x y) ≡ f
        → (let K = kept_in (fates last M) M in (kept_in (fates last K) K ≡ K) × (drops_from i (fates last K) ≡ []))
        → (let K = kept_in (fates (Some (mark x y)) M) M in (kept_in (fates (Some (mark x y)) K) K ≡ K) × (drops_from (suc i) (fates (Some (mark x y)) K) ≡ []))
        → let K = kept_in (fates last (x ∷ (y ∷ M))) (x ∷ (y ∷ M)) in (kept_in (fates last K) K ≡ K) × (drops_from i (fates last K) ≡ [])
    go Kept e a b = rw e (rw e (ap (λ (l : List ℕ). x ∷ (y ∷ l)) b.0, b.1))
    go (Dropped c) e a b = rw e a

pub again : Again
again M = again_from None M 0
