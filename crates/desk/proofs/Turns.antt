-- Turns of the loops that go from patterns to numbers and back. Assumes nothing.
use mathlib.Core.Path.{◌≡◌, sym, ap, ◌∙◌}
use mathlib.Core.List.{List, [], ◌∷◌, ◌++◌, map, map-append}
use Prim.Native.Nat.{ℕ, ◌+◌, ◌<◌, ◌≤◌}
use native.Mathlib.Numerals.{add-one}
use native.Mathlib.Omega.{arith}
use lib.ListN.{length, take, drop, set, get_or, length-map}
use lib.Seq.{take-suc, take_all, length-take-le}
use Rattle.float.specs.Slices.{written}
use Rattle.house.proofs.Turns.{front-suc}

module _ {A B : Type 0} (f : A → B) where
  -- one more number
  pub map-turn : (xs : List A) (l : List B) (i : ℕ) (d : A) (e : B) → i < length xs → i < length l
      → set (map f (take i xs) ++ drop i l) i (f (get_or xs i d)) ≡ map f (take (i + 1) xs) ++ drop (i + 1) l
  map-turn xs l i d e h g =
      let z : length (map f (take i xs)) ≡ i = length-map (take i xs) f ∙ length-take-le i xs (omega arith) in
      let t : map f (take (i + 1) xs) ≡ map f (take i xs) ++ (f (get_or xs i d) ∷ []) = rw (add-one i, take-suc xs i d) (map-append f (take i xs) (get_or xs i d ∷ [])) in
      front-suc e (map f (take i xs)) l (f (get_or xs i d)) i z g ∙ ap (λ (r : List B). r ++ drop (i + 1) l) (sym t)

  -- all of them
  pub map_all : (xs : List A) (l : List B) (i : ℕ) → length xs ≤ i → i ≤ length xs → map f (take i xs) ++ drop i l ≡ written (map f xs) l
  map_all xs l i h g =
      let t : take i xs ≡ xs = take_all i xs h in
      let e : i ≡ length (map f xs) = sym (length-map xs f ∙ (omega arith)) in
      rw (t, ← e)
