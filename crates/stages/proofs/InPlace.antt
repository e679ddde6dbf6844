-- A list worked through in place: the first i elements are done by f, whatever it gives, the others are as they were, and `fine` tells whether
-- each operation so far gave a finite number. Assumes nothing.
use mathlib.Core.Path.{◌≡◌, refl, sym, ap, ◌∙◌}
use mathlib.Core.Bool.{Bool, true, ◌&&◌}
use mathlib.Core.List.{List, [], ◌∷◌, ◌++◌, append_assoc, append-nil}
use Prim.Native.Nat.{ℕ, zero, suc, ◌+◌, ◌≤◌, ◌<◌, zero-le}
use native.Mathlib.Numerals.{add-one}
use native.Mathlib.Omega.{arith}
use native.Mathlib.Decide.{dec_lt}
use lib.ListN.{length, get_or, set, drop, length-append, length-drop, get_or-append}
use lib.Seq.{drop-cons, set_at, get_or_at, drop-length}
use lib.Ieee.{Float, nan}
use Rattle.float.specs.Calc.{Calc}
use Rattle.float.specs.Folds.{each}
use Rattle.float.proofs.Folds.{each_next, each_both, each-length}

abbrev pub Done : (ℕ → Calc Float) → List Float → List Float → Bool → ℕ → Type 0
Done f ts ps fine i = (i ≤ length ts) × (fine ≡ (each i f).fine) × (ps ≡ (each i f).val ++ drop i ts)

pub start : (f : ℕ → Calc Float) (ts : List Float) → Done f ts ts true 0
unfolding each
start f ts = (zero-le, refl, refl)

module _ (f : ℕ → Calc Float) (ts ps : List Float) (fine : Bool) (i : ℕ) (d : Done f ts ps fine i) where
  pub len : length ps ≡ length ts
  len = ap length d.2 ∙ simp (length-append, length-drop, each-length) (let h = d.0 in omega arith)

  -- the element at i is as it was
  pub read : i < length ts → get_or ps i nan ≡ get_or ts i nan
  read l =
      ap (λ (l : List Float). get_or l i nan) d.2
      ∙ rw (drop-cons ts i nan l) (get_or_at (each i f).val (get_or ts i nan) (drop (suc i) ts) nan i (each-length f i))

  pub more : i < length ts → (x : Float) (b : Bool) → x ≡ (f i).val → b ≡ (f i).fine → Done f ts (set ps i x) (fine && b) (i + 1)
  more l x b e h = (
    omega arith,
    rw (h, d.1) (sym (each_both f i)),
    rw (e, d.2) (rw (drop-cons ts i nan l, set_at (each i f).val (get_or ts i nan) (drop (suc i) ts) (f i).val i (each-length f i), each_next f i, append_assoc, add-one) refl),
  )

  -- all are done
  pub finish : length ps ≤ i → (fine ≡ (each (length ts) f).fine) × (ps ≡ (each (length ts) f).val)
  finish l =
      let all : i ≡ length ts = let h = d.0 in omega (arith, len) in
      (rw all at d.1, rw all at d.2 ∙ rw drop-length (append-nil _))

-- ---- what stands in the list that is done
below : (k n : ℕ) → k < suc n → (k < n → ⊥) → k ≡ n
below k n l h = omega arith

pub each-get : (f : ℕ → Calc Float) (n k : ℕ) → k < n → get_or (each n f).val k nan ≡ (f k).val
unfolding each
each-get f zero k l = absurd (omega arith)
each-get f (suc n) k l = go (dec_lt k n) (each-get f n k)
  where
    go : Dec (k < n) → (k < n → get_or (each n f).val k nan ≡ (f k).val) → get_or ((each n f).val ++ ((f n).val ∷ [])) k nan ≡ (f k).val
    go (yes h) ih = get_or-append (each n f).val ((f n).val ∷ []) nan k (rw (← each-length f n) at h) ∙ ih h
    go (no h) ih = let e = below k n l h in rw e (get_or_at (each n f).val (f n).val [] nan n (each-length f n))

-- two runs that agree below n
pub each_same : (f g : ℕ → Calc Float) (n : ℕ) → ((k : ℕ) → k < n → f k ≡ g k) → each n f ≡ each n g
unfolding each
each_same f g zero h = refl
each_same f g (suc n) h =
    let r = each_same f g n (λ k l. h k (omega arith)) in
    let s = h n (omega arith) in
    λ i. record { val = (r i).val ++ ((s i).val ∷ []); fine = (r i).fine && ((s i).fine && true) }
