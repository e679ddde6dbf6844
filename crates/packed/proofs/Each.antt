-- Laws of lists put together of pieces. Assumes nothing.
use mathlib.Core.Path.{◌≡◌, refl, sym, ◌∙◌}
use mathlib.Core.Bool.{Bool, true, false}
use mathlib.Core.List.{List, [], ◌++◌, append_assoc, append-nil}
use Prim.Native.Nat.{ℕ, zero, suc, ◌+◌, ◌*◌, ◌<◌, ◌≤◌}
use native.Mathlib.Nat.{mul-zero}
use native.Mathlib.Omega.{arith}
use borrow.Author.Tests.{ltb-true, ltb-false}
use lib.Dec.{ltb}
use lib.ListN.{length, take, drop, length-append, length-drop}
use lib.Seq.{take-add, drop-drop, drop_at, take_all, take-append-le, drop-append-le}
use Rattle.house.specs.Bytes.{row, all_fit}
use Rattle.house.specs.Held.{in_each}
use Rattle.house.proofs.Numbers.{fit_append}
use Rattle.grammar.proofs.Curves.{each-suc}
use Rattle.packed.specs.Each.{each}

-- alike piece by piece
pub each_same : (k : ℕ) (f g : ℕ → List ℕ) → ((i : ℕ) → i < k → f i ≡ g i) → each k f ≡ each k g
unfolding each
each_same zero f g h = refl
each_same (suc k) f g h =
    let a : each k f ≡ each k g = each_same k f g (λ i l. h i (omega arith)) in
    let b : f k ≡ g k = h k (omega arith) in
    rw (a, b)

-- the first piece by itself
pub each_first : (k : ℕ) (g : ℕ → List ℕ) → each (suc k) g ≡ g 0 ++ each k (λ (i : ℕ). g (suc i))
unfolding each
each_first zero g = sym (append-nil (g 0))
each_first (suc k) g = rw (each_first k g) (append_assoc (g 0) (each k (λ (i : ℕ). g (suc i))) (g (suc k)))

-- numbers that fit their field
pub each-fit : (f k : ℕ) (g : ℕ → List ℕ) → ((i : ℕ) → i < k → all_fit f (g i) ≡ true) → all_fit f (each k g) ≡ true
unfolding each all_fit
each-fit f zero g h = refl
each-fit f (suc k) g h = fit_append f (each k g) (g k) (each-fit f k g (λ i l. h i (omega arith))) (h k (omega arith))

-- a list, cut into pieces of e
pub each_cut : (e k : ℕ) (b : List ℕ) → each k (λ (i : ℕ). take e (drop (e * i) b)) ≡ take (e * k) b
unfolding each
each_cut e zero b = rw (mul-zero e)
each_cut e (suc k) b =
    let s : e * suc k ≡ e * k + e = omega arith in
    rw (each_cut e k b, s) (sym (take-add (e * k) e b))

-- pieces of e
module _ (e : ℕ) (g : ℕ → List ℕ) where
  pub each-length : (k : ℕ) → ((i : ℕ) → i < k → length (g i) ≡ e) → length (each k g) ≡ e * k
  unfolding each
  each-length zero h = rw (mul-zero e)
  each-length (suc k) h =
      let a : length (each k g) ≡ e * k = each-length k (λ i l. h i (omega arith)) in
      let b : length (g k) ≡ e = h k (omega arith) in
      length-append (each k g) (g k) ∙ omega arith

  -- piece i, and what is behind it
  pub each_at : (k i : ℕ) (r : List ℕ) → ((j : ℕ) → j < k → length (g j) ≡ e) → i < k → drop (e * i) (each k g ++ r) ≡ g i ++ drop (e * suc i) (each k g ++ r)
  unfolding each
  each_at zero i r h l = absurd (omega arith)
  each_at (suc k) i r h l = rw q (go (ltb i k) refl (λ m. each_at k i (g k ++ r) (λ j n. h j (omega arith)) m))
    where
      q : (each k g ++ g k) ++ r ≡ each k g ++ (g k ++ r)
      q = append_assoc (each k g) (g k) r

      z : length (each k g) ≡ e * k
      z = each-length k (λ j m. h j (omega arith))

      all : List ℕ
      all = each k g ++ (g k ++ r)

      go : (b : Bool) → ltb i k ≡ b → (i < k → drop (e * i) all ≡ g i ++ drop (e * suc i) all) → drop (e * i) all ≡ g i ++ drop (e * suc i) all
      go true t before = before (ltb-true i k t)
      go false t before =
          let n : k ≤ i = ltb-false i k t in
          let s : i ≡ k = omega arith in
          let x : e * k + e ≡ e * suc k = omega arith in
          let y : drop (e * k) (each k g ++ (g k ++ r)) ≡ g k ++ r = drop_at (each k g) (g k ++ r) (e * k) z in
          let w : drop e (drop (e * k) (each k g ++ (g k ++ r))) ≡ drop (e * suc k) (each k g ++ (g k ++ r)) = rw (drop-drop, x) in
          let v : drop (e * suc k) (each k g ++ (g k ++ r)) ≡ r = sym w ∙ rw y (drop_at (g k) r e (h k (omega arith))) in
          rw (s, y, v)

  -- a part of piece i, from its start or from place p on
  module _ (k i : ℕ) (h : (j : ℕ) → j < k → length (g j) ≡ e) (l : i < k) where
    pub each-whole : drop (e * i) (each k g) ≡ g i ++ drop (e * suc i) (each k g)
    each-whole = rw append-nil at (each_at k i [] h l)

    pub each-front : (m : ℕ) → m ≤ e → take m (drop (e * i) (each k g)) ≡ take m (g i)
    each-front m n = rw each-whole (take-append-le m (g i) (drop (e * suc i) (each k g)) (omega (arith, h i l)))

    pub each_piece : take e (drop (e * i) (each k g)) ≡ g i
    each_piece = each-front e (omega arith) ∙ take_all e (g i) (omega (arith, h i l))

    pub each_part : (p m : ℕ) → p + m ≤ e → take m (drop (e * i + p) (each k g)) ≡ take m (drop p (g i))
    each_part p m n =
        let a : drop p (drop (e * i) (each k g)) ≡ drop (e * i + p) (each k g) = drop-drop p (e * i) (each k g) in
        let c : drop p (g i ++ drop (e * suc i) (each k g)) ≡ drop p (g i) ++ drop (e * suc i) (each k g) = drop-append-le p (g i) (drop (e * suc i) (each k g)) (omega (arith, h i l)) in
        rw (← a, each-whole, c) (take-append-le m (drop p (g i)) (drop (e * suc i) (each k g)) (simp length-drop (omega (arith, h i l))))

-- what stands in each record, piece by piece
pub in_each_is : (f n p step k : ℕ) (b : List ℕ) → in_each f n p step k b ≡ each k (λ (i : ℕ). row f n (drop (step * i + p) b))
unfolding in_each each
in_each_is f n p step zero b = refl
in_each_is f n p step (suc k) b = each-suc f n p step k b ∙ rw (in_each_is f n p step k b)
