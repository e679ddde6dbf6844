-- Laws of records: a record's bytes, put together and read off. Assumes nothing.
use mathlib.Core.Path.{◌≡◌, refl, sym, ap, ◌∙◌}
use mathlib.Core.Bool.{true}
use mathlib.Core.List.{List, [], ◌∷◌, ◌++◌, append_assoc}
use Prim.Native.Nat.{ℕ, ◌+◌, ◌<◌, ◌≤◌, ◌^◌}
use native.Mathlib.Omega.{arith}
use borrow.Author.Tests.{eqb-true, eq-eqb}
use lib.Dec.{eqb}
use lib.ListN.{length, drop, length-append, length-drop}
use lib.Seq.{drop-drop}
use Rattle.float.proofs.Truth.{and_left, and_right, both}
use Rattle.house.specs.Bytes.{le, num, all_fit}
use Rattle.house.specs.File.{Record, rec, framed, flat}
use Rattle.house.specs.Layout.{head_at}
use Rattle.house.proofs.Numbers.{fit-drop, length-le, val-front, drop-front, le-front}

pub flat_append : (rs ss : List Record) → flat (rs ++ ss) ≡ flat rs ++ flat ss
unfolding flat
flat_append [] ss = refl
flat_append (r ∷ rs) ss = ap (λ (l : List ℕ). framed r ++ l) (flat_append rs ss) ∙ sym (append_assoc (framed r) (flat rs) (flat ss))

pub length-framed : (kind : ℕ) (body : List ℕ) → length (framed (rec kind body)) ≡ 6 + length body
length-framed kind body = simp (length-append, length-le) (omega arith)

-- ---- heads, as numbers

pub record Head (b : List ℕ) (p size kind : ℕ) : Type 0 where
  pub size_is : num 4 b p ≡ size
  pub kind_is : num 2 b (p + 4) ≡ kind

pub head_out : (b : List ℕ) (p size kind : ℕ) → head_at b p size kind ≡ true → Head b p size kind
unfolding head_at
head_out b p size kind h =
    let l = eqb (num 4 b p) size in
    let r = eqb (num 2 b (p + 4)) kind in
    record { size_is = eqb-true (num 4 b p) size (and_left l r h); kind_is = eqb-true (num 2 b (p + 4)) kind (and_right l r h) }

pub head_in : (b : List ℕ) (p size kind : ℕ) → Head b p size kind → head_at b p size kind ≡ true
unfolding head_at
head_in b p size kind h = both _ _ (eq-eqb (num 4 b p) size h.size_is) (eq-eqb (num 2 b (p + 4)) kind h.kind_is)

-- a head in what is left after p bytes
pub head_drop : (b : List ℕ) (p size kind : ℕ) → head_at (drop p b) 0 size kind ≡ head_at b p size kind
unfolding head_at
head_drop b p size kind = rw (drop-drop 4 p b)

-- ---- one record at the front

-- put together: its length and kind are read, and its body is there
pub framed-front : (d : List ℕ) (kind size : ℕ) (body r : List ℕ) → all_fit 1 d ≡ true → 6 ≤ length d → 2 + length body ≡ size → Head d 0 size kind → body ++ r ≡ drop 6 d → framed (rec kind body) ++ r ≡ d
framed-front d kind size body r g h es e t =
    let j : drop 2 (drop 4 d) ≡ drop 6 d = drop-drop 2 4 d in
    let k : le 2 kind ++ drop 6 d ≡ drop 4 d = rw (← j) (le-front (drop 4 d) 2 kind (fit-drop 1 4 d g) (simp length-drop (omega arith)) e.kind_is) in
    simp (append_assoc, t, k) (le-front d 4 (2 + length body) g (omega arith) (e.size_is ∙ sym es))

-- read off
module _ (kind size : ℕ) (body r : List ℕ) (es : 2 + length body ≡ size) (hs : size < 256 ^ 4) (hk : kind < 256 ^ 2) where
  framed-open : framed (rec kind body) ++ r ≡ le 4 size ++ (le 2 kind ++ (body ++ r))
  framed-open = simp (append_assoc, es)

  pub framed_head : Head (framed (rec kind body) ++ r) 0 size kind
  framed_head = record {
    size_is = rw framed-open (val-front 4 size (le 2 kind ++ (body ++ r)) hs);
    kind_is = rw (framed-open, drop-front 4 size (le 2 kind ++ (body ++ r))) (val-front 2 kind (body ++ r) hk);
  }

  pub framed-body : drop 6 (framed (rec kind body) ++ r) ≡ body ++ r
  framed-body =
      let j : drop 2 (drop 4 (framed (rec kind body) ++ r)) ≡ drop 6 (framed (rec kind body) ++ r) = drop-drop 2 4 (framed (rec kind body) ++ r) in
      sym j ∙ rw (framed-open, drop-front 4 size (le 2 kind ++ (body ++ r))) (drop-front 2 kind (body ++ r))
