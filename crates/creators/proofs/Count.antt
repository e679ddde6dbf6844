-- The live sections at a depth are those that were counted and those below what waits to be looked at. Assumes nothing.
use Rattle.std.proofs.Common.{◌≡◌, ℕ, zero, suc, ◌+◌, ◌-◌, ◌<◌, ◌≤◌, Bool, true, false, cond, ◌&&◌, eqb, leb, ◌⊎◌, List, [], ◌∷◌, length, get_or, set, sym, refl, ap, ◌∙◌, subst, inl, inr, zero-le, le_trans, le_of_eq, le_refl, eq-or-lt_of_le, add-one, arith, length-set, get_or-set_other, get_or-set_same, eqb-true, le-leb, leb-true}
use borrow.Author.Tests.{lt-leb, eqb-false}
use lib.Ieee.{nan, binary64}
use Rattle.quintic.specs.declared.numbers.Six.{Six}
use Rattle.sections.specs.Halving.{left as left_of, right as right_of, fine, live, bit, live_at}
use Rattle.sections.proofs.Ends.{dead_at, step_b}
use Rattle.creators.specs.declared.tree.Waiting.{Waiting}

-- ---- the live sections at depth d below a section that is k deep
unfoldable pub share : ℕ → Six → ℕ → ℕ
share d p k = cond (leb k d) (live_at binary64 (d - k) p) 0

share_above : (d : ℕ) (p : Six) (k : ℕ) → d < k → share d p k ≡ 0
unfolding share
share_above d p k h = rw (lt-leb k d h)

share_dead : (d : ℕ) (p : Six) (k : ℕ) → live p ≡ false → share d p k ≡ 0
unfolding share
share_dead d p k e = go (leb k d)
  where
    go : (b : Bool) → cond b (live_at binary64 (d - k) p) 0 ≡ 0
    go true = dead_at binary64 (d - k) p e
    go false = refl

bit_one : (b : Bool) → bit b ≤ 1
bit_one true = le_refl 1
bit_one false = zero-le

share_here : (d : ℕ) (p : Six) → share d p d ≤ 1
unfolding share live_at
share_here d p = rw (le-leb d d (le_refl d), itself d) (bit_one (live p))
  where
    itself : (d : ℕ) → d - d ≡ 0
    itself d = omega arith

halves : (e : ℕ) (p : Six) → live_at binary64 (suc e) p ≤ live_at binary64 e (left_of binary64 p) + live_at binary64 e (right_of binary64 p)
unfolding live_at
halves e p = step_b (live p && fine binary64 p) _ _ _ (λ t. le_refl _)

share_split : (d : ℕ) (p : Six) (k : ℕ) → (d ≡ k → ⊥) → share d p k ≤ share d (left_of binary64 p) (k + 1) + share d (right_of binary64 p) (k + 1)
unfolding share
share_split d p k ne = go (leb k d) refl
  where
    after : (k d : ℕ) → k ≤ d → (d ≡ k → ⊥) → k + 1 ≤ d
    after k d h ne = elim (eq-or-lt_of_le h) [ inl e ↦ absurd (ne (sym e)) | inr l ↦ omega arith ]

    back : (k d : ℕ) → k + 1 ≤ d → suc (d - (k + 1)) ≡ d - k
    back k d h = omega arith

    go : (b : Bool) → leb k d ≡ b
        → cond b (live_at binary64 (d - k) p) 0 ≤ cond (leb (k + 1) d) (live_at binary64 (d - (k + 1)) (left_of binary64 p)) 0 + cond (leb (k + 1) d) (live_at binary64 (d - (k + 1)) (right_of binary64 p)) 0
    go false e = zero-le
    go true e =
        let h : k + 1 ≤ d = after k d (leb-true k d e) ne in
        rw (le-leb (k + 1) d h)
        (subst (λ (n : ℕ). live_at binary64 n p ≤ live_at binary64 (d - (k + 1)) (left_of binary64 p) + live_at binary64 (d - (k + 1)) (right_of binary64 p)) (back k d h) (halves (d - (k + 1)) p))

-- ---- what waits: the first n places of the array
abbrev pub blank : Waiting
blank = record { p = record { y1 = nan; y2 = nan; y3 = nan; y4 = nan; y5 = nan; y6 = nan }; depth = 0 }

abbrev of : ℕ → Waiting → ℕ
of d w = share d w.p w.depth

unfoldable pub shares : ℕ → ℕ → List Waiting → ℕ
shares d zero l = 0
shares d (suc n) l = of d (get_or l n blank) + shares d n l

shares_below : (d n k : ℕ) (l : List Waiting) (w : Waiting) → n ≤ k → shares d n (set l k w) ≡ shares d n l
unfolding shares
shares_below d zero k l w h = refl
shares_below d (suc n) k l w h = let ne : (n ≡ k → ⊥) = (λ e. omega arith) in rw (get_or-set_other l k n w blank ne, shares_below d n k l w (omega arith))

shares_push : (d n : ℕ) (l : List Waiting) (w : Waiting) → n < length l → shares d (suc n) (set l n w) ≡ of d w + shares d n l
unfolding shares
shares_push d n l w h = rw (get_or-set_same l n w blank h, shares_below d n n l w (omega arith))

shares_two : (d n : ℕ) (l : List Waiting) (v w : Waiting) → n + 1 < length l → shares d (n + 2) (set (set l n v) (n + 1) w) ≡ of d w + (of d v + shares d n l)
shares_two d n l v w h =
    subst (λ (k : ℕ). shares d k (set (set l n v) (n + 1) w) ≡ of d w + (of d v + shares d n l)) (two n)
    (shares_push d (n + 1) (set l n v) w (rw length-set (omega arith))
    ∙ ap (λ (k : ℕ). of d w + shares d k (set l n v)) (add-one n)
    ∙ ap (λ (x : ℕ). of d w + x) (shares_push d n l v (omega arith)))
  where
    two : (n : ℕ) → suc (n + 1) ≡ n + 2
    two n = omega arith

shares_pop : (d n : ℕ) (l : List Waiting) → 0 < n → shares d n l ≡ of d (get_or l (n - 1) blank) + shares d (n - 1) l
unfolding shares
shares_pop d n l h = subst (λ (k : ℕ). shares d k l ≡ of d (get_or l (n - 1) blank) + shares d (n - 1) l) (back n h) refl
  where
    back : (n : ℕ) → 0 < n → suc (n - 1) ≡ n
    back n h = omega arith

-- ---- the loop
pub record Counting (p : Six) (most : ℕ) (counts : List ℕ) (waiting : List Waiting) (n taken : ℕ) : Type 0 where
  pub high : n ≤ 65
  pub rows : length counts ≡ 64
  pub places : length waiting ≡ 65
  pub under : (d : ℕ) → get_or counts d 0 ≤ most
  pub few : (d : ℕ) → get_or counts d 0 ≤ taken
  pub all : (d : ℕ) → d ≤ 63 → live_at binary64 d p ≤ get_or counts d 0 + shares d n waiting

abbrev pub nothing : List ℕ → Bool
nothing [] = true
nothing (x ∷ xs) = eqb x 0 && nothing xs

none_at : (l : List ℕ) → nothing l ≡ true → (d : ℕ) → get_or l d 0 ≡ 0
none_at [] h d = refl
none_at (x ∷ xs) h zero = eqb-true x 0 (first (eqb x 0) (nothing xs) h)
  where
    first : (a b : Bool) → a && b ≡ true → a ≡ true
    first true b h = refl
    first false b h = h
none_at (x ∷ xs) h (suc d) = none_at xs (rest (eqb x 0) (nothing xs) h) d
  where
    rest : (a b : Bool) → a && b ≡ true → b ≡ true
    rest true b h = h
    rest false true h = refl
    rest false false h = h

pub start : (most : ℕ) (counts : List ℕ) (waiting : List Waiting) → length counts ≡ 64 → length waiting ≡ 65 → nothing counts ≡ true → (get_or waiting 0 blank).depth ≡ 0
    → Counting (get_or waiting 0 blank).p most counts waiting 1 0
unfolding shares share
start most counts waiting rows places zero-all top = record {
  high = omega arith;
  rows = rows;
  places = places;
  under = λ d. le_trans (le_of_eq (none_at counts zero-all d)) zero-le;
  few = λ d. le_of_eq (none_at counts zero-all d);
  all = λ d h. whole d;
}
  where
    more : (a x y : ℕ) → a ≡ x → a ≤ y + (x + 0)
    more a x y e = omega arith

    itself : (d : ℕ) → d - 0 ≡ d
    itself d = omega arith

    whole : (d : ℕ) → live_at binary64 d (get_or waiting 0 blank).p ≤ get_or counts d 0 + shares d 1 waiting
    whole d = more _ _ (get_or counts d 0) (rw (top, le-leb 0 d zero-le, itself d))

module _ (p : Six) (most : ℕ) (counts : List ℕ) (waiting : List Waiting) (n taken : ℕ) (g : Counting p most counts waiting n taken) where
  pub done : n ≤ 0 → (d : ℕ) → d ≤ 63 → live_at binary64 d p ≤ most
  unfolding shares
  done h d k = le_trans (g.all d k) (le_trans (le_of_eq (ap (λ (n : ℕ). get_or counts d 0 + shares d n waiting) (none n h))) (last (get_or counts d 0) most (g.under d)))
    where
      none : (n : ℕ) → n ≤ 0 → n ≡ 0
      none n h = omega arith

      last : (a b : ℕ) → a ≤ b → a + 0 ≤ b
      last a b h = omega arith

  module _ (more : 0 < n) where
    abbrev top : Waiting
    top = get_or waiting (n - 1) blank

    less : (x n : ℕ) → x ≤ n → x ≤ n + 1
    less x n h = omega arith

    passes : ((d : ℕ) → d ≤ 63 → of d top ≡ 0) → Counting p most counts waiting (n - 1) (taken + 1)
    passes e = record {
      high = omega (arith, g.high);
      rows = g.rows;
      places = g.places;
      under = g.under;
      few = λ d. less _ _ (g.few d);
      all = λ d h. drop _ _ _ (shares d (n - 1) waiting) _ (g.all d h) (shares_pop d n waiting more) (e d h);
    }
      where
        drop : (a b x y z : ℕ) → a ≤ b + z → z ≡ x + y → x ≡ 0 → a ≤ b + y
        drop a b x y z h k l = omega arith

    pub too_deep : 64 ≤ top.depth → Counting p most counts waiting (n - 1) (taken + 1)
    too_deep h = passes (λ d k. share_above d top.p top.depth (omega arith))

    pub dead : live top.p ≡ false → Counting p most counts waiting (n - 1) (taken + 1)
    dead e = passes (λ d k. share_dead d top.p top.depth e)

    -- a live section is counted, and its halves wait in its place
    module _ (low : top.depth < 64) (fits : get_or counts top.depth 0 + 1 ≤ most) (room : n - 1 ≤ 63) (l r : Six) (is-left : l ≡ left_of binary64 top.p) (is_right : r ≡ right_of binary64 top.p) where
      abbrev k : ℕ
      k = top.depth

      abbrev L : Waiting
      L = record { p = l; depth = k + 1 }

      abbrev R : Waiting
      R = record { p = r; depth = k + 1 }

      abbrev counts' : List ℕ
      counts' = set counts k (get_or counts k 0 + 1)

      here : get_or counts' k 0 ≡ get_or counts k 0 + 1
      here = get_or-set_same counts k (get_or counts k 0 + 1) 0 (omega (arith, g.rows))

      elsewhere : (d : ℕ) → (d ≡ k → ⊥) → get_or counts' d 0 ≡ get_or counts d 0
      elsewhere d ne = get_or-set_other counts k d (get_or counts k 0 + 1) 0 ne

      which : (d : ℕ) → (d ≡ k) ⊎ (d ≡ k → ⊥)
      which d = go (eqb d k) refl
        where
          go : (b : Bool) → eqb d k ≡ b → (d ≡ k) ⊎ (d ≡ k → ⊥)
          go true e = inl (eqb-true d k e)
          go false e = inr (eqb-false d k e)

      below : (d : ℕ) → get_or counts' d 0 ≤ most
      below d = elim (which d) [
        | inl e ↦ subst (λ (x : ℕ). get_or counts' x 0 ≤ most) (sym e) (le_trans (le_of_eq here) fits)
        | inr ne ↦ le_trans (le_of_eq (elsewhere d ne)) (g.under d)
      ]

      spared : (d : ℕ) → get_or counts' d 0 ≤ taken + 1
      spared d = elim (which d) [
        | inl e ↦ subst (λ (x : ℕ). get_or counts' x 0 ≤ taken + 1) (sym e) (one _ _ taken here (g.few k))
        | inr ne ↦ le_trans (le_of_eq (elsewhere d ne)) (less _ _ (g.few d))
      ]
        where
          one : (x y l : ℕ) → y ≡ x + 1 → x ≤ l → y ≤ l + 1
          one x y l e f = omega arith

      -- what was below the section is counted, or below its halves
      shared : (d : ℕ) → get_or counts d 0 + of d top ≤ get_or counts' d 0 + (of d L + of d R)
      shared d = elim (which d) [
        | inl e ↦ subst (λ (x : ℕ). get_or counts x 0 + of x top ≤ get_or counts' x 0 + (of x L + of x R)) (sym e) (counted _ _ _ _ here (share_here k top.p))
        | inr ne ↦ passed _ _ _ _ (elsewhere d ne) (subst (λ (q : Six). of d top ≤ share d q (k + 1) + of d R) (sym is-left) (subst (λ (q : Six). of d top ≤ share d (left_of binary64 top.p) (k + 1) + share d q (k + 1)) (sym is_right) (share_split d top.p k ne)))
      ]
        where
          counted : (x y s t : ℕ) → y ≡ x + 1 → s ≤ 1 → x + s ≤ y + t
          counted x y s t e h = omega arith

          passed : (x y s t : ℕ) → y ≡ x → s ≤ t → x + s ≤ y + t
          passed x y s t e h = omega arith

      inside : n - 1 + 1 < length waiting
      inside = subst (λ (m : ℕ). n - 1 + 1 < m) (sym g.places) (omega arith)

      pub splits : Counting p most counts' (set (set waiting (n - 1) R) (n - 1 + 1) L) (n - 1 + 2) (taken + 1)
      splits = record {
        high = omega arith;
        rows = length-set counts k (get_or counts k 0 + 1) ∙ g.rows;
        places = length-set (set waiting (n - 1) R) (n - 1 + 1) L ∙ length-set waiting (n - 1) R ∙ g.places;
        under = below;
        few = spared;
        all = λ d h. moved _ _ _ _ _ _ _ _ _ (g.all d h) (shares_pop d n waiting more) (shares_two d (n - 1) waiting R L inside) (shared d);
      }
        where
          moved : (a c c' s w z l r : ℕ) → (z' : ℕ) → a ≤ c + z → z ≡ s + w → z' ≡ l + (r + w) → c + s ≤ c' + (l + r) → a ≤ c' + z'
          moved a c c' s w z l r z' h e f k = omega arith

pub alike : {p : Six} {most taken : ℕ} (counts counts' : List ℕ) (waiting waiting' : List Waiting) (n n' : ℕ)
    → Counting p most counts waiting n taken → counts' ≡ counts → waiting' ≡ waiting → n' ≡ n → Counting p most counts' waiting' n' taken
alike counts counts' waiting waiting' n n' g c w e = rw (c, w, e) g
