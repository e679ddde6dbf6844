-- From the finite lemma `Creators` (Lemma 4): at most 2·V_T + V_B live sections at a depth, so at most 15 (Lemma 5). Assumes nothing else.
use mathlib.Core.Path.{◌≡◌, refl, sym, ap, ◌∙◌, subst}
use Prim.Native.Nat.{ℕ, zero, suc, ◌+◌, ◌*◌, ◌≤◌, zero-le}
use native.Mathlib.Nat.{le_trans, le_of_eq, le_refl}
use native.Mathlib.Omega.{arith}
use mathlib.Core.Bool.{Bool, true, false, not, ◌&&◌, ◌||◌}
use lib.Dec.{T, ltb, eqb, eqb→eq, nltb→le, T_not, not_T}
use lib.Ieee.{Float, nan, inf, fin, Format, fits}
use lib.Ieee.Fits.{and_r, and_i, eq→eqb}
use Rattle.quintic.specs.declared.numbers.Six.{Six}
use Rattle.sections.specs.Mid.{deep, upright, sign}
use Rattle.sections.specs.Halving.{All, left, right, fine, ch, changes, vary, below, live, bit, step, live_at, gamma, creator, most, Creators}
use Rattle.sections.proofs.Halve.{upright_calm, rows, finite-six, fit_left_is, fit_right, deep_down, sign_down}
use Rattle.sections.proofs.Ends.{Calm, dead_at, step_b, calm_ends}

-- ---- no change of depth, and live: then no height is deep
one_zero : (n : ℕ) → n ≡ 0 → 1 ≤ n → ⊥
one_zero n e h = omega arith

alike : (a b : Bool) → ch a b ≡ 0 → a ≡ b
alike true true e = refl
alike false false e = refl
alike true false e = absurd (one_zero 1 e (le_refl 1))
alike false true e = absurd (one_zero 1 e (le_refl 1))

pub record Same (a b c d e g : Bool) : Type 0 where
  pub s1 : a ≡ b
  pub s2 : a ≡ c
  pub s3 : a ≡ d
  pub s4 : a ≡ e
  pub s5 : a ≡ g

same6 : (a b c d e g : Bool) → changes a b c d e g ≡ 0 → Same a b c d e g
same6 a b c d e g z =
    let e1 : ch a b ≡ 0 = omega arith in
    let e2 : ch b c ≡ 0 = omega arith in
    let e3 : ch c d ≡ 0 = omega arith in
    let e4 : ch d e ≡ 0 = omega arith in
    let e5 : ch e g ≡ 0 = omega arith in
    let p1 = alike a b e1 in
    let p2 = p1 ∙ alike b c e2 in
    let p3 = p2 ∙ alike c d e3 in
    let p4 = p3 ∙ alike d e e4 in
    record { s1 = p1; s2 = p2; s3 = p3; s4 = p4; s5 = p4 ∙ alike e g e5 }

full6 : (a b c d e g : Bool) → T a → T b → T c → T d → T e → T g → T (ltb 0 (changes a b c d e g)) → ⊥
full6 true true true true true true p q r s t u z = z
full6 false b c d e g p q r s t u z = p
full6 true false c d e g p q r s t u z = q
full6 true true false d e g p q r s t u z = r
full6 true true true false e g p q r s t u z = s
full6 true true true true false g p q r s t u z = t
full6 true true true true true false p q r s t u z = u

deep-below : (f : Format) (y : Float) → T (deep f y) → T (below y)
deep-below f y t = not_T (upright y) (λ (u : T (upright y)). T_not (deep f y) (upright_calm f y u) t)

calm_of : (f : Format) (p : Six) → vary (deep f) p ≡ 0 → T (live p) → Calm f p
calm_of f p z l = go (deep f p.y1) refl
  where
    go : (b : Bool) → deep f p.y1 ≡ b → Calm f p
    go true e =
        let s = same6 (deep f p.y1) (deep f p.y2) (deep f p.y3) (deep f p.y4) (deep f p.y5) (deep f p.y6) z in
        let t0 : T (deep f p.y1) = subst T (sym e) tt in
        absurd (full6 (below p.y1) (below p.y2) (below p.y3) (below p.y4) (below p.y5) (below p.y6) (deep-below f p.y1 t0)
        (deep-below f p.y2 (subst T s.s1 t0)) (deep-below f p.y3 (subst T s.s2 t0)) (deep-below f p.y4 (subst T s.s3 t0)) (deep-below f p.y5 (subst T s.s4 t0)) (deep-below f p.y6 (subst T s.s5 t0)) l)
    go false e =
        let s = same6 (deep f p.y1) (deep f p.y2) (deep f p.y3) (deep f p.y4) (deep f p.y5) (deep f p.y6) z in
        let t0 : T (not (deep f p.y1)) = subst (λ (b : Bool). T (not b)) (sym e) tt in
        record {
          h1 = t0;
          h2 = subst (λ (b : Bool). T (not b)) s.s1 t0;
          h3 = subst (λ (b : Bool). T (not b)) s.s2 t0;
          h4 = subst (λ (b : Bool). T (not b)) s.s3 t0;
          h5 = subst (λ (b : Bool). T (not b)) s.s4 t0;
          h6 = subst (λ (b : Bool). T (not b)) s.s5 t0;
        }

-- ---- two ends below zero: the changes of sign are even
even6 : (b c d e : Bool) → 1 ≤ changes true b c d e true → 2 ≤ changes true b c d e true
even6 true true true true h = omega arith
even6 true true true false h = omega arith
even6 true true false true h = omega arith
even6 true true false false h = omega arith
even6 true false true true h = omega arith
even6 true false true false h = omega arith
even6 true false false true h = omega arith
even6 true false false false h = omega arith
even6 false true true true h = omega arith
even6 false true true false h = omega arith
even6 false true false true h = omega arith
even6 false true false false h = omega arith
even6 false false true true h = omega arith
even6 false false true false h = omega arith
even6 false false false true h = omega arith
even6 false false false false h = omega arith

ends6 : (x y a b c d e g : Bool) → (T x → T a) → (T y → T g) → 1 ≤ changes a b c d e g → bit x + bit y ≤ changes a b c d e g
ends6 false false a b c d e g p q h = zero-le
ends6 true false a b c d e g p q h = h
ends6 false true a b c d e g p q h = h
ends6 true true true b c d e true p q h = even6 b c d e h
ends6 true true false b c d e true p q h = absurd (p tt)
ends6 true true true b c d e false p q h = absurd (q tt)
ends6 true true false b c d e false p q h = absurd (p tt)

below-sign : (y : Float) → T (below y) → T (sign y)
below-sign nan t = absurd t
below-sign (inf true) t = tt
below-sign (inf false) t = absurd t
below-sign (fin false m e) t = absurd t
below-sign (fin true m e) t = tt

-- ---- Lemma 5
some : (a b : ℕ) → T (not (eqb (a + b) 0)) → 1 ≤ a + b
some a b t = pos (a + b) (λ (e : a + b ≡ 0). T_not (eqb (a + b) 0) t (eq→eqb e))
  where
    pos : (n : ℕ) → (n ≡ 0 → ⊥) → 1 ≤ n
    pos zero h = absurd (h refl)
    pos (suc n) h = one n
      where
        one : (n : ℕ) → 1 ≤ suc n
        one n = omega arith

at_zero : (b : Bool) (a c : ℕ) → 1 ≤ a + c → bit b ≤ 2 * a + c
at_zero true a c h = omega arith
at_zero false a c h = zero-le

drop-zero : (n a c : ℕ) → n ≤ c → n ≤ 2 * a + c
drop-zero n a c h = omega arith

second : (a c : ℕ) → a ≡ 0 → 1 ≤ a + c → 1 ≤ c
second a c e h = omega arith

join : (x y a b c s t u : ℕ) → x ≤ 2 * a + s → y ≤ 2 * b + t → a + b ≤ c → s + t ≤ u → x + y ≤ 2 * c + u
join x y a b c s t u h k m n = omega arith

orl : (a b : Bool) → T (not (a || b)) → T (not a)
orl true b t = t
orl false b t = tt

orr : (a b : Bool) → T (not (a || b)) → T (not b)
orr true b t = absurd t
orr false b t = t

abbrev pub Bounded : Format → ℕ → Type 0
Bounded f d = (p : Six) → All (fits f) p → T (live p) → T (not (gamma f p)) → live_at f d p ≤ most f p

child : (f : Format) (d : ℕ) → Bounded f d → (p : Six) → All (fits f) p → T (not (live p && gamma f p)) → live_at f d p ≤ most f p
child f d ih p w t = go (live p) refl
  where
    go : (b : Bool) → live p ≡ b → live_at f d p ≤ most f p
    go false e = le_trans (le_of_eq (dead_at f d p e)) zero-le
    go true e = ih p w (subst T (sym e) tt) (subst (λ (b : Bool). T (not (b && gamma f p))) e t)

stopped : (f : Format) (d : ℕ) (p : Six) → fine f p ≡ false → live_at f (suc d) p ≡ 0
unfolding live_at
stopped f d p e = ap (λ (b : Bool). step (live p && b) (live_at f d (left f p)) (live_at f d (right f p))) e ∙ none (live p)
  where
    none : (b : Bool) → step (b && false) (live_at f d (left f p)) (live_at f d (right f p)) ≡ 0
    none true = refl
    none false = refl

less : (d : ℕ) → suc d ≤ 63 → d ≤ 63
less d h = omega arith

pub bounded : (f : Format) → Creators f → (d : ℕ) → d ≤ 63 → Bounded f d
unfolding live_at
bounded f hyp zero D p w l g = at_zero (live p) (vary (deep f) p) (vary sign p) (some (vary (deep f) p) (vary sign p) g)
bounded f hyp (suc d) D p w l g = go (ltb 0 (vary (deep f) p)) refl (creator f p) refl (bounded f hyp d (less d D))
  where
    half : Bounded f d → T (not (creator f p)) → T (ltb 0 (vary (deep f) p)) → live_at f (suc d) p ≤ most f p
    half ih n a =
        let x = live (left f p) && gamma f (left f p) in
        let y = live (right f p) && gamma f (right f p) in
        let m : T (not (x || y)) = not_T (x || y) (λ (t : T (x || y)). T_not (creator f p) n (and_i (ltb 0 (vary (deep f) p)) (x || y) a t)) in
        step_b (live p && fine f p) (live_at f d (left f p)) (live_at f d (right f p)) (most f p) (λ (t : T (live p && fine f p)).
        let h = rows f p (and_r (live p) (fine f p) t) in
        join (live_at f d (left f p)) (live_at f d (right f p)) (vary (deep f) (left f p)) (vary (deep f) (right f p)) (vary (deep f) p) (vary sign (left f p)) (vary sign (right f p)) (vary sign p)
        (child f d ih (left f p) (fit_left_is f p w) (orl x y m)) (child f d ih (right f p) (fit_right f p w) (orr x y m))
        (deep_down f p w h) (sign_down f p w h))

    -- a halving that is not fine has nothing below it, and one that is has finite heights
    creates : (b : Bool) → fine f p ≡ b → T (creator f p) → live_at f (suc d) p ≤ most f p
    creates true e c = hyp (suc d) D p w (finite-six f p (rows f p (subst T (sym e) tt))) l c
    creates false e c = le_trans (le_of_eq (stopped f d p e)) zero-le

    none : (n : ℕ) → n ≤ 0 → n ≡ 0
    none n h = omega arith

    go : (a : Bool) → ltb 0 (vary (deep f) p) ≡ a → (b : Bool) → creator f p ≡ b → Bounded f d → live_at f (suc d) p ≤ most f p
    go false e b q ih =
        let z : vary (deep f) p ≡ 0 = none (vary (deep f) p) (nltb→le 0 (vary (deep f) p) (subst (λ (b : Bool). T (not b)) (sym e) tt)) in
        drop-zero (live_at f (suc d) p) (vary (deep f) p) (vary sign p)
        (le_trans (calm_ends f d p w (calm_of f p z l))
        (ends6 (below p.y1) (below p.y6) (sign p.y1) (sign p.y2) (sign p.y3) (sign p.y4) (sign p.y5) (sign p.y6) (below-sign p.y1) (below-sign p.y6)
        (second (vary (deep f) p) (vary sign p) z (some (vary (deep f) p) (vary sign p) g))))
    go true e true q ih = creates (fine f p) refl (subst T (sym q) tt)
    go true e false q ih = half ih (subst (λ (b : Bool). T (not b)) (sym q) tt) (subst T (sym e) tt)

-- ---- for any six heights: at most 15 live sections at a depth
ch-le : (a b : Bool) → ch a b ≤ 1
ch-le true true = zero-le
ch-le true false = le_refl 1
ch-le false true = le_refl 1
ch-le false false = zero-le

five : (a b c d e g : Bool) → changes a b c d e g ≤ 5
five a b c d e g =
    let h1 = ch-le a b in
    let h2 = ch-le b c in
    let h3 = ch-le c d in
    let h4 = ch-le d e in
    let h5 = ch-le e g in
    omega arith

fifteen : (n a b : ℕ) → n ≤ 2 * a + b → a ≤ 5 → b ≤ 5 → n ≤ 15
fifteen n a b h k l = omega arith

bit_le : (b : Bool) → bit b ≤ 1
bit_le true = le_refl 1
bit_le false = zero-le

small : (n x y : ℕ) → n ≤ x + y → x ≤ 1 → y ≤ 1 → n ≤ 15
small n x y h k l = omega arith

one_15 : (n : ℕ) → n ≤ 1 → n ≤ 15
one_15 n h = omega arith

pub at_most_15 : (f : Format) → Creators f → (d : ℕ) → d ≤ 63 → (p : Six) → All (fits f) p → live_at f d p ≤ 15
unfolding live_at
at_most_15 f hyp zero D p w = one_15 (bit (live p)) (bit_le (live p))
at_most_15 f hyp (suc d) D p w = go (live p) refl (gamma f p) refl
  where
    left_zero : (a b : ℕ) → a + b ≡ 0 → a ≡ 0
    left_zero a b e = omega arith

    go : (x : Bool) → live p ≡ x → (y : Bool) → gamma f p ≡ y → live_at f (suc d) p ≤ 15
    go false e y q = le_trans (le_of_eq (dead_at f (suc d) p e)) zero-le
    go true e true q =
        let z = left_zero (vary (deep f) p) (vary sign p) (eqb→eq (vary (deep f) p + vary sign p) 0 (subst T (sym q) tt)) in
        small (live_at f (suc d) p) (bit (below p.y1)) (bit (below p.y6)) (calm_ends f d p w (calm_of f p z (subst T (sym e) tt))) (bit_le (below p.y1)) (bit_le (below p.y6))
    go true e false q =
        fifteen (live_at f (suc d) p) (vary (deep f) p) (vary sign p) (bounded f hyp (suc d) D p w (subst T (sym e) tt) (subst (λ (b : Bool). T (not b)) (sym q) tt))
        (five (deep f p.y1) (deep f p.y2) (deep f p.y3) (deep f p.y4) (deep f p.y5) (deep f p.y6))
        (five (sign p.y1) (sign p.y2) (sign p.y3) (sign p.y4) (sign p.y5) (sign p.y6))
