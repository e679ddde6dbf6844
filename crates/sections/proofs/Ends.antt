-- Where no height is deep, only the sections at the two ends stay live (Lemma 3). Assumes nothing.
use mathlib.Core.Path.{◌≡◌, refl, ap}
use Prim.Native.Nat.{ℕ, zero, suc, ◌+◌, ◌≤◌, zero-le}
use native.Mathlib.Nat.{le_refl}
use native.Mathlib.Omega.{arith}
use mathlib.Core.Bool.{Bool, true, false, not, ◌&&◌}
use lib.Dec.{T, ltb}
use lib.Ieee.{Float, Format, fits}
use Rattle.quintic.specs.declared.numbers.Six.{Six}
use Rattle.sections.specs.Mid.{mid, deep, upright}
use Rattle.sections.specs.Halving.{All, q1, q2, q3, q4, q5, r1, r2, r3, r4, s1, s2, s3, t1, t2, u, left, right, fine, changes, below, live, bit, step, live_at}
use Rattle.sections.proofs.Calm.{calm_calm}
use Rattle.sections.proofs.Halve.{upright_calm, mid-fits, fit_left_is, fit_right}

-- ---- classes
pub record Up5 (a b c d e : Float) : Type 0 where
  pub u1 : T (upright a)
  pub u2 : T (upright b)
  pub u3 : T (upright c)
  pub u4 : T (upright d)
  pub u5 : T (upright e)

-- no height is deep
abbrev pub Calm : Format → Six → Type 0
Calm f p = All (λ y. not (deep f y)) p

abbrev LeftUp : Format → Six → Type 0
LeftUp f p = Up5 (q1 f p) (r1 f p) (s1 f p) (t1 f p) (u f p)

abbrev RightUp : Format → Six → Type 0
RightUp f p = Up5 (u f p) (t2 f p) (s3 f p) (r4 f p) (q5 f p)

pub record Halves (f : Format) (p : Six) : Type 0 where
  pub l : LeftUp f p
  pub r : RightUp f p

-- two heights that are not below zero have such a midpoint
row : (f : Format) (x y : Float) → T (fits f x) → T (fits f y) → T (upright x) → T (upright y) → T (upright (mid f x y))
row f x y v w p q = calm_calm f x y v w (upright_calm f x p) (upright_calm f y q)

calm_halves : (f : Format) (p : Six) → All (fits f) p → Calm f p → Halves f p
calm_halves f p w c =
    let q1' : T (upright (q1 f p)) = calm_calm f p.y1 p.y2 w.h1 w.h2 c.h1 c.h2 in
    let q2' : T (upright (q2 f p)) = calm_calm f p.y2 p.y3 w.h2 w.h3 c.h2 c.h3 in
    let q3' : T (upright (q3 f p)) = calm_calm f p.y3 p.y4 w.h3 w.h4 c.h3 c.h4 in
    let q4' : T (upright (q4 f p)) = calm_calm f p.y4 p.y5 w.h4 w.h5 c.h4 c.h5 in
    let q5' : T (upright (q5 f p)) = calm_calm f p.y5 p.y6 w.h5 w.h6 c.h5 c.h6 in
    let r1' : T (upright (r1 f p)) = row f (q1 f p) (q2 f p) (mid-fits f p.y1 p.y2) (mid-fits f p.y2 p.y3) q1' q2' in
    let r2' : T (upright (r2 f p)) = row f (q2 f p) (q3 f p) (mid-fits f p.y2 p.y3) (mid-fits f p.y3 p.y4) q2' q3' in
    let r3' : T (upright (r3 f p)) = row f (q3 f p) (q4 f p) (mid-fits f p.y3 p.y4) (mid-fits f p.y4 p.y5) q3' q4' in
    let r4' : T (upright (r4 f p)) = row f (q4 f p) (q5 f p) (mid-fits f p.y4 p.y5) (mid-fits f p.y5 p.y6) q4' q5' in
    let s1' : T (upright (s1 f p)) = row f (r1 f p) (r2 f p) (mid-fits f (q1 f p) (q2 f p)) (mid-fits f (q2 f p) (q3 f p)) r1' r2' in
    let s2' : T (upright (s2 f p)) = row f (r2 f p) (r3 f p) (mid-fits f (q2 f p) (q3 f p)) (mid-fits f (q3 f p) (q4 f p)) r2' r3' in
    let s3' : T (upright (s3 f p)) = row f (r3 f p) (r4 f p) (mid-fits f (q3 f p) (q4 f p)) (mid-fits f (q4 f p) (q5 f p)) r3' r4' in
    let t1' : T (upright (t1 f p)) = row f (s1 f p) (s2 f p) (mid-fits f (r1 f p) (r2 f p)) (mid-fits f (r2 f p) (r3 f p)) s1' s2' in
    let t2' : T (upright (t2 f p)) = row f (s2 f p) (s3 f p) (mid-fits f (r2 f p) (r3 f p)) (mid-fits f (r3 f p) (r4 f p)) s2' s3' in
    let u' : T (upright (u f p)) = row f (t1 f p) (t2 f p) (mid-fits f (s1 f p) (s2 f p)) (mid-fits f (s2 f p) (s3 f p)) t1' t2' in
    record {
      l = record { u1 = q1'; u2 = r1'; u3 = s1'; u4 = t1'; u5 = u' };
      r = record { u1 = u'; u2 = t2'; u3 = s3'; u4 = r4'; u5 = q5' };
    }

nn : (b : Bool) → T b → T (not (not b))
nn true t = tt
nn false t = t

-- ---- no change
flat6 : (a b c d e g : Bool) → T (not a) → T (not b) → T (not c) → T (not d) → T (not e) → T (not g) → ltb 0 (changes a b c d e g) ≡ false
flat6 false false false false false false p q r s t u = refl
flat6 true b c d e g p q r s t u = absurd p
flat6 false true c d e g p q r s t u = absurd q
flat6 false false true d e g p q r s t u = absurd r
flat6 false false false true e g p q r s t u = absurd s
flat6 false false false false true g p q r s t u = absurd t
flat6 false false false false false true p q r s t u = absurd u

first6 : (a b c d e g : Bool) → T (not b) → T (not c) → T (not d) → T (not e) → T (not g) → bit (ltb 0 (changes a b c d e g)) ≤ bit a
first6 true false false false false false q r s t u = le_refl 1
first6 false false false false false false q r s t u = le_refl 0
first6 true true c d e g q r s t u = absurd q
first6 false true c d e g q r s t u = absurd q
first6 true false true d e g q r s t u = absurd r
first6 false false true d e g q r s t u = absurd r
first6 true false false true e g q r s t u = absurd s
first6 false false false true e g q r s t u = absurd s
first6 true false false false true g q r s t u = absurd t
first6 false false false false true g q r s t u = absurd t
first6 true false false false false true q r s t u = absurd u
first6 false false false false false true q r s t u = absurd u

last6 : (a b c d e g : Bool) → T (not a) → T (not b) → T (not c) → T (not d) → T (not e) → bit (ltb 0 (changes a b c d e g)) ≤ bit g
last6 false false false false false true p q r s t = le_refl 1
last6 false false false false false false p q r s t = le_refl 0
last6 true b c d e g p q r s t = absurd p
last6 false true c d e g p q r s t = absurd q
last6 false false true d e g p q r s t = absurd r
last6 false false false true e g p q r s t = absurd s
last6 false false false false true g p q r s t = absurd t

pub dead_at : (f : Format) (d : ℕ) (p : Six) → live p ≡ false → live_at f d p ≡ 0
unfolding live_at
dead_at f zero p e = ap bit e
dead_at f (suc d) p e = ap (λ (b : Bool). step (b && fine f p) (live_at f d (left f p)) (live_at f d (right f p))) e

pub step_b : (b : Bool) (x y n : ℕ) → (T b → x + y ≤ n) → step b x y ≤ n
step_b true x y n h = h tt
step_b false x y n h = zero-le

only_left : (x y n : ℕ) → x ≤ n → y ≡ 0 → x + y ≤ n
only_left x y n h k = omega arith

only_right : (x y n : ℕ) → x ≡ 0 → y ≤ n → x + y ≤ n
only_right x y n h k = omega arith

-- ---- one end that may be below zero
up_l : (f : Format) (d : ℕ) (p : Six) → All (fits f) p → T (not (deep f p.y1)) → Up5 p.y2 p.y3 p.y4 p.y5 p.y6 → live_at f d p ≤ bit (below p.y1)
unfolding live_at
up_l f zero p w k v = first6 (below p.y1) (below p.y2) (below p.y3) (below p.y4) (below p.y5) (below p.y6) (nn (upright p.y2) v.u1) (nn (upright p.y3) v.u2) (nn (upright p.y4) v.u3) (nn (upright p.y5) v.u4) (nn (upright p.y6) v.u5)
up_l f (suc d) p w k v =
    step_b (live p && fine f p) (live_at f d (left f p)) (live_at f d (right f p)) (bit (below p.y1)) (λ (t : T (live p && fine f p)).
    let c : Calm f p = record { h1 = k; h2 = upright_calm f p.y2 v.u1; h3 = upright_calm f p.y3 v.u2; h4 = upright_calm f p.y4 v.u3; h5 = upright_calm f p.y5 v.u4; h6 = upright_calm f p.y6 v.u5 } in
    let q = calm_halves f p w c in
    only_left (live_at f d (left f p)) (live_at f d (right f p)) (bit (below p.y1)) (up_l f d (left f p) (fit_left_is f p w) k q.l)
    (dead_at f d (right f p) (flat6 (below (right f p).y1) (below (right f p).y2) (below (right f p).y3) (below (right f p).y4) (below (right f p).y5) (below p.y6)
    (nn (upright (right f p).y1) q.r.u1) (nn (upright (right f p).y2) q.r.u2) (nn (upright (right f p).y3) q.r.u3) (nn (upright (right f p).y4) q.r.u4) (nn (upright (right f p).y5) q.r.u5) (nn (upright p.y6) v.u5))))

up_r : (f : Format) (d : ℕ) (p : Six) → All (fits f) p → T (not (deep f p.y6)) → Up5 p.y1 p.y2 p.y3 p.y4 p.y5 → live_at f d p ≤ bit (below p.y6)
unfolding live_at
up_r f zero p w k v = last6 (below p.y1) (below p.y2) (below p.y3) (below p.y4) (below p.y5) (below p.y6) (nn (upright p.y1) v.u1) (nn (upright p.y2) v.u2) (nn (upright p.y3) v.u3) (nn (upright p.y4) v.u4) (nn (upright p.y5) v.u5)
up_r f (suc d) p w k v =
    step_b (live p && fine f p) (live_at f d (left f p)) (live_at f d (right f p)) (bit (below p.y6)) (λ (t : T (live p && fine f p)).
    let c : Calm f p = record { h1 = upright_calm f p.y1 v.u1; h2 = upright_calm f p.y2 v.u2; h3 = upright_calm f p.y3 v.u3; h4 = upright_calm f p.y4 v.u4; h5 = upright_calm f p.y5 v.u5; h6 = k } in
    let q = calm_halves f p w c in
    only_right (live_at f d (left f p)) (live_at f d (right f p)) (bit (below p.y6))
    (dead_at f d (left f p) (flat6 (below p.y1) (below (left f p).y2) (below (left f p).y3) (below (left f p).y4) (below (left f p).y5) (below (left f p).y6)
    (nn (upright p.y1) v.u1) (nn (upright (left f p).y2) q.l.u1) (nn (upright (left f p).y3) q.l.u2) (nn (upright (left f p).y4) q.l.u3) (nn (upright (left f p).y5) q.l.u4) (nn (upright (left f p).y6) q.l.u5)))
    (up_r f d (right f p) (fit_right f p w) k q.r))

add-le : (x y m n : ℕ) → x ≤ m → y ≤ n → x + y ≤ m + n
add-le x y m n h k = omega arith

-- Lemma 3: no deep height
pub calm_ends : (f : Format) (d : ℕ) (p : Six) → All (fits f) p → Calm f p → live_at f (suc d) p ≤ bit (below p.y1) + bit (below p.y6)
unfolding live_at
calm_ends f d p w c =
    step_b (live p && fine f p) (live_at f d (left f p)) (live_at f d (right f p)) (bit (below p.y1) + bit (below p.y6)) (λ (t : T (live p && fine f p)).
    let q = calm_halves f p w c in
    add-le (live_at f d (left f p)) (live_at f d (right f p)) (bit (below p.y1)) (bit (below p.y6)) (up_l f d (left f p) (fit_left_is f p w) c.h1 q.l) (up_r f d (right f p) (fit_right f p w) c.h6 q.r))
