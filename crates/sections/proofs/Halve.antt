-- Halving six heights adds no change between deep and not deep, and none of sign (Lemma 2); where the last midpoint is finite, all are. Assumes nothing.
use mathlib.Core.Path.{◌≡◌, ap, ◌∙◌}
use Prim.Native.Nat.{ℕ, zero, suc, ◌+◌, ◌*◌, ◌^◌, ◌≤◌, ◌<◌}
use native.Mathlib.Nat.{zero-mul}
use native.Mathlib.Omega.{arith}
use mathlib.Core.Bool.{Bool, true, false, not, true≢false, false≢true}
use lib.Dec.{T, leb, leb→le, not_T}
use lib.Ieee.{Float, nan, inf, fin, Format, low, up, down, mul, fits}
use lib.Ieee.Fits.{down_pos, add-fits}
use lib.Ieee.Scale.{finite}
use lib.Ieee.Bits.{is_true, is_false}
use Rattle.quintic.specs.declared.numbers.Six.{Six}
use Rattle.sections.specs.Mid.{half, mid, deep, upright, sign}
use Rattle.sections.specs.Halving.{All, q1, q2, q3, q4, q5, r1, r2, r3, r4, s1, s2, s3, t1, t2, u, left, right, fine, vary}
use Rattle.sections.proofs.Signs.{deep-deep, mid_back}
use Rattle.sections.proofs.Calm.{calm_calm}
use Rattle.sections.proofs.Sign.{sign-between}
use Rattle.sections.proofs.Vary.{Between, between, halving}

none : (d z : ℕ) → 0 < d → 2 * d ≤ z → z ≡ 0 → ⊥
none d z h k e = omega arith

pub upright_calm : (f : Format) (z : Float) → T (upright z) → T (not (deep f z))
upright_calm f nan t = tt
upright_calm f (inf s) t = t
upright_calm f (fin false m e) t = tt
upright_calm f (fin true (suc m) e) t = absurd t
upright_calm f (fin true zero e) t =
    not_T (leb (2 * down e) (0 * up e * 2 ^ low f)) (λ (h : T (leb (2 * down e) (0 * up e * 2 ^ low f))).
    none (down e) (0 * up e * 2 ^ low f) (down_pos e) (leb→le (2 * down e) (0 * up e * 2 ^ low f) h) (ap (λ (z : ℕ). z * 2 ^ low f) (zero-mul (up e)) ∙ zero-mul (2 ^ low f)))

-- a midpoint's class lies between its neighbours' classes
pub deep-between : (f : Format) (x y : Float) → T (fits f x) → T (fits f y) → T (finite (mid f x y)) → Between (deep f x) (deep f (mid f x y)) (deep f y)
deep-between f x y v w t = go (deep f x) (deep f y) (deep-deep f x y) (calm_calm f x y v w)
  where
    go : (a b : Bool) → (T a → T b → T (finite (mid f x y)) → T (deep f (mid f x y))) → (T (not a) → T (not b) → T (upright (mid f x y))) → Between a (deep f (mid f x y)) b
    go true true h k = between true (deep f (mid f x y)) true (λ (e : true ≡ true). is_true (deep f (mid f x y)) (h tt tt t))
    go false false h k = between false (deep f (mid f x y)) false (λ (e : false ≡ false). is_false (deep f (mid f x y)) (upright_calm f (mid f x y) (k tt tt)))
    go true false h k = between true (deep f (mid f x y)) false (λ (e : true ≡ false). absurd (true≢false e))
    go false true h k = between false (deep f (mid f x y)) true (λ (e : false ≡ true). absurd (false≢true e))

pub mid-fits : (f : Format) (x y : Float) → T (fits f (mid f x y))
mid-fits f x y = add-fits f (mul f x half) (mul f y half)

-- all midpoints are finite
pub record Rows (f : Format) (p : Six) : Type 0 where
  pub q1-fine : T (finite (q1 f p))
  pub q2-fine : T (finite (q2 f p))
  pub q3-fine : T (finite (q3 f p))
  pub q4-fine : T (finite (q4 f p))
  pub q5-fine : T (finite (q5 f p))
  pub r1-fine : T (finite (r1 f p))
  pub r2-fine : T (finite (r2 f p))
  pub r3-fine : T (finite (r3 f p))
  pub r4-fine : T (finite (r4 f p))
  pub s1-fine : T (finite (s1 f p))
  pub s2-fine : T (finite (s2 f p))
  pub s3-fine : T (finite (s3 f p))
  pub t1-fine : T (finite (t1 f p))
  pub t2-fine : T (finite (t2 f p))
  pub u-fine : T (finite (u f p))

pub rows : (f : Format) (p : Six) → T (fine f p) → Rows f p
rows f p h =
    let t = mid_back f (t1 f p) (t2 f p) h in
    let s = mid_back f (s1 f p) (s2 f p) t.0 in
    let s' = mid_back f (s2 f p) (s3 f p) t.1 in
    let r = mid_back f (r1 f p) (r2 f p) s.0 in
    let r' = mid_back f (r2 f p) (r3 f p) s.1 in
    let r'' = mid_back f (r3 f p) (r4 f p) s'.1 in
    let q = mid_back f (q1 f p) (q2 f p) r.0 in
    let q' = mid_back f (q2 f p) (q3 f p) r.1 in
    let q'' = mid_back f (q3 f p) (q4 f p) r'.1 in
    let q''' = mid_back f (q4 f p) (q5 f p) r''.1 in
    record {
      q1-fine = q.0;
      q2-fine = q.1;
      q3-fine = q'.1;
      q4-fine = q''.1;
      q5-fine = q'''.1;
      r1-fine = r.0;
      r2-fine = r.1;
      r3-fine = r'.1;
      r4-fine = r''.1;
      s1-fine = s.0;
      s2-fine = s.1;
      s3-fine = s'.1;
      t1-fine = t.0;
      t2-fine = t.1;
      u-fine = h;
    }

pub finite-six : (f : Format) (p : Six) → Rows f p → All finite p
finite-six f p h =
    let b = mid_back f p.y1 p.y2 h.q1-fine in
    let b' = mid_back f p.y3 p.y4 h.q3-fine in
    let b'' = mid_back f p.y5 p.y6 h.q5-fine in
    record { h1 = b.0; h2 = b.1; h3 = b'.0; h4 = b'.1; h5 = b''.0; h6 = b''.1 }

-- the heights of the halves are of the format
module _ (f : Format) (p : Six) (w : All (fits f) p) where
  pub fit_left_is : All (fits f) (left f p)
  fit_left_is = record {
    h1 = w.h1;
    h2 = mid-fits f p.y1 p.y2;
    h3 = mid-fits f (q1 f p) (q2 f p);
    h4 = mid-fits f (r1 f p) (r2 f p);
    h5 = mid-fits f (s1 f p) (s2 f p);
    h6 = mid-fits f (t1 f p) (t2 f p);
  }

  pub fit_right : All (fits f) (right f p)
  fit_right = record {
    h1 = mid-fits f (t1 f p) (t2 f p);
    h2 = mid-fits f (s2 f p) (s3 f p);
    h3 = mid-fits f (r3 f p) (r4 f p);
    h4 = mid-fits f (q4 f p) (q5 f p);
    h5 = mid-fits f p.y5 p.y6;
    h6 = w.h6;
  }

  -- a class that a midpoint takes over: V(left) + V(right) ≤ V(whole)
  class_halving : (c : Float → Bool) → ((x y : Float) → T (fits f x) → T (fits f y) → T (finite (mid f x y)) → Between (c x) (c (mid f x y)) (c y))
      → Rows f p → vary c (left f p) + vary c (right f p) ≤ vary c p
  class_halving c law h =
      halving (c p.y1) (c p.y2) (c p.y3) (c p.y4) (c p.y5) (c p.y6) (c (q1 f p)) (c (q2 f p)) (c (q3 f p)) (c (q4 f p)) (c (q5 f p)) (c (r1 f p)) (c (r2 f p)) (c (r3 f p)) (c (r4 f p)) (c (s1 f p)) (c (s2 f p)) (c (s3 f p)) (c (t1 f p)) (c (t2 f p)) (c (u f p))
      (record {
        B0 = law p.y1 p.y2 w.h1 w.h2 h.q1-fine;
        B1 = law p.y2 p.y3 w.h2 w.h3 h.q2-fine;
        B2 = law p.y3 p.y4 w.h3 w.h4 h.q3-fine;
        B3 = law p.y4 p.y5 w.h4 w.h5 h.q4-fine;
        B4 = law p.y5 p.y6 w.h5 w.h6 h.q5-fine;
        C0 = law (q1 f p) (q2 f p) (mid-fits f p.y1 p.y2) (mid-fits f p.y2 p.y3) h.r1-fine;
        C1 = law (q2 f p) (q3 f p) (mid-fits f p.y2 p.y3) (mid-fits f p.y3 p.y4) h.r2-fine;
        C2 = law (q3 f p) (q4 f p) (mid-fits f p.y3 p.y4) (mid-fits f p.y4 p.y5) h.r3-fine;
        C3 = law (q4 f p) (q5 f p) (mid-fits f p.y4 p.y5) (mid-fits f p.y5 p.y6) h.r4-fine;
        D0 = law (r1 f p) (r2 f p) (mid-fits f (q1 f p) (q2 f p)) (mid-fits f (q2 f p) (q3 f p)) h.s1-fine;
        D1 = law (r2 f p) (r3 f p) (mid-fits f (q2 f p) (q3 f p)) (mid-fits f (q3 f p) (q4 f p)) h.s2-fine;
        D2 = law (r3 f p) (r4 f p) (mid-fits f (q3 f p) (q4 f p)) (mid-fits f (q4 f p) (q5 f p)) h.s3-fine;
        E0 = law (s1 f p) (s2 f p) (mid-fits f (r1 f p) (r2 f p)) (mid-fits f (r2 f p) (r3 f p)) h.t1-fine;
        E1 = law (s2 f p) (s3 f p) (mid-fits f (r2 f p) (r3 f p)) (mid-fits f (r3 f p) (r4 f p)) h.t2-fine;
        U = law (t1 f p) (t2 f p) (mid-fits f (s1 f p) (s2 f p)) (mid-fits f (s2 f p) (s3 f p)) h.u-fine;
      })

  pub deep_down : Rows f p → vary (deep f) (left f p) + vary (deep f) (right f p) ≤ vary (deep f) p
  deep_down h = class_halving (deep f) (deep-between f) h

  pub sign_down : Rows f p → vary sign (left f p) + vary sign (right f p) ≤ vary sign p
  sign_down h = class_halving sign (λ x y v w. sign-between f x y) h
