-- The curves of an exported text. Assumes nothing.
use Prim.Native.Nat.{ℕ, zero, suc, ◌-◌, ◌<◌}
use mathlib.Core.Path.{◌≡◌, refl, ap}
use mathlib.Core.Bool.{Bool, true, false}
use mathlib.Core.List.{List, [], ◌∷◌}
use native.Mathlib.Omega.{arith}
use lib.Ieee.{Float, eq}
use Rattle.float.specs.Answer.{ok}
use Rattle.float.specs.Number.{finite}
use Rattle.float.proofs.Bits.{no_number}
use Rattle.float.proofs.Truth.{is_so, both}
use Rattle.plane.specs.Plane.{equal}
use Rattle.plane.specs.declared.Point.{Point}
use Rattle.plane.specs.declared.Curve.{Curve}
use Rattle.path.specs.Curves.{segments_small, path_small, point_at, curve_from, closing, curves_from, curves_of}
use Rattle.path.specs.Text.{path_text}
use Rattle.import.specs.Import.{read_of}
use Rattle.path_trips.specs.Trips.{near, near_point, near_curve, row}
use Rattle.path_trips.proofs.Near.{NearP, NearC, point-small, curve-small}
use Rattle.path_trips.proofs.Steps.{place_of, segment_of}
use Rattle.path_trips.proofs.Paths.{next, path-back}

-- what export tests of k curves, a ring's last joint among them
pub record Whole (ring : Bool) (k : ℕ) (f : ℕ → Curve) : Type 0 where
  pub some : 0 < k
  pub nears : (i : ℕ) → i < k → NearC (f i)
  pub joints : (i : ℕ) → suc i < k → (f i).end ≡ (f (suc i)).start
  pub round : ring ≡ true → (f (k - 1)).end ≡ (f 0).start

-- ---- small

small_row : (n : ℕ) (f : ℕ → Curve) → ((i : ℕ) → i < n → NearC (f i)) → segments_small (row n (λ i. segment_of (f i))) ≡ true
unfolding segments_small row
small_row zero f h = refl
small_row (suc n) f h = both _ _ (curve-small (h 0 (omega arith))) (small_row n (next f) (λ i l. h (suc i) (omega arith)))

-- ---- curves

point-near : (p : Point) → point_at (place_of p) ≡ near_point p
unfolding point_at near_point near
point-near p = refl

self : (x : Float) → finite x ≡ true → eq x x ≡ true
unfolding finite
self x h = is_so (finite x) (eq x x) h (λ e. ap finite (no_number x e))

-- a path is where it is
equal_self : {p : Point} → NearP p → equal (near_point p) (near_point p) ≡ true
unfolding equal near_point
equal_self {p} n = both _ _ (self (near p.x) n.x.finite_is) (self (near p.y) n.y.finite_is)

-- so Z draws no line
closing_none : (ring : Bool) (m p : Point) → (ring ≡ true → equal p m ≡ true) → closing ring m p ≡ []
unfolding closing
closing_none true m p h = rw (h refl)
closing_none false m p h = refl

from_near : (p : Point) (c : Curve) → p ≡ near_point c.start → curve_from p (segment_of c) ≡ near_curve c
unfolding curve_from near_curve
from_near p c e = rw (e, point-near c.cp1, point-near c.cp2, point-near c.end)

curves-back : (ring : Bool) (m p : Point) (n : ℕ) (f : ℕ → Curve) → p ≡ near_point (f 0).start → ((i : ℕ) → suc i < suc n → (f i).end ≡ (f (suc i)).start) → closing ring m (near_point (f n).end) ≡ []
    → curves_from ring m p (row (suc n) (λ i. segment_of (f i))) ≡ row (suc n) (λ i. near_curve (f i))
unfolding curves_from row near_curve
curves-back ring m p zero f e j z = rw (from_near p (f 0) e) (ap (λ (l : List Curve). near_curve (f 0) ∷ l) z)
curves-back ring m p (suc n) f e j z =
    let r = curves-back ring m (near_point (f 0).end) n (next f) (ap near_point (j 0 (omega arith))) (λ i l. j (suc i) (omega arith)) z in
    rw (from_near p (f 0) e) (ap (λ (l : List Curve). near_curve (f 0) ∷ l) r)

-- ---- what is read

module _ (ring : Bool) (n : ℕ) (f : ℕ → Curve) (w : Whole ring (suc n) f) where
  -- Z finds the path at its start
  closed-back : closing ring (near_point (f 0).start) (near_point (f n).end) ≡ []
  closed-back = closing_none ring (near_point (f 0).start) (near_point (f n).end) met
    where
      met : ring ≡ true → equal (near_point (f n).end) (near_point (f 0).start) ≡ true
      met h =
          let e : suc n - 1 ≡ n = omega arith in
          let q : (f n).end ≡ (f 0).start = rw e at (w.round h) in
          rw q (equal_self (w.nears 0 (omega arith)).start)

  curves_are : curves_from ring (near_point (f 0).start) (near_point (f 0).start) (row (suc n) (λ i. segment_of (f i))) ≡ row (suc n) (λ i. near_curve (f i))
  curves_are = curves-back ring (near_point (f 0).start) (near_point (f 0).start) n f refl w.joints closed-back

  read_some : read_of (path_text ring (suc n) f) ≡ ok (record { curves = row (suc n) (λ i. near_curve (f i)); closed = ring })
  unfolding read_of path_small curves_of
  read_some =
      rw (path-back ring (suc n) f, point-small (w.nears 0 (omega arith)).start, small_row (suc n) f w.nears, point-near (f 0).start)
      (ap (λ (l : List Curve). ok (record { curves = l; closed = ring })) curves_are)

pub read_back : (ring : Bool) (k : ℕ) (f : ℕ → Curve) → Whole ring k f → read_of (path_text ring k f) ≡ ok (record { curves = row k (λ i. near_curve (f i)); closed = ring })
read_back ring zero f w = absurd (omega (arith, w.some))
read_back ring (suc n) f w = read_some ring n f w
