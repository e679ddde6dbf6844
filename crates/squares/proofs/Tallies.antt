-- The sums over the marks were fine exactly where the five numbers at their end are finite. Assumes nothing.
use mathlib.Core.Path.{◌≡◌, refl}
use mathlib.Core.Bool.{true, ◌&&◌}
use mathlib.Core.List.{List}
use Prim.Native.Nat.{ℕ, zero, suc}
use lib.ListN.{length}
use lib.Ieee.{Float, binary64, of_bits}
use Rattle.float.specs.Number.{finite}
use Rattle.float.specs.Folds.{upto}
use Rattle.float.proofs.Truth.{and_left, and_right, and-false, both, same, is_so}
use Rattle.float.proofs.Strict.{Fin, add-finite, mul-finite}
use Rattle.float.proofs.Answers.{Fine}
use Rattle.float.proofs.Folds.{upto_good}
use Rattle.plane.specs.declared.Point.{Point}
use Rattle.plane.proofs.Fine.{Good, plus-fine, minus-fine, times-fine, dot-fine}
use Rattle.squares.specs.Sums.{weights_of, tmp_of, gather_of, sum_at, zeros, sums_of}
use Rattle.squares.specs.Tests.{sums_finite}
use Rattle.squares.specs.declared.sums.Weights.{Weights}
use Rattle.squares.specs.declared.sums.Sums.{Sums}

abbrev GoodSums : Sums → Type 0
GoodSums s = Fin s.c00 × Fin s.c01 × Fin s.c11 × Fin s.x0 × Fin s.x1

-- ---- one mark, from the end backwards
weights_fine : (t : Float) → let w = (weights_of t).val in Fin w.b0 → Fin w.b1 → Fin w.b2 → Fin w.b3 → Fine (weights_of t)
unfolding weights_of
weights_fine t g0 g1 g2 g3 =
    let a = mul-finite binary64 _ _ g0 in
    let b = mul-finite binary64 _ _ g1 in
    let c = mul-finite binary64 _ _ g2 in
    let d = mul-finite binary64 _ _ g3 in
    cc

tmp_fine : (first last p : Point) (w : Weights) → Good (tmp_of first last p w).val → Fine (tmp_of first last p w) × Fin w.b0 × Fin w.b1 × Fin w.b2 × Fin w.b3
unfolding tmp_of
tmp_fine first last p w g =
    let r = minus-fine _ _ g in
    let s3 = plus-fine _ _ r.2 in
    let s2 = plus-fine _ _ s3.1 in
    let s1 = plus-fine _ _ s2.1 in
    let t3 = times-fine _ _ s3.2 in
    let t2 = times-fine _ _ s2.2 in
    let t1 = times-fine _ _ s1.2 in
    let t0 = times-fine _ _ s1.1 in
    (cc, t0.2, t1.2, t2.2, t3.2)

module _ (st et first last p : Point) (t : Float) (s : Sums) where
  gather-fine : GoodSums (gather_of st et first last p t s).val → Fine (gather_of st et first last p t s) × GoodSums s
  unfolding gather_of
  gather-fine g =
      let a = add-finite binary64 _ _ g.0 in
      let b = add-finite binary64 _ _ g.1 in
      let c = add-finite binary64 _ _ g.2 in
      let d = add-finite binary64 _ _ g.3 in
      let e = add-finite binary64 _ _ g.4 in
      let d00 = dot-fine _ _ a.1 in
      let d01 = dot-fine _ _ b.1 in
      let d11 = dot-fine _ _ c.1 in
      let dx0 = dot-fine _ _ d.1 in
      let dx1 = dot-fine _ _ e.1 in
      let a0 = times-fine _ _ d00.1 in
      let a1 = times-fine _ _ d11.1 in
      let r = tmp_fine _ _ _ _ dx0.2 in
      let w = weights_fine t r.1 r.2 r.3 r.4 in
      (cc, (a.0, b.0, c.0, d.0, e.0))

  gather_good : Fine (gather_of st et first last p t s) → GoodSums (gather_of st et first last p t s).val
  unfolding gather_of
  gather_good h = (
    is_so (gather_of st et first last p t s).fine (finite (gather_of st et first last p t s).val.c00) h (λ e. simp (e, and-false)),
    is_so (gather_of st et first last p t s).fine (finite (gather_of st et first last p t s).val.c01) h (λ e. simp (e, and-false)),
    is_so (gather_of st et first last p t s).fine (finite (gather_of st et first last p t s).val.c11) h (λ e. simp (e, and-false)),
    is_so (gather_of st et first last p t s).fine (finite (gather_of st et first last p t s).val.x0) h (λ e. simp (e, and-false)),
    is_so (gather_of st et first last p t s).fine (finite (gather_of st et first last p t s).val.x1) h (λ e. simp (e, and-false)),
  )

-- ---- the test of the sums
good_sums : (s : Sums) → GoodSums s → sums_finite s ≡ true
unfolding sums_finite
good_sums s g = both _ _ (both _ _ g.0 g.1) (both _ _ g.2 (both _ _ g.3 g.4))

sums_good : (s : Sums) → sums_finite s ≡ true → GoodSums s
unfolding sums_finite
sums_good s h =
    let a = and_left (finite s.c00 && finite s.c01) _ h in
    let b = and_right (finite s.c00 && finite s.c01) _ h in
    let c = and_right (finite s.c11) _ b in
    (and_left _ _ a, and_right (finite s.c00) _ a, and_left _ _ b, and_left _ _ c, and_right (finite s.x0) _ c)

-- ---- all marks
module _ (ms ts : List Float) (st et : Point) where
  back : (k : ℕ) (s : Sums) → GoodSums (sum_at ms ts st et k s).val → Fine (sum_at ms ts st et k s) × GoodSums s
  unfolding sum_at
  back k s g = gather-fine st et _ _ _ _ s g

  on : (n : ℕ) → Fine (upto n zeros (sum_at ms ts st et)) → GoodSums (upto n zeros (sum_at ms ts st et)).val
  unfolding upto sum_at finite of_bits
  on zero h = (refl, refl, refl, refl, refl)
  on (suc n) h = gather_good st et _ _ _ _ _ (and_right (upto n zeros (sum_at ms ts st et)).fine _ h)

  pub sums_same : (sums_of ms ts st et).fine ≡ sums_finite (sums_of ms ts st et).val
  unfolding sums_of
  sums_same =
      same _ _
      (λ h. good_sums _ (on (length ts) h))
      (λ h. upto_good zeros (sum_at ms ts st et) GoodSums back (length ts) (sums_good _ h))
