-- The tangents at a mark by what the code asks: whether a block ends there. Assumes nothing.
use Prim.Native.Nat.{ℕ, zero, suc, ◌+◌, ◌*◌, ◌%◌, ◌<◌}
use native.Mathlib.Omega.{arith}
use native.Mathlib.Nat.{mod-eq_of_lt}
use mathlib.Core.Path.{◌≡◌, refl, sym, ap, ◌∙◌}
use mathlib.Core.Bool.{Bool, true, false, ◌||◌}
use mathlib.Core.List.{List}
use lib.ListN.{length}
use lib.Dec.{eqb}
use lib.Ieee.{Float}
use borrow.Author.Tests.{eq-eqb}
use Rattle.float.specs.Answer.{Answer, ok, refused, outcome}
use Rattle.plane.specs.declared.Point.{Point}
use Rattle.ring.specs.Ring.{whole}
use Rattle.ring.specs.declared.Outline.TheVariants.{Closed}
use Rattle.ring.proofs.Whole.{again-small, halves}
use Rattle.joints.specs.Joints.{Inner}
use Rattle.tangents.specs.declared.Ways.{Ways}
use Rattle.tangents.specs.Ways.{ways_at}
use Rattle.tangents.proofs.Blocks.{ways_as-closed}
use Rattle.parts.specs.declared.Heading.{Heading}
use Rattle.parts.specs.Headings.{outline_in, marks_in, outer, one, tangent_in}

-- ---- a block's end, or a cut

module _ (n size j : ℕ) where
  -- a mark where no block ends has one before it and one after it
  pub inside : outer n size j ≡ false → 0 < size → j < n → (0 < j) × (j + 1 < n)
  unfolding outer
  inside o z l = (positive j o, before (eqb (j % size) 0) (eqb (j + 1) n) refl o)
    where
      positive : (i : ℕ) → (eqb (i % size) 0 || eqb (i + 1) n) ≡ false → 0 < i
      positive zero q = let e : eqb (0 % size) 0 ≡ true = eq-eqb (0 % size) 0 (mod-eq_of_lt z) in let f : true ≡ false = ap (λ (b : Bool). b || eqb 1 n) (sym e) ∙ q in let u : ◌≡◌ {A = ℕ} 0 1 = cc in absurd (omega arith)
      positive (suc i) q = omega arith

      before : (a b : Bool) → eqb (j + 1) n ≡ b → (a || b) ≡ false → j + 1 < n
      before a true e q = absurd (never a q)
        where
          never : (a : Bool) → (a || true) ≡ false → ⊥
          never true q = let u : ◌≡◌ {A = ℕ} 0 1 = cc in omega arith
          never false q = let u : ◌≡◌ {A = ℕ} 0 1 = cc in omega arith
      before a false e q = let d : (j + 1 ≡ n → ⊥) = λ i. let u : true ≡ false = sym (eq-eqb (j + 1) n i) ∙ e in let v : ◌≡◌ {A = ℕ} 0 1 = cc in omega arith in omega (arith, d)

module _ (side : Ways → Point) (own : Answer Point) (ms : List Float) (n size j : ℕ) where
  pub at_outer : outer n size j ≡ true → (r : Answer Point) → r ≡ own → r ≡ tangent_in side own ms n size j
  unfolding tangent_in
  at_outer o r q = rw o q

  pub at_cut : outer n size j ≡ false → tangent_in side own ms n size j ≡ one side (outcome (ways_at ms j))
  unfolding tangent_in
  at_cut o = rw o

-- ---- the tangents at a cut

-- by a test that says that no block ends there
module _ (h : Heading) (ms : List Float) (n size j : ℕ) (z : 0 < size) (l : length (marks_in h ms) ≡ 2 * n) (b : j < n) (t : Bool) (is : t ≡ outer n size j) (f : t ≡ false) where
  o : outer n size j ≡ false
  o = sym is ∙ f

  pub cut_inner : Inner (outline_in h) ms j
  cut_inner = let i = inside n size j o z b in let m = halves (outline_in h) ms n l (omega (arith, i)) in (m.0, (i.0, omega (arith, i, m.1)))

  pub cut_closed : Inner Closed ms j
  cut_closed = let i = cut_inner in let s = again-small (outline_in h) in (i.0, (i.1.0, omega (arith, i)))

  -- either of them, read as of a closed outline
  module _ (side : Ways → Point) (own : Answer Point) where
    answered : one side (outcome (ways_at (whole Closed ms) j)) ≡ tangent_in side own (marks_in h ms) n size j
    answered = ap (one side) (ap outcome (ways_as-closed (outline_in h) ms j cut_inner)) ∙ sym (at_cut side own (marks_in h ms) n size j o)

    pub cut_lost : (q : ℕ) → refused q ≡ outcome (ways_at (whole Closed ms) j) → refused q ≡ tangent_in side own (marks_in h ms) n size j
    cut_lost q e = ap (one side) e ∙ answered

    pub cut_found : (w : Ways) → ok w ≡ outcome (ways_at (whole Closed ms) j) → ok (side w) ≡ tangent_in side own (marks_in h ms) n size j
    cut_found w e = ap (one side) e ∙ answered
