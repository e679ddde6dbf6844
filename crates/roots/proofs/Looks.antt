-- A look at a section, step by step as the code comes to it. Assumes nothing.
use mathlib.Core.Path.{◌≡◌, sym, ap, ◌∙◌}
use mathlib.Core.Bool.{Bool, true, false, cond}
use Prim.Native.Nat.{ℕ, ◌<◌, ◌≤◌}
use borrow.Author.Tests.{eq-eqb, ne_eqb, lt-ltb, le-ltb}
use lib.Ieee.{Float}
use Rattle.float.specs.Answer.{Answer, ok, refused, outcome}
use Rattle.float.specs.Answer.{◌>>=◌ as chain}
use Rattle.float.proofs.Answers.{granted, denied}
use Rattle.quintic.specs.Points.{subdivide6_of}
use Rattle.quintic.specs.Tests.{halves_finite}
use Rattle.quintic.specs.declared.points.Section.{Section}
use Rattle.quintic.specs.declared.points.Halves.{Halves}
use Rattle.quintic.proofs.Fine.{subdivide6_same}
use Rattle.flat.specs.Flat.{crossings, flat_enough}
use Rattle.intercept.specs.Intercept.{root_of}
use Rattle.intercept.proofs.Rounds.{came, gone}
use Rattle.roots.specs.Find.{half, root_seen, halve, look_of}
use Rattle.roots.specs.declared.find.Look.{Look}
use Rattle.roots.specs.declared.find.Look.TheVariants.{Nothing, Root, Halved}
use Rattle.roots.specs.Tests.{one_of}

-- ---- what is seen
pub seen-root : (s : Section) (a : Answer Float) → a ≡ outcome (root_of s) → chain a (λ t. ok (Root t)) ≡ root_seen s
unfolding root_seen
seen-root s a k = ap (λ a. chain a (λ t. ok (Root t))) k

module _ (s : Section) (depth : ℕ) where
  abbrev parts : Answer Halves → Answer Look
  parts a = chain a (λ h. ok (Halved h))

  pub deep : 64 ≤ depth → refused 8 ≡ halve s depth
  unfolding halve
  deep k = denied 8 _ (le-ltb _ _ k)

  module _ (low : depth < 64) (h : Halves) (is : h ≡ (subdivide6_of half s).val) where
    pub halved_on : halves_finite h ≡ true → ok (Halved h) ≡ halve s depth
    unfolding halve
    halved_on k = ap parts (came (subdivide6_of half s) halves_finite (subdivide6_same half s) h is k) ∙ granted 8 _ (lt-ltb _ _ low)

    pub halved_off : halves_finite h ≡ false → refused 6 ≡ halve s depth
    unfolding halve
    halved_off k = ap parts (gone (subdivide6_of half s) halves_finite (subdivide6_same half s) h is k) ∙ granted 8 _ (lt-ltb _ _ low)

  -- ---- one crossing
  abbrev either : Answer Bool → Answer Look
  either a = chain a (λ flat. cond flat (root_seen s) (halve s depth))

  pub one_off : (q : ℕ) → refused q ≡ outcome (flat_enough s) → refused q ≡ one_of s depth
  unfolding one_of
  one_off q k = ap either k

  pub one_on : (flat : Bool) → ok flat ≡ outcome (flat_enough s) → cond flat (root_seen s) (halve s depth) ≡ one_of s depth
  unfolding one_of
  one_on flat k = ap either k

  -- ---- by the number of crossings
  module _ (n : ℕ) (is : n ≡ crossings s) where
    pub look_none : n ≡ 0 → ok Nothing ≡ look_of s depth
    unfolding look_of
    look_none k = simp (eq-eqb _ _ (sym is ∙ k))

    pub look_one : (n ≡ 0 → ⊥) → n ≡ 1 → one_of s depth ≡ look_of s depth
    unfolding look_of one_of
    look_one j k = simp (ne_eqb _ _ (λ e. j (is ∙ e)), eq-eqb _ _ (sym is ∙ k))

    pub look_more : (n ≡ 0 → ⊥) → (n ≡ 1 → ⊥) → halve s depth ≡ look_of s depth
    unfolding look_of
    look_more j k = simp (ne_eqb _ _ (λ e. j (is ∙ e)), ne_eqb _ _ (λ e. k (is ∙ e)))
