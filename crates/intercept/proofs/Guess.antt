-- The first guess was fine exactly where the section's width and the guess itself are finite. Assumes nothing.
use mathlib.Core.Path.{◌≡◌, refl, sym, ◌∙◌}
use mathlib.Core.Bool.{Bool, true, false, ◌&&◌}
use lib.Ieee.{Float, binary64, sub}
use Rattle.float.specs.Number.{finite}
use Rattle.float.specs.Answer.{ok, refused, outcome}
use Rattle.float.proofs.Truth.{never, and_left, and_right, and-false, same, is_so}
use Rattle.float.proofs.Strict.{sub-finite, div-finite}
use Rattle.float.proofs.Answers.{Fine, outcome_ok, outcome_no}
use Rattle.quintic.specs.declared.points.Section.{Section}
use Rattle.flat.proofs.Baseline.{neg-back, coefficients-fine}
use Rattle.intercept.specs.Intercept.{guess_of}

-- ---- where the baseline meets the axis
module _ (s : Section) where
  abbrev G : Float
  G = (guess_of s).val

  abbrev width : Float
  width = sub binary64 s.w6.x s.w1.x

  guess_on : finite width && finite G ≡ true → Fine (guess_of s)
  unfolding guess_of
  guess_on h =
      let w = and_left (finite width) (finite G) h in
      let g = and_right (finite width) (finite G) h in
      let t = div-finite binary64 _ _ g in
      let r = sub-finite binary64 _ _ t in
      let l = coefficients-fine s.w1 s.w6 (neg-back _ (div-finite binary64 _ _ r.0)) in
      cc

  guess_off : finite width && finite G ≡ false → (guess_of s).fine ≡ false
  unfolding guess_of
  guess_off h = go (finite width) (finite G) refl refl h
    where
      go : (a b : Bool) → finite width ≡ a → finite G ≡ b → a && b ≡ false → (guess_of s).fine ≡ false
      go false b p q h = simp (p, and-false)
      go true false p q h = simp (q, and-false)
      go true true p q h = never (sym h)

  guess-fine : (guess_of s).fine ≡ finite width && finite G
  guess-fine = sym (same (finite width && finite G) (guess_of s).fine guess_on (λ k. is_so (guess_of s).fine (finite width && finite G) k guess_off))

  -- by the code's test
  pub guess_is : finite width && finite G ≡ true → ok G ≡ outcome (guess_of s)
  guess_is k = sym (outcome_ok (guess_of s) (guess-fine ∙ k))

  pub guess_lost : finite width && finite G ≡ false → refused 6 ≡ outcome (guess_of s)
  guess_lost k = sym (outcome_no (guess_of s) (guess-fine ∙ k))
