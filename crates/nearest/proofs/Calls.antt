-- The search, then the choice; and the call, step by step as the code comes to it. Assumes nothing.
use Rattle.std.proofs.Common.{Ok, Err}
use mathlib.Core.Path.{◌≡◌, sym, ap, ◌∙◌}
use mathlib.Core.Bool.{true, false, ◌&&◌}
use mathlib.Core.List.{List}
use Prim.Native.Nat.{ℕ}
use lib.Ieee.{Float}
use lib.ListN.{take}
use Rattle.float.specs.Answer.{Answer, ok, refused, outcome}
use Rattle.float.specs.Answer.{◌>>=◌ as chain}
use Rattle.float.specs.Refusal.{number}
use Rattle.float.specs.declared.refusal.Refusal.{Refusal}
use Rattle.float.proofs.Answers.{granted, outcome_ok, outcome_no}
use Rattle.plane.specs.Range.{point_in_range, curve_in_range}
use Rattle.plane.specs.declared.Point.{Point}
use Rattle.plane.specs.declared.Curve.{Curve}
use Rattle.quintic.specs.Heights.{distance_form}
use Rattle.quintic.specs.Tests.{heights_finite}
use Rattle.quintic.specs.declared.points.Section.{Section}
use Rattle.quintic.proofs.Fine.{form_same}
use Rattle.roots.specs.Find.{find_roots}
use Rattle.roots.specs.Tests.{roots_answer}
use Rattle.intercept.proofs.Rounds.{came, gone}
use Rattle.nearest.specs.Choose.{Nearest, choose_of}
use Rattle.nearest.specs.Nearest.{nearest_by, nearest_of, nearest_call}
use Rattle.nearest.specs.Tests.{as_best, run_of}
use Rattle.nearest.specs.declared.choose.Best.{Best}

module _ (c : Curve) (p : Point) (form : Section) where
  abbrev choice : Answer (List Float) → Answer Nearest
  choice a = chain a (λ roots. outcome (choose_of c p roots))

  -- the search was refused
  pub none_found : (l : List Float) (q : Refusal) → roots_answer (Err q) l ≡ find_roots form → refused (number q) ≡ nearest_by c p form
  unfolding nearest_by roots_answer
  none_found l q came_to = ap choice came_to

  -- the search came to n roots, in the numbers l lent to it
  module _ (l : List Float) (n : ℕ) (came_to : roots_answer (Ok n) l ≡ find_roots form) where
    roots_are : ok (take n l) ≡ find_roots form
    unfolding roots_answer
    roots_are = came_to

    module _ (b : Best) (is : b ≡ as_best (choose_of c p (take n l))) where
      best_fine : (choose_of c p (take n l)).fine ≡ b.fine
      unfolding as_best
      best_fine = sym (ap (λ (x : Best). x.fine) is)

      pub chosen : b.fine ≡ true → ok (run_of b).val ≡ nearest_by c p form
      unfolding nearest_by as_best run_of
      chosen h = ap (λ (x : Best). ok (run_of x).val) is ∙ sym (outcome_ok (choose_of c p (take n l)) (best_fine ∙ h)) ∙ ap choice roots_are

      pub unchosen : b.fine ≡ false → refused 6 ≡ nearest_by c p form
      unfolding nearest_by
      unchosen h = sym (outcome_no (choose_of c p (take n l)) (best_fine ∙ h)) ∙ ap choice roots_are

module _ (c : Curve) (p : Point) (tested : curve_in_range c && point_in_range p ≡ true) (form : Section) (is : form ≡ (distance_form c p).val) where
  abbrev search : Answer Section → Answer Nearest
  search a = chain a (nearest_by c p)

  pub searched : heights_finite form ≡ true → nearest_by c p form ≡ nearest_call c p
  unfolding nearest_call nearest_of
  searched h = ap search (came (distance_form c p) heights_finite (form_same c p) form is h) ∙ granted 5 _ tested

  pub unsearched : heights_finite form ≡ false → refused 6 ≡ nearest_call c p
  unfolding nearest_call nearest_of
  unsearched h = ap search (gone (distance_form c p) heights_finite (form_same c p) form is h) ∙ granted 5 _ tested
