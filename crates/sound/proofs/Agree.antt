-- Two answers of the checker that meet its promise are the same. Assumes nothing.
use Prim.Native.Nat.{ℕ}
use native.Mathlib.Omega.{arith}
use mathlib.Core.Path.{◌≡◌, refl, sym, ap, ◌∙◌}
use Rattle.float.specs.Answer.{Answer}
use Rattle.float.specs.Refusal.{number}
use Rattle.float.proofs.Refusals.{numbers_differ}
use Rattle.checker.specs.declared.Checked.{Checked}
use Rattle.checker.specs.declared.Checked.TheVariants.{Passed, Faulty, Refused}
use Rattle.checker.specs.Check.{Verdict, checked_answer}

pub same_checked : (r r' : Checked) → checked_answer r ≡ checked_answer r' → r ≡ r'
unfolding checked_answer
same_checked Passed Passed e = refl
same_checked Passed (Faulty f) e = let z : ◌≡◌ {A = ℕ} 0 1 = cc in absurd (omega arith)
same_checked Passed (Refused q) e = let z : ◌≡◌ {A = ℕ} 0 1 = cc in absurd (omega arith)
same_checked (Faulty f) Passed e = let z : ◌≡◌ {A = ℕ} 0 1 = cc in absurd (omega arith)
same_checked (Faulty f) (Faulty g) e = let h : f ≡ g = cc in ap Faulty h
same_checked (Faulty f) (Refused q) e = let z : ◌≡◌ {A = ℕ} 0 1 = cc in absurd (omega arith)
same_checked (Refused q) Passed e = let z : ◌≡◌ {A = ℕ} 0 1 = cc in absurd (omega arith)
same_checked (Refused q) (Faulty f) e = let z : ◌≡◌ {A = ℕ} 0 1 = cc in absurd (omega arith)
same_checked (Refused q) (Refused p) e = let h : number q ≡ number p = cc in ap Refused (numbers_differ q p h)

pub agree : (X : Answer Verdict) (r r' : Checked) → checked_answer r ≡ X → checked_answer r' ≡ X → r ≡ r'
agree X r r' h g = same_checked r r' (h ∙ sym g)
