-- What a refused answer comes to. Assumes nothing.
use Rattle.std.proofs.Common.{◌≡◌, ℕ, refl, ap, ◌∙◌, sym, cond, Result, Ok, Err}
use Rattle.std.specs.Prelude.{eqb}
use Rattle.std.specs.Result.{IsErrAnd}
use Rattle.std.proofs.lemmas.Result.{err_from_is_err_and}
use Rattle.float.specs.Answer.{ok, refused}
use Rattle.float.specs.Refusal.{answer, refusal, number}
use Rattle.float.specs.declared.refusal.Refusal.{Refusal}
use Rattle.float.specs.declared.refusal.Refusal.TheVariants.{TooFew, TooMany, Odd, NoRoom, OutOfRange, NotFinite, TooDeep, BadlyFormed, TooLarge, NoPath, NotJoined}

-- what a `?` hands on is refused as the call was
pub handed_on : {A : Type 0} (r : Result A Refusal) (q : Refusal) → IsErrAnd r (λ y. y ≡ q) → answer r ≡ refused (number q)
handed_on r q h =
    let p = err_from_is_err_and r h in
    ap answer p.1 ∙ ap (λ y. refused (number y)) p.2

-- and so is a test
pub test_handed_on : {A : Type 0} (r : Result A Refusal) (q : Refusal) → IsErrAnd r (λ y. y ≡ q) → refusal r ≡ number q
test_handed_on r q h =
    let p = err_from_is_err_and r h in
    ap refusal p.1 ∙ ap number p.2

-- ---- an answer tells what the code gave: its case, its value and its refusal
-- the refusal that has a number
by_number : ℕ → Refusal
by_number n =
    cond (eqb n 1) TooFew
    (cond (eqb n 2) TooMany
    (cond (eqb n 3) Odd
    (cond (eqb n 4) NoRoom
    (cond (eqb n 5) OutOfRange
    (cond (eqb n 6) NotFinite
    (cond (eqb n 8) TooDeep
    (cond (eqb n 9) BadlyFormed
    (cond (eqb n 10) TooLarge
    (cond (eqb n 11) NoPath NotJoined)))))))))

by_its_number : (q : Refusal) → by_number (number q) ≡ q
unfolding by_number
by_its_number TooFew = refl
by_its_number TooMany = refl
by_its_number Odd = refl
by_its_number NoRoom = refl
by_its_number OutOfRange = refl
by_its_number NotFinite = refl
by_its_number TooDeep = refl
by_its_number BadlyFormed = refl
by_its_number TooLarge = refl
by_its_number NoPath = refl
by_its_number NotJoined = refl

-- no two refusals share a number
pub numbers_differ : (q r : Refusal) → number q ≡ number r → q ≡ r
numbers_differ q r e = sym (by_its_number q) ∙ ap by_number e ∙ by_its_number r

-- and no two results an answer
pub same_answer : {A : Type 0} (r s : Result A Refusal) → answer r ≡ answer s → r ≡ s
same_answer (Ok a) (Ok b) e = cc
same_answer (Ok a) (Err q) e = cc
same_answer (Err q) (Ok b) e = cc
same_answer (Err q) (Err r) e = let n : number q ≡ number r = cc in ap Err (numbers_differ q r n)

-- what an accepted and a refused answer come from
pub accepted : {A : Type 0} (r : Result A Refusal) (a : A) → answer r ≡ ok a → r ≡ Ok a
accepted r a e = same_answer r (Ok a) e
