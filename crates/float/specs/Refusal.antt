-- The refusals and their numbers, and how an answer of the code reads. Definitions only.
use Rattle.std.specs.Prelude.{ℕ, Result, Ok, Err}
use Rattle.float.specs.Answer.{Answer, ok, refused}
use Rattle.float.specs.declared.refusal.Refusal.{Refusal}
use Rattle.float.specs.declared.refusal.Refusal.TheVariants.{TooFew, TooMany, Odd, NoRoom, OutOfRange, NotFinite, TooDeep, BadlyFormed, TooLarge, NoPath, NotJoined}

-- the number of a refusal
abbrev pub number : Refusal → ℕ
number TooFew = 1
number TooMany = 2
number Odd = 3
number NoRoom = 4
number OutOfRange = 5
number NotFinite = 6
number TooDeep = 8
number BadlyFormed = 9
number TooLarge = 10
number NoPath = 11
number NotJoined = 12

-- a value, or the number of the refusal
abbrev pub answer : {A : Type 0} → Result A Refusal → Answer A
answer (Ok a) = ok a
answer (Err q) = refused (number q)

-- a test's refusal by its number, and 0 of one that passes
abbrev pub refusal : {A : Type 0} → Result A Refusal → ℕ
refusal (Ok _) = 0
refusal (Err q) = number q
