-- What reading a number at a place of a text answers. Definitions only.
use Rattle.std.specs.Prelude.{ℕ, suc, ◌+◌, ◌-◌, ◌*◌, ◌^◌, min, Bool, ◌&&◌, ◌||◌, cond, List, ltb, leb, drop, Option, Some, None}
use Rattle.float.specs.Answer.{Answer, ok, refused}
use Rattle.path.specs.Decimals.{most, signed}
use Rattle.path.specs.Range.{no_path}
use Rattle.path.specs.Numbers.{Taken, taken, is_digit, leading, those, value_from}
use Rattle.path.specs.declared.Decimal.{Decimal}
use Rattle.numerals.specs.declared.Digits.{Digits}
use Rattle.numerals.specs.declared.Numeral.{Numeral}

-- a count that goes no further than one above 1,000,000,000 in thousandths: all above that are refused alike
abbrev pub cap : ℕ → ℕ
cap n = min n (suc most)

-- the value of a row of digits and where it ends, from a place of a text, behind others that made v
abbrev pub digits_of : List ℕ → ℕ → ℕ → Digits
digits_of T at v = record { value = cap (value_from v (those is_digit (drop at T))); end = at + leading is_digit (drop at T) }

-- the number of w digits before the point and p behind it, which make v
unfoldable pub numeral_of : Bool → ℕ → ℕ → ℕ → ℕ → Option Numeral
numeral_of s v w p rest = cond ((ltb 0 w || ltb 0 p) && leb p 3) (Some (record { decimal = signed s (cap (v * 10 ^ (3 - p))); rest = rest })) None

unfoldable pub capped : Decimal → Decimal
capped d = record { negative = d.negative; thousandths = cap d.thousandths }

-- what was taken, with another value made of it
abbrev pub mapped : {A B : Type 0} → (A → B) → Answer (Taken A) → Answer (Taken B)
mapped f (ok n) = ok (taken (f n.value) n.rest)
mapped f (refused q) = refused q

-- a number, and the text behind it
abbrev pub numeral_answer : List ℕ → Option Numeral → Answer (Taken Decimal)
numeral_answer T (Some n) = ok (taken n.decimal (drop n.rest T))
numeral_answer T None = refused no_path

-- the definition's answer, with its number capped
abbrev pub read : Answer (Taken Decimal) → Answer (Taken Decimal)
read a = mapped capped a
