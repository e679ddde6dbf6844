-- Numbers as SVG 1.1's path grammar spells them, with at most three decimal places and no exponent, in a text of bytes. A number is taken as long as it goes.
--     number:  sign? digits | sign? digits? "." digits | sign? digits "."
-- Definitions only.
use Rattle.std.specs.Prelude.{ℕ, suc, ◌+◌, ◌-◌, ◌*◌, ◌^◌, Bool, true, false, ◌&&◌, ◌||◌, cond, List, [], ◌∷◌, ◌++◌, ltb, leb, eqb, length, take, drop, get_or}
use Rattle.float.specs.Answer.{Answer, ok, unless}
use Rattle.path.specs.Range.{no_path}
use Rattle.path.specs.Decimals.{signed}
use Rattle.path.specs.declared.Decimal.{Decimal}

-- what was read at the front of a text, and the text behind it
pub record Taken (A : Type 0) : Type 0 where
  pub value : A
  pub rest : List ℕ

abbrev pub taken : {A : Type 0} → A → List ℕ → Taken A
taken a r = record { value = a; rest = r }

-- ---- bytes

-- the byte at the front, and 0, which the grammar does not have, where there is none
abbrev pub front : List ℕ → ℕ
front s = get_or s 0 0

-- all behind it
abbrev pub behind : List ℕ → List ℕ
behind s = drop 1 s

-- blank, tab, newline and carriage return
unfoldable pub is_space : ℕ → Bool
is_space c = eqb c 32 || (eqb c 9 || (eqb c 10 || eqb c 13))

unfoldable pub is_digit : ℕ → Bool
is_digit c = leb 48 c && leb c 57

-- how many bytes at the front are of a kind
unfoldable pub leading : (ℕ → Bool) → List ℕ → ℕ
leading p [] = 0
leading p (c ∷ s) = cond (p c) (suc (leading p s)) 0

-- these bytes, and what is behind them
abbrev pub those : (ℕ → Bool) → List ℕ → List ℕ
those p s = take (leading p s) s

abbrev pub past : (ℕ → Bool) → List ℕ → List ℕ
past p s = drop (leading p s) s

-- ---- numbers

-- the whole number of a row of digits, behind others that made n
unfoldable pub value_from : ℕ → List ℕ → ℕ
value_from n [] = n
value_from n (d ∷ ds) = value_from (10 * n + (d - 48)) ds

-- the number with the digits w before its point and f behind it: there is a digit, and f has at most three
unfoldable pub spelled : Bool → List ℕ → List ℕ → List ℕ → Answer (Taken Decimal)
spelled s w f rest =
    unless no_path (ltb 0 (length w + length f) && leb (length f) 3) (ok (taken (signed s (value_from 0 (w ++ f) * 10 ^ (3 - length f))) rest))

-- behind the sign
unfoldable pub unsigned : Bool → List ℕ → Answer (Taken Decimal)
unsigned s t =
    let w = those is_digit t in
    let r = past is_digit t in
    cond (eqb (front r) 46) (spelled s w (those is_digit (behind r)) (past is_digit (behind r))) (spelled s w [] r)

-- the number at the front of t: `+` is 43 and `-` is 45
unfoldable pub number : List ℕ → Answer (Taken Decimal)
number t = cond (eqb (front t) 43) (unsigned false (behind t)) (cond (eqb (front t) 45) (unsigned true (behind t)) (unsigned false t))
