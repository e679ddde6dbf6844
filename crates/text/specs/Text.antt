-- Whole numbers as text, in ASCII. Definitions only.
use Rattle.std.specs.Prelude.{ℕ, zero, suc, ◌+◌, ◌/◌, ◌%◌, ◌^◌, cond, List, [], ◌∷◌, ◌++◌, ltb}

-- the character of a digit: 0 to 9, and then A to F
unfoldable pub digit_char : ℕ → ℕ
digit_char d = cond (ltb d 10) (48 + d) (55 + d)

-- the last digits of n in base ten, at most f of them, without leading zeros
unfoldable pub last_digits : ℕ → ℕ → List ℕ
last_digits zero n = []
last_digits (suc f) n = cond (ltb n 10) [] (last_digits f (n / 10)) ++ (digit_char (n % 10) ∷ [])

-- a number in decimal, without leading zeros, and `0` for 0. (It has fewer digits than n + 1.)
unfoldable pub decimal : ℕ → List ℕ
decimal n = last_digits (suc n) n

-- the lowest k digits of x in base sixteen
unfoldable pub hex : ℕ → ℕ → List ℕ
hex zero x = []
hex (suc k) x = digit_char (x / 16 ^ k % 16) ∷ hex k x

-- a bit pattern of 64 bits: its sixteen hex digits
abbrev pub hex16 : ℕ → List ℕ
hex16 x = hex 16 x
