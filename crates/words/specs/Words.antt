-- Words as numbers. Definitions only.
use Rattle.std.specs.Prelude.{ℕ, ◌+◌, ◌-◌, ◌*◌, ◌^◌, Bool, true, false, not, ◌&&◌, cond, List, [], ◌∷◌, length, get_or, ltb, eqb, Option, Some, None}

-- the value of a digit by its ASCII code: `0` to `9`, then `A` to `F`; 16 for any other code
unfoldable pub digit_of : ℕ → ℕ
digit_of b = cond (ltb b 48) 16 (cond (ltb b 58) (b - 48) (cond (ltb b 65) 16 (cond (ltb b 71) (b - 55) 16)))

-- what a test leaves standing
abbrev pub pick : Bool → Option ℕ → Option ℕ → Option ℕ
pick true a b = a
pick false a b = b

-- the number that digits make after others that made v; none where one is no digit of the base, or 64 bits do not hold the number
unfoldable pub number_from : ℕ → ℕ → List ℕ → Option ℕ
number_from base v [] = Some v
number_from base v (b ∷ s) =
    pick (ltb (digit_of b) base && ltb (v * base + digit_of b) (2 ^ 64)) (number_from base (v * base + digit_of b) s) None

-- a hex word: 16 digits
unfoldable pub hex_of : List ℕ → Option ℕ
hex_of s = pick (eqb (length s) 16) (number_from 16 0 s) None

-- not empty, and no zero in front of other digits
unfoldable pub plain_of : List ℕ → Bool
plain_of s = cond (eqb (length s) 0) false (cond (eqb (length s) 1) true (not (eqb (get_or s 0 0) 48)))

-- a decimal word
unfoldable pub decimal_of : List ℕ → Option ℕ
decimal_of s = pick (plain_of s) (number_from 10 0 s) None
