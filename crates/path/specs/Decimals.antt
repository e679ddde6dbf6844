-- Numbers with at most three decimal places: what a number is written as, its text, and the number that is nearest to it. Definitions only.
use Rattle.std.specs.Prelude.{ℕ, suc, ◌+◌, ◌*◌, ◌/◌, ◌%◌, ◌≤◌, ◌<◌, Bool, false, ◌&&◌, cond, List, [], ◌∷◌, ◌++◌, ltb, leb, eqb, Float}
use Rattle.std.specs.Float.{nan, inf, fin, binary64}
use Rattle.std.specs.Float.Ieee.{up, down, round}
use Rattle.text.specs.Text.{decimal}
use Rattle.path.specs.declared.Decimal.{Decimal}

-- so many thousandths, with a sign: of zero it is plus
abbrev pub signed : Bool → ℕ → Decimal
signed s t = record { negative = s && ltb 0 t; thousandths = t }

-- the fraction n / d, rounded to a whole number, halves up
unfoldable pub rounded : ℕ → ℕ → ℕ
rounded n d = (2 * n + d) / (2 * d)

-- what it comes to: r is the fraction to within a half, and where two whole numbers are, the upper one
pub record Rounds (n d r : ℕ) : Type 0 where
  pub not_above : r * (2 * d) ≤ 2 * n + d
  pub not_below : 2 * n + d < suc r * (2 * d)

-- The exact value, which is the fraction m * up e / down e with the sign s, rounded to thousandths: halves go away from zero, for it is the magnitude that is
-- rounded. (What is not finite is refused, and nothing asks for it.)
unfoldable pub written_of : Float → Decimal
written_of nan = signed false 0
written_of (inf s) = signed false 0
written_of (fin s m e) = signed s (rounded (1000 * (m * up e)) (down e))

-- ---- as text

-- the character of a digit
abbrev pub figure : ℕ → ℕ
figure d = 48 + d

-- the point and the digits behind it, of r thousandths below 1000, without zeros at the end
unfoldable pub places_text : ℕ → List ℕ
places_text r =
    cond (eqb r 0) []
    (cond (eqb (r % 100) 0) (46 ∷ figure (r / 100) ∷ [])
    (cond (eqb (r % 10) 0) (46 ∷ figure (r / 100) ∷ figure (r / 10 % 10) ∷ []) (46 ∷ figure (r / 100) ∷ figure (r / 10 % 10) ∷ figure (r % 10) ∷ [])))

-- the sign, if it is minus
abbrev pub sign_text : Bool → List ℕ
sign_text s = cond s (45 ∷ []) []

unfoldable pub decimal_text : Decimal → List ℕ
decimal_text d = sign_text d.negative ++ (decimal (d.thousandths / 1000) ++ places_text (d.thousandths % 1000))

-- ---- as a number

-- 1,000,000,000, in thousandths
abbrev pub most : ℕ
most = 1000000000000

-- not above 1,000,000,000 in magnitude
unfoldable pub small : Decimal → Bool
small d = leb d.thousandths most

-- the f64 that is nearest to it
unfoldable pub nearest_to : Decimal → Float
nearest_to d = round binary64 d.negative d.thousandths 1000
