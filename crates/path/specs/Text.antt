-- A list of curves as path data. Definitions only.
use Rattle.std.specs.Prelude.{ℕ, zero, suc, Bool, cond, List, [], ◌∷◌, ◌++◌, Float}
use Rattle.plane.specs.declared.Point.{Point}
use Rattle.plane.specs.declared.Curve.{Curve}
use Rattle.path.specs.Decimals.{written_of, decimal_text}

-- a number behind a blank
unfoldable pub number_text : Float → List ℕ
number_text x = 32 ∷ decimal_text (written_of x)

unfoldable pub point_text : Point → List ℕ
point_text p = number_text p.x ++ number_text p.y

-- ` C`, both controls and the end
unfoldable pub curve_text : Curve → List ℕ
curve_text c = 32 ∷ 67 ∷ (point_text c.cp1 ++ (point_text c.cp2 ++ point_text c.end))

-- those of f 0, f 1, .. f (n - 1)
unfoldable pub curves_text : ℕ → (ℕ → Curve) → List ℕ
curves_text zero f = []
curves_text (suc n) f = curves_text n f ++ curve_text (f n)

-- ` Z` for a ring
abbrev pub closing_text : Bool → List ℕ
closing_text ring = cond ring (32 ∷ 90 ∷ []) []

-- M and the first start, all curves, and Z
unfoldable pub path_text : Bool → ℕ → (ℕ → Curve) → List ℕ
path_text ring n f = (77 ∷ point_text (f 0).start) ++ (curves_text n f ++ closing_text ring)
