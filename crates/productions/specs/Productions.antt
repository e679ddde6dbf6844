-- SVG 1.1's grammar for path data (second edition, section 8.3.9), production by production, for the part that import takes: one subpath; the letters M, L, C
-- and Z; Z only as the last; no exponent; at most three digits behind a point. Each production is quoted, with what is left out of it in brackets. A production
-- stands behind those that it names: read from the end, they are in the W3C's order.
-- A production has the text that begins with it, what it says, and the text behind it: `Digits s w r` is that the text s is the digits w and then r.
-- Definitions only.
use Rattle.std.specs.Prelude.{ℕ, ◌-◌, ◌*◌, ◌^◌, ◌≤◌, ◌≡◌, Bool, true, false, List, [], ◌∷◌, ◌++◌, length}
use Rattle.path.specs.Decimals.{signed}
use Rattle.path.specs.Numbers.{value_from}
use Rattle.path.specs.Grammar.{Place, Segment, line, curve, Path}
use Rattle.path.specs.declared.Decimal.{Decimal}

-- ---- bytes

-- wsp: (#x20 | #x9 | #xD | #xA)
pub data Wsp : ℕ → Type 0 where
  blank : Wsp 32
  tab : Wsp 9
  return : Wsp 13
  newline : Wsp 10

-- wsp*
pub data Wsp* : List ℕ → List ℕ → Type 0 where
  none : {s : List ℕ} → Wsp* s s
  more : {c : ℕ} {s r : List ℕ} → Wsp c → Wsp* s r → Wsp* (c ∷ s) r

-- digit: "0" | "1" | "2" | "3" | "4" | "5" | "6" | "7" | "8" | "9"
abbrev pub Digit : ℕ → Type 0
Digit d = (48 ≤ d) × (d ≤ 57)

-- ---- numbers

-- digit-sequence: digit | digit digit-sequence
pub data Digits : List ℕ → List ℕ → List ℕ → Type 0 where
  one : {d : ℕ} {r : List ℕ} → Digit d → Digits (d ∷ r) (d ∷ []) r
  more : {d : ℕ} {s w r : List ℕ} → Digit d → Digits s w r → Digits (d ∷ s) (d ∷ w) r

-- digit-sequence?
pub data Digits? : List ℕ → List ℕ → List ℕ → Type 0 where
  none : {s : List ℕ} → Digits? s [] s
  some : {s w r : List ℕ} → Digits s w r → Digits? s w r

-- sign?, where sign: "+" | "-", and whether it is minus
pub data Sign? : List ℕ → Bool → List ℕ → Type 0 where
  none : {s : List ℕ} → Sign? s false s
  plus : {s : List ℕ} → Sign? (43 ∷ s) false s
  minus : {s : List ℕ} → Sign? (45 ∷ s) true s

-- the digits w before the point and f behind it, in thousandths
abbrev pub thousandths : List ℕ → List ℕ → ℕ
thousandths w f = value_from 0 (w ++ f) * 10 ^ (3 - length f)

-- integer-constant | floating-point-constant, where floating-point-constant: fractional-constant [exponent?] [ | digit-sequence exponent]; whether it has a
-- point, and how many thousandths it is
pub data Constant : List ℕ → Bool → ℕ → List ℕ → Type 0 where
  -- fractional-constant: digit-sequence? "." digit-sequence
  fraction : {s t r w f : List ℕ} → Digits? s w (46 ∷ t) → Digits t f r → length f ≤ 3 → Constant s true (thousandths w f) r
  -- | digit-sequence "."
  pointed : {s r w : List ℕ} → Digits s w (46 ∷ r) → Constant s true (thousandths w []) r
  -- integer-constant: digit-sequence
  integer : {s r w : List ℕ} → Digits s w r → Constant s false (thousandths w []) r

-- comma-wsp?, where comma-wsp: (wsp+ comma? wsp*) | (comma wsp*), and comma: ","
pub data CommaWsp? : List ℕ → List ℕ → Type 0 where
  none : {s : List ℕ} → CommaWsp? s s
  wsp : {c : ℕ} {s t r : List ℕ} → Wsp c → Wsp* s t → Wsp* t r → CommaWsp? (c ∷ s) r
  wsp_comma : {c : ℕ} {s t r : List ℕ} → Wsp c → Wsp* s (44 ∷ t) → Wsp* t r → CommaWsp? (c ∷ s) r
  comma : {s r : List ℕ} → Wsp* s r → CommaWsp? (44 ∷ s) r

-- "The processing of the BNF must consume as much of a given BNF production as possible, stopping at the point when a character is encountered which no longer
-- satisfies the production." So what is behind a number does not go on with it: it begins with no digit and, unless the number has its point, with no point.
-- (Nor can it go on with an exponent, for nothing here begins with an `e`.) With this the productions have one path at most in a text: `complete` in Exactly.
pub data Ends : Bool → List ℕ → Type 0 where
  text : {point : Bool} → Ends point []
  whole : {c : ℕ} {r : List ℕ} → (Digit c → ⊥) → (c ≡ 46 → ⊥) → Ends false (c ∷ r)
  point : {c : ℕ} {r : List ℕ} → (Digit c → ⊥) → Ends true (c ∷ r)

-- number: sign? integer-constant | sign? floating-point-constant
pub data Number : List ℕ → Decimal → List ℕ → Type 0 where
  number : {s t r : List ℕ} {negative point : Bool} {n : ℕ} → Sign? s negative t → Constant t point n r → Ends point r → Number s (signed negative n) r

-- ---- arguments

-- coordinate-pair: coordinate comma-wsp? coordinate, where coordinate: number
pub data CoordinatePair : List ℕ → Place → List ℕ → Type 0 where
  pair : {s t u r : List ℕ} {x y : Decimal} → Number s x t → CommaWsp? t u → Number u y r → CoordinatePair s (record { x = x; y = y }) r

-- curveto-argument: coordinate-pair comma-wsp? coordinate-pair comma-wsp? coordinate-pair
pub data CurvetoArgument : List ℕ → Segment → List ℕ → Type 0 where
  three : {s t u v w r : List ℕ} {a b c : Place} → CoordinatePair s a t → CommaWsp? t u → CoordinatePair u b v → CommaWsp? v w → CoordinatePair w c r → CurvetoArgument s (curve a b c) r

-- curveto-argument-sequence: curveto-argument | curveto-argument comma-wsp? curveto-argument-sequence
pub data CurvetoArguments : List ℕ → List Segment → List ℕ → Type 0 where
  one : {s r : List ℕ} {g : Segment} → CurvetoArgument s g r → CurvetoArguments s (g ∷ []) r
  more : {s t u r : List ℕ} {g : Segment} {gs : List Segment} → CurvetoArgument s g t → CommaWsp? t u → CurvetoArguments u gs r → CurvetoArguments s (g ∷ gs) r

-- lineto-argument-sequence: coordinate-pair | coordinate-pair comma-wsp? lineto-argument-sequence
pub data LinetoArguments : List ℕ → List Segment → List ℕ → Type 0 where
  one : {s r : List ℕ} {p : Place} → CoordinatePair s p r → LinetoArguments s (line p ∷ []) r
  more : {s t u r : List ℕ} {p : Place} {gs : List Segment} → CoordinatePair s p t → CommaWsp? t u → LinetoArguments u gs r → LinetoArguments s (line p ∷ gs) r

-- moveto-argument-sequence: coordinate-pair | coordinate-pair comma-wsp? lineto-argument-sequence
pub data MovetoArguments : List ℕ → Place → List Segment → List ℕ → Type 0 where
  one : {s r : List ℕ} {p : Place} → CoordinatePair s p r → MovetoArguments s p [] r
  more : {s t u r : List ℕ} {p : Place} {gs : List Segment} → CoordinatePair s p t → CommaWsp? t u → LinetoArguments u gs r → MovetoArguments s p gs r

-- ---- commands

-- moveto: ( "M" [ | "m"] ) wsp* moveto-argument-sequence
pub data Moveto : List ℕ → Place → List Segment → List ℕ → Type 0 where
  moveto : {s t r : List ℕ} {p : Place} {gs : List Segment} → Wsp* s t → MovetoArguments t p gs r → Moveto (77 ∷ s) p gs r

-- drawto-command: closepath | lineto | curveto [ | ..], and whether it is closepath
pub data DrawtoCommand : List ℕ → List Segment → Bool → List ℕ → Type 0 where
  -- closepath: ("Z" [ | "z"])
  closepath : {r : List ℕ} → DrawtoCommand (90 ∷ r) [] true r
  -- lineto: ( "L" [ | "l"] ) wsp* lineto-argument-sequence
  lineto : {s t r : List ℕ} {gs : List Segment} → Wsp* s t → LinetoArguments t gs r → DrawtoCommand (76 ∷ s) gs false r
  -- curveto: ( "C" [ | "c"] ) wsp* curveto-argument-sequence
  curveto : {s t r : List ℕ} {gs : List Segment} → Wsp* s t → CurvetoArguments t gs r → DrawtoCommand (67 ∷ s) gs false r

-- drawto-commands: drawto-command | drawto-command [but closepath] wsp* drawto-commands
pub data DrawtoCommands : List ℕ → List Segment → Bool → List ℕ → Type 0 where
  one : {s r : List ℕ} {gs : List Segment} {z : Bool} → DrawtoCommand s gs z r → DrawtoCommands s gs z r
  more : {s t u r : List ℕ} {gs hs : List Segment} {z : Bool} → DrawtoCommand s gs false t → Wsp* t u → DrawtoCommands u hs z r → DrawtoCommands s (gs ++ hs) z r

-- drawto-commands?
pub data DrawtoCommands? : List ℕ → List Segment → Bool → List ℕ → Type 0 where
  none : {s : List ℕ} → DrawtoCommands? s [] false s
  some : {s r : List ℕ} {gs : List Segment} {z : Bool} → DrawtoCommands s gs z r → DrawtoCommands? s gs z r

-- moveto-drawto-command-group: moveto wsp* drawto-commands?
pub data Group : List ℕ → Path → List ℕ → Type 0 where
  group : {s t u r : List ℕ} {p : Place} {gs hs : List Segment} {z : Bool} → Moveto s p gs t → Wsp* t u → DrawtoCommands? u hs z r → Group s (record { start = p; segments = gs ++ hs; closed = z }) r

-- svg-path: wsp* moveto-drawto-command-groups[?] wsp*, where moveto-drawto-command-groups: moveto-drawto-command-group [ | ..]
pub data IsPath : List ℕ → Path → Type 0 where
  svg_path : {text s t : List ℕ} {p : Path} → Wsp* text s → Group s p t → Wsp* t [] → IsPath text p
