-- Six heights, their halves and the tree of halvings, and the finite lemma that the bound on sections rests on. Definitions only.
use Rattle.std.specs.Prelude.{ℕ, zero, suc, ◌+◌, ◌*◌, ◌≤◌, Bool, true, false, not, ◌&&◌, ◌||◌, T, ltb, eqb, Float}
use Rattle.std.specs.Float.{Format}
use Rattle.std.specs.Float.Ieee.{fits}
use Rattle.std.specs.Float.Ieee.Scale.{finite}
use Rattle.quintic.specs.declared.numbers.Six.{Six}
use Rattle.sections.specs.Mid.{mid, deep, upright, sign}

-- all six heights are in a class
pub record All (c : Float → Bool) (p : Six) : Type 0 where
  pub h1 : T (c p.y1)
  pub h2 : T (c p.y2)
  pub h3 : T (c p.y3)
  pub h4 : T (c p.y4)
  pub h5 : T (c p.y5)
  pub h6 : T (c p.y6)

-- ---- the triangle of midpoints, and the halves
module _ (f : Format) (p : Six) where
  abbrev pub q1 : Float
  q1 = mid f p.y1 p.y2

  abbrev pub q2 : Float
  q2 = mid f p.y2 p.y3

  abbrev pub q3 : Float
  q3 = mid f p.y3 p.y4

  abbrev pub q4 : Float
  q4 = mid f p.y4 p.y5

  abbrev pub q5 : Float
  q5 = mid f p.y5 p.y6

  abbrev pub r1 : Float
  r1 = mid f q1 q2

  abbrev pub r2 : Float
  r2 = mid f q2 q3

  abbrev pub r3 : Float
  r3 = mid f q3 q4

  abbrev pub r4 : Float
  r4 = mid f q4 q5

  abbrev pub s1 : Float
  s1 = mid f r1 r2

  abbrev pub s2 : Float
  s2 = mid f r2 r3

  abbrev pub s3 : Float
  s3 = mid f r3 r4

  abbrev pub t1 : Float
  t1 = mid f s1 s2

  abbrev pub t2 : Float
  t2 = mid f s2 s3

  abbrev pub u : Float
  u = mid f t1 t2

  abbrev pub left : Six
  left = record { y1 = p.y1; y2 = q1; y3 = r1; y4 = s1; y5 = t1; y6 = u }

  abbrev pub right : Six
  right = record { y1 = u; y2 = t2; y3 = s3; y4 = r4; y5 = q5; y6 = p.y6 }

  -- the last midpoint is finite, and then all are; otherwise the search refuses
  abbrev pub fine : Bool
  fine = finite u

-- ---- changes of class
-- 1 where two classes differ
abbrev pub ch : Bool → Bool → ℕ
ch true true = 0
ch true false = 1
ch false true = 1
ch false false = 0

abbrev pub changes : Bool → Bool → Bool → Bool → Bool → Bool → ℕ
changes a b c d e g = ch a b + ch b c + ch c d + ch d e + ch e g

abbrev pub vary : (Float → Bool) → Six → ℕ
vary c p = changes (c p.y1) (c p.y2) (c p.y3) (c p.y4) (c p.y5) (c p.y6)

abbrev pub below : Float → Bool
below y = not (upright y)

-- some neighbours lie on the two sides of zero: only such a section is halved
abbrev pub live : Six → Bool
live p = ltb 0 (vary below p)

-- ---- how many live sections there are d levels below p, where all live ones are halved
abbrev pub bit : Bool → ℕ
bit true = 1
bit false = 0

abbrev pub step : Bool → ℕ → ℕ → ℕ
step true a b = a + b
step false a b = 0

unfoldable pub live_at : Format → ℕ → Six → ℕ
live_at f zero p = bit (live p)
live_at f (suc d) p = step (live p && fine f p) (live_at f d (left f p)) (live_at f d (right f p))

-- ---- Lemma 4
-- no change of depth and none of sign: where the section is live, all six heights are -0 or the smallest value below zero
abbrev pub gamma : Format → Six → Bool
gamma f p = eqb (vary (deep f) p + vary sign p) 0

abbrev pub creator : Format → Six → Bool
creator f p = ltb 0 (vary (deep f) p) && ((live (left f p) && gamma f (left f p)) || (live (right f p) && gamma f (right f p)))

abbrev pub most : Format → Six → ℕ
most f p = 2 * vary (deep f) p + vary sign p

-- what the program `creators` goes through
abbrev pub Creators : Format → Type 0
Creators f = (d : ℕ) → d ≤ 63 → (p : Six) → All (fits f) p → All finite p → T (live p) → T (creator f p) → live_at f d p ≤ most f p
