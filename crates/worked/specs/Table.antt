-- The worked cases, as one statement: block sizes, a curve at a half and its left half, the joined fit of two marks, four square roots, a unit vector, and
-- what ends and starts where two blocks meet without a direction. Definitions only.
use Rattle.std.specs.Prelude.{ℕ, true, ◌≡◌, [], ◌∷◌, replicate, Float}
use Rattle.std.specs.Float.{binary64}
use Rattle.std.specs.Float.Ieee.{of_bits}
use Rattle.float.specs.Number.{f0, f1, f2, f3}
use Rattle.float.specs.Calc.{Calc, give}
use Rattle.float.specs.Answer.{ok}
use Rattle.root.specs.Root.{sqrt}
use Rattle.plane.specs.Plane.{at, unit_of}
use Rattle.plane.specs.declared.Curve.{Curve}
use Rattle.marks.specs.Block.{block_size}
use Rattle.marks.specs.Tangent.{half}
use Rattle.form.specs.Form.{record_numbers}
use Rattle.cubic.specs.Basis.{point_at}
use Rattle.cubic.specs.Subdivide.{subdivide4_of}
use Rattle.cubic.specs.declared.split.Halves.{Halves}
use Rattle.joints.specs.Joints.{left_end, right_start}
use Rattle.joints.specs.declared.Joint.{Joint}
use Rattle.tangents.specs.declared.Cutting.TheVariants.{Joined}
use Rattle.fit.specs.Fit.{Ending, ending, fit_of}

-- a number by its bits
abbrev pub n64 : ℕ → Float
n64 b = of_bits binary64 b

abbrev pub quarter : Float
quarter = n64 0x3fd0_0000_0000_0000

abbrev pub three_quarters : Float
three_quarters = n64 0x3fe8_0000_0000_0000

abbrev pub four : Float
four = n64 0x4010_0000_0000_0000

-- (0,0), (0,1), (1,1), (1,0)
abbrev pub arch : Curve
arch = record { start = at f0 f0; cp1 = at f0 f1; cp2 = at f1 f1; end = at f1 f0 }

-- its halves
abbrev pub halves : Calc Halves
halves = subdivide4_of half arch.start arch.cp1 arch.cp2 arch.end

-- the joined fit of (0,0), (4,0) within 0.5, in lent slices of zeros with room for one curve
abbrev pub two_marks : Ending
two_marks = fit_of Joined (f0 ∷ f0 ∷ four ∷ f0 ∷ []) half (replicate record_numbers f0) (replicate 1 0) (replicate 1 0) (replicate 2 f0)

-- a fold at (0,0): the marks before and after it are (1,0)
abbrev pub fold : Joint
fold = record { before = at f1 f0; at = at f0 f0; after = at f1 f0 }

-- marks on (0,0) but for the one before, at (2^-537,0): half of that has no square, so that only the whole has a direction
abbrev pub near : Joint
near = record { before = at (n64 0x1e60_0000_0000_0000) f0; at = at f0 f0; after = at f0 f0 }

pub record Table : Type 0 where
  pub block199 : block_size 199 ≡ 200
  pub block200 : block_size 200 ≡ 150
  pub block201 : block_size 201 ≡ 151
  pub block249 : block_size 249 ≡ 199
  pub block250 : block_size 250 ≡ 200
  pub block400 : block_size 400 ≡ 175
  pub middle : point_at arch half ≡ give (at half three_quarters)
  pub left : halves.val.left ≡ record { start = at f0 f0; cp1 = at f0 half; cp2 = at quarter three_quarters; end = at half three_quarters }
  pub fine : halves.fine ≡ true
  pub line : two_marks ≡ ending (ok 1) (f0 ∷ f0 ∷ n64 0x3ff5_1eb8_51eb_851f ∷ f0 ∷ n64 0x4005_1eb8_51eb_851f ∷ f0 ∷ four ∷ f0 ∷ f0 ∷ []) (0 ∷ []) (0 ∷ []) (f0 ∷ f1 ∷ [])
  pub root0 : sqrt binary64 f0 ≡ f0
  pub root_quarter : sqrt binary64 quarter ≡ half
  pub root4 : sqrt binary64 four ≡ f2
  pub root_least : sqrt binary64 (n64 1) ≡ n64 0x1e60_0000_0000_0000
  pub unit : unit_of (at f3 four) ≡ give (at (n64 0x3fe3_3333_3333_3334) (n64 0x3fe9_9999_9999_999a))
  pub fold_end : left_end fold ≡ give (at f1 f0)
  pub fold_start : right_start fold ≡ give (at f1 f0)
  pub near_end : left_end near ≡ give (at f1 f0)
  pub near_start : right_start near ≡ give (at f0 f0)
