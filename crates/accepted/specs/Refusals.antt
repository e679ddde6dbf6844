-- By which numbers a fit refuses, and what its slices hold then. Definitions only.
use Rattle.std.specs.Prelude.{ℕ, ◌≤◌, ◌≡◌, ◌⊎◌, List, length, replicate, Float}
use Rattle.float.specs.Number.{f0}
use Rattle.float.specs.Answer.{refused}
use Rattle.plane.specs.declared.Point.{Point}
use Rattle.tangents.specs.declared.Cutting.{Cutting}
use Rattle.fit.specs.Fit.{ending, fit_of, cubic_of}

-- 1 to 5, before the run: the slices are as they were. A slice is C before the call and C' after it
pub record Before (q : ℕ) (C C' : List Float) (F F' W W' : List ℕ) (P P' : List Float) : Type 0 where
  pub least : 1 ≤ q
  pub most : q ≤ 5
  pub curves : C' ≡ C
  pub firsts : F' ≡ F
  pub worsts : W' ≡ W
  pub params : P' ≡ P

-- 6, in the run: every number is zero
pub record Inside (q : ℕ) (C C' : List Float) (F F' W W' : List ℕ) (P P' : List Float) : Type 0 where
  pub is : q ≡ 6
  pub curves : C' ≡ replicate (length C) f0
  pub firsts : F' ≡ replicate (length F) 0
  pub worsts : W' ≡ replicate (length W) 0
  pub params : P' ≡ replicate (length P) f0

-- a fit by blocks refuses in these two ways alone, however it cuts
abbrev pub FitRefuses : Type 0
FitRefuses =
    (k : Cutting) (ms : List Float) (tol : Float) (q : ℕ) (C C' : List Float) (F F' W W' : List ℕ) (P P' : List Float)
    → ending (refused q) C' F' W' P' ≡ fit_of k ms tol C F W P
    → Before q C C' F F' W W' P P' ⊎ Inside q C C' F F' W W' P P'

-- and so does the direct fit
abbrev pub DirectRefuses : Type 0
DirectRefuses =
    (ms : List Float) (s e : Point) (tol : Float) (q : ℕ) (C C' : List Float) (F F' W W' : List ℕ) (P P' : List Float)
    → ending (refused q) C' F' W' P' ≡ cubic_of ms s e tol C F W P
    → Before q C C' F F' W W' P P' ⊎ Inside q C C' F F' W W' P P'
