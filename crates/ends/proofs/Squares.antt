-- The square of a vector's length: finite with the sign clear, and a value of an f64. Assumes nothing.
use lib.Dec.{T}
use lib.Ieee.{binary64, fits, mul}
use lib.Ieee.Fits.{add-fits}
use Rattle.float.proofs.Strict.{Fin, add-finite}
use Rattle.root.specs.Root.{plain}
use Rattle.plane.specs.Plane.{dot_of}
use Rattle.plane.specs.declared.Point.{Point}
use Rattle.numbers.proofs.Plain.{add-plain, square_plain}

pub dot-plain : (p : Point) → Fin (dot_of p p).val → T (plain (dot_of p p).val)
unfolding dot_of
dot-plain p h = let s = add-finite binary64 _ _ h in add-plain binary64 _ _ (square_plain binary64 p.x s.0) (square_plain binary64 p.y s.1) h

pub dot-fits : (p q : Point) → T (fits binary64 (dot_of p q).val)
unfolding dot_of
dot-fits p q = add-fits binary64 (mul binary64 p.x q.x) (mul binary64 p.y q.y)
