-- The tangents of a part by the numbers of its end marks: of a block where a block ends, and else of a cut. Definitions only.
use Rattle.std.specs.Prelude.{ℕ, ◌+◌, ◌%◌, Bool, ◌||◌, cond, List, eqb, Float}
use Rattle.float.specs.Answer.{Answer, ok, refused, outcome}
use Rattle.plane.specs.declared.Point.{Point}
use Rattle.ring.specs.Ring.{whole}
use Rattle.ring.specs.declared.Outline.{Outline}
use Rattle.ring.specs.declared.Outline.TheVariants.{Open}
use Rattle.tangents.specs.declared.Ways.{Ways}
use Rattle.tangents.specs.Ways.{ways_at, outline_of, start_of, end_of}
use Rattle.parts.specs.declared.Heading.{Heading}
use Rattle.parts.specs.declared.Heading.TheVariants.{Given, By}

-- the outline that the run is over, and its marks
abbrev pub outline_in : Heading → Outline
outline_in (Given w) = Open
outline_in (By k) = outline_of k

abbrev pub marks_in : Heading → List Float → List Float
marks_in h ms = whole (outline_in h) ms

-- mark k of n ends a block: blocks start at the multiples of their size, and the last one ends with the marks. Every other end of a part is a cut
unfoldable pub outer : ℕ → ℕ → ℕ → Bool
outer n size k = eqb (k % size) 0 || eqb (k + 1) n

-- the tangents of the run's own: those given, or those of the block that starts, or ends, at mark j
abbrev pub own_start : Heading → List Float → ℕ → ℕ → Answer Point
own_start (Given w) ms n j = ok w.start
own_start (By k) ms n j = outcome (start_of k ms n j)

abbrev pub own_end : Heading → List Float → ℕ → ℕ → Answer Point
own_end (Given w) ms n j = ok w.end
own_end (By k) ms n j = outcome (end_of k ms n (j + 1))

-- one of two tangents, or their refusal
abbrev pub one : (Ways → Point) → Answer Ways → Answer Point
one f (ok w) = ok (f w)
one f (refused q) = refused q

-- the tangent of a part at mark j: the run's own where a block ends, and else one of the cut's two
unfoldable pub tangent_in : (Ways → Point) → Answer Point → List Float → ℕ → ℕ → ℕ → Answer Point
unfolding outer
tangent_in side own ms n size j = cond (outer n size j) own (one side (outcome (ways_at ms j)))

-- with which tangent a part starts there, and with which it ends there
abbrev pub start_in : Heading → List Float → ℕ → ℕ → ℕ → Answer Point
start_in h ms n size j = tangent_in (λ w. w.start) (own_start h ms n j) ms n size j

abbrev pub end_in : Heading → List Float → ℕ → ℕ → ℕ → Answer Point
end_in h ms n size j = tangent_in (λ w. w.end) (own_end h ms n j) ms n size j
