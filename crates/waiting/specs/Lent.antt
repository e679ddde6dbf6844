-- What the second engine asks of its arguments: words of its inner contracts. Definitions only.
use Rattle.std.specs.Prelude.{ℕ, ◌+◌, ◌-◌, ◌*◌, ◌≤◌, ◌<◌, ◌≡◌, List, [], ◌∷◌, length, drop, Float}
use Rattle.limits.specs.Limits.{most_numbered}
use Rattle.form.specs.Form.{record_numbers}
use Rattle.gate.specs.Gate.{Usable}
use Rattle.ring.specs.Ring.{whole}
use Rattle.ring.specs.declared.Outline.{Outline}
use Rattle.ring.specs.declared.Outline.TheVariants.{Open, Closed}
use Rattle.tangents.specs.Ways.{over}
use Rattle.parts.specs.declared.Heading.{Heading}
use Rattle.parts.specs.declared.Heading.TheVariants.{Given, By}
use Rattle.parts.specs.Headings.{outline_in, marks_in}

-- the last marks of a closed outline, from mark `tail` on, with mark 0 behind them, in a slice of their own
abbrev pub Laid : Outline → List Float → List Float → ℕ → Type 0
Laid Open ms round tail = Unit {0}
Laid Closed ms round tail = round ≡ drop (2 * tail) (whole Closed ms)

-- blocks that share the mark where they meet, as those of the joined fit and the ring do
abbrev pub Joins : Heading → Type 0
Joins (Given w) = Unit {0}
Joins (By k) = over k ≡ 1

-- so are those of `size` marks; with given tangents there is one
abbrev pub Meeting : Heading → ℕ → ℕ → Type 0
Meeting (Given w) n size = size + 1 ≡ n
Meeting (By k) n size = Joins (By k)

-- an outline of n marks in blocks of `size`
pub record Outlined (h : Heading) (ms round : List Float) (tail n size : ℕ) (tol : Float) : Type 0 where
  pub usable : Usable (marks_in h ms) tol
  pub even : length (marks_in h ms) ≡ 2 * n
  pub two : 2 ≤ n
  pub near : n ≤ most_numbered
  pub some : 0 < size
  pub meeting : Meeting h n size
  pub laid : Laid (outline_in h) ms round tail
  pub reach : tail ≤ n - (size + 1)

-- the part from mark a to mark b is within a block, and has a parameter for each mark
abbrev pub Within : ℕ → ℕ → ℕ → ℕ → ℕ → Type 0
Within n size a b p = (a < b) × ((b < n) × ((b ≤ a + size) × (b + 1 ≡ a + p)))

-- room for the curves of n marks, and for as many ends that wait
abbrev pub Room : ℕ → ℕ → ℕ → ℕ → ℕ → Type 0
Room n c f w o = (record_numbers * n ≤ c + record_numbers) × ((n ≤ f + 1) × ((n ≤ w + 1) × (n ≤ o)))

-- the ends of the blocks of `size` marks from mark q * size on, up to mark `last`
pub data Blocks (size last : ℕ) : ℕ → ℕ → List ℕ → Type 0 where
  final : (q : ℕ) → q * size < last → last ≤ q * size + size → Blocks size last q last []
  more : (q c : ℕ) (cs : List ℕ) → Blocks size last (q + 1) c cs → Blocks size last q ((q + 1) * size) (c ∷ cs)
