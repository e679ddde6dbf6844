-- How a curve is stored. Definitions only.
use Rattle.std.specs.Prelude.{ℕ}
use Rattle.form.specs.declared.Form.{Form}
use Rattle.form.specs.declared.Form.TheVariants.{Eight, Nine}

-- a curve's own numbers: x and y of its four points
abbrev pub curve_numbers : ℕ
curve_numbers = 8

-- the numbers of the record that a fit stores: the curve's, and the largest distance of a mark under it
abbrev pub record_numbers : ℕ
record_numbers = 9

-- how many numbers a curve has
abbrev pub width : Form → ℕ
width Eight = curve_numbers
width Nine = record_numbers

-- how many worst marks stand beside the first marks of k curves
abbrev pub worsts_for : Form → ℕ → ℕ
worsts_for Eight k = 0
worsts_for Nine k = k
