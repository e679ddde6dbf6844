-- The definitions compute to the worked cases. Assumes nothing.
use mathlib.Core.Path.{refl}
use lib.Ieee.{of_bits}
use Rattle.text.specs.Text.{digit_char, last_digits, decimal}
use Rattle.path.specs.Decimals.{rounded, written_of, places_text, decimal_text}
use Rattle.path.specs.Numbers.{is_space, is_digit, leading, value_from, spelled, unsigned, number}
use Rattle.path.specs.Grammar.{apart, pair, arguments, drawn_by, step, draws, path_of}
use Rattle.path_trips.specs.Worked.{Worked}

pub worked : Worked
unfolding of_bits digit_char last_digits decimal rounded written_of places_text decimal_text is_space is_digit leading value_from spelled unsigned number apart pair arguments drawn_by step draws path_of
worked = record { half = refl; minus_half = refl; places = refl; hundred = refl; minus_zero = refl; minus_little = refl; no_whole = refl; no_places = refl; two_points = refl; no_digit = refl; four_places = refl; path = refl; small = refl }
