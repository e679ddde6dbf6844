-- `text::digit` meets its contract.
use native.Mathlib.Omega.{arith}
use borrow.Author.Tests.{lt-ltb, le-ltb}
use Rattle.text.specs.Text.{digit_char}
use Rattle.text.proofs.digit.Goals as goal

pub returns-then-d-lt10 : goal.returns-then-d-lt10
unfolding digit_char
returns-then-d-lt10 c = rw (lt-ltb c.args.d 10 (omega arith))

pub returns : goal.returns
unfolding digit_char
returns c = rw (le-ltb c.args.d 10 (omega arith))
