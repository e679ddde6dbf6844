-- `sieve::mark_at` meets its contract.
use mathlib.Core.Path.{refl}
use Rattle.sieve.proofs.mark_at.Goals as goal

pub returns : goal.returns
returns c = rw (c.of_bits.ensures, c.of_bits-2.ensures, c.eight.ensures, c.eight-2.ensures) refl
