-- `path_text::number_length` meets its contract.
use native.Mathlib.Omega.{arith}
use Rattle.path_text.proofs.Lengths.{number_text_is, number_short}
use mathlib.Core.Path.{◌≡◌}
use Prim.Native.Nat.{◌+◌}
use lib.ListN.{length}
use Rattle.path.specs.Text.{number_text}
use Rattle.path_text.proofs.number_length.Goals as goal

pub returns : goal.returns
returns c =
    let x = c.args.x in
    let e = rw c.written.ensures at c.length_of.ensures.0 in
    let t : 1 + c.length_of.result ≡ length (number_text x) = omega (arith, number_text_is x, e) in
    (t, omega (arith, t, number_short x c.requires.0 c.requires.1))
