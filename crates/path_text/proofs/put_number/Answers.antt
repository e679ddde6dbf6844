-- `path_text::put_number` meets its contract.
use native.Mathlib.Omega.{arith}
use mathlib.Core.List.{◌∷◌, []}
use Rattle.text.proofs.Stores.{one}
use Rattle.path_text.proofs.Lengths.{number_text_is, put_number_text}
use Rattle.path_text.proofs.put_number.Goals as goal

pub put_bytes-number-requires : goal.put_bytes-number-requires
put_bytes-number-requires c = omega (arith, number_text_is c.args.x)

pub put-requires : goal.put-requires
put-requires c = rw c.written.ensures (omega (arith, number_text_is c.args.x, c.put_bytes-number.ensures.0))

pub returns : goal.returns
returns c =
    let a = c.args in
    put_number_text a.x (one a.out.now a.at (32 ∷ []) c.put_bytes-number.ensures) (rw c.written.ensures at c.put.ensures)
