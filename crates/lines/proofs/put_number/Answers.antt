-- `lines::put_number` meets its contract.
use mathlib.Core.List.{append-nil}
use Rattle.text.proofs.Stores.{one, next}
use Rattle.text.proofs.Digits.{one_hex}
use Rattle.lines.specs.Lines.{numbers, blank}
use Rattle.lines.proofs.put_number.Goals as goal

pub returns : goal.returns
unfolding numbers
returns c =
    let a = c.args in
    rw append-nil (rw c.to_bits.ensures at (next (one a.out.now a.at blank c.put_bytes-number.ensures) (one_hex _ _ c.to_bits.result c.put_hex.ensures)))
