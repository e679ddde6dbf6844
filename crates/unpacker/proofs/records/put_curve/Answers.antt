-- `unpacker::records::put_curve` meets its contract.
use mathlib.Core.Path.{◌∙◌}
use Rattle.unpacker.proofs.Pieces.{record-put}
use Rattle.unpacker.proofs.records.put_curve.Goals as goal

pub returns : goal.returns
returns c = let a = c.args in c.put_numbers.ensures ∙ rw (c.put_beside.ensures, c.put_head.ensures, c.body_bytes-size.ensures, c.curve_kind.ensures, c.beside_bytes.ensures) (record-put a.file.now a.form a.n a.i a.field a.out.now a.at)
