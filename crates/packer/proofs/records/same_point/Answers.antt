-- `packer::records::same_point` meets its contract.
use mathlib.Core.Path.{◌≡◌, sym, ◌∙◌}
use lib.Dec.{eqb}
use Rattle.house.specs.Bytes.{num}
use Rattle.packer.proofs.Meets.{point_by, point_no}
use Rattle.packer.proofs.records.same_point.Goals as goal

pub returns-then-same_bits : goal.returns-then-same_bits
returns-then-same_bits c =
    let first : let a = c.args in eqb (num 8 a.file.now a.p) (num 8 a.file.now a.q) ≡ c.same_bits.result = sym (rw (c.eight.ensures, c.eight-2.ensures) at c.same_bits.ensures) in
    let a = c.args in c.same_bits-then-same_bits.ensures ∙ rw (c.eight-then-same_bits.ensures, c.eight-then-same_bits-2.ensures) (point_by a.file.now a.p a.q (first ∙ c.if-same_bits.true))

pub returns : goal.returns
returns c =
    let first : let a = c.args in eqb (num 8 a.file.now a.p) (num 8 a.file.now a.q) ≡ c.same_bits.result = sym (rw (c.eight.ensures, c.eight-2.ensures) at c.same_bits.ensures) in
    let a = c.args in point_no a.file.now a.p a.q (first ∙ c.if-same_bits.false)
