-- `unpacker::unpack_counted` meets its contract.
use mathlib.Core.Path.{sym, ap, ◌∙◌}
use mathlib.Core.List.{List}
use Prim.Native.Nat.{ℕ, ◌<◌, ◌≤◌}
use native.Mathlib.Omega.{arith}
use lib.ListN.{length}
use Rattle.text.proofs.Stores.{written-sets}
use Rattle.lines.specs.Handed.{hand_over}
use Rattle.lines.proofs.Handed.{over-short, over-whole}
use Rattle.house.specs.File.{bytes_of}
use Rattle.packed.specs.Unpacked.{packed_at}
use Rattle.unpacker.proofs.Whole.{length_packed, length_unpacked, plain_same, unpacked_few}
use Rattle.unpacker.proofs.unpack_counted.Goals as goal

pub returns-then-k-eq0 : goal.returns-then-k-eq0
returns-then-k-eq0 c = let a = c.args in c.hand_over.ensures ∙ ap (λ (t : List ℕ). hand_over t a.out.now) (sym (plain_same a.file.now a.form a.n a.k c.if-k-eq0.true c.requires))

pub size_for-size-requires : goal.size_for-size-requires
size_for-size-requires c =
    let some : 0 < c.args.k = omega arith in
    let a = c.args in unpacked_few a.form a.n a.k (omega (arith, length_packed a.file.now a.form a.n a.k some c.requires))

pub returns-then-out-size : goal.returns-then-out-size
returns-then-out-size c = let a = c.args in over-short (bytes_of (packed_at a.file.now a.form a.n a.k)) a.out.now (omega (arith, length_unpacked a.file.now a.form a.n a.k, c.size_for-size.ensures))

pub put_unpacked-requires : goal.put_unpacked-requires
put_unpacked-requires c =
    let some : 0 < c.args.k = omega arith in
    (some, (c.requires, omega (arith, c.size_for-size.ensures)))

pub returns : goal.returns
returns c =
    let a = c.args in
    let t = bytes_of (packed_at a.file.now a.form a.n a.k) in
    let h : length t ≤ length a.out.now = omega (arith, length_unpacked a.file.now a.form a.n a.k, c.size_for-size.ensures) in
    over-whole t a.out.now h (omega (arith, length_unpacked a.file.now a.form a.n a.k, c.size_for-size.ensures), c.put_unpacked.ensures ∙ sym (written-sets t a.out.now h))
