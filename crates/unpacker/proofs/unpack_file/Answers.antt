-- `unpacker::unpack_file` meets its contract.
use mathlib.Core.Path.{sym}
use Rattle.packed.proofs.Laid.{packed_candidate_is}
use Rattle.packed_heads.proofs.Told.{PackedTold, packed_told, packed_untold}
use Rattle.unpacker.proofs.Ways.{unpack_broken, packed_there, unpack_whole}
use Rattle.unpacker.proofs.unpack_file.Goals as goal

pub returns-in_default : goal.returns-in_default
returns-in_default c = unpack_broken _ _ (packed_untold _ (sym c.in_default.ensures))

pub unpack_counted-requires : goal.unpack_counted-requires
unpack_counted-requires c =
    let told : PackedTold c.args.file.now c.in-Some.layout.form c.in-Some.layout.marks c.in-Some.layout.curves = packed_told _ _ _ _ (sym c.in-Some.ensures) in
    let t = told in packed_there _ t.packed (packed_candidate_is t.laid)

pub returns : goal.returns
returns c =
    let told : PackedTold c.args.file.now c.in-Some.layout.form c.in-Some.layout.marks c.in-Some.layout.curves = packed_told _ _ _ _ (sym c.in-Some.ensures) in
    let t = told in unpack_whole _ t.packed (packed_candidate_is t.laid) _ c.unpack_counted.ensures
