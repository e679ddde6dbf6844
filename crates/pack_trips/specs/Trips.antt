-- Packed and back again, what is read, and sizes. Each statement is once over the kinds 3, 5, 6 and 7: the form and the field are those of the file. Definitions only.
use Rattle.std.specs.Prelude.{ℕ, ◌+◌, ◌-◌, ◌*◌, ◌<◌, ◌≤◌, ◌≡◌, List, length, take}
use Rattle.float.specs.Answer.{ok}
use Rattle.float.specs.Slices.{written}
use Rattle.lines.specs.Handed.{handed}
use Rattle.house.specs.Limits.{mark_field, besides, head_bytes, mark_bytes}
use Rattle.house.specs.File.{File, curves_in, field_in}
use Rattle.house.specs.Held.{file_of}
use Rattle.reader.specs.Reader.{read_of}
use Rattle.packed.specs.Packed.{packed_mark, lead_bytes, packed_bytes}
use Rattle.packer.specs.Packer.{pack_of}
use Rattle.unpacker.specs.Unpacker.{unpack_of}

-- a file that packs, packed and unpacked, is the same bytes: b is packed into O, which is left as P with len bytes in front, and these are unpacked into U
abbrev pub PackedAndBack : Type 0
PackedAndBack = (b O P U : List ℕ) (len : ℕ) → handed (ok len) P ≡ pack_of b O → length b ≤ length U → unpack_of (take len P) U ≡ handed (ok (length b)) (written b U)

-- and one that unpacks, unpacked and packed again, is the same bytes
abbrev pub UnpackedAndBack : Type 0
UnpackedAndBack = (b O P U : List ℕ) (len : ℕ) → handed (ok len) P ≡ unpack_of b O → length b ≤ length U → pack_of (take len P) U ≡ handed (ok (length b)) (written b U)

-- the reader gives of the packed bytes what it gives of the file, whatever slices it is lent
abbrev pub ReadAlike : Type 0
ReadAlike = (b O P : List ℕ) (len : ℕ) → handed (ok len) P ≡ pack_of b O → (M R W C Q : List ℕ) → read_of (take len P) M R W C Q ≡ read_of b M R W C Q

-- a packed file has a start and a head the less for each curve, and one head and what leads the curves the more, and what its mark numbers take beyond the field that they had
abbrev pub Shorter : Type 0
Shorter = (b : List ℕ) (F : File) → file_of b ≡ ok F → 0 < curves_in F
    → length (packed_bytes F) + (mark_bytes + head_bytes) * curves_in F ≡ length b + (head_bytes + lead_bytes) + (packed_mark - mark_field (field_in F)) * besides F.form * curves_in F
