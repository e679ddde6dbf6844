-- The ways through `unpack_file`, by what the bytes are. Assumes nothing.
use mathlib.Core.Path.{◌≡◌}
use mathlib.Core.Bool.{true, false}
use mathlib.Core.List.{List}
use Prim.Native.Nat.{ℕ}
use Rattle.float.specs.Answer.{refused}
use Rattle.lines.specs.Handed.{Handed, handed, hand_over}
use Rattle.house.specs.File.{File, bytes_of}
use Rattle.packed.proofs.Candidate.{packs_candidate}
use Rattle.packed.specs.Packed.{packed_bytes}
use Rattle.packed.specs.Unpacked.{packed_candidate, is_packed, packed_of}
use Rattle.unpacker.specs.Unpacker.{unpacked_text, unpack_of}

-- no packed file: 9
pub unpack_broken : (b O : List ℕ) → is_packed b ≡ false → handed (refused 9) O ≡ unpack_of b O
unfolding unpack_of unpacked_text packed_of
unpack_broken b O h = rw h

-- a packed file: its bytes are those of what it holds, packed
module _ (b : List ℕ) {F : File} (h : is_packed b ≡ true) (e : packed_candidate b ≡ F) where
  pub packed_there : packed_bytes F ≡ b
  packed_there = rw (← e) (packs_candidate h).bytes

  -- and it is handed over, unpacked
  pub unpack_whole : {H : Handed} (O : List ℕ) → H ≡ hand_over (bytes_of F) O → H ≡ unpack_of b O
  unfolding unpack_of unpacked_text packed_of
  unpack_whole O t = rw (h, e) t
