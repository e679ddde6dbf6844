-- A packed file, unpacked: the bytes of the file with a record for each curve. Definitions only.
use Rattle.std.specs.Prelude.{ℕ, List}
use Rattle.float.specs.Answer.{Answer, ok, ◌>>=◌}
use Rattle.lines.specs.Handed.{Handed, over_to}
use Rattle.house.specs.File.{bytes_of}
use Rattle.packed.specs.Unpacked.{packed_of}

-- the bytes of the file that packed bytes are, or 9
unfoldable pub unpacked_text : List ℕ → Answer (List ℕ)
unpacked_text b = do
  F ← packed_of b
  ok (bytes_of F)

-- they fill the first places of the lent bytes; where these are too few, 4
unfoldable pub unpack_of : List ℕ → List ℕ → Handed
unpack_of b O = over_to O (unpacked_text b)
