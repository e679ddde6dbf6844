-- What a house file is packed into. Definitions only.
use Rattle.std.specs.Prelude.{ℕ, List}
use Rattle.float.specs.Answer.{Answer, ok, unless, ◌>>=◌}
use Rattle.lines.specs.Handed.{Handed, over_to}
use Rattle.house.specs.Limits.{badly_formed}
use Rattle.house.specs.Held.{file_of}
use Rattle.packed.specs.Packed.{not_joined, packed_bytes, short, meets}

-- the packed bytes of a file, or 9 or 12
unfoldable pub packed_text : List ℕ → Answer (List ℕ)
packed_text b = do
  F ← file_of b
  unless badly_formed (short F) (unless not_joined (meets F) (ok (packed_bytes F)))

-- they fill the first places of the lent bytes; where these are too few, 4
unfoldable pub pack_of : List ℕ → List ℕ → Handed
pack_of b O = over_to O (packed_text b)
