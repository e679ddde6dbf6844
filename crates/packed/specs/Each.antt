-- Lists put together of pieces, one for each number. Definitions only.
use Rattle.std.specs.Prelude.{ℕ, zero, suc, List, [], ◌++◌}

-- the pieces of 0, 1, .. up to k - 1, one behind the other
unfoldable pub each : ℕ → (ℕ → List ℕ) → List ℕ
each zero g = []
each (suc k) g = each k g ++ g k
