-- max_points_to_fit: below 200 marks a block has 200; else the first size from 200 downwards, stopping at 50, whose remainder of n is at
-- least 50. Definitions only.
use Rattle.std.specs.Prelude.{cond, ℕ, zero, suc, ◌+◌, ◌%◌, leb, ltb}

-- from 50 + k downwards
unfoldable pub size_from : ℕ → ℕ → ℕ
size_from zero n = 50
size_from (suc k) n = cond (leb 50 (n % (50 + suc k))) (50 + suc k) (size_from k n)

unfoldable pub block_size : ℕ → ℕ
unfolding size_from
block_size n = cond (ltb n 200) 200 (size_from 150 n)
