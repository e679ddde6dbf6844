-- `rounded` is the nearest whole number, and the upper one of two. Assumes nothing.
use Prim.Native.Nat.{ℕ, ◌+◌, ◌*◌, ◌/◌, ◌<◌}
use native.Mathlib.Nat.{div-mul-le_self, div-lt_iff_lt-mul, lt-suc_self}
use native.Mathlib.Omega.{arith}
use Rattle.path.specs.Decimals.{rounded, Rounds}

pub rounds : (n d : ℕ) → 0 < d → Rounds n d (rounded n d)
unfolding rounded
rounds n d h = record { not_above = div-mul-le_self (2 * n + d) (2 * d); not_below = (div-lt_iff_lt-mul (twice h)).0 (lt-suc_self ((2 * n + d) / (2 * d))) }
  where
    twice : 0 < d → 0 < 2 * d
    twice k = omega arith
