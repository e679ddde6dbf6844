-- The classes of heights, as the code tests them. Assumes nothing.
use Rattle.std.proofs.Common.{◌≡◌, ℕ, ◌*◌, ◌^◌, ◌<◌, ◌≤◌, Bool, true, false, leb, negsuc, sym, refl, mul_assoc, arith, leb-false, leb-true}
use lib.Ieee.{Float, nan, inf, fin, binary64, up, down, neg, lt, le, eq, of_bits}
use lib.Ieee.Fits.{down_pos}
use Rattle.float.specs.Number.{f0, signum}
use Rattle.float.proofs.Truth.{not_so}
use Rattle.float.proofs.Ranks.{says, said}
use Rattle.sections.specs.Mid.{deep, sign}

-- two smallest values below zero
abbrev pub bound : Float
bound = fin true 1 (negsuc 1072)

pub deep_is : (y : Float) → le y bound ≡ deep binary64 y
unfolding le lt eq
deep_is nan = refl
deep_is (inf true) = refl
deep_is (inf false) = refl
deep_is (fin false m e) = not_so _ (λ k. none (down e) (down_pos e) (says false (m * up e * 2 ^ 1073) true (1 * 1 * down e) k).1)
  where
    none : (d : ℕ) → 0 < d → 1 * 1 * d ≡ 0 → ⊥
    none d h k = omega arith
deep_is (fin true m e) = go (leb (2 * down e) (m * up e * 2 ^ 1074)) refl
  where
    twice : m * up e * 2 ^ 1074 ≡ m * up e * 2 ^ 1073 * 2
    twice = sym (mul_assoc (m * up e) (2 ^ 1073) 2)

    up_to : (d x y : ℕ) → y ≡ x * 2 → 2 * d ≤ y → 1 * 1 * d ≤ x
    up_to d x y e h = omega arith

    back : (d x y : ℕ) → y ≡ x * 2 → y < 2 * d → 1 * 1 * d ≤ x → ⊥
    back d x y e h k = omega arith

    go : (b : Bool) → leb (2 * down e) (m * up e * 2 ^ 1074) ≡ b → le (fin true m e) bound ≡ b
    go true h = said true (m * up e * 2 ^ 1073) true (1 * 1 * down e) (up_to (down e) _ _ twice (leb-true _ _ h))
    go false h = not_so _ (λ k. back (down e) _ _ twice (leb-false _ _ h) (says true (m * up e * 2 ^ 1073) true (1 * 1 * down e) k))

pub sign_is : (y : Float) → lt (signum y) f0 ≡ sign y
unfolding signum lt of_bits neg
sign_is nan = refl
sign_is (inf true) = refl
sign_is (inf false) = refl
sign_is (fin true m e) = refl
sign_is (fin false m e) = refl
