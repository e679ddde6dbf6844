-- The middle between a rounded root and another value of the format, in whole numbers: its square is on the value's side of x. Assumes nothing.
use mathlib.Core.Path.{◌≡◌, refl, sym, ap, ◌∙◌, subst}
use Prim.Native.Nat.{ℕ, zero, suc, ◌+◌, ◌-◌, ◌*◌, ◌/◌, ◌%◌, ◌^◌, ◌≤◌, ◌<◌}
use native.Mathlib.Nat.{le_trans, le_of_eq, le_of_lt, lt_of_lt_of_le, lt_of_le_of_lt, not-le_of_lt, mul-pos, mul_assoc, mul-le-mul, mul-le-mul_right, mul-lt-mul_of_pos_right, lt_of_mul-lt-mul_right, mul-mul-mul_comm}
use native.Mathlib.Omega.{arith}
use mathlib.Core.Bool.{Bool, true, false, not}
use lib.Dec.{T, leb, leb→le, nleb→lt, ltb→lt}
use lib.Pow.{pow-add, pow_mono, shl_lt}
use lib.Ieee.{Float, nan, inf, fin, up, down, lt}
use lib.Ieee.Positive.{num, den}
use Rattle.root.specs.Root.{IsRoot, plain}

-- ---- squares keep the order
square_mono : (a b : ℕ) → a < b → a * a < b * b
square_mono a b h = lt_of_lt_of_le (step a) (mul-le-mul h h)
  where
    step : (a : ℕ) → a * a < suc a * suc a
    step a = omega arith

-- ---- on naturals. n is N * (p * p), q the whole root of N, and R = (q + 1) / 2 * (2 * p) the rounded root of n
module _ (N q p : ℕ) (P : 0 < p) (r : IsRoot N q) (tie : q % 2 ≡ 1 → q * q ≡ N → ⊥) where
  -- any Y above R by 2 * p at least
  pub upper : (Y : ℕ) → ((q + 1) / 2 + 1) * (2 * p) ≤ Y → 4 * (N * (p * p)) < ((q + 1) / 2 * (2 * p) + Y) * ((q + 1) / 2 * (2 * p) + Y)
  upper Y h =
      let Q = (q + 1) / 2 in
      let side : (2 * Q + 1) * (2 * p) ≤ Q * (2 * p) + Y = sides Q Y h in
      let more : suc q ≤ 2 * Q + 1 = up_half q in
      lt_of_lt_of_le
      (lt_of_le_of_lt (le_of_eq (regroup N)) (mul-lt-mul_of_pos_right (lt_of_lt_of_le r.upper (mul-le-mul more more)) (mul-pos (two_pos p P) (two_pos p P))))
      (le_trans (le_of_eq (mul-mul-mul_comm (2 * Q + 1) (2 * Q + 1) (2 * p) (2 * p))) (mul-le-mul side side))
    where
      two_pos : (p : ℕ) → 0 < p → 0 < 2 * p
      two_pos p h = omega arith

      sides : (Q Y : ℕ) → (Q + 1) * (2 * p) ≤ Y → (2 * Q + 1) * (2 * p) ≤ Q * (2 * p) + Y
      sides Q Y h = omega arith

      up_half : (q : ℕ) → suc q ≤ 2 * ((q + 1) / 2) + 1
      up_half q = omega arith

      regroup : (N : ℕ) → 4 * (N * (p * p)) ≡ N * (2 * p * (2 * p))
      regroup N = omega arith

  -- any Y below R, and below it by 2 * p where q is odd
  pub lower : (Y : ℕ) → Y < (q + 1) / 2 * (2 * p) → (q % 2 ≡ 1 → Y + 2 * p ≤ (q + 1) / 2 * (2 * p))
      → ((q + 1) / 2 * (2 * p) + Y) * ((q + 1) / 2 * (2 * p) + Y) < 4 * (N * (p * p))
  lower Y h o = go (q % 2) refl (bit q)
    where
      Q : ℕ
      Q = (q + 1) / 2

      bit : (q : ℕ) → q % 2 < 2
      bit q = omega arith

      regroup : (N : ℕ) → N * (2 * p * (2 * p)) ≡ 4 * (N * (p * p))
      regroup N = omega arith

      even : (q : ℕ) → q % 2 ≡ 0 → (q + 1) / 2 * 2 ≡ q
      even q e = omega arith

      odd : (q : ℕ) → q % 2 ≡ 1 → (q + 1) / 2 * 2 ≡ q + 1
      odd q e = omega arith

      twice : (Q Y z : ℕ) → Q * 2 ≡ z → Y < Q * (2 * p) → Q * (2 * p) + Y < z * (2 * p)
      twice Q Y z e h = subst (λ (x : ℕ). Q * (2 * p) + Y < x * (2 * p)) e (less Q Y h)
        where
          less : (Q Y : ℕ) → Y < Q * (2 * p) → Q * (2 * p) + Y < Q * 2 * (2 * p)
          less Q Y h = omega arith

      under : (Q Y z : ℕ) → Q * 2 ≡ z + 1 → Y + 2 * p ≤ Q * (2 * p) → Q * (2 * p) + Y ≤ z * (2 * p)
      under Q Y z e h = less Q Y z (ap (λ (x : ℕ). x * (2 * p)) e) h
        where
          less : (Q Y z : ℕ) → Q * 2 * (2 * p) ≡ (z + 1) * (2 * p) → Y + 2 * p ≤ Q * (2 * p) → Q * (2 * p) + Y ≤ z * (2 * p)
          less Q Y z e h = omega arith

      strict : (a b : ℕ) → a ≤ b → (a ≡ b → ⊥) → a < b
      strict a b h k = omega arith

      go : (b : ℕ) → q % 2 ≡ b → q % 2 < 2 → (Q * (2 * p) + Y) * (Q * (2 * p) + Y) < 4 * (N * (p * p))
      go zero e k =
          lt_of_lt_of_le (square_mono (Q * (2 * p) + Y) (q * (2 * p)) (twice Q Y q (even q e) h))
          (le_trans (le_of_eq (sym (mul-mul-mul_comm q q (2 * p) (2 * p)))) (le_trans (mul-le-mul_right (2 * p * (2 * p)) r.lower) (le_of_eq (regroup N))))
      go (suc zero) e k =
          let side = under Q Y q (odd q e) (o e) in
          lt_of_le_of_lt (mul-le-mul side side)
          (lt_of_le_of_lt (le_of_eq (sym (mul-mul-mul_comm q q (2 * p) (2 * p))))
          (lt_of_lt_of_le (mul-lt-mul_of_pos_right (strict (q * q) N r.lower (tie e)) (mul-pos (two_pos p P) (two_pos p P))) (le_of_eq (regroup N))))
        where
          two_pos : (p : ℕ) → 0 < p → 0 < 2 * p
          two_pos p h = omega arith
      go (suc (suc b)) e k = absurd (no (q % 2) b e k)
        where
          no : (x b : ℕ) → x ≡ suc (suc b) → x < 2 → ⊥
          no x b w k = omega arith

-- ---- a value of the format is c * 2 ^ e units, with c of 53 digits at most: from 2 ^ (52 + k) on, a multiple of 2 ^ k
multiple : (c e k : ℕ) → c < 2 ^ 53 → 2 ^ 52 * 2 ^ k ≤ c * 2 ^ e → (d : ℕ) × (c * 2 ^ e ≡ d * 2 ^ k)
multiple c e k C h = go (leb k e) (leb→le k e) (nleb→lt k e)
  where
    join : (k e : ℕ) → k ≤ e → e ≡ e - k + k
    join k e h = omega arith

    room : (k e : ℕ) → e < k → 53 + e ≤ 52 + k
    room k e h = omega arith

    go : (b : Bool) → (T b → k ≤ e) → (T (not b) → e < k) → (d : ℕ) × (c * 2 ^ e ≡ d * 2 ^ k)
    go true l g = (c * 2 ^ (e - k), ap (λ (x : ℕ). c * 2 ^ x) (join k e (l tt)) ∙ ap (λ (x : ℕ). c * x) (pow-add 2 (e - k) k) ∙ sym (mul_assoc c (2 ^ (e - k)) (2 ^ k)))
    go false l g = absurd (not-le_of_lt (lt_of_lt_of_le (shl_lt 53 e C) (le_trans (pow_mono (room k e (g tt))) (le_of_eq (pow-add 2 52 k)))) h)

pub grid-above : (Q k c e : ℕ) → c < 2 ^ 53 → 2 ^ 52 ≤ Q → Q * 2 ^ k < c * 2 ^ e → (Q + 1) * 2 ^ k ≤ c * 2 ^ e
grid-above Q k c e C l h =
    let d = multiple c e k C (le_trans (mul-le-mul_right (2 ^ k) l) (le_of_lt h)) in
    le_trans (mul-le-mul_right (2 ^ k) (next Q d.0 (lt_of_mul-lt-mul_right (2 ^ k) (lt_of_lt_of_le h (le_of_eq d.1))))) (le_of_eq (sym d.1))
  where
    next : (a b : ℕ) → a < b → a + 1 ≤ b
    next a b h = omega arith

pub grid-below : (Q k c e : ℕ) → c < 2 ^ 53 → 2 ^ 52 < Q → c * 2 ^ e < Q * 2 ^ k → c * 2 ^ e + 2 ^ k ≤ Q * 2 ^ k
grid-below Q k c e C l h = go (leb (2 ^ 52 * 2 ^ k) (c * 2 ^ e)) (leb→le (2 ^ 52 * 2 ^ k) (c * 2 ^ e)) (nleb→lt (2 ^ 52 * 2 ^ k) (c * 2 ^ e))
  where
    one : (d z : ℕ) → d * z + z ≡ suc d * z
    one d z = omega arith

    go : (b : Bool) → (T b → 2 ^ 52 * 2 ^ k ≤ c * 2 ^ e) → (T (not b) → c * 2 ^ e < 2 ^ 52 * 2 ^ k) → c * 2 ^ e + 2 ^ k ≤ Q * 2 ^ k
    go true y n =
        let d = multiple c e k C (y tt) in
        le_trans (le_of_eq (ap (λ (x : ℕ). x + 2 ^ k) d.1 ∙ one d.0 (2 ^ k))) (mul-le-mul_right (2 ^ k) (lt_of_mul-lt-mul_right (2 ^ k) (lt_of_le_of_lt (le_of_eq (sym d.1)) h)))
    go false y n = le_trans (less (c * 2 ^ e) (2 ^ k) (n tt)) (le_trans (le_of_eq (one (2 ^ 52) (2 ^ k))) (mul-le-mul_right (2 ^ k) l))
      where
        less : (y z : ℕ) → y < 2 ^ 52 * z → y + z ≤ 2 ^ 52 * z + z
        less y z h = omega arith

-- ---- from units to fractions. ny / dy is Y / L and so on, for the L units to 1
pub lt→cross : (y r : Float) → T (plain y) → T (plain r) → T (lt y r) → num y * den r < num r * den y
unfolding lt
lt→cross nan r p q h = absurd p
lt→cross (inf s) r p q h = absurd p
lt→cross (fin true m e) r p q h = absurd p
lt→cross (fin false m e) nan p q h = absurd q
lt→cross (fin false m e) (inf s) p q h = absurd q
lt→cross (fin false m e) (fin true n d) p q h = absurd q
lt→cross (fin false m e) (fin false n d) p q h = ltb→lt (m * up e * down d) (n * up d * down e) h

module _ (L : ℕ) (P : 0 < L) (ny dy Y nr dr R : ℕ) (y_is : ny * L ≡ Y * dy) (r_is : nr * L ≡ R * dr) where
  pub cross→units : ny * dr < nr * dy → Y < R
  cross→units h =
      lt_of_mul-lt-mul_right (dy * dr)
      (lt_of_le_of_lt (le_of_eq (sym (mul_assoc Y dy dr) ∙ ap (λ (x : ℕ). x * dr) (sym y_is) ∙ swap ny L dr))
      (lt_of_lt_of_le (mul-lt-mul_of_pos_right h P) (le_of_eq (sym (swap nr L dy) ∙ ap (λ (x : ℕ). x * dy) r_is ∙ turn R dr dy))))
    where
      swap : (a b c : ℕ) → a * b * c ≡ a * c * b
      swap a b c = omega arith

      turn : (a b c : ℕ) → a * b * c ≡ a * (c * b)
      turn a b c = omega arith

  -- (y + r) of units
  sum_is : (ny * dr + nr * dy) * L ≡ (R + Y) * (dy * dr)
  sum_is = spread ny dr nr dy ∙ ap (λ (x : ℕ). x * dr + nr * L * dy) y_is ∙ ap (λ (x : ℕ). Y * dy * dr + x * dy) r_is ∙ collect Y R dy dr
    where
      spread : (a b c d : ℕ) → (a * b + c * d) * L ≡ a * L * b + c * L * d
      spread a b c d = omega arith

      collect : (a b c d : ℕ) → a * c * d + b * d * c ≡ (b + a) * (c * d)
      collect a b c d = omega arith

  module _ (nx dx u : ℕ) (x_is : nx * L ≡ u * dx) (Dx : 0 < dx) (Dy : 0 < dy) (Dr : 0 < dr) where
    -- both sides times L * L
    left_is : (ny * dr + nr * dy) * (ny * dr + nr * dy) * dx * (L * L) ≡ (R + Y) * (R + Y) * (dy * dr * (dy * dr) * dx)
    left_is = go (ny * dr + nr * dy) (dy * dr) (R + Y) sum_is
      where
        go : (S D Z : ℕ) → S * L ≡ Z * D → S * S * dx * (L * L) ≡ Z * Z * (D * D * dx)
        go S D Z e = group S L ∙ ap (λ (x : ℕ). x * x * dx) e ∙ group' Z D
          where
            group : (S L : ℕ) → S * S * dx * (L * L) ≡ S * L * (S * L) * dx
            group S L = omega arith

            group' : (Z D : ℕ) → Z * D * (Z * D) * dx ≡ Z * Z * (D * D * dx)
            group' Z D = omega arith

    right_is : nx * (4 * (dy * dr * (dy * dr))) * (L * L) ≡ 4 * (u * L) * (dy * dr * (dy * dr) * dx)
    right_is = go (dy * dr * (dy * dr))
      where
        go : (D : ℕ) → nx * (4 * D) * (L * L) ≡ 4 * (u * L) * (D * dx)
        go D = group D ∙ ap (λ (x : ℕ). x * (4 * D * L)) x_is ∙ group' D
          where
            group : (D : ℕ) → nx * (4 * D) * (L * L) ≡ nx * L * (4 * D * L)
            group D = omega arith

            group' : (D : ℕ) → u * dx * (4 * D * L) ≡ 4 * (u * L) * (D * dx)
            group' D = omega arith

    all_pos : 0 < dy * dr * (dy * dr) * dx
    all_pos = mul-pos (mul-pos (mul-pos Dy Dr) (mul-pos Dy Dr)) Dx

    pub under : (R + Y) * (R + Y) < 4 * (u * L) → (ny * dr + nr * dy) * (ny * dr + nr * dy) * dx < nx * (4 * (dy * dr * (dy * dr)))
    under h = lt_of_mul-lt-mul_right (L * L) (lt_of_le_of_lt (le_of_eq left_is) (lt_of_lt_of_le (mul-lt-mul_of_pos_right h all_pos) (le_of_eq (sym right_is))))

    pub over : 4 * (u * L) < (R + Y) * (R + Y) → nx * (4 * (dy * dr * (dy * dr))) < (ny * dr + nr * dy) * (ny * dr + nr * dy) * dx
    over h = lt_of_mul-lt-mul_right (L * L) (lt_of_le_of_lt (le_of_eq right_is) (lt_of_lt_of_le (mul-lt-mul_of_pos_right h all_pos) (le_of_eq (sym left_is))))
