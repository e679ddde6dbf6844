-- `sqrt` is the value of binary64 that is nearest to the root, and the only one. Assumes nothing.
use mathlib.Core.Path.{◌≡◌, refl, sym, ap, ◌∙◌, subst}
use Prim.Native.Nat.{ℕ, zero, suc, ◌+◌, ◌-◌, ◌*◌, ◌/◌, ◌%◌, ◌^◌, ◌≤◌, ◌<◌}
use native.Mathlib.Nat.{le_trans, le_of_eq, lt_of_lt_of_le, lt_of_le_of_lt, lt_of_not-le, zero-lt-suc, zero-mul, pow-succ', mul_right_comm}
use native.Mathlib.Omega.{arith}
use mathlib.Core.Bool.{Bool, true, false, not, cond, true≢false}
use lib.Dec.{T, ltb, ltb→lt, lt→ltb, nltb→le, lit<}
use lib.Pow.{pow-add, pow_pos}
use lib.Ieee.{Float, nan, inf, fin, binary64, up, down, lt, fits, size, top, hid, of_bits, to_bits}
use lib.Ieee.Fits.{down_pos, round-fits}
use lib.Ieee.Exact.{HasValue, odd_sign}
use lib.Ieee.Nearest.{div_same}
use lib.Ieee.Positive.{num, den, den_pos, positive, value→cross}
use lib.Ieee.Bits.{of_bits-to_bits}
use lib.Count.{count_leading_zeros}
use Rattle.root.specs.Root.{IsRoot, root, twice_root, sqrt, plain, MiddleUnder, MiddleOver, Nearest}
use Rattle.root.proofs.Root.{root-root}
use Rattle.float.proofs.Patterns.{low_value, normal_value}
use Rattle.root.proofs.Pattern.{normal}
use Rattle.root.proofs.Low.{moved, shifted, few, low-places, normal_places}
use Rattle.root.proofs.Whole.{digits_lo, digits_hi, lead, short, even-places, halves, odd_square, of_root}
use Rattle.root.proofs.Cases.{zero!, above-pos, above-lt, top_is}
use Rattle.root.proofs.Middles.{upper, lower, grid-above, grid-below, lt→cross, cross→units, under, over}

-- ---- the root of x, in units
pub record Result (x : Float) : Type 0 where
  pub u : ℕ
  pub N : ℕ
  pub q : ℕ
  pub j : ℕ
  pub x_val : HasValue x false u (2 ^ 1074)
  pub n_is : u * 2 ^ 1074 ≡ N * (2 ^ j * 2 ^ j)
  pub q_root : IsRoot N q
  pub q_lo : 2 ^ 53 ≤ q
  pub no_tie : q % 2 ≡ 1 → q * q ≡ N → ⊥
  pub r_val : HasValue (sqrt binary64 x) false ((q + 1) / 2 * 2 ^ suc j) (2 ^ 1074)

of_parts : (x : Float) (u m i : ℕ) → HasValue x false u (2 ^ 1074) → u * 2 ^ 52 ≡ m * 2 ^ i → 2 ^ 52 ≤ m → m < 2 ^ 53 → i ≤ 2097 → Result x
of_parts x u m i v e lo hi I =
    let a = m * 2 ^ (i % 2) in
    let j = i / 2 + 484 in
    let q = root (a * 2 ^ 54) in
    let rt = root-root (a * 2 ^ 54) in
    let q_lo : 2 ^ 53 ≤ q = lead a q (le_trans lo (digits_lo m (i % 2))) rt in
    let q_hi : q ≤ 2 ^ 54 - 2 = short a q (digits_hi m (i % 2) (bit i) hi) rt in
    let is = of_root x u m i q v e lo hi I rt in
    let k : suc j ≡ i / 2 + 485 = more (i / 2) in
    record {
      u = u;
      N = a * 2 ^ 54;
      q = q;
      j = j;
      x_val = v;
      n_is = even-places u m (2 ^ (i % 2)) (2 ^ (i / 2)) (2 ^ j) (2 ^ i) e (halves i) (pow-add 2 (i / 2) 484);
      q_root = rt;
      q_lo = q_lo;
      no_tie = odd_square q a;
      r_val = subst (λ (y : Float). HasValue y false ((q + 1) / 2 * 2 ^ suc j) (2 ^ 1074))
          (sym (normal (suc j) ((q + 1) / 2) (field i I) (half_lo q q_lo) (half_hi q q_hi)) ∙ ap (λ (z : ℕ). of_bits binary64 (z * 2 ^ 52 + (q + 1) / 2)) k ∙ is)
          (odd_sign 53 false ((q + 1) / 2) (suc j) 1074);
    }
  where
    bit : (i : ℕ) → i % 2 < 2
    bit i = omega arith

    more : (h : ℕ) → suc (h + 484) ≡ h + 485
    more h = omega arith

    field : (i : ℕ) → i ≤ 2097 → suc (suc (i / 2 + 484)) < 2047
    field i h = omega arith

    half_lo : (q : ℕ) → 2 ^ 53 ≤ q → 2 ^ 52 ≤ (q + 1) / 2
    half_lo q h = omega arith

    half_hi : (q : ℕ) → q ≤ 2 ^ 54 - 2 → (q + 1) / 2 < 2 ^ 53
    half_hi q h = omega arith

-- the pattern of a positive value is above 0 and below the infinity's
in_range_is : (x : Float) → T (fits binary64 x) → T (positive x) → (0 < to_bits binary64 x) × (to_bits binary64 x < 0x7ff0_0000_0000_0000)
in_range_is nan f p = absurd p
in_range_is (inf s) f p = absurd p
in_range_is (fin true m e) f p = absurd p
in_range_is (fin false zero e) f p = absurd p
in_range_is (fin false (suc m) e) f p =
    let x = fin false (suc m) e in
    (above-pos x f (above-lt m e), lt_of_not-le (λ (g : 0x7ff0_0000_0000_0000 ≤ to_bits binary64 x). never (sym (of_bits-to_bits binary64 x f) ∙ top_is (to_bits binary64 x) g (ap (λ (y : Float). lt zero! y) (of_bits-to_bits binary64 x f) ∙ above-lt m e))))
  where
    never : fin false (suc m) e ≡ inf false → ⊥
    never h = let z : ◌≡◌ {A = ℕ} 0 1 = cc in omega arith

by_bits : (b : ℕ) → 0 < b → b < 0x7ff0_0000_0000_0000 → Result (of_bits binary64 b)
by_bits b lo hi = go (ltb b (2 ^ 52)) (ltb→lt b (2 ^ 52)) (nltb→le b (2 ^ 52))
  where
    places : (b : ℕ) → 2 ^ 52 ≤ b → b < 0x7ff0_0000_0000_0000 → b / 2 ^ 52 + 51 ≤ 2097
    places b l h = omega arith

    ge : (b : ℕ) → 2 ^ 52 ≤ b % 2 ^ 52 + 2 ^ 52
    ge b = omega arith

    below : (b : ℕ) → b % 2 ^ 52 + 2 ^ 52 < 2 ^ 53
    below b = omega arith

    small : (k : ℕ) → 52 - k ≤ 2097
    small k = omega arith

    go : (t : Bool) → (T t → b < 2 ^ 52) → (T (not t) → 2 ^ 52 ≤ b) → Result (of_bits binary64 b)
    go true l g =
        let z = count_leading_zeros 64 b in
        let m = moved b lo (l tt) in
        of_parts (of_bits binary64 b) (b * 2 ^ 0) ((b * 2 ^ (z - 11)) % 2 ^ 64) (52 - (z - 11)) (low_value b (l tt)) (low-places b z m (few b z lo m))
        (subst (λ (x : ℕ). 2 ^ 52 ≤ x) (sym (shifted b z m)) m.lo) (subst (λ (x : ℕ). x < 2 ^ 53) (sym (shifted b z m)) m.hi) (small (z - 11))
    go false l g =
        of_parts (of_bits binary64 b) ((2 ^ 52 + b % 2 ^ 52) * 2 ^ (b / 2 ^ 52 - 1)) (b % 2 ^ 52 + 2 ^ 52) (b / 2 ^ 52 + 51) (normal_value b (g tt) hi) (normal_places b (g tt)) (ge b) (below b) (places b (g tt) hi)

pub result : (x : Float) → T (fits binary64 x) → T (positive x) → Result x
result x f p =
    let b = in_range_is x f p in
    subst (λ (y : Float). Result y) (of_bits-to_bits binary64 x f) (by_bits (to_bits binary64 x) b.0 b.1)

-- ---- any value of the format, in units
abbrev Units : Float → Type 0
Units y = (c : ℕ) × (e : ℕ) × (c < 2 ^ 53) × HasValue y false (c * 2 ^ e) (2 ^ 1074)

units-bits : (b : ℕ) → b < 0x7ff0_0000_0000_0000 → Units (of_bits binary64 b)
units-bits b hi = go (ltb b (2 ^ 52)) (ltb→lt b (2 ^ 52)) (nltb→le b (2 ^ 52))
  where
    below : (b : ℕ) → 2 ^ 52 + b % 2 ^ 52 < 2 ^ 53
    below b = omega arith

    wide : (b : ℕ) → b < 2 ^ 52 → b < 2 ^ 53
    wide b h = omega arith

    go : (t : Bool) → (T t → b < 2 ^ 52) → (T (not t) → 2 ^ 52 ≤ b) → Units (of_bits binary64 b)
    go true l g = (b, 0, wide b (l tt), low_value b (l tt))
    go false l g = (2 ^ 52 + b % 2 ^ 52, b / 2 ^ 52 - 1, below b, normal_value b (g tt) hi)

units_of : (y : Float) → T (fits binary64 y) → T (plain y) → Units y
units_of nan f p = absurd p
units_of (inf s) f p = absurd p
units_of (fin true m e) f p = absurd p
units_of (fin false zero e) f p = (0, 0, lit< tt, (refl, ap (λ (x : ℕ). x * 2 ^ 1074) (zero-mul (up e)) ∙ zero-mul (2 ^ 1074) ∙ sym (zero-mul (down e))))
units_of (fin false (suc m) e) f p =
    let y = fin false (suc m) e in
    subst (λ (z : Float). Units z) (of_bits-to_bits binary64 y f) (units-bits (to_bits binary64 y) (in_range_is y f (lt→ltb 0 (suc m) (zero-lt-suc m))).1)

-- ---- the theorem
pub value-plain : (r : Float) (a c : ℕ) → HasValue r false a c → T (plain r)
value-plain nan a c h = absurd h
value-plain (inf s) a c h = absurd h
value-plain (fin true m e) a c h = absurd (true≢false h.0)
value-plain (fin false m e) a c h = tt

pub sqrt-fits : (x : Float) → T (fits binary64 x) → T (fits binary64 (sqrt binary64 x))
unfolding sqrt
sqrt-fits nan f = unfold fits in tt
sqrt-fits (inf true) f = unfold fits in tt
sqrt-fits (inf false) f = unfold fits in tt
sqrt-fits (fin s zero e) f = f
sqrt-fits (fin true (suc m) e) f = unfold fits in tt
sqrt-fits (fin false (suc m) e) f = round-fits binary64 false (twice_root (suc m * up e * 2 ^ 1074 / down e * 2 ^ 1074)) (2 * 2 ^ 1074)

pub nearest : (x : Float) → T (fits binary64 x) → T (positive x) → Nearest binary64 x (sqrt binary64 x)
nearest x f p =
    let w = result x f p in
    let r = sqrt binary64 x in
    let L = 2 ^ 1074 in
    let k = suc w.j in
    let P = 2 ^ w.j in
    let Q = (w.q + 1) / 2 in
    let R = Q * 2 ^ k in
    let k_is : 2 ^ k ≡ 2 * P = pow-succ' 2 w.j in
    let plain_r : T (plain r) = value-plain r R L w.r_val in
    let r_is : num r * L ≡ R * den r = value→cross r R L w.r_val in
    let x_is : num x * L ≡ w.u * den x = value→cross x w.u L w.x_val in
    let n_is : 4 * (w.N * (P * P)) ≡ 4 * (w.u * L) = ap (λ (z : ℕ). 4 * z) (sym w.n_is) in
    record {
      held = sqrt-fits x f;
      above_zero = plain_r;
      from_below = λ y g t l.
          let v = units_of y g t in
          let Y = v.0 * 2 ^ v.1 in
          let y_is : num y * L ≡ Y * den y = value→cross y Y L v.3 in
          let less : Y < R = cross→units L (pow_pos 1074) (num y) (den y) Y (num r) (den r) R y_is r_is (lt→cross y r t plain_r l) in
          under L (pow_pos 1074) (num y) (den y) Y (num r) (den r) R y_is r_is (num x) (den x) w.u x_is (den_pos x) (den_pos y) (den_pos r)
          (subst (λ (z : ℕ). (Q * z + Y) * (Q * z + Y) < 4 * (w.u * L)) (sym k_is)
          (lt_of_lt_of_le (lower w.N w.q P (pow_pos w.j) w.q_root w.no_tie Y (subst (λ (z : ℕ). Y < Q * z) k_is less)
          (λ o. subst (λ (z : ℕ). Y + z ≤ Q * z) k_is (grid-below Q k v.0 v.1 v.2 (odd_lead w.q w.q_lo o) less))) (le_of_eq n_is)));
      from_above = λ y g t l.
          let v = units_of y g t in
          let Y = v.0 * 2 ^ v.1 in
          let y_is : num y * L ≡ Y * den y = value→cross y Y L v.3 in
          let less : R < Y = cross→units L (pow_pos 1074) (num r) (den r) R (num y) (den y) Y r_is y_is (lt→cross r y plain_r t l) in
          over L (pow_pos 1074) (num y) (den y) Y (num r) (den r) R y_is r_is (num x) (den x) w.u x_is (den_pos x) (den_pos y) (den_pos r)
          (subst (λ (z : ℕ). 4 * (w.u * L) < (Q * z + Y) * (Q * z + Y)) (sym k_is)
          (lt_of_le_of_lt (le_of_eq (sym n_is)) (upper w.N w.q P (pow_pos w.j) w.q_root w.no_tie Y (subst (λ (z : ℕ). (Q + 1) * z ≤ Y) k_is (grid-above Q k v.0 v.1 v.2 (lead_of_is w.q w.q_lo) less)))));
    }
  where
    odd_lead : (q : ℕ) → 2 ^ 53 ≤ q → q % 2 ≡ 1 → 2 ^ 52 < (q + 1) / 2
    odd_lead q h o = omega arith

    lead_of_is : (q : ℕ) → 2 ^ 53 ≤ q → 2 ^ 52 ≤ (q + 1) / 2
    lead_of_is q h = omega arith

-- ---- there is one such value
-- values of the format with the same fraction are the same
same_value : (r t : Float) → T (fits binary64 r) → T (fits binary64 t) → T (plain r) → T (plain t) → num r * den t ≡ num t * den r → r ≡ t
unfolding to_bits
same_value nan t f g p q e = absurd p
same_value (inf s) t f g p q e = absurd p
same_value (fin true m a) t f g p q e = absurd p
same_value (fin false m a) nan f g p q e = absurd q
same_value (fin false m a) (inf s) f g p q e = absurd q
same_value (fin false m a) (fin true n b) f g p q e = absurd q
same_value (fin false m a) (fin false n b) f g p q e =
    sym (of_bits-to_bits binary64 (fin false m a) f)
    ∙ ap (of_bits binary64) bits
    ∙ of_bits-to_bits binary64 (fin false n b) g
  where
    scaled : m * up a * 2 ^ 1074 / down a ≡ n * up b * 2 ^ 1074 / down b
    scaled = div_same (m * up a * 2 ^ 1074) (down a) (n * up b * 2 ^ 1074) (down b) (down_pos a) (down_pos b)
        (mul_right_comm (m * up a) (2 ^ 1074) (down b) ∙ ap (λ (x : ℕ). x * 2 ^ 1074) e ∙ mul_right_comm (n * up b) (down a) (2 ^ 1074))

    bits : to_bits binary64 (fin false m a) ≡ to_bits binary64 (fin false n b)
    bits = ap (λ (x : ℕ). cond false (top binary64) 0 + (size x - 53) * hid binary64 + x / 2 ^ (size x - 53)) scaled

cross→lt : (y r : Float) → T (plain y) → T (plain r) → num y * den r < num r * den y → T (lt y r)
unfolding lt
cross→lt nan r p q h = absurd p
cross→lt (inf s) r p q h = absurd p
cross→lt (fin true m e) r p q h = absurd p
cross→lt (fin false m e) nan p q h = absurd q
cross→lt (fin false m e) (inf s) p q h = absurd q
cross→lt (fin false m e) (fin true n d) p q h = absurd q
cross→lt (fin false m e) (fin false n d) p q h = lt→ltb (m * up e * down d) (n * up d * down e) h

clash : (x r t : Float) → MiddleUnder r t x → MiddleOver t r x → ⊥
clash x r t a b = no (num r) (den r) (num t) (den t) (num x) (den x) a b
  where
    no : (a b c d n e : ℕ) → (a * d + c * b) * (a * d + c * b) * e < n * (4 * (b * d * (b * d))) → n * (4 * (d * b * (d * b))) < (c * b + a * d) * (c * b + a * d) * e → ⊥
    no a b c d n e h k = omega arith

pub unique : (x r t : Float) → Nearest binary64 x r → Nearest binary64 x t → r ≡ t
unique x r t a b =
    same_value r t a.held b.held a.above_zero b.above_zero
    (only (num r * den t) (num t * den r)
    (λ h. let l = cross→lt r t a.above_zero b.above_zero h in clash x r t (b.from_below r a.held a.above_zero l) (a.from_above t b.held b.above_zero l))
    (λ h. let l = cross→lt t r b.above_zero a.above_zero h in clash x t r (a.from_below t b.held b.above_zero l) (b.from_above r a.held a.above_zero l)))
  where
    only : (m n : ℕ) → (m < n → ⊥) → (n < m → ⊥) → m ≡ n
    only m n h k = omega arith

-- so the nearest value is `sqrt`'s, and nothing else
pub is_sqrt : (x r : Float) → T (fits binary64 x) → T (positive x) → Nearest binary64 x r → r ≡ sqrt binary64 x
is_sqrt x r f p n = unique x r (sqrt binary64 x) n (nearest x f p)
