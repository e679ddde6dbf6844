-- Digits and numbers: as they are read, and as the productions have them. Assumes nothing.
use Prim.Native.Nat.{ℕ, ◌+◌, ◌≤◌, ◌<◌}
use mathlib.Core.Path.{◌≡◌, refl, ap}
use mathlib.Core.Bool.{Bool, true, false, ◌&&◌, cond}
use mathlib.Core.List.{List, [], ◌∷◌}
use native.Mathlib.Omega.{arith}
use borrow.Author.Tests.{eqb-true, leb-true, ltb-true, eq-eqb, ne_eqb, le-leb, lt-ltb}
use lib.Dec.{eqb, ltb, leb}
use lib.ListN.{length}
use Rattle.float.specs.Answer.{ok}
use Rattle.float.proofs.Truth.{and_left, and_right, both, not_so, true-false}
use Rattle.path.specs.Decimals.{signed}
use Rattle.path.specs.Numbers.{Taken, taken, front, behind, is_digit, leading, those, past, spelled, unsigned, number}
use Rattle.path.specs.declared.Decimal.{Decimal}
use Rattle.productions.specs.Productions.{Digit, Digits, Digits?, thousandths, Constant, Sign?, Ends, Number}
use Rattle.productions.proofs.Fits.{Fits, tested}
use Rattle.productions.proofs.Spaces.{begins, past_none, those_none, stops, Start}

-- ---- digits

digit_so : {d : ℕ} → Digit d → is_digit d ≡ true
unfolding is_digit
digit_so {d} (l, h) = both (leb 48 d) (leb d 57) (le-leb 48 d l) (le-leb d 57 h)

digit_is : (d : ℕ) → is_digit d ≡ true → Digit d
unfolding is_digit
digit_is d h = (leb-true 48 d (and_left (leb 48 d) (leb d 57) h), leb-true d 57 (and_right (leb 48 d) (leb d 57) h))

no_digit : (d : ℕ) → (Digit d → ⊥) → is_digit d ≡ false
no_digit d h = not_so (is_digit d) (λ e. h (digit_is d e))

nothing : is_digit 0 ≡ false
unfolding is_digit
nothing = refl

row_more : {d : ℕ} {s w r : List ℕ} → Digit d → Digits? s w r → Digits (d ∷ s) (d ∷ w) r
row_more h Digits?.none = Digits.one h
row_more h (Digits?.some k) = Digits.more h k

row : (s : List ℕ) → Digits? s (those is_digit s) (past is_digit s)
unfolding leading
row [] = Digits?.none
row (c ∷ s) = go (is_digit c) refl (row s)
  where
    go : (b : Bool) → is_digit c ≡ b → Digits? s (those is_digit s) (past is_digit s) → Digits? (c ∷ s) (those is_digit (c ∷ s)) (past is_digit (c ∷ s))
    go true e r = rw e (Digits?.some (row_more (digit_is c e) r))
    go false e r = rw e Digits?.none

past_digits : {s w r : List ℕ} → Digits s w r → is_digit (front r) ≡ false → past is_digit s ≡ r
unfolding leading
past_digits {r = r} (Digits.one h) e = rw (digit_so h) (past_none is_digit r e)
past_digits (Digits.more h k) e = rw (digit_so h) (past_digits k e)

past_row : {s w r : List ℕ} → Digits? s w r → is_digit (front r) ≡ false → past is_digit s ≡ r
past_row {r = r} Digits?.none e = past_none is_digit r e
past_row (Digits?.some k) e = past_digits k e

those_digits : {s w r : List ℕ} → Digits s w r → is_digit (front r) ≡ false → those is_digit s ≡ w
unfolding leading
those_digits {r = r} (Digits.one {d = d} h) e = rw (digit_so h) (ap (λ (w : List ℕ). d ∷ w) (those_none is_digit r e))
those_digits (Digits.more {d = d} h k) e = rw (digit_so h) (ap (λ (w : List ℕ). d ∷ w) (those_digits k e))

those-row : {s w r : List ℕ} → Digits? s w r → is_digit (front r) ≡ false → those is_digit s ≡ w
those-row {r = r} Digits?.none e = those_none is_digit r e
those-row (Digits?.some k) e = those_digits k e

digits_some : {s w r : List ℕ} → Digits s w r → 0 < length w
digits_some (Digits.one h) = omega arith
digits_some (Digits.more h k) = omega arith

digits_front : {s w r : List ℕ} → Digits s w r → Digit (front s)
digits_front (Digits.one h) = h
digits_front (Digits.more h k) = h

digits_shorter : {s w r : List ℕ} → Digits s w r → length r < length s
digits_shorter (Digits.one h) = omega arith
digits_shorter (Digits.more h k) = omega (arith, digits_shorter k)

row_within : {s w r : List ℕ} → Digits? s w r → length r ≤ length s
row_within Digits?.none = omega arith
row_within (Digits?.some k) = omega (arith, digits_shorter k)

-- ---- as long as they go

ends-point : (r : List ℕ) → is_digit (front r) ≡ false → Ends true r
ends-point [] h = Ends.text
ends-point (c ∷ r) h = Ends.point (λ d. true-false (is_digit c) (digit_so d) h)

ends-whole : (r : List ℕ) → is_digit (front r) ≡ false → eqb (front r) 46 ≡ false → Ends false r
ends-whole [] h k = Ends.text
ends-whole (c ∷ r) h k = Ends.whole (λ d. true-false (is_digit c) (digit_so d) h) (λ e. true-false (eqb c 46) (eq-eqb c 46 e) k)

ends-digit : {p : Bool} {r : List ℕ} → Ends p r → is_digit (front r) ≡ false
ends-digit Ends.text = nothing
ends-digit (Ends.whole {c = c} h k) = no_digit c h
ends-digit (Ends.point {c = c} h) = no_digit c h

ends_no_point : {r : List ℕ} → Ends false r → eqb (front r) 46 ≡ false
ends_no_point Ends.text = refl
ends_no_point (Ends.whole {c = c} h k) = ne_eqb c 46 k

-- ---- what is read

with_point : {s t w u f r : List ℕ} {b : Bool} → Sign? s b t → Digits? t w (46 ∷ u) → Digits? u f r → is_digit (front r) ≡ false → 0 < length w + length f → length f ≤ 3 → Number s (signed b (thousandths w f)) r
with_point {r = r} sign w (Digits?.some f) e h k = Number.number sign (Constant.fraction w f k) (ends-point r e)
with_point {r = r} sign (Digits?.some w) Digits?.none e h k = Number.number sign (Constant.pointed w) (ends-point r e)
with_point sign Digits?.none Digits?.none e h k = absurd (omega arith)

no_point : {s t w r : List ℕ} {b : Bool} → Sign? s b t → Digits? t w r → is_digit (front r) ≡ false → eqb (front r) 46 ≡ false → 0 < length w → Number s (signed b (thousandths w [])) r
no_point sign Digits?.none e k h = absurd (omega arith)
no_point {r = r} sign (Digits?.some w) e k h = Number.number sign (Constant.integer w) (ends-whole r e k)

spelled-fits : (P : Taken Decimal → Type 0) (b : Bool) (w f r : List ℕ) → (0 < length w + length f → length f ≤ 3 → P (taken (signed b (thousandths w f)) r)) → Fits P (spelled b w f r)
unfolding spelled
spelled-fits P b w f r h =
    let x : Bool = ltb 0 (length w + length f) in
    let y : Bool = leb (length f) 3 in
    tested P (x && y) (ok (taken (signed b (thousandths w f)) r)) (λ e. h (ltb-true 0 (length w + length f) (and_left x y e)) (leb-true (length f) 3 (and_right x y e)))

abbrev pub NumberRead : List ℕ → Taken Decimal → Type 0
NumberRead s n = Number s n.value n.rest

unsigned-fits : {s : List ℕ} {b : Bool} (t : List ℕ) → Sign? s b t → Fits (NumberRead s) (unsigned b t)
unfolding unsigned
unsigned-fits {s} {b} t sign = go (eqb (front (past is_digit t)) 46) refl
  where
    go : (c : Bool) → eqb (front (past is_digit t)) 46 ≡ c → Fits (NumberRead s) (cond c (spelled b (those is_digit t) (those is_digit (behind (past is_digit t))) (past is_digit (behind (past is_digit t)))) (spelled b (those is_digit t) [] (past is_digit t)))
    go true e =
        let z : past is_digit t ≡ 46 ∷ behind (past is_digit t) = begins (past is_digit t) 46 (eqb-true (front (past is_digit t)) 46 e) (omega arith) in
        let w : Digits? t (those is_digit t) (46 ∷ behind (past is_digit t)) = rw (← z) (row t) in
        spelled-fits (NumberRead s) b (those is_digit t) (those is_digit (behind (past is_digit t))) (past is_digit (behind (past is_digit t)))
        (λ h k. with_point sign w (row (behind (past is_digit t))) (stops is_digit nothing (behind (past is_digit t))) h k)
    go false e = spelled-fits (NumberRead s) b (those is_digit t) [] (past is_digit t) (λ h k. no_point sign (row t) (stops is_digit nothing t) e (omega arith))

plus_is : (s : List ℕ) → front s ≡ 43 → Sign? s false (behind s)
plus_is [] h = absurd (omega arith)
plus_is (c ∷ s) h = rw h Sign?.plus

minus_is : (s : List ℕ) → front s ≡ 45 → Sign? s true (behind s)
minus_is [] h = absurd (omega arith)
minus_is (c ∷ s) h = rw h Sign?.minus

pub number_fits : (s : List ℕ) → Fits (NumberRead s) (number s)
unfolding number
number_fits s = go (eqb (front s) 43) (eqb (front s) 45) refl refl
  where
    go : (c d : Bool) → eqb (front s) 43 ≡ c → eqb (front s) 45 ≡ d → Fits (NumberRead s) (cond c (unsigned false (behind s)) (cond d (unsigned true (behind s)) (unsigned false s)))
    go true d e h = unsigned-fits (behind s) (plus_is s (eqb-true (front s) 43 e))
    go false true e h = unsigned-fits (behind s) (minus_is s (eqb-true (front s) 45 h))
    go false false e h = unsigned-fits s Sign?.none

-- ---- what is there is read

spelled_back : (b : Bool) (w f r : List ℕ) → 0 < length w + length f → length f ≤ 3 → spelled b w f r ≡ ok (taken (signed b (thousandths w f)) r)
unfolding spelled
spelled_back b w f r h k = rw (lt-ltb 0 (length w + length f) h, le-leb (length f) 3 k) refl

point_no_digit : is_digit 46 ≡ false
unfolding is_digit
point_no_digit = refl

unsigned_back : {t r : List ℕ} {p : Bool} {n : ℕ} (b : Bool) → Constant t p n r → Ends p r → unsigned b t ≡ ok (taken (signed b n) r)
unfolding unsigned
unsigned_back {r = r} b (Constant.fraction {w = w} {f = f} d k few) e =
    rw (those-row d point_no_digit, past_row d point_no_digit, those_digits k (ends-digit e), past_digits k (ends-digit e)) (spelled_back b w f r (omega (arith, digits_some k)) few)
unsigned_back {r = r} b (Constant.pointed {w = w} d) e =
    rw (those_digits d point_no_digit, past_digits d point_no_digit, those_none is_digit r (ends-digit e), past_none is_digit r (ends-digit e)) (spelled_back b w [] r (omega (arith, digits_some d)) (omega arith))
unsigned_back {r = r} b (Constant.integer {w = w} d) e =
    rw (those_digits d (ends-digit e), past_digits d (ends-digit e), ends_no_point e) (spelled_back b w [] r (omega (arith, digits_some d)) (omega arith))

row-front : {s w t : List ℕ} → Digits? s w (46 ∷ t) → (46 ≤ front s) × (front s ≤ 57)
row-front Digits?.none = (omega arith, omega arith)
row-front (Digits?.some d) = let (l, h) = digits_front d in (omega arith, h)

constant_front : {t r : List ℕ} {p : Bool} {n : ℕ} → Constant t p n r → (46 ≤ front t) × (front t ≤ 57)
constant_front (Constant.fraction d k few) = row-front d
constant_front (Constant.pointed d) = row-front (Digits?.some d)
constant_front (Constant.integer d) = let (l, h) = digits_front d in (omega arith, h)

pub number_back : {s r : List ℕ} {d : Decimal} → Number s d r → number s ≡ ok (taken d r)
unfolding number
number_back (Number.number {s = s} Sign?.none c e) =
    let (l, h) = constant_front c in
    rw (ne_eqb (front s) 43 (λ x. omega arith), ne_eqb (front s) 45 (λ x. omega arith)) (unsigned_back false c e)
number_back (Number.number Sign?.plus c e) = unsigned_back false c e
number_back (Number.number Sign?.minus c e) = unsigned_back true c e

pub number_start : {s r : List ℕ} {d : Decimal} → Number s d r → Start s
number_start (Number.number {s = s} Sign?.none c e) = let (l, h) = constant_front c in record { low = omega arith; high = h; comma = λ x. omega arith }
number_start (Number.number Sign?.plus c e) = record { low = omega arith; high = omega arith; comma = λ x. omega arith }
number_start (Number.number Sign?.minus c e) = record { low = omega arith; high = omega arith; comma = λ x. omega arith }

-- ---- a number takes a byte at least

constant_shorter : {t r : List ℕ} {p : Bool} {n : ℕ} → Constant t p n r → length r < length t
constant_shorter (Constant.fraction d k few) = omega (arith, row_within d, digits_shorter k)
constant_shorter (Constant.pointed d) = omega (arith, digits_shorter d)
constant_shorter (Constant.integer d) = digits_shorter d

pub number_shorter : {s r : List ℕ} {d : Decimal} → Number s d r → length r < length s
number_shorter (Number.number Sign?.none c e) = constant_shorter c
number_shorter (Number.number Sign?.plus c e) = omega (arith, constant_shorter c)
number_shorter (Number.number Sign?.minus c e) = omega (arith, constant_shorter c)
