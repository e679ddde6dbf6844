-- What `text` writes is read back: a word of 16 hex digits, and a decimal word. Assumes nothing.
use Prim.Native.Nat.{ℕ, zero, suc, ◌+◌, ◌*◌, ◌/◌, ◌%◌, ◌^◌, ◌≤◌, ◌<◌}
use mathlib.Core.Path.{◌≡◌, refl, sym, ap, ◌∙◌}
use mathlib.Core.Bool.{Bool, true, false}
use mathlib.Core.List.{List, [], ◌∷◌, ◌++◌, append_assoc, append-nil}
use native.Mathlib.Nat.{div-add-mod', div-div-eq-div-mul, pow-suc, mod-lt, div-one, div-le_self}
use native.Mathlib.Omega.{arith}
use borrow.Author.Tests.{lt-ltb, le-ltb, ltb-true, ltb-false, ne_eqb}
use lib.Dec.{ltb}
use lib.ListN.{length, get_or, length-append, get_or-append}
use Rattle.text.specs.Text.{digit_char, hex, hex16, decimal}
use Rattle.text.proofs.Digits.{decimal_one, decimal-more}
use Rattle.std.proofs.Common.{Some}
use Rattle.words.specs.Words.{digit_of, number_from, hex_of, plain_of, decimal_of}
use Rattle.words.proofs.Reading.{taken}

-- the value of a digit's character is the digit
pub digit-back : (d : ℕ) → d < 16 → digit_of (digit_char d) ≡ d
unfolding digit_of digit_char
digit-back d h = go (ltb d 10) refl
  where
    go : (b : Bool) → ltb d 10 ≡ b → digit_of (digit_char d) ≡ d
    go true e =
        let m : d < 10 = ltb-true d 10 e in
        simp (e, le-ltb (48 + d) 48 (omega arith), lt-ltb (48 + d) 58 (omega arith)) (omega arith)
    go false e =
        let m : 10 ≤ d = ltb-false d 10 e in
        simp (e, le-ltb (55 + d) 48 (omega arith), le-ltb (55 + d) 58 (omega arith), le-ltb (55 + d) 65 (omega arith), lt-ltb (55 + d) 71 (omega arith)) (omega arith)

-- the last digit of q after the others
pub last_digit : (base q : ℕ) (t : List ℕ) → 0 < base → base ≤ 16 → q < 2 ^ 64 → number_from base (q / base) (digit_char (q % base) ∷ t) ≡ number_from base q t
last_digit base q t pos most fits =
    let m : q % base < base = mod-lt q pos in
    let e : digit_of (digit_char (q % base)) ≡ q % base = digit-back (q % base) (omega arith) in
    let s : q / base * base + digit_of (digit_char (q % base)) ≡ q = rw e (div-add-mod' q base) in
    taken base (q / base) (digit_char (q % base)) t (omega arith) (omega arith) ∙ ap (λ (v : ℕ). number_from base v t) s

-- the lowest k hex digits of x after the others
hex_left : (k x : ℕ) → x < 2 ^ 64 → number_from 16 (x / 16 ^ k) (hex k x) ≡ Some x
unfolding number_from hex
hex_left zero x h = ap Some (div-one x)
hex_left (suc k) x h = rw (pow-suc 16 k, ← div-div-eq-div-mul x (16 ^ k) 16) (last_digit 16 (x / 16 ^ k) (hex k x) (omega arith) (omega arith) (below (16 ^ k)) ∙ hex_left k x h)
  where
    below : (m : ℕ) → x / m < 2 ^ 64
    below m = omega (arith, div-le_self x m)

-- the number of a pattern's sixteen digits
pub hex-back : (x : ℕ) → x < 2 ^ 64 → hex_of (hex16 x) ≡ Some x
unfolding hex_of hex
hex-back x h = ap (λ (v : ℕ). number_from 16 v (hex 16 x)) (sym none) ∙ hex_left 16 x h
  where
    none : x / 16 ^ 16 ≡ 0
    none = omega arith

-- a number's decimal digits
decimal_left : (f n : ℕ) (t : List ℕ) → n < f → n < 2 ^ 64 → number_from 10 0 (decimal n ++ t) ≡ number_from 10 n t
decimal_left zero n t h k = absurd (omega arith)
decimal_left (suc f) n t h k = go (ltb n 10) refl (λ u a b. decimal_left f (n / 10) u a b)
  where
    go : (b : Bool) → ltb n 10 ≡ b → ((u : List ℕ) → n / 10 < f → n / 10 < 2 ^ 64 → number_from 10 0 (decimal (n / 10) ++ u) ≡ number_from 10 (n / 10) u) → number_from 10 0 (decimal n ++ t) ≡ number_from 10 n t
    go true e r =
        let m : n < 10 = ltb-true n 10 e in
        let z : n / 10 ≡ 0 = omega arith in
        let s : n % 10 ≡ n = omega arith in
        rw (decimal_one n m) (rw (z, s) at (last_digit 10 n t (omega arith) (omega arith) k))
    go false e r =
        let m : 10 ≤ n = ltb-false n 10 e in
        rw (decimal-more n m, append_assoc) (r (digit_char (n % 10) ∷ t) (omega arith) (omega arith) ∙ last_digit 10 n t (omega arith) (omega arith) k)

-- the first of them is no zero, unless the number is 0
record Lead (s : List ℕ) : Type 0 where
  some : 0 < length s
  first : get_or s 0 0 ≡ 48 → ⊥

lead : (f n : ℕ) → n < f → 0 < n → Lead (decimal n)
unfolding digit_char
lead zero n h pos = absurd (omega arith)
lead (suc f) n h pos = go (ltb n 10) refl (λ a b. lead f (n / 10) a b)
  where
    go : (b : Bool) → ltb n 10 ≡ b → (n / 10 < f → 0 < n / 10 → Lead (decimal (n / 10))) → Lead (decimal n)
    go true e r =
        let m : n < 10 = ltb-true n 10 e in
        rw (decimal_one n m, e) (record { some = omega arith; first = λ w. omega arith })
    go false e r =
        let m : 10 ≤ n = ltb-false n 10 e in
        let l : Lead (decimal (n / 10)) = r (omega arith) (omega arith) in
        rw (decimal-more n m)
        (record {
          some = simp length-append (omega arith);
          first = λ w. l.first (sym (get_or-append (decimal (n / 10)) (digit_char (n % 10) ∷ []) 0 0 l.some) ∙ w);
        })

plain_back : (n : ℕ) → plain_of (decimal n) ≡ true
unfolding plain_of
plain_back n = go (ltb n 10) refl
  where
    go : (b : Bool) → ltb n 10 ≡ b → plain_of (decimal n) ≡ true
    go true e = rw (decimal_one n (ltb-true n 10 e))
    go false e =
        let m : 10 ≤ n = ltb-false n 10 e in
        let l : Lead (decimal n) = lead (suc n) n (omega arith) (omega arith) in
        let k : Lead (decimal (n / 10)) = lead (suc (n / 10)) (n / 10) (omega arith) (omega arith) in
        let two : 1 < length (decimal n) = rw (decimal-more n m) (simp length-append (omega arith)) in
        simp (ne_eqb (length (decimal n)) 0 (λ w. omega arith), ne_eqb (length (decimal n)) 1 (λ w. omega arith), ne_eqb (get_or (decimal n) 0 0) 48 l.first)

-- the number of a decimal word
pub decimal-back : (n : ℕ) → n < 2 ^ 64 → decimal_of (decimal n) ≡ Some n
unfolding decimal_of number_from
decimal-back n h = simp (plain_back n) (ap (number_from 10 0) (sym (append-nil (decimal n))) ∙ decimal_left (suc n) n [] (omega arith) h)
