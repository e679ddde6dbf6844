-- Laws of decimal and hex digits. Assumes nothing.
use mathlib.Core.Path.{◌≡◌, refl, sym, ap, ◌∙◌}
use mathlib.Core.Bool.{Bool, true, false, cond}
use mathlib.Core.List.{List, [], ◌∷◌, ◌++◌}
use Prim.Native.Nat.{ℕ, zero, suc, ◌+◌, ◌-◌, ◌*◌, ◌/◌, ◌%◌, ◌^◌, ◌<◌, ◌≤◌}
use native.Mathlib.Nat.{pow-succ', pow-suc, div-div-eq-div-mul}
use native.Mathlib.Omega.{arith}
use borrow.Author.Tests.{ltb-true, ltb-false, lt-ltb, le-ltb}
use lib.Dec.{ltb}
use lib.ListN.{length, set, length-append}
use lib.Seq.{sets}
use Rattle.text.specs.Text.{digit_char, last_digits, decimal, hex, hex16}
use Rattle.text.specs.Put.{Put}
use Rattle.text.proofs.Stores.{sets_append, set-sets}

-- ---- decimal

-- any bound above n gives the same digits
enough : (f g n : ℕ) → n < f → n < g → last_digits f n ≡ last_digits g n
unfolding last_digits
enough zero g n h k = absurd (omega arith)
enough (suc f) zero n h k = absurd (omega arith)
enough (suc f) (suc g) n h k = go (ltb n 10) refl (λ a b. enough f g (n / 10) a b)
  where
    go : (b : Bool) → ltb n 10 ≡ b → (n / 10 < f → n / 10 < g → last_digits f (n / 10) ≡ last_digits g (n / 10))
        → cond (ltb n 10) [] (last_digits f (n / 10)) ++ (digit_char (n % 10) ∷ []) ≡ cond (ltb n 10) [] (last_digits g (n / 10)) ++ (digit_char (n % 10) ∷ [])
    go true e r = rw e
    go false e r =
        let m : 10 ≤ n = ltb-false n 10 e in
        let s : last_digits f (n / 10) ≡ last_digits g (n / 10) = r (omega arith) (omega arith) in
        rw (e, s)

-- one digit
pub decimal_one : (n : ℕ) → n < 10 → decimal n ≡ digit_char n ∷ []
unfolding decimal last_digits
decimal_one n h = let e : n % 10 ≡ n = omega arith in rw (lt-ltb n 10 h, e)

-- the digits of a tenth, and the last
pub decimal-more : (n : ℕ) → 10 ≤ n → decimal n ≡ decimal (n / 10) ++ (digit_char (n % 10) ∷ [])
unfolding decimal last_digits
decimal-more n h =
    let s : last_digits n (n / 10) ≡ last_digits (suc (n / 10)) (n / 10) = enough n (suc (n / 10)) (n / 10) (omega arith) (omega arith) in
    rw (le-ltb n 10 h, s)

pub length_more : (n : ℕ) → 10 ≤ n → length (decimal n) ≡ length (decimal (n / 10)) + 1
length_more n h = rw (decimal-more n h) (length-append (decimal (n / 10)) (digit_char (n % 10) ∷ []))

-- how many digits there are at most
pub decimal-length : (k n : ℕ) → n < 10 ^ suc k → length (decimal n) ≤ suc k
decimal-length zero n h = let e : decimal n ≡ digit_char n ∷ [] = decimal_one n (omega (arith, pow-succ' 10 zero)) in omega (arith, ap length e)
decimal-length (suc k) n h = go (ltb n 10) refl (λ a. decimal-length k (n / 10) a)
  where
    go : (b : Bool) → ltb n 10 ≡ b → (n / 10 < 10 ^ suc k → length (decimal (n / 10)) ≤ suc k) → length (decimal n) ≤ suc (suc k)
    go true e r = omega (arith, ap length (decimal_one n (ltb-true n 10 e)))
    go false e r =
        let p : 10 ^ suc (suc k) ≡ 10 * 10 ^ suc k = pow-succ' 10 (suc k) in
        let m : 10 ≤ n = ltb-false n 10 e in
        let s = r (omega arith) in
        omega (arith, length_more n m)

-- of a u64, and of a u32
pub decimal_u64 : (n : ℕ) → n < 2 ^ 64 → length (decimal n) ≤ 20
decimal_u64 n h = decimal-length 19 n (omega arith)

pub decimal_u32 : (n : ℕ) → n < 2 ^ 32 → length (decimal n) ≤ 10
decimal_u32 n h = decimal-length 9 n (omega arith)

-- what two calls put, one behind the other
pub put-more : (l : List ℕ) (at n e : ℕ) → 10 ≤ n → e ≡ at + length (decimal (n / 10)) → set (sets l at (decimal (n / 10))) e (digit_char (n % 10)) ≡ sets l at (decimal n)
put-more l at n e h q = rw (decimal-more n h, q) (sym (sets_append (decimal (n / 10)) (digit_char (n % 10) ∷ []) l at))

-- ---- hex

pub length-hex : (k x : ℕ) → length (hex k x) ≡ k
unfolding hex
length-hex zero x = refl
length-hex (suc k) x = ap suc (length-hex k x)

-- sixteen digits, as a text that was put
pub one_hex : (l : List ℕ) (at x : ℕ) {m : List ℕ} {e : ℕ} → (e ≡ at + 16) × (m ≡ sets l at (hex16 x)) → Put l at (hex16 x) m e
one_hex l at x h = record { end = rw (length-hex 16 x) h.0; out = h.1 }

-- one more digit, in front of those that are there
pub hex-turn : (l : List ℕ) (at x i : ℕ) → 0 < i → i ≤ 16
    → set (sets l (at + i) (hex (16 - i) x)) (at + (i - 1)) (digit_char (x / 16 ^ (16 - i) % 16)) ≡ sets l (at + (i - 1)) (hex (16 - (i - 1)) x)
unfolding hex
hex-turn l at x i h k =
    let e : 16 - (i - 1) ≡ suc (16 - i) = omega arith in
    let j : at + i ≡ suc (at + (i - 1)) = omega arith in
    rw (e, j) (set-sets (hex (16 - i) x) l (at + (i - 1)) (suc (at + (i - 1))) (digit_char (x / 16 ^ (16 - i) % 16)) (omega arith))

pub rest-turn : (x i : ℕ) → 0 < i → i ≤ 16 → x / 16 ^ (16 - i) / 16 ≡ x / 16 ^ (16 - (i - 1))
rest-turn x i h k =
    let e : 16 - (i - 1) ≡ suc (16 - i) = omega arith in
    rw e (div-div-eq-div-mul x (16 ^ (16 - i)) 16 ∙ rw (← pow-suc 16 (16 - i)))
