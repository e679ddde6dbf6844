-- The root of a * 2 ^ 54, digit by digit: one turn keeps the sum, and after 54 turns it is the root. Assumes nothing.
use mathlib.Core.Path.{◌≡◌, sym, ap, ◌∙◌, subst}
use Prim.Native.Nat.{ℕ, ◌+◌, ◌-◌, ◌*◌, ◌/◌, ◌%◌, ◌^◌, ◌≤◌, ◌<◌}
use native.Mathlib.Nat.{lt_of_lt_of_le, pow-suc}
use native.Mathlib.Numerals.{add-one}
use native.Mathlib.Omega.{arith}
use lib.Pow.{pow_mono}
use Rattle.root.specs.Root.{IsRoot}

-- after i digits: `root` is the root of a's leading digits, with the rest `rest`, and `left` has the digits to come
pub record Digits (a root rest left i : ℕ) : Type 0 where
  pub sum : (root * root + rest) * 2 ^ 54 + left ≡ a * 4 ^ i
  pub small : rest ≤ 2 * root
  pub root-lt : root < 2 ^ i
  pub left_lt : left < 2 ^ 54
  pub turns : i ≤ 54

pub top : (a root rest left i : ℕ) → Digits a root rest left i → root < 2 ^ 54
top a root rest left i d = lt_of_lt_of_le d.root-lt (pow_mono d.turns)

next : ℕ → ℕ → ℕ
next rest left = rest * 4 + left / 2 ^ 52

four : (i : ℕ) → 4 ^ (i + 1) ≡ 4 ^ i * 4
four i = ap (λ (x : ℕ). 4 ^ x) (add-one i) ∙ pow-suc 4 i

two : (i : ℕ) → 2 ^ (i + 1) ≡ 2 ^ i * 2
two i = ap (λ (x : ℕ). 2 ^ x) (add-one i) ∙ pow-suc 2 i

pub start : (a : ℕ) → a < 2 ^ 54 → Digits a 0 0 a 0
start a h = record { sum = omega arith; small = omega arith; root-lt = omega arith; left_lt = h; turns = omega arith }

pub turn_one : (a root rest left i : ℕ) → Digits a root rest left i → i < 54 → root * 4 + 1 ≤ rest * 4 + left / 2 ^ 52
    → Digits a (root * 2 + 1) (rest * 4 + left / 2 ^ 52 - (root * 4 + 1)) (left % 2 ^ 52 * 4) (i + 1)
turn_one a root rest left i d l h = record {
  sum = subst (λ (x : ℕ). ((root * 2 + 1) * (root * 2 + 1) + (rest * 4 + left / 2 ^ 52 - (root * 4 + 1))) * 2 ^ 54 + left % 2 ^ 52 * 4 ≡ a * x) (sym (four i)) (go (4 ^ i) d.sum);
  small = lim d.small d.left_lt;
  root-lt = subst (λ (x : ℕ). root * 2 + 1 < x) (sym (two i)) (bound (2 ^ i) d.root-lt);
  left_lt = omega arith;
  turns = omega arith;
}
  where
    go : (p : ℕ) → (root * root + rest) * 2 ^ 54 + left ≡ a * p → ((root * 2 + 1) * (root * 2 + 1) + (rest * 4 + left / 2 ^ 52 - (root * 4 + 1))) * 2 ^ 54 + left % 2 ^ 52 * 4 ≡ a * (p * 4)
    go p e = omega arith

    lim : rest ≤ 2 * root → left < 2 ^ 54 → rest * 4 + left / 2 ^ 52 - (root * 4 + 1) ≤ 2 * (root * 2 + 1)
    lim s t = omega arith

    bound : (p : ℕ) → root < p → root * 2 + 1 < p * 2
    bound p h = omega arith

pub turn-zero : (a root rest left i : ℕ) → Digits a root rest left i → i < 54 → rest * 4 + left / 2 ^ 52 < root * 4 + 1
    → Digits a (root * 2) (rest * 4 + left / 2 ^ 52) (left % 2 ^ 52 * 4) (i + 1)
turn-zero a root rest left i d l h = record {
  sum = subst (λ (x : ℕ). (root * 2 * (root * 2) + (rest * 4 + left / 2 ^ 52)) * 2 ^ 54 + left % 2 ^ 52 * 4 ≡ a * x) (sym (four i)) (go (4 ^ i) d.sum);
  small = lim;
  root-lt = subst (λ (x : ℕ). root * 2 < x) (sym (two i)) (bound (2 ^ i) d.root-lt);
  left_lt = omega arith;
  turns = omega arith;
}
  where
    go : (p : ℕ) → (root * root + rest) * 2 ^ 54 + left ≡ a * p → (root * 2 * (root * 2) + (rest * 4 + left / 2 ^ 52)) * 2 ^ 54 + left % 2 ^ 52 * 4 ≡ a * (p * 4)
    go p e = omega arith

    lim : rest * 4 + left / 2 ^ 52 ≤ 2 * (root * 2)
    lim = omega arith

    bound : (p : ℕ) → root < p → root * 2 < p * 2
    bound p h = omega arith

pub done : (a root rest left i : ℕ) → Digits a root rest left i → 54 ≤ i → IsRoot (a * 2 ^ 54) root
done a root rest left i d h = go (subst (λ (x : ℕ). (root * root + rest) * 2 ^ 54 + left ≡ a * 4 ^ x) (end i d.turns h) d.sum) d.small d.left_lt
  where
    end : (i : ℕ) → i ≤ 54 → 54 ≤ i → i ≡ 54
    end i a b = omega arith

    go : (root * root + rest) * 2 ^ 54 + left ≡ a * 2 ^ 108 → rest ≤ 2 * root → left < 2 ^ 54 → IsRoot (a * 2 ^ 54) root
    go e s t = record { lower = omega arith; upper = omega arith }

-- under other names for the root and the rest
pub moved : {a root rest left i root' rest' : ℕ} → root' ≡ root → rest' ≡ rest → Digits a root rest left i → Digits a root' rest' left i
moved {a} {root} {rest} {left} {i} {root'} p q d = subst (λ (x : ℕ). Digits a root' x left i) (sym q) (subst (λ (x : ℕ). Digits a x rest left i) (sym p) d)
