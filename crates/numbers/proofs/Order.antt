-- The order of floats: `le` is transitive, of two finite numbers one is at most the other, and `clamp01` of a finite number lies in 0..1. Assumes nothing.
use mathlib.Core.Path.{◌≡◌, refl, sym, ap, ◌∙◌}
use Prim.Native.Nat.{ℕ, ◌+◌, ◌*◌, ◌≤◌, ◌<◌, zero-le}
use native.Mathlib.Nat.{le_refl, le_trans, le_of_eq, zero-mul, mul_right_comm, mul-le-mul_right, le_of_mul-le-mul_right, eq_of_mul-eq-mul_right}
use native.Mathlib.Omega.{arith}
use mathlib.Core.Bool.{Bool, true, false, cond}
use lib.Ieee.{Float, nan, inf, fin, up, down, below, lt, eq, le, of_bits}
use lib.Ieee.Fits.{down_pos}
use borrow.Author.Tests.{ltb-false}
use Rattle.float.specs.Number.{finite, f0, f1}
use Rattle.float.specs.Number.{clamp01}
use Rattle.float.proofs.Strict.{Fin}
use Rattle.float.proofs.Truth.{never, or_left}
use Rattle.float.proofs.Ranks.{Le, LeN, says, said}
use Rattle.numbers.specs.Words.{InUnit}

-- ---- transitivity
pub cross_trans : (a p b q c r : ℕ) → 0 < q → a * q ≤ b * p → b * r ≤ c * q → a * r ≤ c * p
cross_trans a p b q c r Q h k =
    le_of_mul-le-mul_right
    (le_trans (le_of_eq (mul_right_comm a r q))
    (le_trans (mul-le-mul_right r h)
    (le_trans (le_of_eq (mul_right_comm b p r))
    (le_trans (mul-le-mul_right p k) (le_of_eq (mul_right_comm c q p))))))
    Q

gone : (a q : ℕ) → 0 < q → a * q ≡ 0 → a ≡ 0
gone a q Q h = eq_of_mul-eq-mul_right q Q a 0 (h ∙ sym (zero-mul q))

none : (a q : ℕ) → a ≡ 0 → a * q ≡ 0
none a q e = ap (λ (x : ℕ). x * q) e ∙ zero-mul q

under_none : (a b : ℕ) → a ≤ b → b ≡ 0 → a ≡ 0
under_none a b h e = omega arith

fin_trans : (s : Bool) (a p : ℕ) (t : Bool) (b q : ℕ) (u : Bool) (c r : ℕ) → 0 < p → 0 < q → 0 < r → LeN s (a * q) t (b * p) → LeN t (b * r) u (c * q) → LeN s (a * r) u (c * p)
fin_trans false a p false b q false c r P Q R h k = cross_trans a p b q c r Q h k
fin_trans false a p false b q true c r P Q R h k =
    (none a r (gone a q Q (under_none (a * q) (b * p) h (none b p (gone b r R k.0)))), none c p (gone c q Q k.1))
fin_trans false a p true b q false c r P Q R h k = le_trans (le_of_eq (none a r (gone a q Q h.0))) zero-le
fin_trans false a p true b q true c r P Q R h k =
    (none a r (gone a q Q h.0), none c p (gone c q Q (under_none (c * q) (b * r) k (none b r (gone b p P h.1)))))
fin_trans true a p t b q false c r P Q R h k = tt
fin_trans true a p false b q true c r P Q R h k = le_trans (le_of_eq (none c p (gone c q Q k.1))) zero-le
fin_trans true a p true b q true c r P Q R h k = cross_trans c r b q a p Q k h

pub le_tr : (x y z : Float) → Le x y → Le y z → Le x z
unfolding le
le_tr nan y z h k = never h
le_tr (inf true) nan z h k = never h
le_tr (inf true) (inf true) z h k = k
le_tr (inf true) (inf false) nan h k = never k
le_tr (inf true) (inf false) (inf true) h k = refl
le_tr (inf true) (inf false) (inf false) h k = refl
le_tr (inf true) (inf false) (fin u c g) h k = refl
le_tr (inf true) (fin t b d) nan h k = never k
le_tr (inf true) (fin t b d) (inf true) h k = refl
le_tr (inf true) (fin t b d) (inf false) h k = refl
le_tr (inf true) (fin t b d) (fin u c g) h k = refl
le_tr (inf false) nan z h k = never h
le_tr (inf false) (inf true) z h k = never h
le_tr (inf false) (inf false) z h k = k
le_tr (inf false) (fin t b d) z h k = never h
le_tr (fin s a e) nan z h k = never h
le_tr (fin s a e) (inf true) z h k = never h
le_tr (fin s a e) (inf false) nan h k = never k
le_tr (fin s a e) (inf false) (inf true) h k = never k
le_tr (fin s a e) (inf false) (inf false) h k = refl
le_tr (fin s a e) (inf false) (fin u c g) h k = never k
le_tr (fin s a e) (fin t b d) nan h k = never k
le_tr (fin s a e) (fin t b d) (inf true) h k = never k
le_tr (fin s a e) (fin t b d) (inf false) h k = refl
le_tr (fin s a e) (fin t b d) (fin u c g) h k =
    said s (a * up e * down g) u (c * up g * down e)
    (fin_trans s (a * up e) (down e) t (b * up d) (down d) u (c * up g) (down g) (down_pos e) (down_pos d) (down_pos g)
    (says s (a * up e * down d) t (b * up d * down e) h)
    (says t (b * up d * down g) u (c * up g * down d) k))

-- ---- one of two finite numbers is at most the other
turn : (s : Bool) (a : ℕ) (t : Bool) (b : ℕ) → below s a t b ≡ false → LeN t b s a
turn false a false b h = ltb-false a b h
turn false a true b h = tt
turn true a false b h = let l : a + b ≤ 0 = ltb-false 0 (a + b) h in (omega arith, omega arith)
turn true a true b h = ltb-false b a h

pub not_lt : (x y : Float) → Fin x → Fin y → lt x y ≡ false → Le y x
unfolding le finite
not_lt nan y p q h = never p
not_lt (inf s) y p q h = never p
not_lt (fin s a e) nan p q h = never q
not_lt (fin s a e) (inf t) p q h = never q
not_lt (fin s a e) (fin t b d) p q h = said t (b * up d * down e) s (a * up e * down d) (turn s (a * up e * down d) t (b * up d * down e) h)

pub lt_is_le : (x y : Float) → lt x y ≡ true → Le x y
unfolding le
lt_is_le x y h = or_left (lt x y) (eq x y) h

own : (s : Bool) (a : ℕ) → LeN s a s a
own true a = le_refl a
own false a = le_refl a

pub le_self : (x : Float) → Fin x → Le x x
unfolding le finite
le_self nan h = never h
le_self (inf s) h = never h
le_self (fin s a e) h = said s (a * up e * down e) s (a * up e * down e) (own s (a * up e * down e))

-- ---- 0..1
pub zero_in : InUnit f0
unfolding le of_bits
zero_in = (refl, refl)

pub one_in : InUnit f1
unfolding le of_bits
one_in = (refl, refl)

f0-fin : Fin f0
unfolding finite of_bits
f0-fin = refl

f1-fin : Fin f1
unfolding finite of_bits
f1-fin = refl

pub clamp_in : (x : Float) → Fin x → InUnit (clamp01 x)
unfolding clamp01
clamp_in x h = go (lt x f0) refl (lt f1 x) refl
  where
    go : (p : Bool) → lt x f0 ≡ p → (q : Bool) → lt f1 x ≡ q → InUnit (cond p f0 (cond q f1 x))
    go true a q b = zero_in
    go false a true b = one_in
    go false a false b = (not_lt x f0 h f0-fin a, not_lt f1 x f1-fin h b)
