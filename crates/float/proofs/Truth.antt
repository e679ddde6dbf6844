-- Laws of booleans and of what `cond` picks. Assumes nothing.
use mathlib.Core.Path.{◌≡◌, refl, sym, ap, ◌∙◌, subst}
use mathlib.Core.Bool.{Bool, true, false, ◌&&◌, ◌||◌, cond}
use lib.Dec.{T}

pub never : {A : Type 0} → false ≡ true → A
never h = absurd (subst T (sym h) tt)

pub and_left : (a b : Bool) → a && b ≡ true → a ≡ true
and_left true b h = refl
and_left false b h = h

pub and_right : (a b : Bool) → a && b ≡ true → b ≡ true
and_right true b h = h
and_right false b h = never h

pub both : (a b : Bool) → a ≡ true → b ≡ true → a && b ≡ true
both true b h k = k
both false b h k = h

pub not_so : (b : Bool) → (b ≡ true → ⊥) → b ≡ false
not_so true h = absurd (h refl)
not_so false h = refl

pub true-false : (b : Bool) → b ≡ true → b ≡ false → ⊥
true-false true h e = subst T e tt
true-false false h e = subst T (sym h) tt

-- what would refute a truth were it false is true
pub is_so : (b k : Bool) → b ≡ true → (k ≡ false → b ≡ false) → k ≡ true
is_so b true h f = refl
is_so b false h f = sym (f refl) ∙ h

-- a boolean that follows from another adds nothing to it
pub and_implied : (a b : Bool) → (b ≡ true → a ≡ true) → a && b ≡ b
and_implied true b h = refl
and_implied false true h = h refl
and_implied false false h = refl

pub same : (a b : Bool) → (a ≡ true → b ≡ true) → (b ≡ true → a ≡ true) → a ≡ b
same true b f g = sym (f refl)
same false true f g = g refl
same false false f g = refl

pub and-true : (b : Bool) → b && true ≡ b
and-true true = refl
and-true false = refl

pub and-false : (b : Bool) → b && false ≡ false
and-false true = refl
and-false false = refl

pub and_assoc : (a b c : Bool) → (a && b) && c ≡ a && (b && c)
and_assoc true b c = refl
and_assoc false b c = refl

pub or_left : (a b : Bool) → a ≡ true → a || b ≡ true
or_left true b h = refl
or_left false b h = never h

pub or_right : (a b : Bool) → a ≡ false → b ≡ true → a || b ≡ true
or_right true b h k = refl
or_right false b h k = k

pub or_neither : (a b : Bool) → a ≡ false → b ≡ false → a || b ≡ false
or_neither true b h k = h
or_neither false b h k = k

-- what `cond` picks
pub picked : {A : Type 0} {b : Bool} (x y : A) → b ≡ true → x ≡ cond b x y
picked {b = b} x y h = ap (λ (c : Bool). cond c x y) (sym h)

pub passed : {A : Type 0} {b : Bool} (x y : A) → b ≡ false → y ≡ cond b x y
passed {b = b} x y h = ap (λ (c : Bool). cond c x y) (sym h)
