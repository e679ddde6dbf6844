-- An operation's result is finite only where its operands are; of a quotient only the dividend. So where the end of a chain of sums,
-- differences and products is finite, each operation on the way gave a finite number. Assumes nothing.
use mathlib.Core.Path.{◌≡◌, refl, sym}
use mathlib.Core.Bool.{Bool, true, false, cond}
use lib.Dec.{eqb}
use lib.Ieee.{Float, nan, inf, fin, Format, neg, add, sub, mul, div, lt, unlike}
use Rattle.float.specs.Number.{finite}
use Rattle.float.proofs.Truth.{never}

abbrev pub Fin : Float → Type 0
Fin x = finite x ≡ true

neg-finite : (x : Float) → Fin (neg x) → Fin x
unfolding finite neg
neg-finite nan h = h
neg-finite (inf s) h = h
neg-finite (fin s m e) h = refl

pub add-finite : (f : Format) (x y : Float) → Fin (add f x y) → Fin x × Fin y
unfolding finite add
add-finite f nan y h = never h
add-finite f (inf s) nan h = never h
add-finite f (inf true) (inf true) h = never h
add-finite f (inf true) (inf false) h = never h
add-finite f (inf false) (inf true) h = never h
add-finite f (inf false) (inf false) h = never h
add-finite f (inf s) (fin t n d) h = never h
add-finite f (fin s m e) nan h = never h
add-finite f (fin s m e) (inf t) h = never h
add-finite f (fin s m e) (fin t n d) h = (refl, refl)

pub sub-finite : (f : Format) (x y : Float) → Fin (sub f x y) → Fin x × Fin y
unfolding sub
sub-finite f x y h = let p = add-finite f x (neg y) h in (p.0, neg-finite y p.1)

mul-inf : {A : Type 0} (b : Bool) (s : Bool) → Fin (cond b nan (inf s)) → A
unfolding finite
mul-inf true s h = never h
mul-inf false s h = never h

pub mul-finite : (f : Format) (x y : Float) → Fin (mul f x y) → Fin x × Fin y
unfolding finite mul
mul-finite f nan y h = never h
mul-finite f (inf s) nan h = never h
mul-finite f (inf s) (inf t) h = never h
mul-finite f (inf s) (fin t n d) h = mul-inf (eqb n 0) (unlike s t) h
mul-finite f (fin s m e) nan h = never h
mul-finite f (fin s m e) (inf t) h = mul-inf (eqb m 0) (unlike s t) h
mul-finite f (fin s m e) (fin t n d) h = (refl, refl)

pub div-finite : (f : Format) (x y : Float) → Fin (div f x y) → Fin x
unfolding finite div
div-finite f nan y h = never h
div-finite f (inf s) nan h = never h
div-finite f (inf s) (inf t) h = never h
div-finite f (inf s) (fin t n d) h = never h
div-finite f (fin s m e) y h = refl

-- finite, by the two comparisons with an infinity
pub below_top : (x : Float) → lt x (inf false) ≡ true → lt (inf true) x ≡ finite x
unfolding lt finite
below_top nan h = refl
below_top (inf true) h = refl
below_top (inf false) h = never h
below_top (fin s m e) h = refl

pub not_below : (x : Float) → lt x (inf false) ≡ false → false ≡ finite x
unfolding lt finite
not_below nan h = refl
not_below (inf true) h = never (sym h)
not_below (inf false) h = refl
not_below (fin s m e) h = never (sym h)
