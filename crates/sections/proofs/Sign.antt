-- The sign bit of a midpoint of two heights with the same sign bit (Lemma 1 (c)). Assumes nothing.
use mathlib.Core.Path.{◌≡◌, refl, sym, ap, ◌∙◌}
use Prim.Native.Nat.{ℕ, zero, suc, ◌+◌, ◌*◌, ◌^◌}
use mathlib.Core.Bool.{Bool, true, false, cond, true≢false, false≢true}
use lib.Dec.{T, ltb}
use lib.Ieee.{Float, nan, inf, fin, Format, prec, emax, low, up, down, odd, units, round, sum, add, mul}
use lib.Ieee.Fits.{round_is}
use lib.Ieee.Scale.{finite}
use Rattle.sections.specs.Mid.{half, mid, sign}
use Rattle.sections.proofs.Signs.{finite_l, finite_r}
use Rattle.sections.proofs.Vary.{Between, between}

odd_sgn : (d : ℕ) (s : Bool) (q k l : ℕ) → sign (odd d s q k l) ≡ s
unfolding odd
odd_sgn d s zero k l = refl
odd_sgn d s (suc q) k l = refl

units_sgn : (f : Format) (s : Bool) (q k : ℕ) → sign (units f s q k) ≡ s
unfolding units
units_sgn f s q k = go (ltb (q * 2 ^ k) (2 ^ (low f + suc (emax f))))
  where
    go : (b : Bool) → sign (cond b (odd (suc (prec f)) s q k (low f)) (inf s)) ≡ s
    go true = odd_sgn (suc (prec f)) s q k (low f)
    go false = refl

round_sgn : (f : Format) (s : Bool) (a c : ℕ) → sign (round f s a c) ≡ s
round_sgn f s a c = ap sign (round_is f s a c) ∙ units_sgn f s _ _

mul_sgn : (f : Format) (x : Float) → T (finite (mul f x half)) → sign (mul f x half) ≡ sign x
unfolding mul
mul_sgn f nan t = absurd t
mul_sgn f (inf s) t = absurd t
mul_sgn f (fin true m e) t = round_sgn f true (m * up e * 1) (down e * 2)
mul_sgn f (fin false m e) t = round_sgn f false (m * up e * 1) (down e * 2)

add_sgn : (f : Format) (x y : Float) → sign x ≡ sign y → T (finite (add f x y)) → sign (add f x y) ≡ sign x
unfolding add sum
add_sgn f nan y p t = absurd t
add_sgn f (inf s) nan p t = absurd t
add_sgn f (inf true) (inf true) p t = absurd t
add_sgn f (inf true) (inf false) p t = absurd t
add_sgn f (inf false) (inf true) p t = absurd t
add_sgn f (inf false) (inf false) p t = absurd t
add_sgn f (inf s) (fin u n d) p t = absurd t
add_sgn f (fin true m e) nan p t = absurd t
add_sgn f (fin false m e) nan p t = absurd t
add_sgn f (fin true m e) (inf u) p t = absurd t
add_sgn f (fin false m e) (inf u) p t = absurd t
add_sgn f (fin true m e) (fin true n d) p t = round_sgn f true (m * up e * down d + n * up d * down e) (down e * down d)
add_sgn f (fin false m e) (fin false n d) p t = round_sgn f false (m * up e * down d + n * up d * down e) (down e * down d)
add_sgn f (fin true m e) (fin false n d) p t = absurd (true≢false p)
add_sgn f (fin false m e) (fin true n d) p t = absurd (false≢true p)

pub sign-between : (f : Format) (x y : Float) → T (finite (mid f x y)) → Between (sign x) (sign (mid f x y)) (sign y)
sign-between f x y t =
    let a = mul f x half in
    let b = mul f y half in
    let p = mul_sgn f x (finite_l f a b t) in
    let q = mul_sgn f y (finite_r f a b t) in
    between (sign x) (sign (mid f x y)) (sign y) (λ (e : sign x ≡ sign y). add_sgn f a b (p ∙ e ∙ sym q) t ∙ p)
