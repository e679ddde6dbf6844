-- What holds of either form, and of mark numbers of either length. Assumes nothing.
use mathlib.Core.Path.{◌≡◌, refl}
use mathlib.Core.Bool.{Bool, true, false, cond}
use Prim.Native.Nat.{ℕ, zero, suc, ◌+◌, ◌*◌, ◌/◌, ◌^◌, ◌<◌, ◌≤◌}
use native.Mathlib.Nat.{mul-le-mul_left}
use native.Mathlib.Omega.{arith}
use borrow.Author.Tests.{leb-true, le-leb, lt-ltb, ne_eqb}
use lib.Dec.{leb}
use Rattle.form.specs.declared.Form.{Form}
use Rattle.form.specs.declared.Form.TheVariants.{Eight, Nine}
use Rattle.form.specs.Form.{width, worsts_for}
use Rattle.limits.specs.Limits.{most_marks}
use Rattle.house.specs.declared.sizes.Field.{Field}
use Rattle.house.specs.declared.sizes.Field.TheVariants.{Two, Four}
use Rattle.house.specs.Limits.{most_small, field_for, mark_field, worst_marks, curve_kind, beside_bytes, body_bytes, curve_bytes}
use Rattle.house.specs.File.{suits, form_for}
use Rattle.house.specs.Held.{form_of, params_at}
use Rattle.house.specs.Layout.{size_for}

-- ---- sizes

pub field_few : (field : Field) → mark_field field ≤ 4
field_few Two = omega arith
field_few Four = omega arith

pub body-few : (form : Form) (field : Field) → body_bytes form field ≤ 80
body-few Eight Two = omega arith
body-few Eight Four = omega arith
body-few Nine Two = omega arith
body-few Nine Four = omega arith

-- a mark number, and one for each that is kept, are within a record
pub beside-few : (form : Form) (field : Field) → beside_bytes form field ≤ 8
beside-few Eight Two = omega arith
beside-few Eight Four = omega arith
beside-few Nine Two = omega arith
beside-few Nine Four = omega arith

pub field_within : (form : Form) (field : Field) → mark_field field ≤ beside_bytes form field
field_within Eight Two = omega arith
field_within Eight Four = omega arith
field_within Nine Two = omega arith
field_within Nine Four = omega arith

pub beside_within : (form : Form) (field : Field) → 2 * mark_field field ≤ body_bytes form field
beside_within Eight Two = omega arith
beside_within Eight Four = omega arith
beside_within Nine Two = omega arith
beside_within Nine Four = omega arith

pub width_some : (form : Form) → 0 < width form
width_some Eight = omega arith
width_some Nine = omega arith

-- the numbers of k curves, by what is left of a division
pub curves-over : (form : Form) (k c : ℕ) → c / width form < k → c < width form * k
curves-over Eight k c h = omega arith
curves-over Nine k c h = omega arith

pub curves-under : (form : Form) (k c : ℕ) → k ≤ c / width form → width form * k ≤ c
curves-under Eight k c h = omega arith
curves-under Nine k c h = omega arith

-- the bytes of k curves, divided into records
pub records_under : (form : Form) (field : Field) (x : ℕ) → curve_bytes form field * (x / curve_bytes form field) ≤ x
records_under Eight Two x = omega arith
records_under Eight Four x = omega arith
records_under Nine Two x = omega arith
records_under Nine Four x = omega arith

pub records_of_is : (form : Form) (field : Field) (k x : ℕ) → x ≡ curve_bytes form field * k → x / curve_bytes form field ≡ k
records_of_is Eight Two k x e = omega arith
records_of_is Eight Four k x e = omega arith
records_of_is Nine Two k x e = omega arith
records_of_is Nine Four k x e = omega arith

-- slices that can be lent keep a file's size in a number
curves-few : (form : Form) (field : Field) (k c : ℕ) → width form * k ≤ c → curve_bytes form field * k ≤ 10 * c
curves-few Eight Two k c h = omega arith
curves-few Eight Four k c h = omega arith
curves-few Nine Two k c h = omega arith
curves-few Nine Four k c h = omega arith

pub size_few : (form : Form) (n k c : ℕ) → width form * k ≤ c → n ≤ most_marks → 8 * c < 2 ^ 63 → params_at form n k + 8 * n < 2 ^ 64
size_few form n k c h few g = omega (arith, curves-few form (field_for n) k c h)

-- a record is within those of which it is one
pub within : (step k i : ℕ) → i < k → step * i + step ≤ step * k
within step k i h = let m : step * (i + 1) ≤ step * k = mul-le-mul_left step (omega arith) in omega arith

-- ---- the number of a mark fits the field that goes with so many marks

pub small_field : (n : ℕ) → n ≤ most_small → field_for n ≡ Two
unfolding field_for
small_field n h = rw (le-leb n most_small h)

pub number_fits : (n x : ℕ) → x < n → n ≤ most_marks → x < 256 ^ mark_field (field_for n)
unfolding field_for
number_fits n x h m = go (leb n most_small) refl
  where
    go : (b : Bool) → leb n most_small ≡ b → x < 256 ^ mark_field (cond (leb n most_small) Two Four)
    go true e = let s : n ≤ most_small = leb-true _ _ e in rw e (omega arith)
    go false e = rw e (omega arith)

-- ---- worst marks: as many in each record

pub worsts-each : (form : Form) (k : ℕ) → worsts_for form k ≡ worst_marks form * k
worsts-each Eight k = omega arith
worsts-each Nine k = omega arith

pub worsts-few : (form : Form) (k : ℕ) → worsts_for form k ≤ k
worsts-few Eight k = omega arith
worsts-few Nine k = omega arith

pub worsts_within : (form : Form) (k i : ℕ) → i < k → worsts_for form (i + 1) ≤ worsts_for form k
worsts_within Eight k i h = omega arith
worsts_within Nine k i h = omega arith

-- ---- kinds

pub kind-few : (form : Form) (field : Field) → curve_kind form field ≤ 7
kind-few Eight Two = omega arith
kind-few Eight Four = omega arith
kind-few Nine Two = omega arith
kind-few Nine Four = omega arith

pub form_is : (form : Form) (field : Field) → form_of field (curve_kind form field) ≡ form
unfolding form_of
form_is Eight Two = refl
form_is Eight Four = refl
form_is Nine Two = refl
form_is Nine Four = refl

-- no record has kind 0
pub form_none : (field : Field) → form_of field 0 ≡ Eight
unfolding form_of
form_none Two = refl
form_none Four = refl

-- ---- a file without curves

pub suits_some : (form : Form) {k : ℕ} → 0 < k → suits form k ≡ true
suits_some Eight h = refl
suits_some Nine {k} h = lt-ltb 0 k h

pub form_some : (form : Form) {k : ℕ} → 0 < k → form_for form k ≡ form
form_some form {k} h = rw (ne_eqb k 0 (λ e. omega arith))

-- what a count of curves makes of the form changes no size
pub worsts-formed : (form : Form) (k : ℕ) → worsts_for (form_for form k) k ≡ worsts_for form k
worsts-formed Eight zero = refl
worsts-formed Nine zero = refl
worsts-formed form (suc k) = rw (form_some form {k = suc k} (omega arith))

pub width-formed : (form : Form) (k : ℕ) → width (form_for form k) * k ≡ width form * k
width-formed Eight zero = refl
width-formed Nine zero = refl
width-formed form (suc k) = rw (form_some form {k = suc k} (omega arith))

pub size-formed : (form : Form) (n k : ℕ) → size_for (form_for form k) n k ≡ size_for form n k
size-formed form n zero = refl
size-formed form n (suc k) = rw (form_some form {k = suc k} (omega arith))

pub suits-formed : (form : Form) (k : ℕ) → suits (form_for form k) k ≡ true
suits-formed form zero = refl
suits-formed form (suc k) = rw (form_some form {k = suc k} (omega arith)) (suits_some form (omega arith))
