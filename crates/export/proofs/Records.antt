-- Records that a slice holds. Assumes nothing.
use Prim.Native.Nat.{ℕ, ◌*◌, ◌/◌, ◌≤◌}
use native.Mathlib.Nat.{div-mul-le_self}
use native.Mathlib.Omega.{arith}
use Rattle.form.specs.Form.{width}
use Rattle.form.specs.declared.Form.{Form}
use Rattle.form.specs.declared.Form.TheVariants.{Eight, Nine}
use Rattle.export.specs.Export.{whole_in}

-- those that are held have their room
pub whole-held : (form : Form) (l k : ℕ) → width form * whole_in form l k ≤ l
whole-held form l k = within form (whole_in form l k) (l / width form) (omega arith) (div-mul-le_self l (width form))
  where
    within : (form : Form) (a q : ℕ) {l : ℕ} → a ≤ q → q * width form ≤ l → width form * a ≤ l
    within Eight a q h k = omega arith
    within Nine a q h k = omega arith
