-- What a list must be for its curves to be written. Definitions only.
use Rattle.std.specs.Prelude.{ℕ, ◌*◌, ◌≤◌, ◌≡◌, true, List, length, Float}
use Rattle.form.specs.Form.{width}
use Rattle.form.specs.declared.Form.{Form}
use Rattle.faults.specs.Tests.{curve_at, curve_finite}
use Rattle.path.specs.Range.{curve_within, every}

-- the slice holds n curves, and their numbers are finite and not too large
pub record Writable (form : Form) (C : List Float) (n : ℕ) : Type 0 where
  pub held : width form * n ≤ length C
  pub finite : every n (λ i. curve_finite (curve_at form C i)) ≡ true
  pub within : every n (λ i. curve_within (curve_at form C i)) ≡ true
