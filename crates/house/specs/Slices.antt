-- Lent slices: room in them. Definitions only.
use Rattle.std.specs.Prelude.{ℕ, ◌*◌, Bool, ◌&&◌, leb}
use Rattle.form.specs.declared.Form.{Form}
use Rattle.form.specs.Form.{width, worsts_for}
use Rattle.house.specs.File.{params_for}

-- whether slices of p first marks, w worst marks, c numbers of curves and q parameters are long enough for n marks and k curves
unfoldable pub room : Form → ℕ → ℕ → ℕ → ℕ → ℕ → ℕ → Bool
room form n k p w c q = leb k p && (leb (worsts_for form k) w && (leb (width form * k) c && leb (params_for n k) q))
