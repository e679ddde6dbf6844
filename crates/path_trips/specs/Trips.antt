-- What is exported and imported again. Definitions only.
use Rattle.std.specs.Prelude.{ℕ, zero, suc, ◌-◌, ◌*◌, ◌≤◌, ◌<◌, ◌≡◌, Bool, true, List, [], ◌∷◌, T, length, get_or, Float}
use Rattle.std.specs.Float.{nan, binary64}
use Rattle.std.specs.Float.Ieee.{fits}
use Rattle.float.specs.Answer.{ok}
use Rattle.float.specs.Slices.{written}
use Rattle.plane.specs.Plane.{at}
use Rattle.plane.specs.declared.Point.{Point}
use Rattle.plane.specs.declared.Curve.{Curve}
use Rattle.form.specs.Form.{curve_numbers}
use Rattle.form.specs.declared.Form.{Form}
use Rattle.form.specs.declared.Form.TheVariants.{Eight}
use Rattle.faults.specs.Tests.{curve_at, same}
use Rattle.path.specs.Decimals.{written_of, nearest_to}
use Rattle.path.specs.Curves.{eights}
use Rattle.export.specs.Export.{export_text}
use Rattle.import.specs.Import.{read_of, left, import_of}

-- the f64 that is nearest to a number as it is written
unfoldable pub near : Float → Float
near x = nearest_to (written_of x)

unfoldable pub near_point : Point → Point
near_point p = at (near p.x) (near p.y)

unfoldable pub near_curve : Curve → Curve
near_curve c = record { start = near_point c.start; cp1 = near_point c.cp1; cp2 = near_point c.cp2; end = near_point c.end }

-- f 0, f 1, .. f (n - 1)
unfoldable pub row : {A : Type 0} → ℕ → (ℕ → A) → List A
row zero f = []
row (suc n) f = f 0 ∷ row n (λ i. f (suc i))

-- the curves that come back of a list's k curves
unfoldable pub near_curves : Form → List Float → ℕ → List Curve
near_curves form C k = row k (λ i. near_curve (curve_at form C i))

-- every number is one that an `f64` holds, as those of a caller's slice are
abbrev pub Held : List Float → Type 0
Held C = (i : ℕ) → T (fits binary64 (get_or C i nan))

-- what comes back of a text t in a slice O, where it draws the k curves cs
pub record Returned (t : List ℕ) (k : ℕ) (ring : Bool) (cs : List Curve) (O : List Float) : Type 0 where
  -- import accepts it, says how many curves there are and whether it is a ring, and O begins with their numbers
  pub accepted : import_of t O ≡ left (ok (record { count = k; closed = ring })) (written (eights cs) O)
  -- they meet bit for bit, and a ring's last end is its first start
  pub joints : (i : ℕ) → suc i < k → same (curve_at Eight (import_of t O).curves i).end (curve_at Eight (import_of t O).curves (suc i)).start ≡ true
  pub round : ring ≡ true → same (curve_at Eight (import_of t O).curves (k - 1)).end (curve_at Eight (import_of t O).curves 0).start ≡ true
  -- exported again they pass every test, and the text is the same
  pub again : export_text Eight (import_of t O).curves k ring ≡ ok t

-- what holds of a text t of a list's k curves
pub record BackAgain (form : Form) (C : List Float) (k : ℕ) (ring : Bool) (t : List ℕ) : Type 0 where
  -- it draws as many curves, each number the f64 that is nearest to its decimal, and Z closes a ring
  pub read : read_of t ≡ ok (record { curves = near_curves form C k; closed = ring })
  -- and they come back in every slice with room for their numbers
  pub returned : (O : List Float) → curve_numbers * k ≤ length O → Returned t k ring (near_curves form C k) O

-- whatever is exported comes back
abbrev pub ExportedComesBack : Type 0
ExportedComesBack = (form : Form) (C : List Float) (k : ℕ) (ring : Bool) (t : List ℕ) → Held C → export_text form C k ring ≡ ok t → BackAgain form C k ring t
