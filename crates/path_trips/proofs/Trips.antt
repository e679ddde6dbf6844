-- What is exported comes back. Assumes nothing.
use Prim.Native.Nat.{ℕ, ◌*◌, ◌<◌, ◌≤◌}
use mathlib.Core.Path.{◌≡◌, ap}
use mathlib.Core.Bool.{Bool}
use mathlib.Core.List.{List}
use native.Mathlib.Omega.{arith}
use borrow.Author.Tests.{le-leb}
use lib.ListN.{length, drop, length-append}
use lib.Ieee.{Float}
use Rattle.float.specs.Answer.{ok}
use Rattle.float.specs.Slices.{written}
use Rattle.plane.specs.declared.Curve.{Curve}
use Rattle.form.specs.declared.Form.{Form}
use Rattle.form.specs.declared.Form.TheVariants.{Eight}
use Rattle.faults.specs.Tests.{curve_at}
use Rattle.path.specs.Curves.{eights}
use Rattle.path.proofs.Eights.{length-eights}
use Rattle.path.specs.Text.{path_text}
use Rattle.import.specs.Import.{fitting, Left, left, import_of}
use Rattle.path_trips.specs.Trips.{near_curve, row, near_curves, Returned, BackAgain, ExportedComesBack}
use Rattle.path_trips.proofs.Read.{Whole, read_back}
use Rattle.path_trips.proofs.Exported.{exported}
use Rattle.path_trips.proofs.Again.{length-row, stored, joints_meet, ring_meets, export_again}

module _ (ring : Bool) (k : ℕ) (f : ℕ → Curve) (w : Whole ring k f) where
  abbrev curves : List Curve
  curves = row k (λ i. near_curve (f i))

  module _ (O : List Float) (l : 8 * k ≤ length O) where
    imports : import_of (path_text ring k f) O ≡ left (ok (record { count = k; closed = ring })) (written (eights curves) O)
    unfolding import_of fitting
    imports = let n = length-row k (λ i. near_curve (f i)) in rw (read_back ring k f w, n, le-leb (8 * k) (length O) l, n)

    now : (import_of (path_text ring k f) O).curves ≡ written (eights curves) O
    now = ap (λ (x : Left). x.curves) imports

    long : 8 * k ≤ length (written (eights curves) O)
    long = simp length-append (omega (arith, length-eights curves, length-row k (λ i. near_curve (f i))))

    is : (i : ℕ) → i < k → curve_at Eight (written (eights curves) O) i ≡ near_curve (f i)
    is i h = stored k (λ j. near_curve (f j)) (drop (length (eights curves)) O) i h

    returned : Returned (path_text ring k f) k ring curves O
    returned =
        record {
          accepted = imports;
          joints = rw now (joints_meet ring k f w _ long is);
          round = rw now (ring_meets ring k f w _ long is);
          again = rw now (export_again ring k f w _ long is);
        }

back-again : (form : Form) (C : List Float) (k : ℕ) (ring : Bool) → Whole ring k (curve_at form C) → BackAgain form C k ring (path_text ring k (curve_at form C))
unfolding near_curves
back-again form C k ring w = record { read = read_back ring k (curve_at form C) w; returned = returned ring k (curve_at form C) w }

pub exported_comes_back : ExportedComesBack
exported_comes_back form C k ring t h e = let x = exported form C k ring t h e in rw (← x.text) (back-again form C k ring x.whole)
