-- Import: the curves of path data in a lent slice. Definitions only.
use Rattle.std.specs.Prelude.{ℕ, ◌*◌, Bool, List, leb, length, Float}
use Rattle.float.specs.Answer.{Answer, ok, refused, unless, ◌>>=◌}
use Rattle.float.specs.Slices.{written}
use Rattle.plane.specs.declared.Curve.{Curve}
use Rattle.form.specs.Form.{curve_numbers}
use Rattle.path.specs.Grammar.{path_of}
use Rattle.path.specs.Curves.{path_small, curves_of, eights}
use Rattle.path.specs.Range.{no_room, too_large}
use Rattle.import.specs.declared.Imported.{Imported}

-- the answer, and the lent numbers as they are left
pub record Left : Type 0 where
  pub answer : Answer Imported
  pub curves : List Float

abbrev pub left : Answer Imported → List Float → Left
left a C = record { answer = a; curves = C }

pub record Read : Type 0 where
  pub curves : List Curve
  pub closed : Bool

-- 11, 10, or what the text draws
unfoldable pub read_of : List ℕ → Answer Read
read_of text = do
  p ← path_of text
  unless too_large (path_small p) (ok (record { curves = curves_of p; closed = p.closed }))

-- 4 where they are more than the slice has room for
unfoldable pub fitting : ℕ → Read → Answer Read
fitting n r = unless no_room (leb (curve_numbers * length r.curves) n) (ok r)

abbrev pub settled : List Float → Answer Read → Left
settled C (ok r) = left (ok (record { count = length r.curves; closed = r.closed })) (written (eights r.curves) C)
settled C (refused q) = left (refused q) C

unfoldable pub import_of : List ℕ → List Float → Left
import_of text C = settled C (◌>>=◌ (read_of text) (fitting (length C)))
