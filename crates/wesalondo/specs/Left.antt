-- What a call leaves to C: what crosses of its answer, and the lent slices. Definitions only.
use Rattle.std.specs.Prelude.{ℕ, List, Float}
use Rattle.plane.specs.declared.Point.{Point}
use Rattle.plane.specs.declared.Curve.{Curve}
use Rattle.fit.specs.Fit.{Ending}
use Rattle.flat_fit.specs.Flat.{FlatEnding}
use Rattle.reader.specs.Reader.{Outcome}
use Rattle.reader.specs.declared.Found.{Found}
use Rattle.writer.specs.Writer.{Writing}
use Rattle.lines.specs.Handed.{Handed}
use Rattle.salvaging.specs.Salvage.{Salvage}
use Rattle.salvaging.specs.declared.Sizes.{Sizes}
use Rattle.import.specs.Import.{Left}
use Rattle.import.specs.declared.Imported.{Imported}
use Rattle.border.specs.Crossing.{Crossed, count_crossed, found_crossed, salvaged_crossed, drawn_crossed}

-- ---- a fit

pub record FitLeft : Type 0 where
  pub answer : Crossed ℕ
  pub curves : List Float
  pub firsts : List ℕ
  pub worsts : List ℕ
  pub params : List Float

abbrev pub fit_left : Crossed ℕ → List Float → List ℕ → List ℕ → List Float → FitLeft
fit_left a C F W P = record { answer = a; curves = C; firsts = F; worsts = W; params = P }

abbrev pub left_by : Ending → FitLeft
left_by E = fit_left (count_crossed E.answer) E.curves E.firsts E.worsts E.params

-- ---- a fit of the second engine, which is lent one slice more

pub record FlatLeft : Type 0 where
  pub fit : FitLeft
  pub parts : List ℕ

abbrev pub flat_left : Crossed ℕ → List Float → List ℕ → List ℕ → List Float → List ℕ → FlatLeft
flat_left a C F W P O = record { fit = fit_left a C F W P; parts = O }

abbrev pub left_by_flat : FlatEnding → FlatLeft
left_by_flat E = record { fit = left_by E.fit; parts = E.parts }

-- ---- a curve in its points

abbrev pub on_points : {X : Type 0} → (Point → Point → Point → Point → X) → Curve → X
on_points f c = f c.start c.cp1 c.cp2 c.end

-- ---- a file that is read

pub record ReadLeft : Type 0 where
  pub answer : Crossed Found
  pub marks : List ℕ
  pub firsts : List ℕ
  pub worsts : List ℕ
  pub curves : List ℕ
  pub params : List ℕ

abbrev pub read_left : Crossed Found → List ℕ → List ℕ → List ℕ → List ℕ → List ℕ → ReadLeft
read_left a M F W C P = record { answer = a; marks = M; firsts = F; worsts = W; curves = C; params = P }

abbrev pub left_by_reader : Outcome → ReadLeft
left_by_reader R = read_left (found_crossed R.answer) R.marks R.firsts R.worsts R.curves R.params

-- ---- bytes that are written: a file, or a text

pub record BytesLeft : Type 0 where
  pub answer : Crossed ℕ
  pub out : List ℕ

abbrev pub bytes_left : Crossed ℕ → List ℕ → BytesLeft
bytes_left a O = record { answer = a; out = O }

abbrev pub left_by_writer : Writing → BytesLeft
left_by_writer B = bytes_left (count_crossed B.answer) B.out

abbrev pub left_with_text : Handed → BytesLeft
left_with_text T = bytes_left (count_crossed T.answer) T.out

-- ---- a file that is cleaned, and its list

pub record SalvageLeft : Type 0 where
  pub answer : Crossed Sizes
  pub out : List ℕ
  pub report : List ℕ

abbrev pub salvage_left : Crossed Sizes → List ℕ → List ℕ → SalvageLeft
salvage_left a O R = record { answer = a; out = O; report = R }

abbrev pub left_by_salvage : Salvage → SalvageLeft
left_by_salvage S = salvage_left (salvaged_crossed S.answer) S.out S.report

-- ---- path data that is read

pub record DrawnLeft : Type 0 where
  pub answer : Crossed Imported
  pub curves : List Float

abbrev pub drawn_left : Crossed Imported → List Float → DrawnLeft
drawn_left a C = record { answer = a; curves = C }

abbrev pub left_by_import : Left → DrawnLeft
left_by_import L = drawn_left (drawn_crossed L.answer) L.curves
