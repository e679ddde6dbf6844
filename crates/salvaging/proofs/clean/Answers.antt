-- `salvaging::clean` meets its contract.
use mathlib.Core.Path.{◌≡◌}
use Prim.Native.Nat.{◌+◌, ◌*◌, ◌/◌, ◌≤◌}
use native.Mathlib.Omega.{arith}
use lib.ListN.{length}
use Rattle.form.specs.declared.Form.TheVariants.{Eight}
use Rattle.house.specs.Held.{file_at}
use Rattle.sieve.specs.Sieve.{kept_of}
use Rattle.salvaging.specs.Salvage.{texts_of}
use Rattle.salvaging.specs.Layout.{marks_of}
use Rattle.salvaging.proofs.Texts.{by_bytes, dropped_is, file-size, report-size, report-fits, whole-file, whole-report}
use Rattle.salvaging.proofs.Ways.{out-short, report-short, both_whole}
use Rattle.salvaging.proofs.clean.Goals as goal
use Rattle.salvaging.proofs.clean.Goals.{After-measure-marks}

-- the marks that are kept, by the bytes that were measured
counted_of : (c : After-measure-marks) → (2 * (c.measure-marks.result / 16) ≡ length (kept_of (marks_of c.args.file.now c.args.n))) × ((c.measure-marks.result ≡ 16 * (c.measure-marks.result / 16)) × ((c.measure-marks.result / 16) ≤ c.args.n))
counted_of c = by_bytes c.args.file.now c.args.n c.measure-marks.ensures.1

pub overflow_sub-n : goal.overflow_sub-n
overflow_sub-n c =
    let counted = counted_of (goal.at.overflow_sub-n c).After-measure-marks in
    omega (arith, counted.1.1)

pub returns-then-out-size : goal.returns-then-out-size
returns-then-out-size c =
    let counted = counted_of (goal.at.returns-then-out-size c).After-measure-marks in
    let a = c.args in
    let m = counted in
    let f = file-size a.file.now a.n (c.measure-marks.result / 16) m.0 in
    out-short a.out.now a.report.now (texts_of (file_at a.file.now Eight a.n 0)) (omega (arith, f, m.1.0))

pub returns-then-report-text : goal.returns-then-report-text
returns-then-report-text c =
    let counted = counted_of (goal.at.returns-then-report-text c).After-measure-marks in
    let a = c.args in
    let m = counted in
    let f = file-size a.file.now a.n (c.measure-marks.result / 16) m.0 in
    let r = report-size a.file.now a.n (c.measure-marks.result / 16) m.0 c.count_len.ensures.1 c.measure-lines.ensures.1 in
    report-short a.out.now a.report.now (texts_of (file_at a.file.now Eight a.n 0)) (omega (arith, f, m.1.0)) (omega (arith, r))

pub put_file-requires : goal.put_file-requires
put_file-requires c =
    let counted = counted_of (goal.at.put_file-requires c).After-measure-marks in
    let m = counted in (c.requires.0, (m.0, omega (arith, m.1.0)))

pub put_report-requires : goal.put_report-requires
put_report-requires c =
    let counted = counted_of (goal.at.put_report-requires c).After-measure-marks in
    let a = c.args in
    let m = counted in
    record {
      n_in_bounds = (c.requires.0, (m.1.1, report-fits a.file.now a.n (c.measure-marks.result / 16) m.0 c.count_len.ensures.1 c.measure-lines.ensures.1 (omega arith)));
      kept_value = dropped_is a.file.now a.n (c.measure-marks.result / 16) m.0;
    }

pub returns : goal.returns
returns c =
    let counted = counted_of (goal.at.returns c).After-measure-marks in
    let a = c.args in
    let k = c.measure-marks.result / 16 in
    let m = counted in
    let f : length (texts_of (file_at a.file.now Eight a.n 0)).file ≡ 20 + c.measure-marks.result = omega (arith, file-size a.file.now a.n k m.0, m.1.0) in
    both_whole a.out.now a.report.now (texts_of (file_at a.file.now Eight a.n 0)) (omega arith) (omega arith) f (report-size a.file.now a.n k m.0 c.count_len.ensures.1 c.measure-lines.ensures.1) (whole-file a.file.now a.n k m.0 a.out.now c.put_file.ensures) (whole-report a.file.now a.n k m.0 a.report.now c.put_report.ensures)
