-- `writer::records::can_hold` meets its contract.
use mathlib.Core.Path.{sym, ◌∙◌}
use native.Mathlib.Omega.{arith}
use borrow.Author.Tests.{ne_eqb, lt-ltb, le-ltb}
use Rattle.writer.proofs.Turns.{holds_none}
use Rattle.writer.proofs.records.can_hold.Goals as goal

pub returns-then-k-eq0 : goal.returns-then-k-eq0
returns-then-k-eq0 c = let a = c.args in holds_none a.form a.n a.k a.firsts.now a.worsts.now c.if-k-eq0.true

pub returns-then-n-k : goal.returns-then-n-k
returns-then-n-k c = let a = c.args in rw (ne_eqb a.k 0 c.if-k-eq0.false, le-ltb a.k a.n (omega arith))

pub marks_fit-requires-then-marks_fit : goal.marks_fit-requires-then-marks_fit
marks_fit-requires-then-marks_fit c = omega (arith, c.worsts_for.ensures, c.requires.1)

pub returns-then-marks_fit : goal.returns-then-marks_fit
returns-then-marks_fit c = let a = c.args in c.marks_fit-then-marks_fit.ensures ∙ rw (ne_eqb a.k 0 c.if-k-eq0.false, lt-ltb a.k a.n (omega arith), c.worsts_for.ensures, ← c.field_for-field.ensures, sym c.marks_fit.ensures ∙ c.if-marks_fit.true)

pub returns : goal.returns
returns c = let a = c.args in rw (ne_eqb a.k 0 c.if-k-eq0.false, lt-ltb a.k a.n (omega arith), ← c.field_for-field.ensures, sym c.marks_fit.ensures ∙ c.if-marks_fit.false)
