-- `writer::records::put_marks` meets its contract.
use mathlib.Core.Path.{◌∙◌}
use Rattle.writer.proofs.Turns.{marks-put}
use Rattle.writer.proofs.records.put_marks.Goals as goal

pub returns : goal.returns
returns c =
    let a = c.args in
    c.put_words.ensures
    ∙ rw (c.put_head-2.ensures, c.put_eight.ensures, c.put_head.ensures) (marks-put a.out.now a.tolerance a.marks.now)
