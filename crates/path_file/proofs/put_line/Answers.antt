-- `path_file::put_line` meets its contract.
use native.Mathlib.Omega.{arith}
use Rattle.text.proofs.Stores.{one}
use Rattle.lines.specs.Lines.{newline}
use Rattle.path_file.proofs.Parts.{bytes, none, lined, line_is}
use Rattle.path_file.proofs.put_line.Goals as goal

pub put_bytes-requires : goal.put_bytes-requires
put_bytes-requires c =
    let a = c.args in
    let x = bytes a.ring a.curves.now a.k a.text.now c.requires.0 c.requires.1 c.in-Ok.ensures in
    omega (arith, x.room)

pub returns-in-Ok : goal.returns-in-Ok
returns-in-Ok c =
    let a = c.args in
    let x = bytes a.ring a.curves.now a.k a.text.now c.requires.0 c.requires.1 c.in-Ok.ensures in
    (omega (arith, x.room, c.put_bytes.ensures.0), rw (line_is a.ring a.curves.now a.k a.text.now c.requires.0 c.requires.1 x) (lined a.ring a.curves.now a.k a.text.now c.requires.0 c.requires.1 x (one _ _ newline c.put_bytes.ensures)))

pub returns-in-Err : goal.returns-in-Err
returns-in-Err c =
    let a = c.args in
    let n = none a.ring a.curves.now a.k a.text.now c.requires.0 c.requires.1 c.in-Err.ensures in
    (omega arith, rw (n.is, ← c.number.ensures, ← n.out) c.put_refusal.ensures.1)
