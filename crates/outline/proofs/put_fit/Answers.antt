-- `outline::put_fit` meets its contract.
use native.Mathlib.Omega.{arith}
use Rattle.outline.proofs.Ways.{done-count, done_lines, refused_lines}
use Rattle.outline.proofs.put_fit.Goals as goal

pub put_outline-requires : goal.put_outline-requires
put_outline-requires c =
    let a = c.args in
    let h = done-count a.file.now a.n _ _ c.in-Ok.ensures in
    (omega (arith, c.first_room-firsts.ensures.0), (h, omega (arith, c.first_room-firsts.ensures.0, c.curve_room-curves.ensures.0)))

pub returns-in-Ok : goal.returns-in-Ok
returns-in-Ok c =
    let a = c.args in
    let h = done-count a.file.now a.n _ _ c.in-Ok.ensures in
    (omega (arith, c.fit_file.auto.firsts, c.first_room-firsts.ensures.0, c.put_outline.ensures.0), rw (done_lines a.file.now a.n _ _ c.in-Ok.ensures c.curve_room-curves.ensures.1 c.first_room-firsts.ensures.1) c.put_outline.ensures.1)

pub returns-in-Err : goal.returns-in-Err
returns-in-Err c =
    let a = c.args in
    (omega arith, rw (refused_lines a.file.now a.n _ _ c.in-Err.ensures c.curve_room-curves.ensures.1 c.first_room-firsts.ensures.1, ← c.number.ensures) c.put_refusal.ensures.1)
