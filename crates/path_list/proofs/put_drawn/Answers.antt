-- `path_list::put_drawn` meets its contract.
use native.Mathlib.Omega.{arith}
use Rattle.path_list.proofs.Ways.{done_lines, refused_lines}
use Rattle.path_list.proofs.put_drawn.Goals as goal

pub put_path-requires : goal.put_path-requires
put_path-requires c =
    let d = done_lines c.args.text.now _ c.curve_room-curves.ensures c.in-Ok.ensures in
    (omega arith, (d.0, omega (arith, c.curve_room-curves.ensures)))

pub returns-in-Ok : goal.returns-in-Ok
returns-in-Ok c =
    let d = done_lines c.args.text.now _ c.curve_room-curves.ensures c.in-Ok.ensures in
    (omega arith, rw d.1 c.put_path.ensures.1)

pub returns-in-Err : goal.returns-in-Err
returns-in-Err c =
    (omega arith, rw (refused_lines c.args.text.now _ c.curve_room-curves.ensures c.in-Err.ensures, ← c.number.ensures) c.put_refusal.ensures.1)
