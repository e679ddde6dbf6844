-- `path_text::put_curve` meets its contract.
use native.Mathlib.Omega.{arith}
use mathlib.Core.List.{◌∷◌, []}
use Rattle.text.proofs.Stores.{one}
use Rattle.path_text.proofs.Parts.{curve-fine}
use Rattle.path_text.proofs.Lengths.{curve-text, put-curve-text}
use Rattle.path_text.proofs.put_curve.Goals as goal

pub put_bytes-cp1-requires : goal.put_bytes-cp1-requires
put_bytes-cp1-requires c = omega (arith, curve-text c.args.c)

pub put_point-cp2-requires : goal.put_point-cp2-requires
put_point-cp2-requires c =
    let f = (curve-fine c.args.c c.requires.0 c.requires.1.0).cp1 in
    (f.0, (f.1, omega (arith, curve-text c.args.c, c.put_bytes-cp1.ensures.0)))

pub put_point-end-requires : goal.put_point-end-requires
put_point-end-requires c =
    let f = (curve-fine c.args.c c.requires.0 c.requires.1.0).cp2 in
    (f.0, (f.1, omega (arith, curve-text c.args.c, c.put_bytes-cp1.ensures.0, c.put_point-cp2.ensures.end)))

pub put_point-requires : goal.put_point-requires
put_point-requires c =
    let f = (curve-fine c.args.c c.requires.0 c.requires.1.0).end in
    (f.0, (f.1, omega (arith, curve-text c.args.c, c.put_bytes-cp1.ensures.0, c.put_point-cp2.ensures.end, c.put_point-end.ensures.end)))

pub returns : goal.returns
returns c =
    let a = c.args in
    put-curve-text a.c (one a.out.now a.at (32 ∷ 67 ∷ []) c.put_bytes-cp1.ensures) c.put_point-cp2.ensures c.put_point-end.ensures c.put_point.ensures
