-- `path_text::put_path` meets its contract.
use native.Mathlib.Omega.{arith}
use mathlib.Core.List.{◌∷◌, []}
use Rattle.text.proofs.Stores.{one}
use Rattle.faults.specs.Tests.{curve_at}
use Rattle.path_text.proofs.Parts.{curve-fine, curve_at_is}
use Rattle.path_text.proofs.Lengths.{path-text, put-path-text}
use Rattle.path_text.proofs.put_path.Goals as goal

pub put_bytes-start-requires : goal.put_bytes-start-requires
put_bytes-start-requires c = omega (arith, path-text c.args.ring c.args.n (curve_at c.args.form c.args.curves.now))

pub put_point-drawn-requires : goal.put_point-drawn-requires
put_point-drawn-requires c =
    let f = curve_at c.args.form c.args.curves.now in
    let w = curve_at_is 0 c.requires.1.0 (omega arith) in
    let p = (curve-fine (f 0) w.0 w.1).start in
    rw c.curve_at-first.ensures (p.0, (p.1, omega (arith, path-text c.args.ring c.args.n f, c.put_bytes-start.ensures.0)))

pub put_curves-closing-requires : goal.put_curves-closing-requires
put_curves-closing-requires c =
    let f = curve_at c.args.form c.args.curves.now in
    let e = rw c.curve_at-first.ensures at c.put_point-drawn.ensures.end in
    (c.requires.1.0, omega (arith, path-text c.args.ring c.args.n f, c.put_bytes-start.ensures.0, e))

pub put_closing-requires : goal.put_closing-requires
put_closing-requires c =
    let f = curve_at c.args.form c.args.curves.now in
    let e = rw c.curve_at-first.ensures at c.put_point-drawn.ensures.end in
    omega (arith, path-text c.args.ring c.args.n f, c.put_bytes-start.ensures.0, e, c.put_curves-closing.ensures.end)

pub returns : goal.returns
returns c =
    let a = c.args in
    put-path-text a.ring a.n (curve_at a.form a.curves.now) (one a.out.now 0 (77 ∷ []) c.put_bytes-start.ensures) (rw c.curve_at-first.ensures at c.put_point-drawn.ensures) c.put_curves-closing.ensures c.put_closing.ensures
