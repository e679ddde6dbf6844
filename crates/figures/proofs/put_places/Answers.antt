-- `figures::put_places` meets its contract.
use mathlib.Core.Path.{ap}
use mathlib.Core.List.{◌∷◌, []}
use native.Mathlib.Omega.{arith}
use lib.ListN.{length}
use Rattle.text.proofs.Stores.{one as put_one}
use Rattle.figures.proofs.Places.{none, one, two, three, put-nothing}
use Rattle.figures.proofs.put_places.Goals as goal

pub returns-then-r-eq0 : goal.returns-then-r-eq0
returns-then-r-eq0 c =
    let a = c.args in
    put-nothing a.out.now a.at _ (none a.r c.if-r-eq0.true)

pub put_bytes-requires : goal.put_bytes-requires
put_bytes-requires c =
    let e = ap length (one c.args.r c.if-r-eq0.false c.if-r-eq0-2.true) in
    omega arith

pub returns-then-r-eq0-2 : goal.returns-then-r-eq0-2
returns-then-r-eq0-2 c =
    let a = c.args in
    rw (one a.r c.if-r-eq0.false c.if-r-eq0-2.true) (rw c.figure.ensures at (put_one a.out.now a.at (46 ∷ c.figure.result ∷ []) c.put_bytes.ensures))

pub put_bytes-requires-then-last-eq0 : goal.put_bytes-requires-then-last-eq0
put_bytes-requires-then-last-eq0 c =
    let e = ap length (two c.args.r c.if-r-eq0.false c.if-r-eq0-2.false c.if-last-eq0.true) in
    omega arith

pub returns-then-last-eq0 : goal.returns-then-last-eq0
returns-then-last-eq0 c =
    let a = c.args in
    rw (two a.r c.if-r-eq0.false c.if-r-eq0-2.false c.if-last-eq0.true) (rw (c.figure-then-last-eq0.ensures, c.figure-then-last-eq0-2.ensures) at (put_one a.out.now a.at (46 ∷ c.figure-then-last-eq0.result ∷ c.figure-then-last-eq0-2.result ∷ []) c.put_bytes-then-last-eq0.ensures))

pub put_bytes-requires-2 : goal.put_bytes-requires-2
put_bytes-requires-2 c =
    let e = ap length (three c.args.r c.if-r-eq0.false c.if-r-eq0-2.false c.if-last-eq0.false) in
    omega arith

pub returns : goal.returns
returns c =
    let a = c.args in
    rw (three a.r c.if-r-eq0.false c.if-r-eq0-2.false c.if-last-eq0.false) (rw (c.figure-2.ensures, c.figure-3.ensures, c.figure-4.ensures) at (put_one a.out.now a.at (46 ∷ c.figure-2.result ∷ c.figure-3.result ∷ c.figure-4.result ∷ []) c.put_bytes-2.ensures))
