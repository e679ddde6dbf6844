-- `figures::places_length` meets its contract.
use mathlib.Core.Path.{sym, ap}
use native.Mathlib.Omega.{arith}
use lib.ListN.{length}
use Rattle.figures.proofs.Places.{none, one, two, three}
use Rattle.figures.proofs.places_length.Goals as goal

pub returns-then-r-eq0 : goal.returns-then-r-eq0
returns-then-r-eq0 c = (sym (ap length (none c.args.r c.if-r-eq0.true)), omega arith)

pub returns-then-r-eq0-2 : goal.returns-then-r-eq0-2
returns-then-r-eq0-2 c = (sym (ap length (one c.args.r c.if-r-eq0.false c.if-r-eq0-2.true)), omega arith)

pub returns-then-r-eq0-3 : goal.returns-then-r-eq0-3
returns-then-r-eq0-3 c =
    (sym (ap length (two c.args.r c.if-r-eq0.false c.if-r-eq0-2.false c.if-r-eq0-3.true)), omega arith)

pub returns : goal.returns
returns c =
    (sym (ap length (three c.args.r c.if-r-eq0.false c.if-r-eq0-2.false c.if-r-eq0-3.false)), omega arith)
