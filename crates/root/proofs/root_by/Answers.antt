-- `root::root_by` meets its contract.
use mathlib.Core.Path.{sym, ap, ◌∙◌, subst}
use lib.Dec.{T}
use lib.Ieee.{binary64, fits, of_bits, div}
use lib.Ieee.Bits.{of_bits-to_bits}
use Rattle.root.specs.Root.{sqrt}
use Rattle.root.proofs.Cases.{above-pos, at_infinity, at_zero, below-zero}
use Rattle.root.proofs.root_by.Goals as goal

pub of_low-requires : goal.of_low-requires
unfolding of_bits
of_low-requires c =
    let held : T (fits binary64 c.args.x) = subst T (sym c.well_formed.0.1) tt in
    (above-pos c.args.x held c.if-x.true, c.if-b-lt4503599627370496.true)

pub returns-then-b-lt4503599627370496 : goal.returns-then-b-lt4503599627370496
returns-then-b-lt4503599627370496 c =
    let held : T (fits binary64 c.args.x) = subst T (sym c.well_formed.0.1) tt in
    c.of_low.ensures ∙ ap (sqrt binary64) (of_bits-to_bits binary64 c.args.x held)

pub returns-then-b-lt9218868437227405312 : goal.returns-then-b-lt9218868437227405312
returns-then-b-lt9218868437227405312 c =
    let held : T (fits binary64 c.args.x) = subst T (sym c.well_formed.0.1) tt in
    c.of_normal.ensures ∙ ap (sqrt binary64) (of_bits-to_bits binary64 c.args.x held)

pub returns-then-x : goal.returns-then-x
unfolding of_bits
returns-then-x c =
    let held : T (fits binary64 c.args.x) = subst T (sym c.well_formed.0.1) tt in
    at_infinity c.args.x held c.if-x.true c.if-b-lt9218868437227405312.false

pub returns-then-x-2 : goal.returns-then-x-2
unfolding of_bits
returns-then-x-2 c = at_zero c.args.x c.if-x-2.true

pub returns-else-x-2 : goal.returns-else-x-2
unfolding of_bits div
returns-else-x-2 c = below-zero c.args.x c.if-x.false c.if-x-2.false
