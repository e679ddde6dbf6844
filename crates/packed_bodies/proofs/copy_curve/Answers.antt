-- `packed_bodies::copy_curve` meets its contract.
use mathlib.Core.Path.{ap}
use Prim.Native.Nat.{ℕ, ◌+◌}
use native.Mathlib.Omega.{arith}
use lib.ListN.{length-take, length-drop}
use Rattle.packed.proofs.Places.{start_before}
use Rattle.packed.proofs.Sizes.{rest_is, rest_within}
use Rattle.packed_bodies.proofs.Turns.{curve_is}
use Rattle.packed_bodies.proofs.copy_curve.Goals as goal

pub copy_words-requires : goal.copy_words-requires
copy_words-requires c = let a = c.args in (omega (arith, c.start_place.ensures, start_before a.form a.n a.i), omega (arith, rest_is a.form))

pub slice_bounds-copy_words-count : goal.slice_bounds-copy_words-count
slice_bounds-copy_words-count c = omega (arith, rest_is c.args.form, c.copy_words.auto)

pub slice_bounds-copy_words-start : goal.slice_bounds-copy_words-start
slice_bounds-copy_words-start c = omega (arith, rest_is c.args.form, c.copy_words.auto)

pub copy_words-requires-2 : goal.copy_words-requires-2
copy_words-requires-2 c = let a = c.args in (omega (arith, c.entry_at-at.ensures, c.rest_numbers.ensures, rest_within a.form), simp (length-take, length-drop) (omega (arith, c.rest_numbers.ensures, rest_is a.form)))

pub returns : goal.returns
returns c = let a = c.args in curve_is a.b.now a.form a.n a.out.now _ c.copy_words-2.new.out a.i c.copy_words.ensures c.copy_words-2.ensures c.start_place.ensures (ap (λ (x : ℕ). x + 4) c.entry_at-at.ensures) c.rest_numbers.ensures (omega (arith, rest_is a.form))
