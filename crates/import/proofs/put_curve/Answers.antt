-- `import::put_curve` meets its contract.
use mathlib.Core.Path.{refl}
use borrow.Author.Tests.{lt-ltb, le-ltb}
use Prim.Native.Nat.{◌*◌}
use mathlib.Core.List.{[], ◌∷◌}
use Rattle.path.specs.Curves.{eights}
use Rattle.import.specs.Walk.{placed}
use Rattle.import.proofs.Rooms.{lent_back}
use Rattle.import.proofs.put_curve.Goals as goal

pub returns-then-k-out : goal.returns-then-k-out
unfolding placed
returns-then-k-out c = rw (lt-ltb _ _ c.if-k-out.true, c.put_eight.ensures) (lent_back c.args.out.now (eights (c.args.c ∷ [])) (8 * c.args.k))

pub returns-else-k-out : goal.returns-else-k-out
unfolding placed
returns-else-k-out c = rw (le-ltb _ _ c.if-k-out.false) refl
