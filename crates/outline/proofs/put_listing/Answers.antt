-- `outline::put_listing` meets its contract.
use mathlib.Core.Path.{sym}
use native.Mathlib.Omega.{arith}
use Rattle.packed_heads.proofs.Told.{held_told}
use Rattle.outline.proofs.Ways.{list_long, list_broken, list-few, list_many, list-fit}
use Rattle.outline.proofs.put_listing.Goals as goal

pub returns-then-file-gt-MOST_BYTES : goal.returns-then-file-gt-MOST_BYTES
returns-then-file-gt-MOST_BYTES c = (omega arith, rw (list_long c.args.file.now (omega arith)) (rw c.number.ensures at c.put_refusal.ensures.1))

pub returns-in_default : goal.returns-in_default
returns-in_default c = (omega arith, rw (list_broken c.args.file.now (omega arith) (sym c.in_default.ensures)) (rw c.number-in_default.ensures at c.put_refusal-in_default.ensures.1))

pub returns-then-n-lt2 : goal.returns-then-n-lt2
returns-then-n-lt2 c = (omega arith, rw (list-few (omega arith) (held_told _ _ _ _ _ (sym c.in-Some.ensures)) (omega arith)) (rw c.number-then-n-lt2.ensures at c.put_refusal-then-n-lt2.ensures.1))

pub returns-then-n-gt-MOST_LISTED : goal.returns-then-n-gt-MOST_LISTED
returns-then-n-gt-MOST_LISTED c = (omega arith, rw (list_many (omega arith) (held_told _ _ _ _ _ (sym c.in-Some.ensures)) (omega arith)) (rw c.number-then-n-gt-MOST_LISTED.ensures at c.put_refusal-then-n-gt-MOST_LISTED.ensures.1))

pub put_fit-requires : goal.put_fit-requires
put_fit-requires c = ((held_told _ _ _ _ _ (sym c.in-Some.ensures)).marks, (omega arith, omega arith))

pub returns : goal.returns
returns c = (omega arith, rw (list-fit (omega arith) (held_told _ _ _ _ _ (sym c.in-Some.ensures)) (omega arith) (omega arith)) c.put_fit.ensures.1)
