-- How long the lines of the list are. Assumes nothing.
use Prim.Native.Nat.{ℕ, ◌+◌}
use mathlib.Core.Path.{◌≡◌, refl, sym, ap, ◌∙◌}
use mathlib.Core.List.{List, [], ◌∷◌, ◌++◌, append-nil, append_assoc}
use native.Mathlib.Omega.{arith}
use lib.ListN.{length, length-append}
use Rattle.text.specs.Text.{decimal}
use Rattle.lines.proofs.Turns.{length-pair}
use Rattle.sieve.specs.declared.Cause.{Cause}
use Rattle.sieve.specs.declared.Cause.TheVariants.{Range, Equal}
use Rattle.sieve.specs.declared.Fate.{Fate}
use Rattle.sieve.specs.declared.Fate.TheVariants.{Kept, Dropped}
use Rattle.sieve.specs.Sieve.{Drop, drop_by}
use Rattle.salvaging.specs.Report.{kept_word, dropped_word, cause_word, count_line, drop_line, drop_lines}

pub count-length : (k d : ℕ) → length (count_line k d) ≡ 15 + length (decimal k) + length (decimal d)
count-length k d = omega (arith, length-pair kept_word k dropped_word d)

pub cause-length : (c : Cause) → length (cause_word c) ≡ 5
cause-length Range = refl
cause-length Equal = refl

pub drop-length : (i : ℕ) (c : Cause) → length (drop_line i c) ≡ 12 + length (decimal i)
unfolding drop_line
drop-length i c = simp (length-append, cause-length c) (omega arith)

-- the lines of marks in turn
pub lines_append : (xs ys : List Drop) → drop_lines (xs ++ ys) ≡ drop_lines xs ++ drop_lines ys
unfolding drop_lines
lines_append [] ys = refl
lines_append (x ∷ xs) ys = rw (lines_append xs ys) (sym (append_assoc (drop_line x.number x.cause) (drop_lines xs) (drop_lines ys)))

-- the line of one
pub lines_kept : (i : ℕ) {f : Fate} → f ≡ Kept → drop_lines (drop_by i f) ≡ []
unfolding drop_lines
lines_kept i e = rw e

pub lines_dropped : (i : ℕ) {f : Fate} {c : Cause} → f ≡ Dropped c → drop_lines (drop_by i f) ≡ drop_line i c
unfolding drop_lines
lines_dropped i {c = c} e = rw e (append-nil (drop_line i c))

pub dropped_length : (i : ℕ) {f : Fate} {c : Cause} → f ≡ Dropped c → length (drop_lines (drop_by i f)) ≡ 12 + length (decimal i)
dropped_length i {c = c} e = ap length (lines_dropped i e) ∙ drop-length i c
