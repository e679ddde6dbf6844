-- A cleaned file stays as it is when it is cleaned again. Assumes nothing.
use Prim.Native.Nat.{ℕ, ◌+◌, ◌*◌, ◌≤◌}
use mathlib.Core.Path.{◌≡◌, refl, ap, ◌∙◌}
use mathlib.Core.Bool.{true}
use mathlib.Core.List.{List, [], ◌∷◌}
use native.Mathlib.Omega.{arith}
use borrow.Author.Tests.{le-leb}
use lib.ListN.{length, take, drop}
use Rattle.float.specs.Answer.{ok}
use Rattle.house.specs.Bytes.{all_fit}
use Rattle.house.specs.File.{File, marks_in, bytes_of, well_formed}
use Rattle.house.proofs.Numbers.{fit-take, fit-drop, fit_append}
use Rattle.grammar.proofs.Formed.{Formed, plain, formed, forming}
use Rattle.grammar.proofs.Rooms.{size_none}
use Rattle.grammar.proofs.Whole.{length-bytes}
use Rattle.packed.specs.Unpacked.{held_of}
use Rattle.packed.proofs.Candidate.{held_stored, stored_formed, holds_held}
use Rattle.sieve.specs.declared.Fate.{Fate}
use Rattle.sieve.specs.declared.Fate.TheVariants.{Kept, Dropped}
use Rattle.sieve.specs.Sieve.{kept_by, kept_in, fates_of}
use Rattle.sieve.proofs.Traces as traces
use Rattle.salvaging.specs.Salvage.{cleaned, texts_of, salvage_texts, bench_texts}
use Rattle.salvaging.specs.Twice.{unchanged, Twice, TwiceAtTheBench}

-- what is kept fits its fields
fit-kept : (fs : List Fate) (M : List ℕ) → all_fit 8 M ≡ true → all_fit 8 (kept_in fs M) ≡ true
unfolding kept_in all_fit
fit-kept [] M h = refl
fit-kept (f ∷ fs) M h = fit_append 8 (kept_by f (take 2 M)) (kept_in fs (drop 2 M)) (one f) (fit-kept fs (drop 2 M) (fit-drop 8 2 M h))
  where
    one : (g : Fate) → all_fit 8 (kept_by g (take 2 M)) ≡ true
    one Kept = fit-take 8 2 M h
    one (Dropped c) = refl

module _ (F : File) (w : well_formed F ≡ true) where
  abbrev pub k : ℕ
  k = marks_in (cleaned F)

  pub fewer : k ≤ marks_in F
  unfolding cleaned
  fewer = omega (arith, traces.adds F.marks)

  clean-formed : Formed (cleaned F) k 0
  unfolding cleaned all_fit
  clean-formed =
      let f = formed F w in record {
        sized = record { marks = omega (arith, traces.kept_and_dropped F.marks); firsts = refl; worsts = refl; curves = refl; params = refl };
        way = plain refl refl;
        few = omega (arith, f.few, fewer);
        fit = record { tolerance = f.fit.tolerance; marks = fit-kept (fates_of F.marks) F.marks f.fit.marks; firsts = refl; worsts = refl; curves = refl; params = refl };
      }

  held : held_of (bytes_of (cleaned F)) ≡ ok (cleaned F)
  held = holds_held (record { formed = forming clean-formed; bytes = refl })

  pub length-clean : length (bytes_of (cleaned F)) ≡ 20 + 16 * k
  length-clean = length-bytes clean-formed.sized ∙ size_none (cleaned F).form k refl

  same : texts_of (cleaned F) ≡ unchanged F
  unfolding texts_of cleaned
  same = let a = traces.again F.marks in rw (a.0, a.1)

pub twice : Twice
unfolding salvage_texts
twice b F h = let w = stored_formed (held_stored h) in rw (held F w) (ap ok (same F w))

pub twice_at_the_bench : TwiceAtTheBench
unfolding bench_texts
twice_at_the_bench b F h m =
    let w = stored_formed (held_stored h) in
    let e = fewer F w in
    let l : length (bytes_of (cleaned F)) ≤ 434120 = omega (arith, length-clean F w) in
    rw (le-leb (length (bytes_of (cleaned F))) 434120 l, held F w, le-leb (marks_in (cleaned F)) 512 (omega arith)) (ap ok (same F w))
