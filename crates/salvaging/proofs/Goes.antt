-- A text that is put piece by piece, from the front on: what is left to put gives the whole. Assumes nothing.
use Prim.Native.Nat.{ℕ, ◌+◌}
use mathlib.Core.Path.{◌≡◌, refl, sym, ◌∙◌}
use mathlib.Core.List.{List, [], ◌++◌}
use native.Mathlib.Omega.{arith}
use lib.ListN.{length, length-append}
use lib.Seq.{sets}
use Rattle.text.specs.Put.{Put}
use Rattle.text.proofs.Stores.{sets_append, put-length}

-- of all that is to be put into O at `at`, `rest` is left: O' is what O became, and e is where the text ends
pub record Goes (O : List ℕ) (at : ℕ) (all O' : List ℕ) (e : ℕ) (rest : List ℕ) : Type 0 where
  pub out : sets O' e rest ≡ sets O at all
  pub size : e + length rest ≡ at + length all
  pub same : length O' ≡ length O

pub begun : {O : List ℕ} {at : ℕ} {all rest : List ℕ} → rest ≡ all → Goes O at all O at rest
begun e = rw e (record { out = refl; size = refl; same = refl })

pub gone : {O : List ℕ} {at : ℕ} {all O' : List ℕ} {e : ℕ} {rest xs rest' O'' : List ℕ} {e' : ℕ} → Goes O at all O' e rest → rest ≡ xs ++ rest' → Put O' e xs O'' e' → Goes O at all O'' e' rest'
gone {O} {at} {all} {O'} {e} {rest} {xs} {rest'} g r p = record {
  out = rw (p.out, p.end) (sym (sets_append xs rest' O' e) ∙ (rw r at g.out));
  size = let l : length (xs ++ rest') ≡ length xs + length rest' = length-append xs rest' in let s : e + length (xs ++ rest') ≡ at + length all = rw r at g.size in omega (arith, p.end);
  same = put-length p ∙ g.same;
}

pub ended : {O : List ℕ} {at : ℕ} {all O' : List ℕ} {e : ℕ} {rest : List ℕ} → Goes O at all O' e rest → rest ≡ [] → Put O at all O' e
ended {O} {at} {all} {O'} {e} g r = record {
  end = let s : e + 0 ≡ at + length all = rw r at g.size in omega arith;
  out = rw r at g.out;
}
