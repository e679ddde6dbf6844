-- What each way through the listing shows. Assumes nothing.
use mathlib.Core.Path.{◌≡◌, refl, sym, ap, ◌∙◌}
use mathlib.Core.Bool.{Bool, true, false}
use mathlib.Core.List.{List}
use Prim.Native.Nat.{ℕ, ◌*◌, ◌<◌, ◌≤◌}
use native.Mathlib.Omega.{arith}
use borrow.Author.Tests.{le-leb, lt-leb, leb-true}
use lib.Dec.{leb}
use lib.ListN.{length, drop}
use lib.Ieee.{Float}
use Rattle.float.specs.Answer.{Answer, ok, refused, unless, ◌>>=◌}
use Rattle.lines.specs.Lines.{refusal_line}
use Rattle.lines.specs.Handed.{shown}
use Rattle.path.specs.Curves.{eights}
use Rattle.import.specs.Import.{Left, Read, read_of, fitting, left, settled, import_of}
use Rattle.import.specs.declared.Imported.{Imported}
use Rattle.path_list.specs.PathList.{path_lines, read_lines, drawn_of, drawn_lines, lines_of, path_list_of}
use Rattle.path_list.proofs.Lines.{path-front}

-- ---- the entry

pub list_long : (text : List ℕ) → 262144 < length text → path_list_of text ≡ refusal_line 4
unfolding lines_of
list_long text h = rw (lt-leb (length text) 262144 h)

pub list-drawn : (text : List ℕ) → length text ≤ 262144 → path_list_of text ≡ shown (drawn_lines text)
unfolding lines_of
list-drawn text h = rw (le-leb (length text) 262144 h)

-- ---- what is drawn

-- it has at most 512 curves
fitting-few : (r p : Read) → fitting 4096 r ≡ ok p → length p.curves ≤ 512
unfolding fitting
fitting-few r p = go (leb (8 * length r.curves) 4096) refl
  where
    go : (b : Bool) → leb (8 * length r.curves) 4096 ≡ b → unless 4 b (ok r) ≡ ok p → length p.curves ≤ 512
    go true l e = let z : r ≡ p = cc in rw (sym z) (omega (arith, leb-true (8 * length r.curves) 4096 l))
    go false l e = let z : ◌≡◌ {A = ℕ} 0 1 = cc in absurd (omega arith)

drawn-few : (text : List ℕ) (p : Read) → drawn_of text ≡ ok p → length p.curves ≤ 512
unfolding drawn_of
drawn-few text p = go (read_of text)
  where
    go : (a : Answer Read) → ◌>>=◌ a (fitting 4096) ≡ ok p → length p.curves ≤ 512
    go (ok r) e = fitting-few r p e
    go (refused q) e = let z : ◌≡◌ {A = ℕ} 0 1 = cc in absurd (omega arith)

-- import into room for 512 curves
import_drawn : (text : List ℕ) (C : List Float) → 4096 ≡ length C → import_of text C ≡ settled C (drawn_of text)
unfolding import_of drawn_of
import_drawn text C h = rw (sym h)

-- what a call of import says
abbrev found : ℕ → Bool → Imported
found k z = record { count = k; closed = z }

shows_path : (a : Answer Read) (C : List Float) {k : ℕ} {z : Bool} {C' : List Float} → ((p : Read) → a ≡ ok p → length p.curves ≤ 512) → left (ok (found k z)) C' ≡ settled C a
    → (k ≤ 512) × (shown (◌>>=◌ a (λ r. ok (read_lines r))) ≡ path_lines k z C')
shows_path (ok p) C {k} {z} few e =
    let a = ap (λ (l : Left). l.answer) e in
    let f : found k z ≡ found (length p.curves) p.closed = cc in
    let n : k ≡ length p.curves = ap (λ (x : Imported). x.count) f in
    let w : z ≡ p.closed = ap (λ (x : Imported). x.closed) f in
    (rw n (few p refl), rw (n, w, ap (λ (l : Left). l.curves) e) (sym (path-front p.closed p.curves (drop (length (eights p.curves)) C))))
shows_path (refused q) C few e =
    let a = ap (λ (l : Left). l.answer) e in
    let z : ◌≡◌ {A = ℕ} 0 1 = cc in
    absurd (omega arith)

shows_refusal : (a : Answer Read) (C : List Float) {q : ℕ} {C' : List Float} → left (refused q) C' ≡ settled C a → shown (◌>>=◌ a (λ r. ok (read_lines r))) ≡ refusal_line q
shows_refusal (ok p) C e =
    let a = ap (λ (l : Left). l.answer) e in
    let z : ◌≡◌ {A = ℕ} 0 1 = cc in
    absurd (omega arith)
shows_refusal (refused q') C {q} e =
    let a = ap (λ (l : Left). l.answer) e in
    let z : q ≡ q' = cc in
    rw z

module _ (text : List ℕ) (C : List Float) {C' : List Float} (h : 4096 ≡ length C) where
  pub done_lines : {k : ℕ} {z : Bool} → left (ok (found k z)) C' ≡ import_of text C → (k ≤ 512) × (shown (drawn_lines text) ≡ path_lines k z C')
  unfolding drawn_lines
  done_lines e = shows_path (drawn_of text) C (drawn-few text) (e ∙ import_drawn text C h)

  pub refused_lines : {q : ℕ} → left (refused q) C' ≡ import_of text C → shown (drawn_lines text) ≡ refusal_line q
  unfolding drawn_lines
  refused_lines e = shows_refusal (drawn_of text) C (e ∙ import_drawn text C h)
