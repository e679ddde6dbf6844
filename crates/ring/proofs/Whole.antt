-- Marks of an outline, and of a closed one those behind its last. Assumes nothing.
use Prim.Native.Nat.{ℕ, ◌+◌, ◌-◌, ◌*◌, ◌/◌, ◌%◌, ◌≤◌, ◌<◌, min}
use native.Mathlib.Omega.{arith}
use mathlib.Core.Path.{◌≡◌, refl, sym, ap, ◌∙◌}
use mathlib.Core.List.{List, ◌++◌}
use lib.ListN.{length, take, drop, length-append, length-take, length-drop}
use lib.Seq.{take-append-le, drop-append-le, drop-append_seam, take_all}
use lib.Ieee.{Float}
use Rattle.marks.specs.Marks.{count, mark_at}
use Rattle.marks.proofs.Parts.{mark-drop, mark-take}
use Rattle.ring.specs.declared.Outline.{Outline}
use Rattle.ring.specs.declared.Outline.TheVariants.{Open, Closed}
use Rattle.ring.specs.Ring.{again, whole, Even}

pub again-small : (o : Outline) → again o ≤ 1
again-small Open = omega arith
again-small Closed = omega arith

pub whole_length : (o : Outline) (ms : List Float) → Even ms → length (whole o ms) ≡ 2 * (again o + count ms)
whole_length Open ms e = omega arith
whole_length Closed ms e = simp (length-append, length-take) (omega arith)

pub whole-count : (o : Outline) (ms : List Float) → Even ms → count (whole o ms) ≡ again o + count ms
whole-count o ms e = let l = whole_length o ms e in omega arith

pub whole-even : (o : Outline) (ms : List Float) → Even ms → Even (whole o ms)
whole-even o ms e = let l = whole_length o ms e in (omega arith, omega arith)

-- and from the whole back to the marks given, where there are two at least
pub halves : (o : Outline) (ms : List Float) (n : ℕ) → length (whole o ms) ≡ 2 * n → 2 ≤ n → Even ms × (again o + count ms ≡ n)
halves Open ms n l h = ((omega arith, omega arith), omega arith)
halves Closed ms n l h = go (length ms) (sym (length-append ms (take 2 ms) ∙ ap (λ (i : ℕ). length ms + i) (length-take 2 ms)) ∙ l)
  where
    go : (x : ℕ) → x + min 2 x ≡ 2 * n → ((x % 2 ≡ 0) × (0 < x / 2)) × (1 + x / 2 ≡ n)
    go x e =
        let d : x ≡ 2 * (n - 1) = omega arith in
        rw d ((omega arith, omega arith), omega arith)

-- a mark that was given
mark-front : (ms xs : List Float) (k : ℕ) → 2 * k + 1 < length ms → mark_at (ms ++ xs) k ≡ mark_at ms k
mark-front ms xs k l =
    sym (mark-take (ms ++ xs) (length ms) k l) ∙ ap (λ (t : List Float). mark_at t k) (take-append-le (length ms) ms xs (omega arith)) ∙ mark-take ms (length ms) k l

pub given : (o : Outline) (ms : List Float) (k : ℕ) → 2 * k + 1 < length ms → mark_at (whole o ms) k ≡ mark_at ms k
given Open ms k l = refl
given Closed ms k l = mark-front ms (take 2 ms) k l

-- the mark behind the last is mark 0
pub comes_back : (ms : List Float) (k : ℕ) → Even ms → k ≡ count ms → mark_at (whole Closed ms) k ≡ mark_at ms 0
comes_back ms k e h =
    let l : 2 * k ≡ length ms = omega arith in
    let z : k + 0 ≡ k = omega arith in
    ap (mark_at (whole Closed ms)) (sym z)
    ∙ sym (mark-drop (whole Closed ms) k 0)
    ∙ ap (λ (t : List Float). mark_at t 0) (ap (λ (i : ℕ). drop i (ms ++ take 2 ms)) l ∙ drop-append_seam ms (take 2 ms))
    ∙ mark-take ms 2 0 (omega arith)

-- read as of a closed outline, a mark is that of the outline
pub as-closed : (o : Outline) (ms : List Float) (k : ℕ) → 2 * k + 1 < length (whole o ms) → mark_at (whole Closed ms) k ≡ mark_at (whole o ms) k
as-closed Open ms k l = given Closed ms k l
as-closed Closed ms k l = refl

-- a part of the marks given is that part of the whole
pub part_given : (o : Outline) (ms : List Float) (a b : ℕ) → a ≤ b → b ≤ length ms → take (b - a) (drop a (whole o ms)) ≡ take (b - a) (drop a ms)
part_given Open ms a b h l = refl
part_given Closed ms a b h l =
    ap (take (b - a)) (drop-append-le a ms (take 2 ms) (omega arith)) ∙ take-append-le (b - a) (drop a ms) (take 2 ms) (simp length-drop (omega arith))

-- read as of a closed outline, a part is that of the outline
pub part_as-closed : (o : Outline) (ms : List Float) (a b : ℕ) → a ≤ b → b ≤ length (whole o ms) → take (b - a) (drop a (whole Closed ms)) ≡ take (b - a) (drop a (whole o ms))
part_as-closed Open ms a b h l = part_given Closed ms a b h l
part_as-closed Closed ms a b h l = refl

-- what is behind mark `from` of a closed outline: its part of the marks given, and mark 0
pub behind : (ms : List Float) (a : ℕ) → a ≤ length ms → take (length ms - a) (drop a ms) ++ take 2 ms ≡ drop a (whole Closed ms)
behind ms a h = ap (λ (t : List Float). t ++ take 2 ms) (take_all (length ms - a) (drop a ms) (simp length-drop (omega arith))) ∙ sym (drop-append-le a ms (take 2 ms) h)
