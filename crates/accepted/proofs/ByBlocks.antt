-- What holds of every block's run, and is kept where two lists join, holds of a fit by blocks that meet. Proved of the definition. Assumes nothing.
use Prim.Native.Nat.{ℕ, zero, suc, ◌+◌, ◌-◌, ◌≤◌, ◌<◌}
use native.Mathlib.Omega.{arith}
use mathlib.Core.Path.{◌≡◌, refl, sym, ap, subst, ◌∙◌}
use mathlib.Core.Bool.{Bool, true, false}
use mathlib.Core.List.{List, ◌++◌}
use lib.ListN.{take}
use lib.Dec.{leb}
use lib.Ieee.{Float}
use borrow.Author.Tests.{le-ltb, leb-false}
use Rattle.float.specs.Answer.{Answer, ok, outcome}
use Rattle.float.specs.Answer.{refused as no}
use Rattle.cut.specs.Run.{Beside, Run, refused, done, join, turned, run_of}
use Rattle.tangents.specs.declared.Ways.{Ways}
use Rattle.tangents.specs.declared.Cutting.{Cutting}
use Rattle.blocks.specs.Blocks.{block_at, block_of, blocks, blocks_from}
use Rattle.tangents.specs.Ways.{over, ways_of}

-- two runs that are both done
record Both (k : ℕ) (R R' : Run) (cs : List Float) (bs : List Beside) (ps : List Float) : Type 0 where
  c : List Float
  f : List Beside
  p : List Float
  c' : List Float
  f' : List Beside
  p' : List Float
  is : R ≡ done c f p
  is' : R' ≡ done c' f' p'
  curves : cs ≡ c ++ c'
  besides : bs ≡ f ++ f'
  params : ps ≡ take k p ++ p'

join-done : (k : ℕ) (R R' : Run) (cs : List Float) (bs : List Beside) (ps : List Float) → join k R R' ≡ done cs bs ps → Both k R R' cs bs ps
join-done k (refused q) R' cs bs ps e = let z : ◌≡◌ {A = ℕ} 0 1 = cc in absurd (omega arith)
join-done k (done c f p) (refused q) cs bs ps e = let z : ◌≡◌ {A = ℕ} 0 1 = cc in absurd (omega arith)
join-done k (done c f p) (done c' f' p') cs bs ps e = record { c = c; f = f; p = p; c' = c'; f' = f'; p' = p'; is = refl; is' = refl; curves = cc; besides = cc; params = cc }

module _ (k : Cutting) (meet : over k ≡ 1) (ms : List Float) (n size : ℕ) (tol : Float) where
  -- what holds of every block's run, from its first mark to its last, and of two that join, holds of all blocks
  module _ (Q : ℕ → ℕ → List Float → List Beside → List Float → Type 0)
      (one : (from to : ℕ) (w : Ways) (cs : List Float) (bs : List Beside) (ps : List Float) → from + 2 ≤ to → to ≤ n → run_of (block_at ms from to) from w.start w.end tol ≡ done cs bs ps → Q from (to - 1) cs bs ps)
      (both : (f g e : ℕ) (cs cs' : List Float) (bs bs' : List Beside) (ps ps' : List Float) → f < g → Q f g cs bs ps → Q g e cs' bs' ps' → Q f e (cs ++ cs') (bs ++ bs') (take (g - f) ps ++ ps')) where
    of_block : (from to : ℕ) (cs : List Float) (bs : List Beside) (ps : List Float) → from + 2 ≤ to → to ≤ n → block_of k ms n tol from to ≡ done cs bs ps → Q from (to - 1) cs bs ps
    of_block from to cs bs ps h l q = go (outcome (ways_of k ms n from to)) q
      where
        go : (w : Answer Ways) → turned w (λ w. run_of (block_at ms from to) from w.start w.end tol) ≡ done cs bs ps → Q from (to - 1) cs bs ps
        go (ok w) q = one from to w cs bs ps h l q
        go (no i) q = let z : ◌≡◌ {A = ℕ} 0 1 = cc in absurd (omega arith)

    abbrev at : ℕ → ℕ → Run
    at d from = blocks d (leb (n - from) (size + over k)) k ms n size tol from

    same_list : (f e : ℕ) (cs c : List Float) (bs g : List Beside) (ps p : List Float) → cs ≡ c → bs ≡ g → ps ≡ p → Q f e c g p → Q f e cs bs ps
    same_list f e cs c bs g ps p x y z h = rw (x, y, z) h

    ind : (d from : ℕ) (cs : List Float) (bs : List Beside) (ps : List Float) → 0 < size → from + 2 ≤ n → n - from ≤ d → at d from ≡ done cs bs ps → Q from (n - 1) cs bs ps
    unfolding blocks
    ind zero from cs bs ps z h l q = absurd (omega arith)
    ind (suc d) from cs bs ps z h l q =
        go (leb (n - from) (size + over k)) refl q (λ c f p j e. ind d (from + size) c f p z (omega (arith, meet)) (omega (arith, meet)) e)
      where
        go : (b : Bool) → leb (n - from) (size + over k) ≡ b → blocks (suc d) b k ms n size tol from ≡ done cs bs ps
            → ((c : List Float) (f : List Beside) (p : List Float) → size + over k < n - from → at d (from + size) ≡ done c f p → Q (from + size) (n - 1) c f p) → Q from (n - 1) cs bs ps
        go true e q R = of_block from n cs bs ps h (omega arith) (rw (le-ltb (n - from) 2 (omega arith)) at q)
        go false e q R =
            let j : size + over k < n - from = leb-false (n - from) (size + over k) e in
            let b = join-done size (block_of k ms n tol from (from + (size + over k))) (at d (from + size)) cs bs ps q in
            let t : from + (size + over k) - 1 ≡ from + size = omega (arith, meet) in
            let d : from + size - from ≡ size = omega arith in
            let left : Q from (from + size) b.c b.f b.p = subst (λ (e : ℕ). Q from e b.c b.f b.p) t (of_block from (from + (size + over k)) b.c b.f b.p (omega (arith, meet)) (omega (arith, meet)) b.is) in
            same_list from (n - 1) cs _ bs _ ps _ b.curves b.besides (b.params ∙ ap (λ (i : ℕ). take i b.p ++ b.p') (sym d))
            (both from (from + size) (n - 1) b.c b.c' b.f b.f' b.p b.p' (omega arith) left (R b.c' b.f' b.p' j b.is'))

    pub blocks_by : (cs : List Float) (bs : List Beside) (ps : List Float) → 0 < size → 2 ≤ n → blocks_from k ms n size tol 0 ≡ done cs bs ps → Q 0 (n - 1) cs bs ps
    unfolding blocks_from
    blocks_by cs bs ps z h q = ind n 0 cs bs ps z (omega arith) (omega arith) q
