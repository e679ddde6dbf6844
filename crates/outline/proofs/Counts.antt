-- A fit that is done has no more curves than it was lent places for first marks. Assumes nothing.
use mathlib.Core.Path.{◌≡◌, sym}
use mathlib.Core.Bool.{Bool, true, false, cond}
use mathlib.Core.List.{List}
use Prim.Native.Nat.{ℕ, ◌≤◌}
use native.Mathlib.Omega.{arith}
use lib.Dec.{eqb}
use lib.ListN.{length, length-append, length-map}
use lib.Ieee.{Float, binary64, of_bits}
use Rattle.float.specs.Answer.{ok}
use Rattle.float.specs.Answer.{refused as no}
use Rattle.limits.specs.Limits.{most_marks}
use Rattle.marks.specs.Marks.{count}
use Rattle.marks.specs.Block.{block_size}
use Rattle.ring.specs.declared.Outline.TheVariants.{Open}
use Rattle.gate.specs.Gate.{gate_of}
use Rattle.tangents.specs.declared.Cutting.TheVariants.{Joined}
use Rattle.blocks.specs.Blocks.{blocks_of}
use Rattle.cut.specs.Run.{Run, refused, done}
use Rattle.fit.specs.Fit.{ended, ending, fit_of}
use Rattle.float.proofs.Answers.{not_refused}
use Rattle.desk.specs.Desk.{floats}
use Rattle.file_fit.specs.FileFit.{file_fit}
use Rattle.house.specs.File.{File}

ran : (b : Bool) (g : ℕ) (R : Run) (C : List Float) (F W : List ℕ) (P : List Float) (k : ℕ)
    → (cond b (ended R C F W P) (ending (no g) C F W P)).answer ≡ ok k → k ≤ length (cond b (ended R C F W P) (ending (no g) C F W P)).firsts
ran true g (done cs bs ps) C F W P k e = let n : length bs ≡ k = cc in let l = length-map bs (λ b. b.first) in simp length-append (omega arith)
ran true g (refused q) C F W P k e = not_refused q (sym e)
ran false g R C F W P k e = not_refused g (sym e)

pub fit_count : (F : File) (C : List Float) (P W : List ℕ) (Q : List Float) (k : ℕ) → (file_fit F C P W Q).answer ≡ ok k → k ≤ length (file_fit F C P W Q).firsts
unfolding file_fit fit_of
fit_count F C P W Q k e =
    let ms : List Float = floats F.marks in
    let t : Float = of_bits binary64 F.tolerance in
    let g : ℕ = gate_of most_marks Open ms t (length C) (length P) (length W) (length Q) in
    ran (eqb g 0) g (blocks_of Joined ms (block_size (count ms)) t) C P W Q k e
