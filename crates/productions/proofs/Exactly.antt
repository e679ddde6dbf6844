-- The path of a whole text: as it is read, and as the productions have it. Assumes nothing.
use Prim.Native.Nat.{ℕ, suc}
use mathlib.Core.Path.{◌≡◌, refl, ap}
use mathlib.Core.Bool.{Bool}
use mathlib.Core.List.{List, ◌∷◌, ◌++◌}
use native.Mathlib.Omega.{arith}
use lib.Dec.{eqb}
use lib.ListN.{length}
use Rattle.float.specs.Answer.{Answer, ok, refused}
use Rattle.path.specs.Numbers.{front, behind, is_space, past}
use Rattle.path.specs.Grammar.{Place, Segment, pair, draws, Path, path_of}
use Rattle.path.specs.declared.Letter.TheVariants.{Line}
use Rattle.productions.specs.Productions.{Wsp*, CoordinatePair, MovetoArguments, Moveto, Group, IsPath}
use Rattle.productions.specs.Exactly.{Exactly}
use Rattle.productions.proofs.Fits.{Fits, onward, tested}
use Rattle.productions.proofs.Spaces.{wsps_past, past_wsps, wsps_within, no_space, start_space}
use Rattle.productions.proofs.Places.{PairRead, pair_fits, pair_start, pair-back, pair_shorter, Sequence}
use Rattle.productions.proofs.Steps.{Behind, to_byte, DrawingRead, draws-fits, draws-back}
use Rattle.productions.proofs.Commands.{Commands, Further, split, lines_begun, begun-again, commands_behind}

abbrev path : Place → List Segment → Bool → Path
path p gs z = record { start = p; segments = gs; closed = z }

-- ---- what is read

moveto-arguments : {s t r : List ℕ} {p : Place} {gs : List Segment} → CoordinatePair s p t → Further Line t gs r → MovetoArguments s p gs r
moveto-arguments p Further.none = MovetoArguments.one p
moveto-arguments p (Further.some c (Sequence.lines k)) = MovetoArguments.more p c k

with_commands : {text s t : List ℕ} {p : Place} {gs hs : List Segment} {z : Bool} → Wsp* text s → Moveto s p gs t → Commands t hs z → IsPath text (path p (gs ++ hs) z)
with_commands w m (Commands.commands x d k) = IsPath.svg_path w (Group.group m x d) k

from_pair : {text s t r : List ℕ} {p : Place} {gs : List Segment} {z : Bool} → Wsp* text (77 ∷ s) → Wsp* s t → CoordinatePair t p r → Behind Line r gs z → IsPath text (path p gs z)
from_pair w k p b = let x = split b in rw x.whole (with_commands w (Moveto.moveto k (moveto-arguments p x.further)) x.commands)

path-fits : (text : List ℕ) → Fits (IsPath text) (path_of text)
unfolding path_of
path-fits text =
    let s : List ℕ = past is_space text in
    let t : List ℕ = past is_space (behind s) in
    tested (IsPath text) (eqb (front s) 77) _
    (λ e. onward (PairRead t) (IsPath text) (pair t) _ (pair_fits t)
    (λ p h. onward (DrawingRead Line p.rest) (IsPath text) (draws (suc (length text)) Line p.rest) _ (draws-fits (suc (length text)) Line p.rest)
    (λ d b. from_pair (to_byte s 77 (wsps_past text) e (omega arith)) (wsps_past (behind s)) h b)))

-- ---- what is there is read

path_of_is : {text s t r : List ℕ} {p : Place} {gs : List Segment} {z : Bool} → Wsp* text (77 ∷ s) → Wsp* s t → CoordinatePair t p r → Behind Line r gs z → path_of text ≡ ok (path p gs z)
unfolding path_of
path_of_is {text} w k p b =
    let d = draws-back (suc (length text)) b (omega (arith, wsps_within w, wsps_within k, pair_shorter p)) in
    rw (past_wsps w (no_space 77 (omega arith)), past_wsps k (start_space (pair_start p)), pair-back p, d) refl

path_by : {text s t : List ℕ} {p : Place} {gs hs : List Segment} {z : Bool} → Wsp* text s → Moveto s p gs t → Commands t hs z → path_of text ≡ ok (path p (gs ++ hs) z)
path_by w (Moveto.moveto k (MovetoArguments.one p)) c = path_of_is w k p (commands_behind c)
path_by w (Moveto.moveto k (MovetoArguments.more p x a)) c = path_of_is w k p (begun-again x (lines_begun a (commands_behind c)))

path-back : {text : List ℕ} {p : Path} → IsPath text p → path_of text ≡ ok p
path-back (IsPath.svg_path w (Group.group m x d) k) = path_by w m (Commands.commands x d k)

-- ---- exactly

no_other : (text : List ℕ) (a : Answer Path) → Fits (IsPath text) a → ((p : Path) → IsPath text p → ⊥) → a ≡ refused 11
no_other text (ok p) h k = absurd (k p h)
no_other text (refused q) h k = ap refused h

pub exactly : Exactly
exactly =
    record {
      sound = λ text p e. rw e at (path-fits text);
      complete = λ text p h. path-back h;
      none = λ text h. no_other text (path_of text) (path-fits text) h;
      refusal = λ text q e. rw e at (path-fits text);
    }
