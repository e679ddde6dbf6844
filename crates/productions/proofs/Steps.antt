-- What is behind a segment, segment by segment: as it is read, and by the productions of one segment. Assumes nothing.
use Prim.Native.Nat.{ℕ, zero, suc, ◌≤◌, ◌<◌}
use mathlib.Core.Path.{◌≡◌, refl}
use mathlib.Core.Bool.{Bool, true, false, cond}
use mathlib.Core.List.{List, [], ◌∷◌}
use native.Mathlib.Omega.{arith}
use borrow.Author.Tests.{eqb-true, ne_eqb}
use lib.Dec.{eqb, eqb-suc-zero}
use lib.ListN.{length}
use Rattle.float.specs.Answer.{Answer, ok, unless}
use Rattle.path.specs.Numbers.{front, behind, is_space, past}
use Rattle.path.specs.Grammar as grammar
use Rattle.path.specs.Grammar.{apart, Segment, arguments, Step, drawn_by, step, Drawing, drawing, then, draws}
use Rattle.path.specs.declared.Letter.{Letter}
use Rattle.path.specs.declared.Letter.TheVariants.{Line, Curve}
use Rattle.productions.specs.Productions.{Wsp*, CommaWsp?}
use Rattle.productions.proofs.Fits.{Fits, onward, tested}
use Rattle.productions.proofs.Spaces.{begins, wsps_past, past_wsps, past_end, wsps_within, comma-apart, apart-back, past-comma, comma_within, no_space, start_space}
use Rattle.productions.proofs.Places.{Argument, ArgumentRead, arguments-fits, argument_start, argument_back, argument_shorter}

-- the byte of a letter
abbrev pub byte_of : Letter → ℕ
byte_of Line = 76
byte_of Curve = 67

-- behind a segment that the letter l drew: the segments that follow, and whether Z does
pub data Behind : Letter → List ℕ → List Segment → Bool → Type 0 where
  ended : {l : Letter} {s : List ℕ} → Wsp* s [] → Behind l s [] false
  closed : {l : Letter} {s t : List ℕ} → Wsp* s (90 ∷ t) → Wsp* t [] → Behind l s [] true
  letter : {l : Letter} (m : Letter) {s t u r : List ℕ} {g : Segment} {gs : List Segment} {z : Bool} → Wsp* s (byte_of m ∷ t) → Wsp* t u → Argument m u g r → Behind m r gs z → Behind l s (g ∷ gs) z
  again : {l : Letter} {s t r : List ℕ} {g : Segment} {gs : List Segment} {z : Bool} → CommaWsp? s t → Argument l t g r → Behind l r gs z → Behind l s (g ∷ gs) z

-- ---- what is read

abbrev Stepped : Letter → List ℕ → Step → Type 0
Stepped l s grammar.ended = Behind l s [] false
Stepped l s grammar.closed = Behind l s [] true
Stepped l s (grammar.drawn m g r) = (gs : List Segment) (z : Bool) → Behind m r gs z → Behind l s (g ∷ gs) z

drawn-fits : (l m : Letter) (s t : List ℕ) → ((g : Segment) (r : List ℕ) → Argument m t g r → (gs : List Segment) (z : Bool) → Behind m r gs z → Behind l s (g ∷ gs) z) → Fits (Stepped l s) (drawn_by m t)
unfolding drawn_by
drawn-fits l m s t k = onward (ArgumentRead m t) (Stepped l s) (arguments m t) _ (arguments-fits m t) (λ g h. k g.value g.rest h)

-- nothing but white space
to_end : {s : List ℕ} (t : List ℕ) → Wsp* s t → eqb (length t) 0 ≡ true → Wsp* s []
to_end [] w h = w
to_end (c ∷ t) w h = absurd (omega (arith, eqb-true (length (c ∷ t)) 0 h))

-- white space and then a byte
pub to_byte : {s : List ℕ} (t : List ℕ) (c : ℕ) → Wsp* s t → eqb (front t) c ≡ true → 0 < c → Wsp* s (c ∷ behind t)
to_byte t c w h k = rw (← begins t c (eqb-true (front t) c h) k) w

step_fits : (l : Letter) (s : List ℕ) → Fits (Stepped l s) (step l s)
unfolding step
step_fits l s = go (eqb (length (past is_space s)) 0) (eqb (front (past is_space s)) 90) (eqb (front (past is_space s)) 76) (eqb (front (past is_space s)) 67) refl refl refl refl
  where
    go : (e z n c : Bool) → eqb (length (past is_space s)) 0 ≡ e → eqb (front (past is_space s)) 90 ≡ z → eqb (front (past is_space s)) 76 ≡ n → eqb (front (past is_space s)) 67 ≡ c
        → Fits (Stepped l s) (cond e (ok grammar.ended) (cond z (unless 11 (eqb (length (past is_space (behind (past is_space s)))) 0) (ok grammar.closed)) (cond n (drawn_by Line (past is_space (behind (past is_space s)))) (cond c (drawn_by Curve (past is_space (behind (past is_space s)))) (drawn_by l (apart s))))))
    go true z n c ee ez en ec = Behind.ended (to_end (past is_space s) (wsps_past s) ee)
    go false true n c ee ez en ec =
        tested (Stepped l s) (eqb (length (past is_space (behind (past is_space s)))) 0) (ok grammar.closed)
        (λ h. Behind.closed (to_byte (past is_space s) 90 (wsps_past s) ez (omega arith)) (to_end (past is_space (behind (past is_space s))) (wsps_past (behind (past is_space s))) h))
    go false false true c ee ez en ec =
        drawn-fits l Line s (past is_space (behind (past is_space s)))
        (λ g r a gs z b. Behind.letter Line (to_byte (past is_space s) 76 (wsps_past s) en (omega arith)) (wsps_past (behind (past is_space s))) a b)
    go false false false true ee ez en ec =
        drawn-fits l Curve s (past is_space (behind (past is_space s)))
        (λ g r a gs z b. Behind.letter Curve (to_byte (past is_space s) 67 (wsps_past s) ec (omega arith)) (wsps_past (behind (past is_space s))) a b)
    go false false false false ee ez en ec = drawn-fits l l s (apart s) (λ g r a gs z b. Behind.again (comma-apart s) a b)

abbrev pub DrawingRead : Letter → List ℕ → Drawing → Type 0
DrawingRead l s d = Behind l s d.segments d.closed

then-fits : (l : Letter) (s : List ℕ) (more : Letter → List ℕ → Answer Drawing) → ((m : Letter) (t : List ℕ) → Fits (DrawingRead m t) (more m t)) → (x : Step) → Stepped l s x → Fits (DrawingRead l s) (then more x)
then-fits l s more k grammar.ended h = h
then-fits l s more k grammar.closed h = h
then-fits l s more k (grammar.drawn m g r) h = onward (DrawingRead m r) (DrawingRead l s) (more m r) _ (k m r) (λ d b. h d.segments d.closed b)

pub draws-fits : (f : ℕ) (l : Letter) (s : List ℕ) → Fits (DrawingRead l s) (draws f l s)
unfolding draws
draws-fits zero l s = refl
draws-fits (suc f) l s = onward (Stepped l s) (DrawingRead l s) (step l s) (then (draws f)) (step_fits l s) (then-fits l s (draws f) (draws-fits f))

-- ---- what is there is read

step-ended : (l : Letter) {s : List ℕ} → Wsp* s [] → step l s ≡ ok grammar.ended
unfolding step
step-ended l w = rw (past_end w) refl

step-closed : (l : Letter) {s t : List ℕ} → Wsp* s (90 ∷ t) → Wsp* t [] → step l s ≡ ok grammar.closed
unfolding step
step-closed l {t = t} w k = rw (past_wsps w (no_space 90 (omega arith)), eqb-suc-zero (length t), past_end k) refl

drawn-back : {m : Letter} {u r : List ℕ} {g : Segment} → Argument m u g r → drawn_by m u ≡ ok (grammar.drawn m g r)
unfolding drawn_by
drawn-back a = rw (argument_back a) refl

step_letter : (l m : Letter) {s t u r : List ℕ} {g : Segment} → Wsp* s (byte_of m ∷ t) → Wsp* t u → Argument m u g r → step l s ≡ ok (grammar.drawn m g r)
unfolding step
step_letter l Line {t = t} w k a = rw (past_wsps w (no_space 76 (omega arith)), eqb-suc-zero (length t), past_wsps k (start_space (argument_start a))) (drawn-back a)
step_letter l Curve {t = t} w k a = rw (past_wsps w (no_space 67 (omega arith)), eqb-suc-zero (length t), past_wsps k (start_space (argument_start a))) (drawn-back a)

not_empty : (s : List ℕ) → 43 ≤ front s → eqb (length s) 0 ≡ false
not_empty [] h = absurd (omega arith)
not_empty (c ∷ s) h = eqb-suc-zero (length s)

step-again : (l : Letter) {s t r : List ℕ} {g : Segment} → CommaWsp? s t → Argument l t g r → step l s ≡ ok (grammar.drawn l g r)
unfolding step
step-again l {s = s} c a =
    let (low, high) = past-comma c (argument_start a) in
    let x : ℕ = front (past is_space s) in
    rw (not_empty (past is_space s) low, ne_eqb x 90 (λ e. omega arith), ne_eqb x 76 (λ e. omega arith), ne_eqb x 67 (λ e. omega arith), apart-back c (argument_start a)) (drawn-back a)

pub draws-back : {l : Letter} {s : List ℕ} {gs : List Segment} {z : Bool} (f : ℕ) → Behind l s gs z → length s < f → draws f l s ≡ ok (drawing gs z)
unfolding draws
draws-back zero b h = absurd (omega arith)
draws-back {l} (suc f) (Behind.ended w) h = rw (step-ended l w) refl
draws-back {l} (suc f) (Behind.closed w k) h = rw (step-closed l w k) refl
draws-back {l} (suc f) (Behind.letter m w k a b) h =
    let r = draws-back f b (omega (arith, wsps_within w, wsps_within k, argument_shorter a)) in
    rw (step_letter l m w k a, r) refl
draws-back {l} (suc f) (Behind.again c a b) h =
    let r = draws-back f b (omega (arith, comma_within c, argument_shorter a)) in
    rw (step-again l c a, r) refl
