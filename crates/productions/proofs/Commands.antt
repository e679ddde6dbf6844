-- What is behind a segment: segment by segment, and by the productions of whole commands. Assumes nothing.
use Prim.Native.Nat.{ℕ}
use mathlib.Core.Path.{◌≡◌, refl, ap}
use mathlib.Core.Bool.{Bool, false}
use mathlib.Core.List.{List, [], ◌∷◌, ◌++◌, append-nil}
use Rattle.path.specs.Grammar.{Segment}
use Rattle.path.specs.declared.Letter.{Letter}
use Rattle.path.specs.declared.Letter.TheVariants.{Line, Curve}
use Rattle.productions.specs.Productions.{Wsp*, CommaWsp?, LinetoArguments, CurvetoArguments, DrawtoCommand, DrawtoCommands, DrawtoCommands?}
use Rattle.productions.proofs.Spaces.{wsps_join}
use Rattle.productions.proofs.Places.{Argument, Sequence, sequence_one, sequence_more}
use Rattle.productions.proofs.Steps.{byte_of, Behind}

-- wsp* drawto-commands? wsp*, to the end of the text
pub data Commands : List ℕ → List Segment → Bool → Type 0 where
  commands : {s t u : List ℕ} {gs : List Segment} {z : Bool} → Wsp* s t → DrawtoCommands? t gs z u → Wsp* u [] → Commands s gs z

-- the numbers that a letter goes on with, or none
pub data Further : Letter → List ℕ → List Segment → List ℕ → Type 0 where
  none : {l : Letter} {s : List ℕ} → Further l s [] s
  some : {l : Letter} {s t r : List ℕ} {gs : List Segment} → CommaWsp? s t → Sequence l t gs r → Further l s gs r

-- ---- to commands

pub record Split (l : Letter) (s : List ℕ) (gs : List Segment) (z : Bool) : Type 0 where
  pub first : List Segment
  pub others : List Segment
  pub rest : List ℕ
  pub further : Further l s first rest
  pub commands : Commands rest others z
  pub whole : gs ≡ first ++ others

sequence_from : {l : Letter} {s t r : List ℕ} {g : Segment} {gs : List Segment} → Argument l s g t → Further l t gs r → Sequence l s (g ∷ gs) r
sequence_from a Further.none = sequence_one a
sequence_from a (Further.some c k) = sequence_more a c k

command : {m : Letter} {s t r : List ℕ} {gs : List Segment} → Wsp* s t → Sequence m t gs r → DrawtoCommand (byte_of m ∷ s) gs false r
command w (Sequence.lines k) = DrawtoCommand.lineto w k
command w (Sequence.curves k) = DrawtoCommand.curveto w k

commands_from : {s t r : List ℕ} {gs hs : List Segment} {z : Bool} → Wsp* s t → DrawtoCommand t gs false r → Commands r hs z → Commands s (gs ++ hs) z
commands_from {gs = gs} w c (Commands.commands k DrawtoCommands?.none m) = rw (append-nil gs) (Commands.commands w (DrawtoCommands?.some (DrawtoCommands.one c)) (wsps_join k m))
commands_from w c (Commands.commands k (DrawtoCommands?.some d) m) = Commands.commands w (DrawtoCommands?.some (DrawtoCommands.more c k d)) m

pub split : {l : Letter} {s : List ℕ} {gs : List Segment} {z : Bool} → Behind l s gs z → Split l s gs z
split (Behind.ended w) = record { first = []; others = []; rest = _; further = Further.none; commands = Commands.commands w DrawtoCommands?.none Wsp*.none; whole = refl }
split (Behind.closed w k) = record { first = []; others = []; rest = _; further = Further.none; commands = Commands.commands w (DrawtoCommands?.some (DrawtoCommands.one DrawtoCommand.closepath)) k; whole = refl }
split (Behind.letter m {g = g} w k a b) =
    let x = split b in
    record { first = []; others = (g ∷ x.first) ++ x.others; rest = _; further = Further.none; commands = commands_from w (command k (sequence_from a x.further)) x.commands; whole = ap (λ (hs : List Segment). g ∷ hs) x.whole }
split (Behind.again {g = g} c a b) =
    let x = split b in
    record { first = g ∷ x.first; others = x.others; rest = x.rest; further = Further.some c (sequence_from a x.further); commands = x.commands; whole = ap (λ (hs : List Segment). g ∷ hs) x.whole }

-- ---- from commands

-- a segment, and what is behind it
pub record Begun (l : Letter) (s : List ℕ) (gs : List Segment) (z : Bool) : Type 0 where
  pub one : Segment
  pub others : List Segment
  pub rest : List ℕ
  pub argument : Argument l s one rest
  pub behind : Behind l rest others z
  pub whole : gs ≡ one ∷ others

pub begun-again : {l : Letter} {s t : List ℕ} {gs : List Segment} {z : Bool} → CommaWsp? s t → Begun l t gs z → Behind l s gs z
begun-again c x = rw x.whole (Behind.again c x.argument x.behind)

begun_letter : {l : Letter} (m : Letter) {s t u : List ℕ} {gs : List Segment} {z : Bool} → Wsp* s (byte_of m ∷ t) → Wsp* t u → Begun m u gs z → Behind l s gs z
begun_letter m w k x = rw x.whole (Behind.letter m w k x.argument x.behind)

pub lines_begun : {s r : List ℕ} {gs hs : List Segment} {z : Bool} → LinetoArguments s gs r → Behind Line r hs z → Begun Line s (gs ++ hs) z
lines_begun (LinetoArguments.one p) b = record { one = _; others = _; rest = _; argument = Argument.place p; behind = b; whole = refl }
lines_begun (LinetoArguments.more p c k) b = record { one = _; others = _; rest = _; argument = Argument.place p; behind = begun-again c (lines_begun k b); whole = refl }

curves-begun : {s r : List ℕ} {gs hs : List Segment} {z : Bool} → CurvetoArguments s gs r → Behind Curve r hs z → Begun Curve s (gs ++ hs) z
curves-begun (CurvetoArguments.one p) b = record { one = _; others = _; rest = _; argument = Argument.places p; behind = b; whole = refl }
curves-begun (CurvetoArguments.more p c k) b = record { one = _; others = _; rest = _; argument = Argument.places p; behind = begun-again c (curves-begun k b); whole = refl }

-- a command, and what is behind it
command_behind : {s t r : List ℕ} {gs hs : List Segment} {z : Bool} (l : Letter) → Wsp* s t → DrawtoCommand t gs false r → ((m : Letter) → Behind m r hs z) → Behind l s (gs ++ hs) z
command_behind l w (DrawtoCommand.lineto x k) b = begun_letter Line w x (lines_begun k (b Line))
command_behind l w (DrawtoCommand.curveto x k) b = begun_letter Curve w x (curves-begun k (b Curve))

last_behind : {s t r : List ℕ} {gs : List Segment} {z : Bool} (l : Letter) → Wsp* s t → DrawtoCommand t gs z r → Wsp* r [] → Behind l s gs z
last_behind l w DrawtoCommand.closepath k = Behind.closed w k
last_behind {gs = gs} l w (DrawtoCommand.lineto x a) k = rw (append-nil gs) at (command_behind l w (DrawtoCommand.lineto x a) (λ m. Behind.ended k))
last_behind {gs = gs} l w (DrawtoCommand.curveto x a) k = rw (append-nil gs) at (command_behind l w (DrawtoCommand.curveto x a) (λ m. Behind.ended k))

drawto_behind : {s t r : List ℕ} {gs : List Segment} {z : Bool} (l : Letter) → Wsp* s t → DrawtoCommands t gs z r → Wsp* r [] → Behind l s gs z
drawto_behind l w (DrawtoCommands.one c) k = last_behind l w c k
drawto_behind l w (DrawtoCommands.more c x d) k = command_behind l w c (λ m. drawto_behind m x d k)

pub commands_behind : {s : List ℕ} {gs : List Segment} {z : Bool} → Commands s gs z → Behind Line s gs z
commands_behind (Commands.commands w DrawtoCommands?.none k) = Behind.ended (wsps_join w k)
commands_behind (Commands.commands w (DrawtoCommands?.some d) k) = drawto_behind Line w d k
