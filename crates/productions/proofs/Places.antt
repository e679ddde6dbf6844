-- Pairs of numbers, and the numbers that draw one segment: as they are read, and as the productions have them. Assumes nothing.
use Prim.Native.Nat.{ℕ, ◌<◌}
use mathlib.Core.Path.{◌≡◌, refl}
use mathlib.Core.List.{List, [], ◌∷◌}
use native.Mathlib.Omega.{arith}
use lib.ListN.{length}
use Rattle.float.specs.Answer.{ok}
use Rattle.path.specs.Numbers.{Taken, taken, number}
use Rattle.path.specs.Grammar.{apart, Place, Segment, line, pair, arguments}
use Rattle.path.specs.declared.Letter.{Letter}
use Rattle.path.specs.declared.Letter.TheVariants.{Line, Curve}
use Rattle.productions.specs.Productions.{CommaWsp?, CoordinatePair, CurvetoArgument, LinetoArguments, CurvetoArguments}
use Rattle.productions.proofs.Fits.{Fits, onward}
use Rattle.productions.proofs.Spaces.{comma-apart, Start, apart-back, comma_within}
use Rattle.productions.proofs.Numbers.{NumberRead, number_fits, number_back, number_start, number_shorter}

-- ---- a pair

abbrev pub PairRead : List ℕ → Taken Place → Type 0
PairRead s p = CoordinatePair s p.value p.rest

pub pair_fits : (s : List ℕ) → Fits (PairRead s) (pair s)
unfolding pair
pair_fits s =
    onward (NumberRead s) (PairRead s) (number s) _ (number_fits s)
    (λ x h. onward (NumberRead (apart x.rest)) (PairRead s) (number (apart x.rest)) _ (number_fits (apart x.rest)) (λ y k. CoordinatePair.pair h (comma-apart x.rest) k))

pub pair_start : {s r : List ℕ} {p : Place} → CoordinatePair s p r → Start s
pair_start (CoordinatePair.pair x c y) = number_start x

pub pair-back : {s r : List ℕ} {p : Place} → CoordinatePair s p r → pair s ≡ ok (taken p r)
unfolding pair
pair-back (CoordinatePair.pair x c y) = rw (number_back x, apart-back c (number_start y), number_back y) refl

pub pair_shorter : {s r : List ℕ} {p : Place} → CoordinatePair s p r → length r < length s
pair_shorter (CoordinatePair.pair x c y) = omega (arith, number_shorter x, comma_within c, number_shorter y)

-- ---- a segment

pub data Argument : Letter → List ℕ → Segment → List ℕ → Type 0 where
  place : {s r : List ℕ} {p : Place} → CoordinatePair s p r → Argument Line s (line p) r
  places : {s r : List ℕ} {g : Segment} → CurvetoArgument s g r → Argument Curve s g r

abbrev pub ArgumentRead : Letter → List ℕ → Taken Segment → Type 0
ArgumentRead l s g = Argument l s g.value g.rest

pub arguments-fits : (l : Letter) (s : List ℕ) → Fits (ArgumentRead l s) (arguments l s)
unfolding arguments
arguments-fits Line s = onward (PairRead s) (ArgumentRead Line s) (pair s) _ (pair_fits s) (λ p h. Argument.place h)
arguments-fits Curve s =
    onward (PairRead s) (ArgumentRead Curve s) (pair s) _ (pair_fits s)
    (λ a h. onward (PairRead (apart a.rest)) (ArgumentRead Curve s) (pair (apart a.rest)) _ (pair_fits (apart a.rest))
    (λ b k. onward (PairRead (apart b.rest)) (ArgumentRead Curve s) (pair (apart b.rest)) _ (pair_fits (apart b.rest))
    (λ c m. Argument.places (CurvetoArgument.three h (comma-apart a.rest) k (comma-apart b.rest) m))))

pub argument_start : {l : Letter} {s r : List ℕ} {g : Segment} → Argument l s g r → Start s
argument_start (Argument.place p) = pair_start p
argument_start (Argument.places (CurvetoArgument.three a x b y c)) = pair_start a

pub argument_back : {l : Letter} {s r : List ℕ} {g : Segment} → Argument l s g r → arguments l s ≡ ok (taken g r)
unfolding arguments
argument_back (Argument.place p) = rw (pair-back p) refl
argument_back (Argument.places (CurvetoArgument.three a x b y c)) = rw (pair-back a, apart-back x (pair_start b), pair-back b, apart-back y (pair_start c), pair-back c) refl

pub argument_shorter : {l : Letter} {s r : List ℕ} {g : Segment} → Argument l s g r → length r < length s
argument_shorter (Argument.place p) = pair_shorter p
argument_shorter (Argument.places (CurvetoArgument.three a x b y c)) = omega (arith, pair_shorter a, comma_within x, pair_shorter b, comma_within y, pair_shorter c)

-- ---- a row of them

pub data Sequence : Letter → List ℕ → List Segment → List ℕ → Type 0 where
  lines : {s r : List ℕ} {gs : List Segment} → LinetoArguments s gs r → Sequence Line s gs r
  curves : {s r : List ℕ} {gs : List Segment} → CurvetoArguments s gs r → Sequence Curve s gs r

pub sequence_one : {l : Letter} {s r : List ℕ} {g : Segment} → Argument l s g r → Sequence l s (g ∷ []) r
sequence_one (Argument.place p) = Sequence.lines (LinetoArguments.one p)
sequence_one (Argument.places a) = Sequence.curves (CurvetoArguments.one a)

pub sequence_more : {l : Letter} {s t u r : List ℕ} {g : Segment} {gs : List Segment} → Argument l s g t → CommaWsp? t u → Sequence l u gs r → Sequence l s (g ∷ gs) r
sequence_more (Argument.place p) c (Sequence.lines k) = Sequence.lines (LinetoArguments.more p c k)
sequence_more (Argument.places a) c (Sequence.curves k) = Sequence.curves (CurvetoArguments.more a c k)
