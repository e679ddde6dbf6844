-- An answer that is right: a value of which something holds, or the refusal by 11. Assumes nothing.
use mathlib.Core.Path.{◌≡◌, refl}
use mathlib.Core.Bool.{Bool, true, false}
use Rattle.float.specs.Answer.{Answer, ok, refused, unless, ◌>>=◌}

abbrev pub Fits : {A : Type 0} → (A → Type 0) → Answer A → Type 0
Fits P (ok a) = P a
Fits P (refused q) = q ≡ 11

pub onward : {A B : Type 0} (P : A → Type 0) (Q : B → Type 0) (a : Answer A) (f : A → Answer B) → Fits P a → ((x : A) → P x → Fits Q (f x)) → Fits Q (◌>>=◌ a f)
onward P Q (ok x) f h k = k x h
onward P Q (refused q) f h k = h

pub tested : {A : Type 0} (P : A → Type 0) (c : Bool) (a : Answer A) → (c ≡ true → Fits P a) → Fits P (unless 11 c a)
tested P true a h = h refl
tested P false a h = refl
