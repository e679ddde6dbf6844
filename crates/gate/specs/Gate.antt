-- What a fit tests before it runs, in the order 3, 1, 2, 4, 5. Definitions only.
use Rattle.std.specs.Prelude.{ℕ, ◌+◌, ◌-◌, ◌*◌, ◌%◌, ◌≡◌, Bool, true, false, not, ◌&&◌, List, [], ◌∷◌, length, ltb, leb, eqb, Float}
use Rattle.std.specs.Float.Ieee.{le}
use Rattle.float.specs.Number.{f0, finite}
use Rattle.plane.specs.Range.{coordinate}
use Rattle.marks.specs.Marks.{count}
use Rattle.form.specs.Form.{width, worsts_for}
use Rattle.form.specs.declared.Form.{Form}
use Rattle.form.specs.declared.Form.TheVariants.{Nine}
use Rattle.ring.specs.Ring.{again}
use Rattle.ring.specs.declared.Outline.{Outline}

-- each number finite and of magnitude at most 1,000,000
unfoldable pub in_range : List Float → Bool
in_range [] = true
in_range (x ∷ xs) = coordinate x && in_range xs

-- finite and not below zero
unfoldable pub tolerable : Float → Bool
tolerable x = finite x && le f0 x

-- what a run may rely on behind these two tests: numbers in range, and a tolerance
pub record Usable (ms : List Float) (tol : Float) : Type 0 where
  pub near : in_range ms ≡ true
  pub tolerance : tolerable tol ≡ true

-- refusal q if the test holds, else what the later tests say
abbrev pub refuse : Bool → ℕ → ℕ → ℕ
refuse true q n = q
refuse false q n = n

-- room for k curves in c numbers, with f first marks and w worst marks beside them
unfoldable pub room_for : Form → ℕ → ℕ → ℕ → ℕ → Bool
room_for form k c f w = leb (width form * k) c && (leb k f && leb (worsts_for form k) w)

-- two marks, of a closed outline three, and at most `top`; room for k curves, and in p parameters for every mark, where one that counts again has its own;
-- 0 if all tests pass
unfoldable pub gate_for : ℕ → Outline → Form → ℕ → List Float → Float → ℕ → ℕ → ℕ → ℕ → ℕ
gate_for top o form k ms tol c f w p =
    refuse (not (eqb (length ms % 2) 0)) 3
    (refuse (ltb (count ms) (again o + 2)) 1
    (refuse (ltb top (count ms)) 2
    (refuse (not (room_for form k c f w)) 4
    (refuse (ltb p (again o + count ms)) 4
    (refuse (not (in_range ms)) 5
    (refuse (not (tolerable tol)) 5 0))))))

-- a fit wants room for the records of as many curves as there can be, one fewer than the marks that the outline runs over
abbrev pub gate_of : ℕ → Outline → List Float → Float → ℕ → ℕ → ℕ → ℕ → ℕ
gate_of top o ms tol c f w p = gate_for top o Nine (again o + count ms - 1) ms tol c f w p
