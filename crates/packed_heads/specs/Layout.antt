-- How a packed file, and a file in either form, is laid out, for inner contracts. Definitions only.
use Rattle.std.specs.Prelude.{cond, List, ℕ, Option, Some, None}
use Rattle.form.specs.declared.Form.{Form}
use Rattle.house.specs.File.{File}
use Rattle.house.specs.Held.{marks_held, file_at}
use Rattle.heads.specs.declared.Layout.{Layout}
use Rattle.heads.specs.Layout.{layout_of}
use Rattle.packed.specs.Unpacked.{packed_form, packed_curves, packed_at, is_packed}
use Rattle.packed_heads.specs.declared.Joints.{Joints}
use Rattle.packed_heads.specs.declared.Joints.TheVariants.{Twice, Once}
use Rattle.packed_heads.specs.declared.Held.{Held}

-- what settles where everything stands
abbrev pub packed_counts : List ℕ → ℕ → Form → Option Layout
packed_counts b n form = Some (record { form = form; marks = n; curves = packed_curves b form n })

unfoldable pub packed_layout_of : List ℕ → Option Layout
packed_layout_of b = cond (is_packed b) (packed_counts b (marks_held b) (packed_form b (marks_held b))) None

-- a layout in which each joint stands once, or none
abbrev pub once_of : Option Layout → Option Held
once_of (Some l) = Some (record { joints = Once; layout = l })
once_of None = None

-- the joints stand twice where they do, else once
abbrev pub either_of : Option Layout → Option Layout → Option Held
either_of (Some l) p = Some (record { joints = Twice; layout = l })
either_of None p = once_of p

unfoldable pub held_layout_of : List ℕ → Option Held
held_layout_of b = either_of (layout_of b) (packed_layout_of b)

-- what stands where n marks and k curves would have it
abbrev pub held_at : Joints → List ℕ → Form → ℕ → ℕ → File
held_at Twice b form n k = file_at b form n k
held_at Once b form n k = packed_at b form n k
