-- How a file stores its curves, and how many marks and curves it has, for an inner contract. Definitions only.
use Rattle.std.specs.Prelude.{cond, List, ℕ, Option, Some, None}
use Rattle.form.specs.declared.Form.{Form}
use Rattle.house.specs.Held.{is_file, marks_held, form_held, curves_held}
use Rattle.heads.specs.declared.Layout.{Layout}

-- what settles where everything stands
abbrev pub counts : List ℕ → ℕ → Form → Option Layout
counts b n form = Some (record { form = form; marks = n; curves = curves_held b form n })

unfoldable pub layout_of : List ℕ → Option Layout
layout_of b = cond (is_file b) (counts b (marks_held b) (form_held b (marks_held b))) None
