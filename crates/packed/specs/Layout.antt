-- The words of inner contracts: how long a packed file is, and heads and numbers at fixed places. No public promise cites these. Definitions only.
use Rattle.std.specs.Prelude.{ℕ, ◌+◌, ◌-◌, ◌*◌, Bool, ◌&&◌, cond, List, eqb, ltb, length}
use Rattle.form.specs.declared.Form.{Form}
use Rattle.house.specs.Limits.{kind_field, field_for, mark_field, number_field, head_bytes, params_kind}
use Rattle.house.specs.Bytes.{num, all_fit}
use Rattle.house.specs.Held.{marks_end}
use Rattle.house.specs.Layout.{head_at}
use Rattle.packed.specs.Packed.{packed_kind, flag_field, flag, packed_mark, lead_bytes, entry_bytes}
use Rattle.packed.specs.Unpacked.{flag_at, entry_at, first_place, firsts_in, worsts_in}

-- how many bytes a packed file of n marks and k curves has
abbrev pub packed_size : Form → ℕ → ℕ → ℕ
packed_size form n k = cond (eqb k 0) (marks_end n) (entry_at form n k + head_bytes + number_field * n)

-- kind 8 for k curves behind n marks, with the leading byte that goes with the form
abbrev pub leads_packed : List ℕ → Form → ℕ → ℕ → Bool
leads_packed b form n k = head_at b (marks_end n) (kind_field + (lead_bytes + entry_bytes form * k)) packed_kind && eqb (num flag_field b (flag_at n)) (flag form)

-- the last mark number is that of the last mark, and the others fit the field that goes with n marks
abbrev pub marks_packed : List ℕ → Form → ℕ → ℕ → Bool
marks_packed b form n k = eqb (num packed_mark b (first_place form n k)) (n - 1) && (all_fit (mark_field (field_for n)) (firsts_in b form n k) && all_fit (mark_field (field_for n)) (worsts_in b form n k))

-- behind n marks kind 8 with k curves, above none and fewer than marks, and kind 4 up to the end
unfoldable pub ends_packed : List ℕ → Form → ℕ → ℕ → Bool
ends_packed b form n k =
    eqb (length b) (entry_at form n k + head_bytes + number_field * n)
    && (ltb 0 k
    && (ltb k n
    && (leads_packed b form n k
    && (marks_packed b form n k
    && head_at b (entry_at form n k) (kind_field + number_field * n) params_kind))))
