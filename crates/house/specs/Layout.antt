-- The words of inner contracts: heads at fixed places, and room. No public promise cites these. Definitions only.
use Rattle.std.specs.Prelude.{ℕ, zero, suc, ◌+◌, ◌*◌, ◌≤◌, ◌≡◌, Bool, true, ◌&&◌, cond, List, eqb, ltb, length, drop}
use Rattle.form.specs.declared.Form.{Form}
use Rattle.form.specs.Form.{width, worsts_for}
use Rattle.house.specs.declared.sizes.Field.{Field}
use Rattle.house.specs.Limits.{length_field, kind_field, field_for, number_field, mark_numbers, head_bytes, mark_bytes, body_bytes, curve_bytes, marks_head, tolerance_kind, marks_kind, curve_kind, params_kind}
use Rattle.house.specs.Bytes.{num}
use Rattle.house.specs.File.{File, params_for}
use Rattle.house.specs.Held.{marks_end, params_at}
use Rattle.float.specs.Slices.{written}

-- the length and the kind of the record at p
unfoldable pub head_at : List ℕ → ℕ → ℕ → ℕ → Bool
head_at b p size kind = eqb (num length_field b p) size && eqb (num kind_field b (p + length_field)) kind

-- kinds 1 and 2, with n marks
unfoldable pub starts_with : List ℕ → ℕ → Bool
starts_with b n = head_at b 0 (kind_field + number_field) tolerance_kind && head_at b marks_head (kind_field + mark_bytes * n) marks_kind

-- k records of one kind at the front, with bodies of so many bytes
unfoldable pub records_lead : ℕ → ℕ → ℕ → List ℕ → Bool
records_lead body kind zero b = true
records_lead body kind (suc k) b = head_at b 0 (kind_field + body) kind && records_lead body kind k (drop (head_bytes + body) b)

abbrev pub curves_lead : Form → Field → ℕ → List ℕ → Bool
curves_lead form field k b = records_lead (body_bytes form field) (curve_kind form field) k b

-- behind n marks k curves, above none and fewer than marks, and kind 4 up to the end
unfoldable pub ends_with : List ℕ → Form → ℕ → ℕ → Bool
ends_with b form n k =
    eqb (length b) (params_at form n k + number_field * n)
    && (ltb 0 k
    && (ltb k n
    && (curves_lead form (field_for n) k (drop (marks_end n) b)
    && head_at b (marks_end n + curve_bytes form (field_for n) * k) (kind_field + number_field * n) params_kind)))

-- how many bytes a file of n marks and k curves has
abbrev pub size_for : Form → ℕ → ℕ → ℕ
size_for form n k = cond (eqb k 0) (marks_end n) (params_at form n k + number_field * n)

-- n marks and k curves are within the bytes and within the slices
pub record Room (form : Form) (n k : ℕ) (b M P W C Q : List ℕ) : Type 0 where
  pub bytes : size_for form n k ≤ length b
  pub marks : mark_numbers * n ≤ length M
  pub firsts : k ≤ length P
  pub worsts : worsts_for form k ≤ length W
  pub curves : width form * k ≤ length C
  pub params : params_for n k ≤ length Q

-- a file stands at the front of the slices
pub record Copied (F : File) (M P W C Q M' P' W' C' Q' : List ℕ) : Type 0 where
  pub marks : M' ≡ written F.marks M
  pub firsts : P' ≡ written F.firsts P
  pub worsts : W' ≡ written F.worsts W
  pub curves : C' ≡ written F.curves C
  pub params : Q' ≡ written F.params Q
