-- The words of an inner contract: room for a file in either form. No public promise cites these. Definitions only.
use Rattle.std.specs.Prelude.{ℕ, List}
use Rattle.form.specs.declared.Form.{Form}
use Rattle.house.specs.Layout.{Room}
use Rattle.packed_heads.specs.declared.Joints.{Joints}
use Rattle.packed_heads.specs.declared.Joints.TheVariants.{Twice, Once}
use Rattle.packed_bodies.specs.Layout.{PackedRoom}

-- n marks and k curves are within the bytes and within the slices
abbrev pub HeldRoom : Joints → Form → ℕ → ℕ → List ℕ → List ℕ → List ℕ → List ℕ → List ℕ → List ℕ → Type 0
HeldRoom Twice form n k b M P W C Q = Room form n k b M P W C Q
HeldRoom Once form n k b M P W C Q = PackedRoom form n k b M P W C Q
