-- Bytes are the file F just where they hold F, that is, where F is well formed and they are its bytes. So no bytes hold two files. Assumes nothing.
use mathlib.Core.Path.{◌≡◌, sym, ◌∙◌}
use mathlib.Core.Bool.{true}
use mathlib.Core.List.{List}
use Prim.Native.Nat.{ℕ}
use Rattle.float.specs.Answer.{ok, refused}
use Rattle.float.proofs.Truth.{not_so}
use Rattle.house.specs.Limits.{badly_formed}
use Rattle.house.specs.File.{File, Holds}
use Rattle.house.specs.Held.{candidate, is_file, file_of}
use Rattle.float.proofs.Answers.{unless_ok}
use Rattle.grammar.proofs.Candidate.{holds_candidate, candidate_holds, candidate_is}

module _ {b : List ℕ} where
  -- ---- the file that bytes are

  pub holds_file : {F : File} → Holds b F → file_of b ≡ ok F
  unfolding file_of
  holds_file {F} h =
      let e : candidate b ≡ F = candidate_is h in
      let t : is_file b ≡ true = candidate_holds (rw e h) in
      rw (t, e)

  pub file_holds : {F : File} → file_of b ≡ ok F → Holds b F
  unfolding file_of
  file_holds {F} e =
      let u = unless_ok badly_formed (is_file b) (ok (candidate b)) e in
      let c : candidate b ≡ F = cc in
      rw c at (holds_candidate u.0)

  pub no_file : ((F : File) → Holds b F → ⊥) → file_of b ≡ refused badly_formed
  unfolding file_of
  no_file never = rw (not_so (is_file b) (λ h. never (candidate b) (holds_candidate h)))

  pub only : {F G : File} → Holds b F → Holds b G → F ≡ G
  only f g = sym (candidate_is f) ∙ candidate_is g
