-- What a lent slice holds after its front was written. Definitions only.
use Rattle.std.specs.Prelude.{List, ◌++◌, length, drop}

-- xs written over the front of ys
abbrev pub written : {A : Type 0} → List A → List A → List A
written xs ys = xs ++ drop (length xs) ys
