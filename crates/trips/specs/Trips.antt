-- Each outline has one encoding in each form of a file. Definitions only.
use Rattle.std.specs.Prelude.{ℕ, ◌≡◌, cond, List}
use Rattle.float.specs.Answer.{Answer, ok}
use Rattle.form.specs.declared.Form.{Form}
use Rattle.house.specs.File.{bytes_of}
use Rattle.house.specs.Held.{is_file}
use Rattle.packed.specs.Unpacked.{packed_candidate}
use Rattle.reader.specs.declared.Found.{Found}
use Rattle.reader.specs.Reader.{outcome, read_of}

-- the answer of a reader that takes a file: how its curves are stored, its tolerance, and how many marks and curves
abbrev pub given : Form → ℕ → ℕ → ℕ → Answer Found
given form t n k = ok (record { form = form; tolerance = t; marks = n; curves = k })

-- the bytes of a file that the reader takes, as it is written: its own where its joints stand twice, else those of what it holds
abbrev pub rewritten : List ℕ → List ℕ
rewritten b = cond (is_file b) b (bytes_of (packed_candidate b))

-- what two calls of the reader give alike, in the answer and in every slice, they read from the same bytes, whatever slices they were lent, if both files have their joints twice, or both once
abbrev pub OneEncoding : Type 0
OneEncoding = (b c M P W C Q N R X D S : List ℕ) (form : Form) (t n k : ℕ) (M' P' W' C' Q' : List ℕ)
    → outcome (given form t n k) M' P' W' C' Q' ≡ read_of b M P W C Q → outcome (given form t n k) M' P' W' C' Q' ≡ read_of c N R X D S → is_file b ≡ is_file c → b ≡ c
