-- The parsed texts of a command's inputs and its extras, or the first thing at fault.
use Rattle.std.specs.Prelude.{ℕ, List, Result, Ok}
use Rattle.pep508_url.specs.Vars.{Variables}
use Rattle.reqtable_candidates.specs.declared.candidates.Candidate.{Candidate}
use Rattle.reqtable_requirements.specs.LineReading.{LineRecord}
use Rattle.reqs_io_faults.specs.declared.fault.Input.TheVariants.{First, Third}
use Rattle.reqs_io_faults.specs.Faults.{Cause}
use Rattle.reqs_io_faults.specs.Inputs.{◌>>=◌, extras_of, lines_from, candidates_from}

-- extras, requirements, the parsed second input, and candidates
pub record ReadTexts (E : Type 0) : Type 0 where
  pub extras : List (List ℕ)
  pub lines : List LineRecord
  pub second : E
  pub candidates : List Candidate

-- a parsed second and third text, or the first thing at fault, after parsed extras and lines
unfoldable pub behind_lines : {E : Type 0} → (List ℕ → Result E Cause) → List (List ℕ) → List LineRecord
    → List ℕ → List ℕ → Result (ReadTexts E) Cause
behind_lines second_from extras lines second candidates = do
  read ← second_from second
  list ← candidates_from Third candidates
  Ok (record { extras = extras; lines = lines; second = read; candidates = list })

-- three parsed texts and the extras, or the first thing at fault: that of the extras before that of the
-- requirements, and so on in the order of the command line
unfoldable pub texts_of : {E : Type 0} → (List ℕ → Result E Cause) → Variables → List (List ℕ)
    → List ℕ → List ℕ → List ℕ → Result (ReadTexts E) Cause
texts_of second_from vars extras requirements second candidates = do
  names ← extras_of extras
  lines ← lines_from vars First requirements
  behind_lines second_from names lines second candidates
