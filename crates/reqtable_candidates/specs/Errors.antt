-- The messages of errors.
use Rattle.std.specs.Prelude.{List, ℕ, ◌++◌, codes}
use Rattle.std.specs.Fmt.{decimal}
use Rattle.reqtable_candidates.specs.declared.candidates.CandidateFault.{CandidateFault}
use Rattle.reqtable_candidates.specs.declared.candidates.CandidateFault.TheVariants.{Shape, Name, Version}
use Rattle.reqtable_candidates.specs.declared.candidates.CandidatesError.{CandidatesError}
use Rattle.reqtable_candidates.specs.declared.candidates.CandidatesError.TheVariants.{NotText, Line, Memory}

-- the fault of a candidate line, in one word
abbrev pub cause_text : CandidateFault → List ℕ
cause_text Shape = codes "shape"
cause_text Name = codes "name"
cause_text Version = codes "version"

-- the message for the offset of the first byte that is not UTF-8
abbrev pub no_text : ℕ → List ℕ
no_text offset = codes "not UTF-8 at byte " ++ decimal offset

-- a message about a line
abbrev pub line_text : ℕ → List ℕ → List ℕ
line_text number what = codes "line " ++ decimal number ++ codes ": " ++ what

-- why bytes are not a candidate list
abbrev pub candidates_text : CandidatesError → List ℕ
candidates_text (NotText offset) = no_text offset
candidates_text (Line number cause) = line_text number (cause_text cause)
candidates_text Memory = codes "out of memory"
