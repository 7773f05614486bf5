-- The records of parsed requirements, and the result for a line.
use Rattle.std.specs.Prelude.{◌≡◌, ℕ, List, [], ◌∷◌, ◌++◌, Option, None, Some, Result, Ok, Err}
use Rattle.pep508_tree.specs.Meaning.{NodeRecord, diagram_of}
use Rattle.reqtable_answer.specs.Says.{Asked, requirement_seen}
use Rattle.reqtable_requirements.specs.declared.requirements.Line.{Line}
use Rattle.reqtable_normal.specs.declared.error.NormalError.{NormalError}
use Rattle.reqtable_normal.specs.declared.error.NormalError.TheVariants as errors
use Rattle.reqtable_normal.specs.Normalized.{NormalLine, lines_text}
use Rattle.reqtable_normal.specs.Bounded.{line_error}

-- what a requirement requires, and the meaning of its marker with these nodes
abbrev pub normal_of : List NodeRecord → Asked → NormalLine
normal_of nodes requirement = record {
  front = requirement_seen requirement;
  diagram = diagram_of nodes requirement.marker;
}

abbrev pub line_normal : List NodeRecord → Line → NormalLine
line_normal nodes line = normal_of nodes line.requirement

-- the error for a line that was parsed
abbrev pub error_of : Option ℕ → List NodeRecord → Line → Option NormalError
error_of most nodes line = line_error most line.number (line_normal nodes line)

-- the line's text is appended; or it is refused; or memory ran out
abbrev pub PushesLine : {X : Type 0} → Option ℕ → List NodeRecord → Line → List ℕ → List ℕ
    → Result X NormalError → Type 0
PushesLine most nodes line old new (Ok x) =
    (error_of most nodes line ≡ None) × (new ≡ old ++ lines_text (line_normal nodes line ∷ []))
PushesLine most nodes line old new (Err (errors.Line number cause)) =
    error_of most nodes line ≡ Some (errors.Line number cause)
PushesLine most nodes line old new (Err (errors.TooManyClauses number)) =
    error_of most nodes line ≡ Some (errors.TooManyClauses number)
PushesLine most nodes line old new (Err errors.Memory) = Unit {0}
