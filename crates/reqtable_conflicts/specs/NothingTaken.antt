-- What the laws state of conflicts: where just their lines apply, they accept no plain version.
use Rattle.std.specs.Prelude.{◌≡◌, ℕ, false, List, All, map, filter, Ok}
use Rattle.std.specs.List.{list_all, AllZip}
use Rattle.pep440_version.specs.Record.{VersionRecord}
use Rattle.pep508_url.specs.Vars.{Variables}
use Rattle.pep508_diagram.specs.Question.{Valuation}
use Rattle.pep508_tree.specs.Meaning.{NodeRecord}
use Rattle.reqtable_candidates.specs.declared.candidates.Candidate.{Candidate}
use Rattle.reqtable_range.specs.Together.{IsPlain}
use Rattle.reqtable_answer.specs.declared.answer.Outcome.TheVariants.{Nothing}
use Rattle.reqtable_answer.specs.Asks.{ask_takes}
use Rattle.reqtable_answer.specs.Answer.{Admits, RowRecord, IsRow}
use Rattle.reqtable_requirements.specs.declared.requirements.Line.{Line}
use Rattle.reqtable_requirements.specs.LineReading.{LineRecord}
use Rattle.reqtable_requirements.specs.ReadLines.{AreRead}
use Rattle.reqtable_requirements.specs.Requirements.{StandsFor}
use Rattle.reqtable_requirements.specs.Asks.{applies, lines_of, asks_of}
use Rattle.reqtable_cases.specs.Requires.{asked_of}
use Rattle.reqtable_conflicts.specs.Contradictions.{ConflictRecord, FindsConflicts}

-- of the conflict's package just its lines apply under a valuation
abbrev pub ApplyAlone : Valuation → List LineRecord → ConflictRecord → Type 0
ApplyAlone v said conflict =
    map (λ line. line.number) (filter (applies v) (lines_of conflict.name said)) ≡ conflict.numbers

-- just the conflict's lines apply under some valuation
abbrev pub ApplySomewhere : List LineRecord → ConflictRecord → Type 0
ApplySomewhere said conflict = (v : Valuation) × ApplyAlone v said conflict

-- wherever just the conflict's lines apply, the requirements on the package accept no plain version together
abbrev pub TakesNoPlain : List LineRecord → ConflictRecord → Type 0
TakesNoPlain said conflict =
    (v : Valuation) (version : VersionRecord) → ApplyAlone v said conflict → IsPlain version →
    list_all (ask_takes version) (asked_of conflict.name v said) ≡ false

-- wherever just the conflict's lines apply, the package's row has the outcome `Nothing`, if all candidates
-- are plain
abbrev pub HasNothing : List LineRecord → ConflictRecord → Type 0
HasNothing said conflict =
    (v : Valuation) (admits : Admits) (candidates : List Candidate) (row : RowRecord) →
    ApplyAlone v said conflict → All (λ candidate. IsPlain candidate.version) candidates →
    IsRow admits (asks_of v said) candidates row → row.name ≡ conflict.name → row.outcome ≡ Nothing

-- whatever conflicts are found in requirements, this holds of each
abbrev pub EachFound : (List LineRecord → ConflictRecord → Type 0) → Type 0
EachFound IsSo =
    (vars : Variables) (nodes : List NodeRecord) (requirements : List Line) (said : List LineRecord)
    (limit : ℕ) (found : List ConflictRecord) → AreRead requirements →
    AllZip (StandsFor vars nodes) requirements said →
    FindsConflicts (λ conflicts. conflicts) limit said (Ok found) → All (IsSo said) found
