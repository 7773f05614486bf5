-- The results of reading a requirements text with a bound on the nodes of its trees.
use Rattle.std.specs.Prelude.{◌≡◌, ◌<◌, ◌≤◌, ℕ, List, ◌∷◌, ◌++◌, length, Result, Ok, Err}
use Rattle.std.specs.List.{AllByRecursion}
use Rattle.pep508_url.specs.Vars.{Variables}
use Rattle.pep508_tree.specs.Meaning.{NodeRecord, Extends}
use Rattle.pep508_tree.specs.Tree.{Tree}
use Rattle.pep508_marker_parser.specs.MarkerOutcome.{IsTreeOf}
use Rattle.reqtable_requirements.specs.declared.requirements.Line.{Line}
use Rattle.reqtable_requirements.specs.declared.requirements.RequirementsError.{RequirementsError}
use Rattle.reqtable_requirements.specs.declared.requirements.RequirementsError.TheVariants as errors
use Rattle.reqtable_requirements.specs.LineReading.{LineRecord}
use Rattle.reqtable_requirements.specs.Requirements.{requirements_of, ReadsRequirements}

-- the line's marker has a tree of these nodes
abbrev pub HasItsTree : List NodeRecord → LineRecord → Type 0
HasItsTree nodes line = (tree : Tree) × IsTreeOf nodes tree line.formula

-- the lines before one of this number have trees of at most so many nodes, to which more were added
pub record IsPastAt (most : ℕ) (nodes : List NodeRecord) (said : List LineRecord) (number : ℕ) : Type 0 where
  pub front : List LineRecord
  pub line : LineRecord
  pub back : List LineRecord
  pub split : said ≡ front ++ line ∷ back
  pub is_named : line.number ≡ number
  pub before : List NodeRecord
  pub trees : AllByRecursion (HasItsTree before) front
  pub fit : length before ≤ most
  pub extended : Extends before nodes
  pub is_past : most < length nodes

-- the result of making the tree of the line of this number; memory runs out only within the bound
abbrev pub StaysWithin : {X : Type 0} → ℕ → List NodeRecord → ℕ → Result X RequirementsError → Type 0
StaysWithin most nodes number (Err (errors.TooManyNodes named bound)) =
    (named ≡ number) × (bound ≡ most) × (most < length nodes)
StaysWithin most nodes number (Err errors.Memory) = length nodes ≤ most
StaysWithin most nodes number (Err error) = ⊥
StaysWithin most nodes number (Ok made) = length nodes ≤ most

-- the result of making the trees of lines
abbrev pub MakesWithin : {X : Type 0} → ℕ → List NodeRecord → List LineRecord → Result X RequirementsError
    → Type 0
MakesWithin most nodes said (Err (errors.TooManyNodes number bound)) =
    (bound ≡ most) × IsPastAt most nodes said number
MakesWithin most nodes said (Err errors.Memory) = length nodes ≤ most
MakesWithin most nodes said (Err error) = ⊥
MakesWithin most nodes said (Ok made) = length nodes ≤ most

-- the result of reading a requirements text, with these nodes afterwards, of which there may be so many: the
-- bound is passed only if the text is one of requirements, at one of its lines; memory runs out only within
-- the bound; and every other result is that without a bound
abbrev pub ReadsWithin : Variables → ℕ → List NodeRecord → List ℕ → Result (List Line) RequirementsError
    → Type 0
ReadsWithin vars most nodes bytes (Err (errors.TooManyNodes number bound)) =
    (bound ≡ most) × ((said : List LineRecord) × (requirements_of vars bytes ≡ Ok said)
    × IsPastAt most nodes said number)
ReadsWithin vars most nodes bytes (Err errors.Memory) = length nodes ≤ most
ReadsWithin vars most nodes bytes (Err error) = ReadsRequirements vars nodes bytes (Err error)
ReadsWithin vars most nodes bytes (Ok lines) =
    ReadsRequirements vars nodes bytes (Ok lines) × (length nodes ≤ most)
