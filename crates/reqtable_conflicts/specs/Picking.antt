-- Which cases of a table's packages are conflicts.
use Rattle.std.specs.Prelude.{◌≡◌, ◌⊎◌, ◌++◌, ℕ, Bool, List, [], ◌∷◌, map, Option, Some, None}
use Rattle.reqtable_table.specs.Cases.{cases_under}
use Rattle.reqtable_table.specs.Kept.{KeptLine, KeptCase, KeptPackage, kept_under}
use Rattle.reqtable_conflicts.specs.Contradictions.{ConflictRecord, HasNoPoint}

-- the record of a case: the numbers of its lines, and whether some specifier of them names a pre-release
abbrev pub told : KeptCase → List ℕ × Bool
told case = (case.numbers, case.prerelease)

-- the records of exactly those cases of a package's lines that have lines and no point
abbrev pub Picks : List KeptLine → List KeptCase → List (List ℕ × Bool) → Type 0
Picks lines [] picked = picked ≡ []
Picks lines (case ∷ cases) picked =
    (HasNoPoint lines case
    × ((rest : List (List ℕ × Bool)) × (picked ≡ told case ∷ rest) × Picks lines cases rest))
    ⊎ ((HasNoPoint lines case → ⊥) × Picks lines cases picked)

abbrev pub named : List ℕ → List ℕ × Bool → ConflictRecord
named name one = record { name = name; numbers = one.0; prerelease = one.1 }

-- the records of a package's conflicts are appended to what was found
abbrev pub AddsPicked : List KeptLine → List ℕ → List KeptCase → List ConflictRecord → List ConflictRecord
    → Type 0
AddsPicked lines name cases old new =
    (picked : List (List ℕ × Bool)) × Picks lines cases picked × (new ≡ old ++ map (named name) picked)

abbrev pub PicksOf : List KeptLine → Option (List KeptCase) → List (List ℕ × Bool) → Type 0
PicksOf lines None picked = picked ≡ []
PicksOf lines (Some cases) picked = Picks lines cases picked

-- the conflicts of the package with a name
abbrev pub PicksUnder : List KeptPackage → List ℕ → List (List ℕ × Bool) → Type 0
PicksUnder table name picked = PicksOf (kept_under name table) (cases_under name table) picked

-- the conflicts of a table's packages with some names, one package after another
abbrev pub FoundFor : List KeptPackage → List (List ℕ) → List ConflictRecord → Type 0
FoundFor table [] found = found ≡ []
FoundFor table (name ∷ names) found =
    (picked : List (List ℕ × Bool)) × (rest : List ConflictRecord) × PicksUnder table name picked
    × (found ≡ map (named name) picked ++ rest) × FoundFor table names rest
