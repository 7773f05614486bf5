-- The environment variables of the program, and the project's root directory in them.
use Rattle.std.specs.Prelude.{◌&&◌, ℕ, Bool, List, [], ◌∷◌, codes, bytes_eq, if◌then◌else◌, Option}
use Rattle.std.specs.Prelude.{Some, None}
use Rattle.pep508_url.specs.Cuts.{cut, is_absolute}
use Rattle.pep508_url.specs.Vars.{Variables}

-- the variable names the project's root directory
abbrev pub is_root : List ℕ × List ℕ → Bool
is_root pair = bytes_eq pair.0 (codes "PWD") && is_absolute pair.1

-- the first value that names the root directory, or else `/`
abbrev pub root_in : List (List ℕ × List ℕ) → List ℕ
root_in [] = codes "/"
root_in (pair ∷ pairs) = if is_root pair then pair.1 else root_in pairs

abbrev pub with_pair : Option (List ℕ × List ℕ) → List (List ℕ × List ℕ) → List (List ℕ × List ℕ)
with_pair (Some pair) pairs = pair ∷ pairs
with_pair None pairs = pairs

-- entries as names and values, which are before and after the first `=`; an entry without it is skipped
abbrev pub pairs_in : List (List ℕ) → List (List ℕ × List ℕ)
pairs_in [] = []
pairs_in (entry ∷ entries) = with_pair (cut 61 entry) (pairs_in entries)

-- the variables in entries
abbrev pub variables_in : List (List ℕ) → Variables
variables_in entries = record { pairs = pairs_in entries; project_root = root_in (pairs_in entries) }
