-- The lines of a text, grouped by package.
use Rattle.std.specs.Prelude.{◌≡◌, ◌⊎◌, ℕ, Bool, true, false, List, [], ◌∷◌, ◌++◌, map, filter, length}
use Rattle.std.specs.Prelude.{flat_map, Option, Some, None, if◌then◌else◌}
use Rattle.std.specs.List.{list_any, dedup}
use Rattle.std.specs.List.Sorted.{IsStrictlySortedBy}
use Rattle.std.specs.Ordering.{nat_cmp}
use Rattle.std.specs.Cmp.Lexicographic.{slice_cmp}
use Rattle.std.specs.Str.{bytes_eq}
use Rattle.pep508_url.specs.UrlTexts.{Verbatim}
use Rattle.pep508_url.specs.declared.url_error.VerbatimUrlError.{VerbatimUrlError}
use Rattle.pep508_requirement.specs.declared.version_or_url.VersionOrUrl.{VersionOrUrl}
use Rattle.pep508_requirement.specs.declared.version_or_url.VersionOrUrl.TheVariants.{VersionSpecifier, Url}
use Rattle.reqtable_requirements.specs.declared.requirements.Line.{Line}
use Rattle.reqtable_requirements.specs.LineSpecifiers.{specifiers_by}
use Rattle.reqtable_groups.specs.declared.given.Given.{Given}
use Rattle.reqtable_groups.specs.declared.given.NamedGiven.{NamedGiven}
use Rattle.reqtable_groups.specs.declared.lines_by_package.Group.{Group}

abbrev pub is_url_by : Option (VersionOrUrl Verbatim VerbatimUrlError) → Bool
is_url_by None = false
is_url_by (Some (VersionSpecifier list)) = false
is_url_by (Some (Url url)) = true

-- a line without its package's name
abbrev pub given_by : Line → Given
given_by line = record {
  number = line.number;
  extras = line.requirement.extras;
  marker = line.requirement.marker;
  is_url = is_url_by line.requirement.version_or_url;
  specifiers = specifiers_by line.requirement.version_or_url;
}

abbrev pub name_in : Line → List ℕ
name_in line = line.requirement.name

-- a line with its package's name
abbrev pub named_by : Line → NamedGiven
named_by line = record { name = name_in line; given = given_by line }

abbrev pub names_of : List Line → List (List ℕ)
names_of lines = map name_in lines

-- a line is of the package
abbrev pub is_under : List ℕ → Line → Bool
is_under name line = bytes_eq name (name_in line)

abbrev pub group_names : List Group → List (List ℕ)
group_names groups = map (λ g. g.name) groups

-- the lines of a package
abbrev pub lines_under : List ℕ → List Group → List Given
lines_under name groups = flat_map (λ g. if bytes_eq name g.name then g.lines.items else []) groups

abbrev pub lines_in : List Group → List Given
lines_in groups = flat_map (λ g. g.lines.items) groups

-- lines grouped by package, each package once
pub record AreGrouped (lines : List Line) (groups : List Group) : Type 0 where
  pub rising : IsStrictlySortedBy (slice_cmp nat_cmp) (group_names groups)
  pub named : (name : List ℕ) → list_any (bytes_eq name) (group_names groups) ≡ list_any (is_under name) lines
  pub each : (name : List ℕ) → lines_under name groups ≡ map given_by (filter (is_under name) lines)
  pub all : length (lines_in groups) ≡ length lines

-- a line with a name is of the package
abbrev pub is_beside : List ℕ → NamedGiven → Bool
is_beside name line = bytes_eq name line.name

-- groups of the lines so far: lines that follow one of their own package are in its group
pub record AreSoFar (lines : List NamedGiven) (groups : List Group) : Type 0 where
  pub names : group_names groups ≡ dedup bytes_eq (map (λ line. line.name) lines)
  pub named : (q : List ℕ) → list_any (bytes_eq q) (group_names groups) ≡ list_any (is_beside q) lines
  pub each : (q : List ℕ) → lines_under q groups ≡ map (λ line. line.given) (filter (is_beside q) lines)
  pub all : length (lines_in groups) ≡ length lines

-- ---- one more line

-- the line is a new group of its own
pub record IsNewGroup (name : List ℕ) (line : Given) (old new : List Group) : Type 0 where
  pub one : Group
  pub named : one.name ≡ name
  pub lines : one.lines.items ≡ line ∷ []
  pub grown : new ≡ old ++ one ∷ []

-- the line is added to the last group, which is of its package
pub record IsInLast (name : List ℕ) (line : Given) (old new : List Group) : Type 0 where
  pub front : List Group
  pub last : Group
  pub one : Group
  pub was : old ≡ front ++ last ∷ []
  pub of_package : last.name ≡ name
  pub named : one.name ≡ name
  pub lines : one.lines.items ≡ last.lines.items ++ line ∷ []
  pub grown : new ≡ front ++ one ∷ []

-- the last group is of another package
abbrev pub IsOfOther : List ℕ → List Group → Type 0
IsOfOther name groups =
    (front : List Group) (last : Group) → groups ≡ front ++ last ∷ [] → bytes_eq name last.name ≡ false

abbrev pub IsAdded : List ℕ → Given → List Group → List Group → Type 0
IsAdded name line old new = IsInLast name line old new ⊎ (IsOfOther name old × IsNewGroup name line old new)
