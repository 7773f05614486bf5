-- What is required of packages: requirements without their markers (PEP 508, "Grammar"). The environment
-- decides which requirements apply.
use Rattle.std.specs.Prelude.{◌&&◌, ℕ, Bool, true, false, List, []}
use Rattle.std.specs.List.{list_any, list_all}
use Rattle.std.specs.Str.{bytes_eq}
use Rattle.pep440_version.specs.Record.{VersionRecord}
use Rattle.pep440_specifier.specs.Matching.{SpecifierRecord}
use Rattle.pep440_specifier_list.specs.Lists.{matches_all, any_prerelease}
use Rattle.pep508_requirement_text.specs.FrontReading.{Source, Front}
use Rattle.pep508_requirement_text.specs.FrontReading.Source.{Any, Specifiers, Url}
use Rattle.reqtable_candidates.specs.declared.candidates.Candidate.{Candidate}
use Rattle.reqtable_answer.specs.Admission.{Admits}

-- the specifiers of a requirement; one with a URL has none
abbrev pub specifiers_of : Source → List SpecifierRecord
specifiers_of Any = []
specifiers_of (Specifiers given) = given
specifiers_of (Url text) = []

abbrev pub is_url : Source → Bool
is_url Any = false
is_url (Specifiers given) = false
is_url (Url text) = true

-- the requirement is on the package
abbrev pub is_of : List ℕ → Front → Bool
is_of name ask = bytes_eq name ask.name

-- the requirement has the extra
abbrev pub has_extra : List ℕ → Front → Bool
has_extra extra ask = list_any (bytes_eq extra) ask.extras

-- the requirement has a URL
abbrev pub has_url : Front → Bool
has_url ask = is_url ask.source

-- all specifiers of the requirement accept the version (PEP 440, "Version specifiers")
abbrev pub ask_takes : VersionRecord → Front → Bool
ask_takes version ask = matches_all (specifiers_of ask.source) version

-- some specifier of the requirement names a pre-release or a developmental release
abbrev pub has_prerelease : Front → Bool
has_prerelease ask = any_prerelease (specifiers_of ask.source)

-- some specifier of the requirements names a pre-release or a developmental release
abbrev pub names_prerelease : List Front → Bool
names_prerelease asks = list_any has_prerelease asks

-- a candidate with its place is one of the package
abbrev pub is_candidate : List ℕ → ℕ × Candidate → Bool
is_candidate name numbered = bytes_eq name numbered.1.name

-- all requirements accept the candidate, and it is admitted
abbrev pub may_be_taken : Admits → List Front → ℕ × Candidate → Bool
may_be_taken admits asks numbered =
    list_all (ask_takes numbered.1.version) asks && admits numbered.1.version (names_prerelease asks)
