-- The key of what a list requires: bytes that are the same exactly where that is.
use Rattle.std.specs.Prelude.{◌≡◌, ◌≢◌, ◌&&◌, ◌↔◌, ◌++◌, ℕ, Bool, true, List, [], map, Option, Result, Ok, Err}
use Rattle.std.specs.List.{list_any, AllByRecursion}
use Rattle.std.specs.List.Sorted.{IsStrictlySortedBy}
use Rattle.std.specs.Ordering.{nat_cmp}
use Rattle.std.specs.Cmp.Lexicographic.{slice_cmp}
use Rattle.std.specs.Str.{bytes_eq}
use Rattle.pep440_key.specs.Key.{component_bytes}
use Rattle.pep508_diagram.specs.Diagram.{Diagram}
use Rattle.pep508_diagram.specs.Question.{Question, Valuation, truth, IsCanonical}
use Rattle.pep508_marker_key.specs.Key.{diagram_key}
use Rattle.pep508_marker_key.specs.Told.{listed_bytes}
use Rattle.reqtable_requirements.specs.LineReading.{LineRecord}
use Rattle.reqtable_cases.specs.Requires.{RequireTheSame, asked_of}
use Rattle.reqtable_compare.specs.declared.sides.SameError.{SameError}
use Rattle.reqtable_compare.specs.Compared.{MayCompare, ComparesBy}
use Rattle.reqtable_key.specs.Heads.{IsHead}

-- what is required of a package in one way, and where it is
abbrev pub Region : Type 0
Region = List ℕ × Diagram Question

-- a region with these bytes holds under a valuation
abbrev pub is_there : List Region → List ℕ → Valuation → Bool
is_there regions bytes v = list_any (λ r. bytes_eq bytes r.0 && truth r.1 v) regions

-- bytes are those of what lines require of some package under a valuation
pub record Requires (lines : List LineRecord) (bytes : List ℕ) (v : Valuation) : Type 0 where
  pub name : List ℕ
  pub some : asked_of name v lines ≢ []
  pub head : IsHead name (asked_of name v lines) bytes

-- a package is required under a valuation as one of the regions says, which holds there
pub record IsToldIn (lines : List LineRecord) (regions : List Region) (name : List ℕ) (v : Valuation)
    : Type 0 where
  pub bytes : List ℕ
  pub head : IsHead name (asked_of name v lines) bytes
  pub there : is_there regions bytes v ≡ true

-- the regions of what lines require: each in its one form, in the order of their bytes; each holds somewhere,
-- and only where that is required; and what is required is in one of them
pub record AreRegions (lines : List LineRecord) (regions : List Region) : Type 0 where
  pub rising : IsStrictlySortedBy (slice_cmp nat_cmp) (map (λ r. r.0) regions)
  pub canonical : AllByRecursion (λ r. IsCanonical r.1) regions
  pub somewhere : AllByRecursion (λ r. (v : Valuation) × (truth r.1 v ≡ true)) regions
  pub required : (bytes : List ℕ) (v : Valuation) → is_there regions bytes v ≡ true → Requires lines bytes v
  pub all : (name : List ℕ) (v : Valuation) → asked_of name v lines ≢ [] → IsToldIn lines regions name v

-- a region: its bytes, and those of its diagram
abbrev pub region_bytes : Region → List ℕ
region_bytes r = component_bytes r.0 ++ component_bytes (diagram_key r.1)

-- the key of what lines require
pub record IsKeyOf (lines : List LineRecord) (key : List ℕ) : Type 0 where
  pub regions : List Region
  pub are : AreRegions lines regions
  pub is : key ≡ listed_bytes region_bytes regions

-- the result for a list: its key; or what `same` answers of it beside an empty list, where that is an error
abbrev pub Keys : ℕ → Option ℕ → List LineRecord → Result (List ℕ) SameError → Type 0
Keys limit in_all lines (Ok key) = MayCompare limit lines [] × IsKeyOf lines key
Keys limit in_all lines (Err error) = ComparesBy limit in_all [] lines [] (Err error)

-- keys are the same exactly where the lists require the same
abbrev pub OneKeyOfLists : Type 0
OneKeyOfLists = (left right : List LineRecord) (key other : List ℕ) →
    IsKeyOf left key → IsKeyOf right other → (key ≡ other) ↔ RequireTheSame left right
