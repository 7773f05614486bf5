-- The valuation of an environment with extras, and when some valuation with just these extras makes a tree
-- hold (PEP 508, "Environment Markers").
use Rattle.std.specs.Prelude.{◌≡◌, ◌↔◌, ℕ, ◌||◌, eqb, Bool, IsTrue, true, false, List, [], ◌∷◌, Option, Some}
use Rattle.std.specs.Prelude.{None}
use Rattle.std.specs.List.{starts_with, list_any}
use Rattle.version_ranges.specs.Point.{At}
use Rattle.pep440_text.specs.Record.{VersionRecord}
use Rattle.pep508_name.specs.Name.{name_eq}
use Rattle.pep508_environment.specs.Environment.{EnvironmentRecord}
use Rattle.pep508_environment.specs.EnvironmentValues.{text_in}
use Rattle.pep508_diagram.specs.declared.variable.VersionVariable.{VersionVariable}
use Rattle.pep508_diagram.specs.declared.variable.VersionVariable.TheVariants.{ImplementationVersion}
use Rattle.pep508_diagram.specs.declared.variable.VersionVariable.TheVariants.{PythonFullVersion}
use Rattle.pep508_diagram.specs.declared.variable.Flag.{Flag}
use Rattle.pep508_diagram.specs.declared.variable.Flag.TheVariants.{In, Contains, Extra, Arbitrary}
use Rattle.pep508_diagram.specs.Question.{Valuation}
use Rattle.pep508_tree.specs.Tree.{Tree}
use Rattle.pep508_tree.specs.Meaning.{NodeRecord, holds}

-- a text occurs in another one
abbrev pub stands_in : List ℕ → List ℕ → Bool
stands_in text [] = starts_with eqb [] text
stands_in text (byte ∷ bytes) = starts_with eqb (byte ∷ bytes) text || stands_in text bytes

-- an extra of this name is listed
abbrev pub is_listed : List (List ℕ) → List ℕ → Bool
is_listed extras name = list_any (λ extra. name_eq extra name) extras

-- the version of a variable; that of `python_version` is read off `python_full_version`
abbrev pub variable_in : EnvironmentRecord → VersionVariable → VersionRecord
variable_in environment ImplementationVersion = environment.implementation_version
variable_in environment PythonFullVersion = environment.python_full_version

-- whether a flag is set; no extra has a text that is not a name
abbrev pub is_set : EnvironmentRecord → List (List ℕ) → Flag → Bool
is_set environment extras (In key text) = stands_in (text_in environment key) text
is_set environment extras (Contains key text) = stands_in text (text_in environment key)
is_set environment extras (Extra name) = is_listed extras name
is_set environment extras (Arbitrary text) = false

-- the valuation of an environment with extras
abbrev pub valuation_of : EnvironmentRecord → List (List ℕ) → Valuation
valuation_of environment extras = record {
  version = λ key. At (variable_in environment key);
  text = λ key. At (text_in environment key);
  flag = is_set environment extras;
}

-- the extras that are there are just those listed
pub record HasJust (extras : List (List ℕ)) (v : Valuation) : Type 0 where
  pub listed : (name : List ℕ) → v.flag (Extra name) ≡ is_listed extras name
  pub no_other : (text : List ℕ) → v.flag (Arbitrary text) ≡ false

-- some valuation with just these extras makes the tree hold
abbrev pub CanHold : List NodeRecord → Tree → List (List ℕ) → Type 0
CanHold nodes tree extras = (v : Valuation) × HasJust extras v × (holds nodes tree v ≡ true)

-- in an environment the tree holds; without one, some valuation makes it hold
abbrev pub AnswersIn : List NodeRecord → Tree → Option EnvironmentRecord → List (List ℕ) → Bool → Type 0
AnswersIn nodes tree (Some environment) extras answer =
    answer ≡ holds nodes tree (valuation_of environment extras)
AnswersIn nodes tree None extras answer = IsTrue answer ↔ CanHold nodes tree extras
