-- Of what kinds the questions of a diagram are.
use Rattle.std.specs.Prelude.{ℕ, ◌==◌, ◌^◌, ◌||◌, Bool, false, not, nat_lt, List, is_some}
use Rattle.std.specs.List.{list_any}
use Rattle.std.specs.Str.{chars}
use Rattle.version_ranges.specs.declared.boundary.Boundary.{Boundary}
use Rattle.version_ranges.specs.declared.boundary.Boundary.TheVariants.{At, JustAbove}
use Rattle.pep440_text.specs.Record.{VersionRecord}
use Rattle.pep440_version.specs.Changes.{has_local}
use Rattle.pep508_marker.specs.Keys.{is_deprecated}
use Rattle.pep508_diagram.specs.declared.variable.Flag.{Flag}
use Rattle.pep508_diagram.specs.declared.variable.Flag.TheVariants.{In, Contains, Extra, Arbitrary}
use Rattle.pep508_diagram.specs.Diagram.{Diagram, Leaf, Test}
use Rattle.pep508_diagram.specs.Question.{Question, VersionBelow, TextBelow, IsSet}
use Rattle.pep508_questions.specs.declared.questions.Asked.{Asked}

-- some question of the diagram passes the test
abbrev pub asks_any : (Question → Bool) → Diagram Question → Bool
asks_any test (Leaf b) = false
asks_any test (Test q low high) = test q || asks_any test low || asks_any test high

-- the value of an endpoint passes the test
abbrev pub stands_at : {T : Type 0} → (T → Bool) → Boundary T → Bool
stands_at test (At value) = test value
stands_at test (JustAbove value) = test value

-- ---- single quotes

-- some character is a single quote
abbrev pub is_quoted : List ℕ → Bool
is_quoted text = list_any (λ c. c == 39) (chars text)

-- a name has none
abbrev pub flag_has_quote : Flag → Bool
flag_has_quote (In key text) = is_quoted text
flag_has_quote (Contains key text) = is_quoted text
flag_has_quote (Extra name) = false
flag_has_quote (Arbitrary text) = is_quoted text

-- a text of the question has a single quote
abbrev pub has_quote : Question → Bool
has_quote (VersionBelow key boundary) = false
has_quote (TextBelow key boundary) = stands_at is_quoted boundary
has_quote (IsSet flag) = flag_has_quote flag

-- ---- old names of keys

abbrev pub flag_is_of_deprecated_key : Flag → Bool
flag_is_of_deprecated_key (In key text) = is_deprecated key
flag_is_of_deprecated_key (Contains key text) = is_deprecated key
flag_is_of_deprecated_key (Extra name) = false
flag_is_of_deprecated_key (Arbitrary text) = false

-- the question is about the text of a key that is an old name
abbrev pub is_of_deprecated_key : Question → Bool
is_of_deprecated_key (VersionBelow key boundary) = false
is_of_deprecated_key (TextBelow key boundary) = is_deprecated key
is_of_deprecated_key (IsSet flag) = flag_is_of_deprecated_key flag

-- ---- versions that are no releases of epoch 0

-- there is more to the version than epoch 0 and release numbers, each of 64 bits (PEP 440, "Final releases")
abbrev pub is_other_version : VersionRecord → Bool
is_other_version version =
    not (version.epoch == 0) || is_some version.pre || is_some version.post || is_some version.dev
    || has_local version || is_some version.least || is_some version.most
    || list_any (λ number. not (nat_lt number (2 ^ 64))) version.release

-- the question is whether a version lies below an endpoint at another version
abbrev pub is_other_bound : Question → Bool
is_other_bound (VersionBelow key boundary) = stands_at is_other_version boundary
is_other_bound (TextBelow key boundary) = false
is_other_bound (IsSet flag) = false

-- ---- the result of the call

-- of which of these kinds there is a question in the diagram
abbrev pub asked_by : Diagram Question → Asked
asked_by diagram =
    record {
      single_quote = asks_any has_quote diagram;
      deprecated_key = asks_any is_of_deprecated_key diagram;
      other_bound = asks_any is_other_bound diagram;
    }
