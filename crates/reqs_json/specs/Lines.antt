-- JSON values as lines.
use Rattle.std.specs.Prelude.{ℕ, List, ◌++◌, map, codes, Option, Some, None}
use Rattle.std.specs.Str.Lines.{lines}
use Rattle.serde_json.specs.Data.{Data, null, number, unsigned, string, array}
use Rattle.serde_json.specs.View.{items_of}
use Rattle.serde_json.specs.Written.{compact_text}

-- the values of a list's members, as an array
abbrev pub array_of : {X : Type 0} → (X → Data) → List X → Data
array_of value_of xs = array (items_of (map value_of xs))

abbrev pub number_of : ℕ → Data
number_of n = number (unsigned n)

-- the lines of a text, as strings
abbrev pub lines_value : List ℕ → Data
lines_value text = array_of string (lines text)

-- a value, or null if there is none
abbrev pub value_or_null : {X : Type 0} → (X → Data) → Option X → Data
value_or_null value_of (Some x) = value_of x
value_or_null value_of None = null

-- a value's text, without a blank between its parts
unfoldable pub value_text : Data → List ℕ
value_text value = compact_text value

-- a value's text and the end of its line
unfoldable pub line_of : Data → List ℕ
line_of value = compact_text value ++ codes "\n"
