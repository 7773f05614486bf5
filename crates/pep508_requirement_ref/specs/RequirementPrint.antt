-- What requirements print (PEP 508, "Grammar").
use Rattle.std.specs.Prelude.{ℕ, List, [], ◌∷◌, ◌++◌, codes, Option, Some, None}
use Rattle.std.specs.List.{join_with_byte}
use Rattle.pep440_specifier_list.specs.ListText.{list_value_text}
use Rattle.pep508_requirement_text.specs.FrontReading.{Front}
use Rattle.pep508_requirement_text.specs.FrontReading.Source.{Any, Specifiers, Url}
use Rattle.pep508_requirement_text.specs.FrontReading as front

-- names in brackets with bare commas between them, where there are any
abbrev pub extras_text : List (List ℕ) → List ℕ
extras_text [] = []
extras_text (name ∷ names) = codes "[" ++ join_with_byte 44 (name ∷ names) ++ codes "]"

abbrev pub behind_comma : List ℕ → List ℕ
behind_comma name = codes "," ++ name

-- specifiers with bare commas between them, or a URL
abbrev pub source_text : front.Source → List ℕ
source_text Any = []
source_text (Specifiers given) = list_value_text given
source_text (Url url) = codes " @ " ++ url

abbrev pub front_text : Front → List ℕ
front_text front = front.name ++ extras_text front.extras ++ source_text front.source

-- a marker's text after a `;`, where there is one
abbrev pub marker_part : Option (List ℕ) → List ℕ
marker_part None = []
marker_part (Some text) = codes " ; " ++ text

-- the text of a requirement: of its front and its marker
abbrev pub requirement_text : Front → Option (List ℕ) → List ℕ
requirement_text front marker = front_text front ++ marker_part marker

-- the text of a requirement without a name: of its URL, its extras and its marker
abbrev pub unnamed_text : List ℕ → List (List ℕ) → Option (List ℕ) → List ℕ
unnamed_text url extras marker = url ++ extras_text extras ++ marker_part marker
