-- The text of a list: specifiers with commas between them (PEP 440, "Version specifiers"). And the print of
-- a list.
use Rattle.std.specs.Prelude.{◌≡◌, ℕ, ◌<◌, ◌⊎◌, List, [], ◌∷◌, ◌++◌, length, map, codes}
use Rattle.std.specs.List.{AllZip, flat_map, join_with_byte}
use Rattle.pep440_specifier.specs.Matching.{SpecifierRecord}
use Rattle.pep440_specifier.specs.SpecifierPrint.{specifier_text}
use Rattle.pep440_specifier.specs.SpecifierText.{IsSpecifierText}
use Rattle.pep440_specifier_list.specs.Lists.{IsInOrder}

-- one or more pieces with commas between them, each a specifier's text
pub record AreSpecifierTexts (text : List ℕ) (members : List SpecifierRecord) : Type 0 where
  pub pieces : List (List ℕ)
  pub joined : text ≡ join_with_byte 44 pieces
  pub are_specifiers : AllZip IsSpecifierText pieces members
  pub nonempty : 0 < length pieces

-- the text of a list, whose members are sorted by version; the empty text is the empty list
abbrev pub IsSpecifierListText : List ℕ → List SpecifierRecord → Type 0
IsSpecifierListText text members =
    ((text ≡ []) × (members ≡ []))
    ⊎ ((given : List SpecifierRecord) × AreSpecifierTexts text given × IsInOrder given members)

abbrev pub behind_separator : List ℕ → SpecifierRecord → List ℕ
behind_separator separator member = separator ++ specifier_text member

-- the members' texts, and the separator before each but the first
abbrev pub separated : List ℕ → List SpecifierRecord → List ℕ
separated separator [] = []
separated separator (member ∷ members) =
    specifier_text member ++ flat_map (behind_separator separator) members

-- the members with comma and blank between them
abbrev pub list_text : List SpecifierRecord → List ℕ
list_text = separated (codes ", ")

-- the members with bare commas between them, as a list is written in JSON
abbrev pub list_value_text : List SpecifierRecord → List ℕ
list_value_text members = join_with_byte 44 (map specifier_text members)
