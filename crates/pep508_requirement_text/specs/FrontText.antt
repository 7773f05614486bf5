-- The text of a requirement before its marker (PEP 508, "Grammar"): white space, a name, extras in brackets,
-- and specifiers or a URL, with white space between each two.
use Rattle.std.specs.Prelude.{◌≡◌, ◌⊎◌, ℕ, ◌<◌, false, List, [], ◌∷◌, ◌++◌, length, All, Some, ◌==◌, IsTrue}
use Rattle.std.specs.Prelude.{encode_utf8_all}
use Rattle.std.specs.List.{AllZip, join_with_byte}
use Rattle.std.specs.Str.{chars}
use Rattle.pep508_name.specs.Name.{name_of}
use Rattle.pep440_specifier.specs.Matching.{SpecifierRecord}
use Rattle.pep440_specifier.specs.SpecifierText.{AreSpaces}
use Rattle.pep440_specifier_list.specs.ListText.{AreSpecifierTexts}
use Rattle.pep508_requirement_text.specs.Archives.{is_archive}
use Rattle.pep508_requirement_text.specs.UrlEnds.{IsUrlBefore}
use Rattle.pep508_error.specs.Cuts.{begins_by}
use Rattle.pep508_requirement_text.specs.FrontReading.{Source, Front, begins_operator}
use Rattle.pep508_requirement_text.specs.FrontReading.Source.{Any, Specifiers, Url}

-- the characters of a name, with white space around it
pub record IsSpacedName (cs : List ℕ) (name : List ℕ) : Type 0 where
  pub before : List ℕ
  pub written : List ℕ
  pub after : List ℕ
  pub split : cs ≡ before ++ written ++ after
  pub spaces_before : AreSpaces before
  pub is_name : name_of written ≡ Some name
  pub spaces_after : AreSpaces after

-- one or more names with commas between them
pub record AreNames (cs : List ℕ) (names : List (List ℕ)) : Type 0 where
  pub pieces : List (List ℕ)
  pub joined : cs ≡ join_with_byte 44 pieces
  pub are_names : AllZip IsSpacedName pieces names
  pub nonempty : 0 < length pieces

-- the text between the brackets of extras: names, or white space alone
abbrev pub IsInside : List ℕ → List (List ℕ) → Type 0
IsInside inside names = (AreSpaces inside × (names ≡ [])) ⊎ AreNames inside names

-- extras: nothing at all, or brackets
abbrev pub IsExtrasText : List ℕ → List (List ℕ) → Type 0
IsExtrasText cs names =
    ((cs ≡ []) × (names ≡ [])) ⊎ ((inside : List ℕ) × (cs ≡ 91 ∷ (inside ++ 93 ∷ [])) × IsInside inside names)

-- nothing follows, or a `;`
abbrev pub IsBeforeMarker : List ℕ → Type 0
IsBeforeMarker rest = (rest ≡ []) ⊎ IsTrue (begins_by (λ c. c == 59) rest)

-- specifiers in brackets
pub record IsEnclosed (cs : List ℕ) (given : List SpecifierRecord) : Type 0 where
  pub before : List ℕ
  pub inside : List ℕ
  pub split : cs ≡ 40 ∷ (before ++ inside ++ 41 ∷ [])
  pub spaces : AreSpaces before
  pub closed : All (λ c. (c == 41) ≡ false) inside
  pub are_specifiers : AreSpecifierTexts (encode_utf8_all inside) given

-- specifiers without brackets, up to a `;` or the end
pub record IsOpenList (cs rest : List ℕ) (given : List SpecifierRecord) : Type 0 where
  pub begins : IsTrue (begins_by begins_operator cs)
  pub whole : All (λ c. (c == 59) ≡ false) cs
  pub are_specifiers : AreSpecifierTexts (encode_utf8_all cs) given
  pub before_marker : IsBeforeMarker rest

-- `@` and a URL
pub record IsUrlText (cs rest : List ℕ) (url : List ℕ) : Type 0 where
  pub before : List ℕ
  pub written : List ℕ
  pub split : cs ≡ 64 ∷ (before ++ written)
  pub spaces : AreSpaces before
  pub encoded : url ≡ encode_utf8_all written
  pub ends : IsUrlBefore false written rest

-- what follows a name with this text, before the rest of the text
abbrev pub IsSourceText : List ℕ → List ℕ → List ℕ → Source → Type 0
IsSourceText name cs rest Any = (cs ≡ []) × IsBeforeMarker rest × (is_archive name ≡ false)
IsSourceText name cs rest (Specifiers given) = IsEnclosed cs given ⊎ IsOpenList cs rest given
IsSourceText name cs rest (Url url) = IsUrlText cs rest url

-- the text is that of this front, and these characters follow it
pub record IsFrontText (text : List ℕ) (front : Front) (rest : List ℕ) : Type 0 where
  pub before : List ℕ
  pub written : List ℕ
  pub behind_name : List ℕ
  pub brackets : List ℕ
  pub behind_extras : List ℕ
  pub asked : List ℕ
  pub split : chars text
      ≡ before ++ (written ++ (behind_name ++ (brackets ++ (behind_extras ++ (asked ++ rest)))))
  pub spaces_before : AreSpaces before
  pub is_name : name_of written ≡ Some front.name
  pub spaces_behind_name : AreSpaces behind_name
  pub are_extras : IsExtrasText brackets front.extras
  pub spaces_behind_extras : AreSpaces behind_extras
  pub is_source : IsSourceText written asked rest front.source

-- the text is that of a requirement without a marker
abbrev pub IsRequirementText : List ℕ → Front → Type 0
IsRequirementText text front = (rest : List ℕ) × IsFrontText text front rest × AreSpaces rest
