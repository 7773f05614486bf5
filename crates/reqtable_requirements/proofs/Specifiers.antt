-- The specifiers of lines that are read of a text.
use Rattle.std.proofs.Common.{◌≡◌, ◌↔◌, ◌⊎◌, inl, inr, ℕ, List, [], ◌∷◌, All, Option, Some, None, Ok}
use Rattle.std.proofs.lemmas.List.Elements.{All-nil, All-from_recursion}
use Rattle.std.specs.List.{AllByRecursion, AllZip}
use Rattle.pep440_specifier.specs.Building.{IsBuilt}
use Rattle.pep440_specifier.specs.Matching.{SpecifierRecord}
use Rattle.pep440_specifier.specs.SpecifierReading.{specifier_of}
use Rattle.pep440_specifier.specs.SpecifierText.{IsSpecifierText}
use Rattle.pep440_specifier_list.specs.ListReading.{IsReadFromText}
use Rattle.pep440_specifier_list.proofs.Members.{all_in_order}
use Rattle.pep508_url.specs.Vars.{Variables}
use Rattle.pep508_url.specs.UrlTexts.{Verbatim}
use Rattle.pep508_url.specs.declared.url_error.VerbatimUrlError.{VerbatimUrlError}
use Rattle.pep508_tree.specs.Meaning.{NodeRecord}
use Rattle.pep508_requirement_text.specs.FrontReading.{Source}
use Rattle.pep508_requirement_text.specs.FrontReading.Source.{Any, Specifiers, Url}
use Rattle.pep508_requirement_text.specs.FrontText.{IsSourceText, IsEnclosed, IsOpenList}
use Rattle.pep508_requirement.specs.RequirementReading.{AsksFor}
use Rattle.pep508_requirement.specs.declared.version_or_url.VersionOrUrl.{VersionOrUrl}
use Rattle.pep508_requirement.specs.declared.version_or_url.VersionOrUrl.TheVariants as asked
use Rattle.reqtable_candidates.specs.TextLines.{text_lines}
use Rattle.reqtable_requirements.specs.LineReading.{LineRecord}
use Rattle.reqtable_requirements.specs.LineText.{IsNumberedLine, IsRequirementsText}
use Rattle.reqtable_requirements.specs.LineSpecifiers.{specifiers_by, specifiers_in}
use Rattle.reqtable_requirements.specs.Requirements.{ReadsUrl, StandsFor, requirements_of, ReadsRequirements}
use Rattle.reqtable_requirements.specs.declared.requirements.Line.{Line}

-- what pep440_specifier says of specifiers and their texts
abbrev pub SpecifierLaw : Type 0
SpecifierLaw =
    (text : List ℕ) (specifier : SpecifierRecord) → (specifier_of text ≡ Some specifier) ↔ IsSpecifierText text specifier

abbrev pub BuiltLaw : Type 0
BuiltLaw = (text : List ℕ) (specifier : SpecifierRecord) → specifier_of text ≡ Some specifier → IsBuilt specifier

module _ (law : SpecifierLaw) where
  texts_read : (pieces : List (List ℕ)) (given : List SpecifierRecord) → AllZip IsSpecifierText pieces given
      → AllByRecursion IsReadFromText given
  texts_read [] [] h = tt
  texts_read [] (one ∷ given) h = absurd h
  texts_read (piece ∷ pieces) [] h = absurd h
  texts_read (piece ∷ pieces) (one ∷ given) h = ((piece, (law piece one).1 h.0), texts_read pieces given h.1)

  source_read : (written cs rest : List ℕ) (given : List SpecifierRecord)
      → IsEnclosed cs given ⊎ IsOpenList cs rest given → AllByRecursion IsReadFromText given
  source_read written cs rest given (inl h) = texts_read h.are_specifiers.pieces given h.are_specifiers.are_specifiers
  source_read written cs rest given (inr h) = texts_read h.are_specifiers.pieces given h.are_specifiers.are_specifiers

  asked_read : (vars : Variables) (written cs rest : List ℕ) (source : Source)
      (what : Option (VersionOrUrl Verbatim VerbatimUrlError)) → IsSourceText written cs rest source
      → AsksFor (ReadsUrl vars) source what → All IsReadFromText (specifiers_by what)
  asked_read vars written cs rest Any None h asks = All-nil IsReadFromText
  asked_read vars written cs rest Any (Some what) h asks = absurd asks
  asked_read vars written cs rest (Specifiers given) (Some (asked.VersionSpecifier list)) h asks =
      all_in_order IsReadFromText given list (source_read written cs rest given h) asks
  asked_read vars written cs rest (Specifiers given) (Some (asked.Url url)) h asks = absurd asks
  asked_read vars written cs rest (Specifiers given) None h asks = absurd asks
  asked_read vars written cs rest (Url text) (Some (asked.Url url)) h asks = All-nil IsReadFromText
  asked_read vars written cs rest (Url text) (Some (asked.VersionSpecifier list)) h asks = absurd asks
  asked_read vars written cs rest (Url text) None h asks = absurd asks

  lines_read : (vars : Variables) (nodes : List NodeRecord) (texts : List (ℕ × List ℕ)) (lines : List Line)
      (said : List LineRecord) → AllZip (IsNumberedLine vars) texts said → AllZip (StandsFor vars nodes) lines said
      → AllByRecursion (λ line. All IsReadFromText (specifiers_in line)) lines
  lines_read vars nodes texts [] said z h = tt
  lines_read vars nodes texts (line ∷ lines) [] z h = absurd h
  lines_read vars nodes [] (line ∷ lines) (one ∷ said) z h = absurd z
  lines_read vars nodes (text ∷ texts) (line ∷ lines) (one ∷ said) z h =
      let front = z.0.0.is_text.1 in (
        asked_read vars front.written front.asked z.0.0.is_text.0 one.front.source line.requirement.version_or_url front.is_source
            h.0.asks,
        lines_read vars nodes texts lines said z.1 h.1,
      )

  pub specifiers_read : (vars : Variables) (nodes : List NodeRecord) (texts : List (ℕ × List ℕ)) (lines : List Line)
      (said : List LineRecord) → AllZip (IsNumberedLine vars) texts said → AllZip (StandsFor vars nodes) lines said
      → All (λ line. All IsReadFromText (specifiers_in line)) lines
  specifiers_read vars nodes texts lines said z h =
      All-from_recursion (λ (line : Line). All IsReadFromText (specifiers_in line)) lines (lines_read vars nodes texts lines said z h)

-- which lines are read of a text
abbrev pub LinesLaw : Type 0
LinesLaw =
    (vars : Variables) (bytes : List ℕ) (lines : List LineRecord)
    → (requirements_of vars bytes ≡ Ok lines) ↔ IsRequirementsText vars bytes lines

pub text_read : SpecifierLaw → LinesLaw → (vars : Variables) (nodes : List NodeRecord) (bytes : List ℕ)
    (lines : List Line) → ReadsRequirements vars nodes bytes (Ok lines)
    → All (λ line. All IsReadFromText (specifiers_in line)) lines
text_read law whole vars nodes bytes lines h =
    specifiers_read law vars nodes (text_lines bytes) lines h.0 ((whole vars bytes h.0).0 h.1).1 h.2

-- what is read may be built
pub specifiers_built : BuiltLaw → (lines : List Line) → All (λ line. All IsReadFromText (specifiers_in line)) lines
    → All (λ line. All IsBuilt (specifiers_in line)) lines
specifiers_built law lines h = λ k d within.
    λ i e inside. let read = h k d within i e inside in law read.0 _ read.1
