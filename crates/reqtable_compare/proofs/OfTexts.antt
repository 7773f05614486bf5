-- The specifiers of lines that are read of a text are as texts say them.
use Rattle.std.proofs.Common.{◌≡◌, inl, inr, ℕ, List, [], ◌∷◌, All, None, Some, Ok}
use Rattle.std.specs.List.{AllByRecursion, AllZip}
use Rattle.std.proofs.lemmas.List.Elements.{All-nil, All-from_recursion}
use Rattle.pep440_specifier.specs.Matching.{SpecifierRecord}
use Rattle.pep440_specifier.specs.SpecifierReading.{specifier_of}
use Rattle.pep440_specifier.specs.SpecifierText.{IsSpecifierText}
use Rattle.pep508_url.specs.Vars.{Variables}
use Rattle.pep508_requirement_text.specs.FrontReading.{Source}
use Rattle.pep508_requirement_text.specs.FrontReading.Source.{Any, Specifiers, Url}
use Rattle.pep508_requirement_text.specs.FrontText.{IsSourceText}
use Rattle.reqtable_candidates.specs.TextLines.{text_lines}
use Rattle.reqtable_answer.specs.Asks.{specifiers_of}
use Rattle.reqtable_requirements.specs.LineReading.{LineRecord}
use Rattle.reqtable_requirements.specs.LineText.{IsNumberedLine}
use Rattle.reqtable_requirements.specs.Requirements.{requirements_of}
use Rattle.reqtable_requirements.proofs.Specifiers.{SpecifierLaw, BuiltLaw, LinesLaw}
use Rattle.reqtable_compare.specs.Answered.{IsOfText, AreOfTexts}

-- what pep440_specifier says of the ends of a range
abbrev pub EndsLaw : Type 0
EndsLaw = (text : List ℕ) (specifier : SpecifierRecord) → specifier_of text ≡ Some specifier →
    (specifier.version.least ≡ None) × (specifier.version.most ≡ None)

module _ (read : SpecifierLaw) (built : BuiltLaw) (ends : EndsLaw) where
  one_said : (text : List ℕ) (specifier : SpecifierRecord) → specifier_of text ≡ Some specifier →
      IsOfText specifier
  one_said text specifier h =
      let none = ends text specifier h in
      record { built = built text specifier h; said = record { no_least = none.0; no_most = none.1 } }

  all_said : (pieces : List (List ℕ)) (given : List SpecifierRecord) → AllZip IsSpecifierText pieces given →
      AllByRecursion IsOfText given
  all_said [] [] h = tt
  all_said [] (one ∷ given) h = absurd h
  all_said (piece ∷ pieces) [] h = absurd h
  all_said (piece ∷ pieces) (one ∷ given) h =
      (one_said piece one ((read piece one).1 h.0), all_said pieces given h.1)

  source_said : (written cs rest : List ℕ) (source : Source) → IsSourceText written cs rest source →
      All IsOfText (specifiers_of source)
  source_said written cs rest Any h = All-nil IsOfText
  source_said written cs rest (Specifiers given) (inl h) =
      let are = h.are_specifiers in
      All-from_recursion IsOfText given (all_said are.pieces given are.are_specifiers)
  source_said written cs rest (Specifiers given) (inr h) =
      let are = h.are_specifiers in
      All-from_recursion IsOfText given (all_said are.pieces given are.are_specifiers)
  source_said written cs rest (Url text) h = All-nil IsOfText

  lines_said : (vars : Variables) (texts : List (ℕ × List ℕ)) (lines : List LineRecord) →
      AllZip (IsNumberedLine vars) texts lines →
      AllByRecursion (λ line. All IsOfText (specifiers_of line.front.source)) lines
  lines_said vars [] [] h = tt
  lines_said vars [] (line ∷ lines) h = absurd h
  lines_said vars (text ∷ texts) [] h = absurd h
  lines_said vars (text ∷ texts) (line ∷ lines) h =
      let front = h.0.0.is_text.1 in (
        source_said front.written front.asked h.0.0.is_text.0 line.front.source front.is_source,
        lines_said vars texts lines h.1,
      )

  pub text_said : LinesLaw → (vars : Variables) (bytes : List ℕ) (lines : List LineRecord) →
      requirements_of vars bytes ≡ Ok lines → AreOfTexts lines
  text_said whole vars bytes lines h =
      All-from_recursion (λ line. All IsOfText (specifiers_of line.front.source)) lines
      (lines_said vars (text_lines bytes) lines ((whole vars bytes lines).0 h).1)
