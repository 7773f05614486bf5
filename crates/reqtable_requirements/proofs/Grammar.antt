-- A requirement line is read where one is written, and only there.
use Rattle.std.proofs.Common.{◌≡◌, ◌∙◌, ◌↔◌, ℕ, List, Result, Ok, Err, refl, ap, sym, subst}
use Rattle.std.specs.Str.{skip_leading_whitespace}
use Rattle.pep508_url.specs.Vars.{Variables}
use Rattle.pep508_url.specs.UrlFaults.{UrlFault}
use Rattle.pep508_url.specs.UrlTexts.{Verbatim}
use Rattle.pep508_marker.specs.Expression.{ExpressionRecord}
use Rattle.pep508_marker_parser.specs.Formula.{Formula}
use Rattle.pep508_marker_parser.specs.SideReading as markers
use Rattle.pep508_marker_parser.specs.MarkerReading.{Marker}
use Rattle.pep508_requirement_text.specs.FrontReading.{Source, Front, Refused, front_reading}
use Rattle.pep508_requirement_text.specs.FrontReading.Source.{Any, Specifiers, Url}
use Rattle.pep508_requirement.specs.MarkerBehind.{marker_behind}
use Rattle.pep508_requirement.proofs.Behind.{FoundLaw, AgainLaw}
use Rattle.pep508_requirement.proofs.Requirements.{FrontFound, FrontAgain, are_read, written}
use Rattle.reqtable_candidates.specs.TextLines.{text_lines}
use Rattle.reqtable_candidates.proofs.Lines.{each_found, each_again, all_zip_map}
use Rattle.reqtable_candidates.proofs.Texts.{text_is_read, text_found}
use Rattle.reqtable_requirements.specs.LineReading.{LineRecord, LinesFault, NotText, url_of, with_marker}
use Rattle.reqtable_requirements.specs.LineReading.{with_rest, with_url, with_source, with_front, line_of}
use Rattle.reqtable_requirements.specs.LineText.{HasItsUrl, IsRequirementLine, IsNumberedLine}
use Rattle.reqtable_requirements.specs.LineText.{IsRequirementsText}
use Rattle.reqtable_requirements.specs.Requirements.{requirements_of}

abbrev line_with : ℕ → Front → Formula ExpressionRecord → LineRecord
line_with number front formula = record { number = number; front = front; formula = formula }

abbrev as_line : LineRecord → Result LineRecord LinesFault
as_line line = Ok line

same_line : (line other : LineRecord) → as_line line ≡ Ok other → line ≡ other
same_line line other h = cc

-- ---- what is read is written

marker_found : (number : ℕ) (front : Front) (read : Result Marker markers.Refused) (line : LineRecord)
    → with_marker number front read ≡ Ok line
    → (marker : Marker) × (read ≡ Ok marker) × (line_with number front marker.formula ≡ line)
marker_found number front (Ok marker) line h = (marker, refl, same_line (line_with number front marker.formula) line h)
marker_found number front (Err markers.Malformed) line h = absurd (cc)
marker_found number front (Err markers.AtEnd) line h = absurd (cc)
marker_found number front (Err markers.TooDeep) line h = absurd (cc)

module _ (vars : Variables) (number : ℕ) (front : Front) (rest : List ℕ) where
  url_found : (text : List ℕ) (read : Result Verbatim UrlFault) (line : LineRecord) → url_of vars text ≡ read
      → with_url number front rest read ≡ Ok line
      → (with_rest number front rest ≡ Ok line) × HasItsUrl vars (Url text)
  url_found text (Ok url) line e h = (h, (url, e))
  url_found text (Err fault) line e h = absurd (cc)

  source_found : (source : Source) (line : LineRecord) → with_source vars number front rest source ≡ Ok line
      → (with_rest number front rest ≡ Ok line) × HasItsUrl vars source
  source_found Any line h = (h, tt)
  source_found (Specifiers given) line h = (h, tt)
  source_found (Url text) line h = url_found text (url_of vars text) line refl h

  pub source_again : (source : Source) → HasItsUrl vars source
      → with_source vars number front rest source ≡ with_rest number front rest
  source_again Any h = refl
  source_again (Specifiers given) h = refl
  source_again (Url text) h = ap (with_url number front rest) h.1

module _ (front_found : FrontFound) (front_again : FrontAgain) (found : FoundLaw) (again : AgainLaw) (vars : Variables) where
  found_by : (number : ℕ) (text : List ℕ) (read : Result (Front × List ℕ) Refused) (line : LineRecord)
      → front_reading text ≡ read → with_front vars number read ≡ Ok line
      → IsRequirementLine vars text line × (line.number ≡ number)
  found_by number text (Ok (front, rest)) line e h =
      let s = source_found vars number front rest front.source line h in
      let m = marker_found number front (marker_behind (skip_leading_whitespace rest)) line s.0 in
      let P : LineRecord → Type 0 = λ l. IsRequirementLine vars text l × (l.number ≡ number) in
      subst P m.2 (
        record {
          marker = m.0;
          is_text = written front_found found text front rest m.0 e m.1;
          has_url = s.1;
          formula = refl;
        },
        refl,
      )
  found_by number text (Err refused) line e h = absurd (cc)

  pub line_found : (number : ℕ) (text : List ℕ) (line : LineRecord) → line_of vars number text ≡ Ok line
      → IsRequirementLine vars text line × (line.number ≡ number)
  unfolding line_of
  line_found number text line h = found_by number text (front_reading text) line refl h

-- ---- what is written is read

module _ (front_again : FrontAgain) (again : AgainLaw) (vars : Variables) where
  pub line_again : (number : ℕ) (text : List ℕ) (line : LineRecord)
      → IsRequirementLine vars text line → line.number ≡ number → line_of vars number text ≡ Ok line
  unfolding line_of
  line_again number text line h n =
      let a = are_read front_again again text line.front h.marker h.is_text in
      ap (with_front vars number) a.reading ∙ source_again vars number line.front a.rest line.front.source h.has_url
      ∙ ap (with_marker number line.front) a.is_marker
      ∙ ap (λ formula. as_line (line_with number line.front formula)) (sym h.formula)
      ∙ ap (λ m. as_line (line_with m line.front line.formula)) (sym n)

  pub one_line : (text : List ℕ) (line other : LineRecord) → IsRequirementLine vars text line
      → IsRequirementLine vars text other → line.number ≡ other.number → line ≡ other
  one_line text line other h k n =
      same_line line other (sym (line_again other.number text line h n) ∙ line_again other.number text other k refl)

-- ---- whole texts

module _ (front_found : FrontFound) (front_again : FrontAgain) (found : FoundLaw) (again : AgainLaw) (vars : Variables) where
  pub at_found : (text : ℕ × List ℕ) (line : LineRecord) → line_of vars text.0 text.1 ≡ Ok line → IsNumberedLine vars text line
  at_found text line h = line_found front_found front_again found again vars text.0 text.1 line h

  pub at_again : (text : ℕ × List ℕ) (line : LineRecord) → IsNumberedLine vars text line → line_of vars text.0 text.1 ≡ Ok line
  at_again text line h = line_again front_again again vars text.0 text.1 line h.0 h.1

  pub lines_read : (bytes : List ℕ) (lines : List LineRecord)
      → (requirements_of vars bytes ≡ Ok lines) ↔ IsRequirementsText vars bytes lines
  lines_read bytes lines = (
    λ h. let t = text_found (line_of vars) NotText bytes (Ok lines) h (λ offset e. cc) in (
      t.0,
      all_zip_map (λ text line. line_of vars text.0 text.1 ≡ Ok line) (IsNumberedLine vars) at_found (text_lines bytes) lines
          (each_found (line_of vars) (text_lines bytes) lines t.1),
    ),
    λ h. text_is_read (line_of vars) NotText bytes h.0
        ∙ each_again (line_of vars) (text_lines bytes) lines
        (all_zip_map (IsNumberedLine vars) (λ text line. line_of vars text.0 text.1 ≡ Ok line) at_again (text_lines bytes) lines h.1),
  )
