-- A line that is written is read again.
use Rattle.std.proofs.Common.{◌≡◌, ◌≢◌, ◌∙◌, ℕ, ◌&&◌, ◌<◌, true, false, List, [], ◌∷◌, ◌++◌, Option, Some}
use Rattle.std.proofs.Common.{None, refl, ap, sym, subst, arith, append_assoc}
use Rattle.std.proofs.lemmas.Bool.Decides.{nat_tests}
use Rattle.std.proofs.lemmas.Str.Ascii.{IsAscii-nil, IsAscii-cons}
use Rattle.std.specs.Char.{is_whitespace}
use Rattle.std.specs.List.{list_all}
use Rattle.std.specs.Str.{chars}
use Rattle.pep508_name.specs.Name.{name_of}
use Rattle.pep508_diagram.specs.Diagram.{Diagram, Leaf, Test}
use Rattle.pep508_diagram.specs.Question.{Question, Valuation, truth}
use Rattle.pep508_expression.specs.Expressions.{expression_holds}
use Rattle.pep508_marker_parser.specs.Formula.{formula_holds}
use Rattle.pep508_marker_parser.specs.MarkerReading.{Marker}
use Rattle.pep508_marker_text_laws.specs.MarkerText.{marker_text}
use Rattle.pep508_requirement.specs.RequirementText.{IsMarkedText}
use Rattle.pep508_requirement_ref.specs.RequirementPrint.{requirement_text, extras_text, source_text}
use Rattle.pep508_requirement_ref.specs.RequirementPrint.{marker_part}
use Rattle.pep508_requirement_text.specs.FrontReading.{Front, Source}
use Rattle.pep508_requirement_text.specs.FrontReading.Source.{Any, Specifiers, Url}
use Rattle.pep508_reading_back.specs.Lines.{IsPieceOf, IsLine}
use Rattle.pep508_diagram.specs.Questions.{AllQuestions}
use Rattle.pep508_reading_back.specs.ReadableRequirements.{IsReadableFront, NamesNoUrl}
use Rattle.pep508_reading_back.specs.Told.{AsksOf}
use Rattle.pep508_reading_back.proofs.Comparisons.{plain_name}
use Rattle.pep508_reading_back.proofs.Plain.{Plain, is_plain, front_chars}
use Rattle.pep508_reading_back.proofs.PrintedLines.{requirement_line}
use Rattle.pep508_reading_back.proofs.ReadFronts.{front_readable, kept_readable}
use Rattle.pep508_reading_back.proofs.Requirements.{requirement_read}
use Rattle.pep508_reading_back.proofs.Told.{marked_told, diagram_told, pieces_told}
use Rattle.pep508_reading_back.proofs.Unquoted.{told_is_readable}
use Rattle.pep508_url.specs.Vars.{Variables}
use Rattle.reqtable_candidates.specs.TextLines.{is_blank}
use Rattle.reqtable_answer.specs.Asks.{is_url}
use Rattle.reqtable_answer.specs.Says.{Says, SaysSource}
use Rattle.reqtable_requirements.specs.LineReading.{LineRecord}
use Rattle.reqtable_requirements.specs.LineText.{HasItsUrl, IsRequirementLine}
use Rattle.reqtable_normal.specs.Normalized.{IsDiagramOf, NormalLine, IsNormalOf, never_holds, normal_fault}
use Rattle.reqtable_normal.proofs.Faultless.{IsSound, faultless_is_sound}
use Rattle.reqtable_normal.proofs.WrittenLines.{IsWritten}

-- the line without its end
abbrev pub printed : NormalLine → List ℕ
printed line = requirement_text line.front (marker_text line.diagram)

-- the line's text is read, as a line that says the same
pub record IsReadAgain (line : NormalLine) : Type 0 where
  pub marker : Marker
  pub is_text : IsMarkedText (printed line) line.front marker
  pub diagram : IsDiagramOf marker.formula line.diagram
  pub written : IsWritten (printed line)
  pub no_url : is_url line.front.source ≡ false
  pub in_order : SaysSource line.front.source line.front.source

-- ---- the front

front_by : (text : List ℕ) (given : Front) (marker : Marker) (source told : Source) → given.source ≡ told →
    SaysSource source told → is_url source ≡ false → IsMarkedText text given marker →
    IsReadableFront (record given { source = source })
front_by text given marker Any Any e h n is =
    subst (λ s. IsReadableFront (record given { source = s })) e
    (front_readable text given is.0 is.1 (subst NamesNoUrl (sym e) tt))
front_by text given marker Any (Specifiers list) e h n is = absurd h
front_by text given marker Any (Url url) e h n is = absurd h
front_by text given marker (Specifiers list) Any e h n is = absurd h
front_by text given marker (Specifiers list) (Specifiers members) e h n is =
    kept_readable text given is.0 members list is.1 e h
front_by text given marker (Specifiers list) (Url url) e h n is = absurd h
front_by text given marker (Url url) told e h n is = absurd (cc)

front_again : (text : List ℕ) (given shown : Front) (marker : Marker) → Says shown given →
    is_url shown.source ≡ false → IsMarkedText text given marker → IsReadableFront shown
front_again text given shown marker says n is =
    let same : record given { source = shown.source } ≡ shown =
    λ i. record { name = sym says.name i; extras = sym says.extras i; source = shown.source } in
    subst IsReadableFront same
    (front_by text given marker shown.source given.source refl says.source n is)

in_order_by : (source told : Source) → SaysSource source told → SaysSource source source
in_order_by Any told h = tt
in_order_by (Specifiers list) Any h = absurd h
in_order_by (Specifiers list) (Specifiers given) h = record { sorted = h.sorted; stable = λ x. refl }
in_order_by (Specifiers list) (Url url) h = absurd h
in_order_by (Url url) told h = tt

-- ---- no blank line

plain_black : (b : ℕ) → is_plain b ≡ true → is_whitespace b ≡ false
plain_black b h = grind (arith, nat_tests)

plain_small : (b : ℕ) → is_plain b ≡ true → b < 128
plain_small b h = grind (arith, nat_tests)

no_name : (name : List ℕ) → name_of [] ≡ Some name → ⊥
unfolding name_of
no_name name h = absurd (cc)

black_by : (name rest : List ℕ) → name_of name ≡ Some name → Plain name → is_blank (name ++ rest) ≡ false
unfolding is_blank
black_by [] rest h plain = absurd (no_name [] h)
black_by (b ∷ bs) rest h plain =
    ap (λ cs. list_all is_whitespace cs)
    (front_chars (b ∷ []) (bs ++ rest) (IsAscii-cons b [] (plain_small b plain.0) IsAscii-nil))
    ∙ ap (λ t. t && list_all is_whitespace (chars (bs ++ rest))) (plain_black b plain.0)

regrouped : (a b c d : List ℕ) → a ++ b ++ c ++ d ≡ a ++ (b ++ (c ++ d))
regrouped a b c d = simp append_assoc

printed_black : (front : Front) (marker : Option (List ℕ)) → name_of front.name ≡ Some front.name →
    is_blank (requirement_text front marker) ≡ false
printed_black front marker h =
    ap is_blank
    (regrouped front.name (extras_text front.extras) (source_text front.source) (marker_part marker))
    ∙ black_by front.name (extras_text front.extras ++ (source_text front.source ++ marker_part marker)) h
    (plain_name front.name front.name h)

-- ---- the whole

sometimes : (d : Diagram Question) → never_holds d ≡ false → d ≢ Leaf false
sometimes (Leaf true) h e = cc
sometimes (Leaf false) h e = cc
sometimes (Test q low high) h e = cc

pub has_its_url : (vars : Variables) (source : Source) → is_url source ≡ false → HasItsUrl vars source
has_its_url vars Any h = tt
has_its_url vars (Specifiers given) h = tt
has_its_url vars (Url url) h = absurd (cc)

module _ (vars : Variables) (text : List ℕ) (said : LineRecord) (line : NormalLine) (is_line : IsLine text)
    (is : IsRequirementLine vars text said) (normal : IsNormalOf said line)
    (faultless : normal_fault line ≡ None) (once : never_holds line.diagram ≡ false) where
  sound : IsSound line
  sound = faultless_is_sound line faultless

  means : (v : Valuation) →
      truth line.diagram v ≡ formula_holds (λ e. expression_holds e v) is.marker.formula
  means v = normal.diagram.means v ∙ ap (λ f. formula_holds (λ e. expression_holds e v) f) is.formula

  asks : AllQuestions (AsksOf (IsPieceOf text)) line.diagram
  asks =
      diagram_told (IsPieceOf text) is.marker.formula line.diagram normal.diagram.canonical
      normal.diagram.short means (marked_told text is_line.encoded said.front is.marker is.is_text)

  readable : IsReadableFront line.front
  readable = front_again text said.front line.front is.marker normal.front sound.no_url is.is_text

  pub line_again : IsReadAgain line
  line_again =
      let d = line.diagram in
      let read = requirement_read line.front d readable normal.diagram.canonical
      (told_is_readable d (pieces_told text d asks) sound.unquoted sound.releases sound.modern)
      (sometimes d once) in
      record {
        marker = read.0;
        is_text = read.1;
        diagram = record {
          canonical = normal.diagram.canonical;
          short = normal.diagram.short;
          means = λ v. sym (read.2 v);
        };
        written = record {
          whole = requirement_line text line.front d is_line readable asks;
          black = printed_black line.front (marker_text d) readable.is_name;
        };
        no_url = sound.no_url;
        in_order = in_order_by line.front.source said.front.source normal.front.source;
      }
