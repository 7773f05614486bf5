-- Normal texts are read again.
use Rattle.std.proofs.Common.{◌≡◌, ◌≢◌, ◌∙◌, ℕ, Bool, true, false, if◌then◌else◌, List, [], Option, Some, None}
use Rattle.std.proofs.Common.{unwrap_or, ap, inl, inr, refl, sym, subst}
use Rattle.std.proofs.lemmas.Str.{IsUtf8-from_is_utf8}
use Rattle.std.specs.List.{AllByRecursion}
use Rattle.std.specs.Str.{chars, IsUtf8}
use Rattle.pep508_diagram.specs.Diagram.{Diagram, Leaf, Test}
use Rattle.pep508_diagram.specs.Question.{Question, Valuation, truth}
use Rattle.pep508_diagram.specs.Questions.{AllQuestions}
use Rattle.pep508_marker_parser.specs.MarkerReading.{Marker}
use Rattle.pep508_marker_parser.proofs.Markers.{marker_again, marker_found}
use Rattle.pep508_marker_text_laws.specs.MarkerText.{marker_text}
use Rattle.pep508_marker_text_laws.proofs.Spelled.{one_spelling}
use Rattle.pep508_questions.specs.Asks.{asks_any, has_quote, is_of_deprecated_key, is_other_bound}
use Rattle.pep508_questions.proofs.Unasked.{unquoted, modern, releases}
use Rattle.pep508_reading_back.specs.Asked.{AnswerAlike}
use Rattle.pep508_reading_back.specs.Diagrams.{IsReadableDiagram}
use Rattle.pep508_reading_back.specs.Lines.{IsPieceOf}
use Rattle.pep508_reading_back.specs.Told.{questions_of, AsksOf, IsTold}
use Rattle.pep508_reading_back.proofs.Diagrams.{text_read}
use Rattle.pep508_reading_back.proofs.Matters.{asks_these_alone, all_hold}
use Rattle.pep508_reading_back.proofs.Told.{pieces_told}
use Rattle.pep508_reading_back.proofs.ToldAnswers.{formula_alike}
use Rattle.pep508_reading_back.proofs.ToldMarkers.{written_told}
use Rattle.pep508_reading_back.proofs.ToldQuestions.{equal_told}
use Rattle.pep508_reading_back.proofs.Unquoted.{told_is_readable}
use Rattle.reqs_c_markers.specs.declared.bounds.Bounds.{Bounds}
use Rattle.reqs_c_markers.specs.declared.normal_texts.TextFault.{TextFault}
use Rattle.reqs_c_markers.specs.declared.normal_texts.TextFault.TheVariants as faults
use Rattle.reqs_c_markers.specs.NormalTexts.{IsNormalDiagram, never_holds, text_fault}
use Rattle.reqs_c_markers.specs.Markers.{marker_holds, IsMarkerIn, GivesText, HoldsAlike, ReadsBack}

abbrev fault_by : Bool → Bool → Bool → Bool → Option TextFault
fault_by quoted deprecated other never =
    if quoted then Some faults.SingleQuote
    else (if deprecated then Some faults.DeprecatedKey
    else (if other then Some faults.VersionBound else (if never then Some faults.NeverHolds else None)))

none_by : (quoted deprecated other never : Bool) → fault_by quoted deprecated other never ≡ None →
    (quoted ≡ false) × (deprecated ≡ false) × (other ≡ false) × (never ≡ false)
none_by true deprecated other never h = absurd (cc)
none_by false true other never h = absurd (cc)
none_by false false true never h = absurd (cc)
none_by false false false true h = absurd (cc)
none_by false false false false h = (refl, refl, refl, refl)

sometimes : (d : Diagram Question) → never_holds d ≡ false → d ≢ Leaf false
sometimes (Leaf true) h e = cc
sometimes (Leaf false) h e = cc
sometimes (Test q low high) h e = cc

always_true : (d : Diagram Question) → marker_text d ≡ None → (v : Valuation) → truth d v ≡ true
always_true (Leaf true) e v = refl
always_true (Leaf false) e v = absurd (cc)
always_true (Test q low high) e v = absurd (cc)

-- a diagram whose truth hangs on what the marker of some bytes asks, and that has no fault
module _ (bytes : List ℕ) (marker : Marker) (is : IsMarkerIn bytes marker) (d : Diagram Question)
    (normal : IsNormalDiagram d) (no_fault : text_fault d ≡ None)
    (settled : (v w : Valuation) → AnswerAlike (questions_of marker.formula) v w → truth d v ≡ truth d w) where
  utf8 : IsUtf8 bytes
  utf8 = IsUtf8-from_is_utf8 bytes is.is_utf8_text

  asks : AllByRecursion (AsksOf (IsPieceOf bytes)) (questions_of marker.formula)
  asks = written_told bytes utf8 (chars bytes) marker (marker_found (chars bytes) marker is.is_marker) ([], refl)

  told : AllQuestions IsTold d
  told =
      pieces_told bytes d
      (all_hold (AsksOf (IsPieceOf bytes)) (equal_told (IsPieceOf bytes)) (questions_of marker.formula) d normal.short
      asks (asks_these_alone (questions_of marker.formula) d normal.canonical settled))

  none : (asks_any has_quote d ≡ false) × (asks_any is_of_deprecated_key d ≡ false)
      × (asks_any is_other_bound d ≡ false) × (never_holds d ≡ false)
  none =
      none_by (asks_any has_quote d) (asks_any is_of_deprecated_key d) (asks_any is_other_bound d) (never_holds d)
      no_fault

  readable : IsReadableDiagram d
  readable = told_is_readable d told ((unquoted d).0 none.0) ((releases d).0 none.2) ((modern d).0 none.1)

  by_text : (text : Option (List ℕ)) → marker_text d ≡ text → ReadsBack (unwrap_or text []) (truth d)
  by_text None e = inl (refl, always_true d e)
  by_text (Some text) e =
      let read = text_read d text normal.canonical readable (sometimes d none.3) e in
      inr (read.0, marker_again (chars text) read.0 read.1, λ v. sym (read.2 v))

  -- is read again from its text
  pub reads_back : ReadsBack (unwrap_or (marker_text d) []) (truth d)
  reads_back = by_text (marker_text d) refl

same_values : (text : List ℕ) (a b : Valuation → Bool) → ((v : Valuation) → a v ≡ b v) → ReadsBack text a →
    ReadsBack text b
same_values text a b same h = subst (ReadsBack text) (λ i v. same v i) h

pub own_text : (bounds : Bounds) (bytes text : List ℕ) (given : GivesText bounds bytes HoldsAlike text) →
    ReadsBack text (marker_holds given.marker)
own_text bounds bytes text given =
    let d = given.is_text.diagram in
    let marker = given.marker in
    let means = given.is_text.wanted in
    subst (λ t. ReadsBack t (marker_holds marker)) (sym given.is_text.is_text.is_text)
    (same_values (unwrap_or (marker_text d) []) (truth d) (marker_holds marker) means
    (reads_back bytes marker given.is_marker d given.is_text.is_normal given.is_text.is_text.no_fault
    (λ v w alike. means v ∙ formula_alike v w marker.formula alike ∙ sym (means w))))

pub one_text : (bounds limits : Bounds) (bytes others text other : List ℕ)
    (given : GivesText bounds bytes HoldsAlike text) (also : GivesText limits others HoldsAlike other) →
    ((v : Valuation) → marker_holds given.marker v ≡ marker_holds also.marker v) → text ≡ other
one_text bounds limits bytes others text other given also same =
    let a = given.is_text in
    let b = also.is_text in
    let one : a.diagram ≡ b.diagram =
    one_spelling a.diagram b.diagram a.is_normal.canonical b.is_normal.canonical a.is_normal.short b.is_normal.short
    (λ v. a.wanted v ∙ same v ∙ sym (b.wanted v)) in
    a.is_text.is_text ∙ ap (λ d. unwrap_or (marker_text d) []) one ∙ sym b.is_text.is_text
