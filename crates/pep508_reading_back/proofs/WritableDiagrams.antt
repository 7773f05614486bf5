-- The text of a diagram whose questions are about what a text can have is that of some marker.
use Rattle.std.proofs.Common.{◌≡◌, ℕ, ◌<◌, true, false, length, List, [], ◌∷◌, ◌++◌, Some, refl, ap, subst}
use Rattle.std.proofs.Common.{◌∙◌, arith}
use Rattle.std.proofs.lemmas.Bool.{false≢true}
use Rattle.std.proofs.lemmas.Fmt.{decimal_digit}
use Rattle.std.specs.List.{AllByRecursion, filter}
use Rattle.std.specs.Prelude.{codes}
use Rattle.std.specs.Str.{chars}
use Rattle.version_ranges.specs.declared.boundary.Boundary.TheVariants as boundary
use Rattle.pep440_text.specs.Record.{release_record}
use Rattle.pep440_text.specs.Print.{version_text}
use Rattle.pep440_operator.specs.declared.operator.Operator.TheVariants.{LessThan}
use Rattle.pep508_marker.specs.declared.keys.MarkerValueVersion.TheVariants.{PythonVersion}
use Rattle.pep508_marker.specs.Expression.{ExpressionRecord, Version, term_text, expression_text}
use Rattle.pep508_diagram.specs.Diagram.{Diagram, Leaf, Test}
use Rattle.pep508_diagram.specs.Question.{Question, VersionBelow, TextBelow, IsSet, IsCanonical, flag_text}
use Rattle.pep508_expression.specs.Expressions.{has_points}
use Rattle.pep508_marker_parser.specs.MarkerReading.{Marker}
use Rattle.pep508_marker_parser.specs.MarkerText.{IsComparisonText, IsMarkerText}
use Rattle.pep508_marker_text_laws.specs.Clauses.{clauses_of}
use Rattle.pep508_marker_text_laws.specs.MarkerText.{disjunction, clauses_text, marker_text}
use Rattle.pep508_marker_text_laws.specs.SameTerms.{same_term, opposite_term}
use Rattle.pep508_marker_text_laws.specs.Saying.{Clause}
use Rattle.pep508_marker_text_laws.specs.Simplified.{has_some}
use Rattle.pep508_marker_text_laws.proofs.Fitting.{AllFit, GoodQuestion, simplified_fit, walk_meets}
use Rattle.pep508_diagram.specs.Questions.{AllQuestions}
use Rattle.pep508_marker_text_laws.proofs.Where.{filter_all}
use Rattle.pep508_reading_back.specs.Readable.{IsQuotable, IsReadable, marker_of}
use Rattle.pep508_reading_back.specs.Writable.{IsSayable, AsksWritably, IsWritableDiagram}
use Rattle.pep508_reading_back.proofs.Clauses.{term_written}
use Rattle.pep508_reading_back.proofs.Diagrams.{release_readable}
use Rattle.pep508_reading_back.proofs.Joining.{Pieces, comparison_leads}
use Rattle.pep508_reading_back.proofs.JoinedClauses.{SomeGood, all_written, marker_of_clauses}
use Rattle.pep508_reading_back.proofs.WritableComparisons.{IsWritable, read_marker, written_read}
use Rattle.pep508_reading_back.proofs.WritableComparisons.{written_utf8}
use Rattle.pep508_reading_back.proofs.WritableParts.{some_term}
use Rattle.pep508_reading_back.proofs.WritableSimplified.{IsSome, filter_each, filter_some, simplified_each}
use Rattle.pep508_reading_back.proofs.WritableSimplified.{simplified_some}
use Rattle.pep508_reading_back.proofs.WritableTerms.{terms_writable}

-- ---- questions

abbrev AsksWell : Question → Type 0
AsksWell = GoodQuestion IsSayable (λ key. IsQuotable) (λ asked. IsQuotable (flag_text asked))

asks_well : (q : Question) → AsksWritably q → AsksWell q
asks_well (VersionBelow key (boundary.At version)) h = h
asks_well (VersionBelow key (boundary.JustAbove version)) h = h
asks_well (TextBelow key (boundary.At text)) h = h
asks_well (TextBelow key (boundary.JustAbove text)) h = h
asks_well (IsSet asked) h = h

all_well : (d : Diagram Question) → IsWritableDiagram d → AllQuestions AsksWell d
all_well (Leaf b) h = tt
all_well (Test q low high) h = (asks_well q h.0, all_well low h.1, all_well high h.2)

-- ---- clauses

comparisons_read : Pieces expression_text read_marker IsWritable IsComparisonText
comparisons_read = record { encoded = written_utf8; reads = written_read; leads = comparison_leads }

terms_fit : (d : Diagram Question) → IsWritableDiagram d → AllFit IsWritable (disjunction d)
terms_fit d h =
    simplified_fit IsWritable same_term opposite_term (filter has_some (clauses_of d))
    (filter_all (AllByRecursion IsWritable) has_some (clauses_of d)
    (walk_meets terms_writable d (all_well d h)).0)

counted : {A : Type 0} (xs : List A) → IsSome xs → 0 < length xs
counted [] h = absurd (false≢true h)
counted (x ∷ xs) h = omega arith

all_good : (clauses : List Clause) → AllByRecursion IsSome clauses → AllFit IsWritable clauses →
    AllByRecursion (SomeGood IsWritable) clauses
all_good [] h k = tt
all_good (clause ∷ clauses) h k = ((counted clause h.0, k.0), all_good clauses h.1 k.1)

test_written : (q : Question) (low high : Diagram Question) → IsCanonical (Test q low high) →
    IsWritableDiagram (Test q low high) →
    IsMarkerText (chars (clauses_text (disjunction (Test q low high))))
    (marker_of_clauses read_marker (disjunction (Test q low high)))
test_written q low high c h =
    let d : Diagram Question = Test q low high in
    let some = filter_some has_some (clauses_of d) (some_term q low high c) in
    all_written comparisons_read (disjunction d)
    (counted (disjunction d) (simplified_some same_term opposite_term (filter has_some (clauses_of d)) some))
    (all_good (disjunction d)
    (simplified_each same_term opposite_term (filter has_some (clauses_of d))
    (filter_each has_some (clauses_of d)))
    (terms_fit d h))

-- ---- what never holds

abbrev never_term : ExpressionRecord
never_term = Version PythonVersion (record { operator = LessThan; version = release_record (0 ∷ []) })

never_text : expression_text never_term ≡ codes "python_version < '0'"
unfolding version_text
never_text =
    ap (λ digits. term_text (codes "python_version") (codes "<")
    (((((([] ++ digits) ++ []) ++ []) ++ []) ++ []) ++ [])) (decimal_digit 0 (omega arith))

never_points : has_points never_term ≡ true
unfolding has_points
never_points = refl

never_readable : IsReadable never_term
never_readable =
    (release_readable LessThan (0 ∷ []) refl (λ e. absurd (cc)) (omega arith, tt) (omega arith), never_points)

-- ---- diagrams

-- the text of a diagram
pub written_marker : (d : Diagram Question) (text : List ℕ) → IsCanonical d → IsWritableDiagram d →
    marker_text d ≡ Some text → (marker : Marker) × IsMarkerText (chars text) marker
written_marker (Leaf true) text c h e = absurd (cc)
written_marker (Leaf false) text c h e =
    let is : codes "python_version < '0'" ≡ text = cc in
    subst (λ t. (marker : Marker) × IsMarkerText (chars t) marker) (never_text ∙ is)
    (marker_of never_term, term_written never_term never_readable)
written_marker (Test q low high) text c h e =
    let d : Diagram Question = Test q low high in
    let is : clauses_text (disjunction d) ≡ text = cc in
    subst (λ t. (marker : Marker) × IsMarkerText (chars t) marker) is
    (marker_of_clauses read_marker (disjunction d), test_written q low high c h)
