-- The text of a diagram is that of a marker that holds where the diagram does.
use Rattle.std.proofs.Common.{◌≡◌, ◌≢◌, ℕ, ◌<◌, ◌^◌, Bool, true, false, length, List, [], ◌∷◌, Option, Some}
use Rattle.std.proofs.Common.{None, option_map, inl, inr, refl, ap, sym, subst, ◌∙◌, arith, true≢false}
use Rattle.std.proofs.lemmas.Bool.{cases_Bool, false≢true}
use Rattle.std.proofs.lemmas.List.Elements.{All-from_recursion}
use Rattle.std.specs.List.{AllByRecursion, list_any, filter}
use Rattle.std.specs.Prelude.{cond}
use Rattle.std.specs.Str.{chars}
use Rattle.version_ranges.specs.declared.boundary.Boundary.TheVariants as boundary
use Rattle.pep440_text.specs.Record.{VersionRecord, release_record, without_local}
use Rattle.pep440_text.specs.Printable.{IsPrintable}
use Rattle.pep440_operator.specs.declared.operator.Operator.{Operator}
use Rattle.pep440_operator.specs.declared.operator.Operator.TheVariants as versions
use Rattle.pep440_operator.specs.Operators.{is_tilde}
use Rattle.pep508_marker.specs.declared.keys.MarkerValueString.{MarkerValueString}
use Rattle.pep508_marker.specs.Expression.{ExpressionRecord}
use Rattle.pep508_diagram.specs.declared.variable.VersionVariable.{VersionVariable}
use Rattle.pep508_diagram.specs.declared.variable.Flag.{Flag}
use Rattle.pep508_diagram.specs.declared.variable.Flag.TheVariants as flag
use Rattle.pep508_diagram.specs.Diagram.{Diagram, Leaf, Test}
use Rattle.pep508_diagram.specs.Question.{Question, VersionBelow, TextBelow, IsSet, Valuation, truth}
use Rattle.pep508_diagram.specs.Question.{IsCanonical}
use Rattle.pep508_diagram.proofs.Questions.{one_marker_diagram}
use Rattle.pep508_expression.specs.Expressions.{has_points, expression_holds}
use Rattle.pep508_marker_text_laws.specs.Clauses.{clauses_of}
use Rattle.pep508_marker_text_laws.specs.MarkerText.{disjunction, clauses_text, marker_text}
use Rattle.pep508_marker_text_laws.specs.ReleaseBounds.{HasReleasesAlone}
use Rattle.pep508_marker_text_laws.specs.SameTerms.{same_term, opposite_term}
use Rattle.pep508_marker_text_laws.specs.Saying.{Clause}
use Rattle.pep508_marker_text_laws.specs.Simplified.{has_some}
use Rattle.pep508_marker_text_laws.specs.Terms.{two_numbers, is_minor_of, kept_where, minor_between, version_term}
use Rattle.pep508_marker_text_laws.specs.Terms.{version_saying, text_saying, set_term, unset_term}
use Rattle.pep508_marker_text_laws.specs.Truth.{one_holds}
use Rattle.pep508_marker_text_laws.proofs.Disjunctions.{is_empty, empty_holds, always_leaf, disjunction_means}
use Rattle.pep508_marker_text_laws.proofs.Fitting.{Fits, AllFit, simplified_fit, GoodQuestion, AllSayingsFit}
use Rattle.pep508_marker_text_laws.proofs.Fitting.{walk_meets, points_fit}
use Rattle.pep508_diagram.specs.Questions.{AllQuestions}
use Rattle.pep508_marker_text_laws.proofs.Where.{filter_all}
use Rattle.pep508_reading_back.specs.Readable.{IsReadable, IsReadableSpecifier}
use Rattle.pep508_reading_back.specs.Clauses.{IsReadableClause, AreReadable}
use Rattle.pep508_reading_back.specs.Diagrams.{IsReadableVersion, IsReadableText, IsReadableFlag}
use Rattle.pep508_reading_back.specs.Diagrams.{AsksReadably, IsReadableDiagram, ReadsDiagram}
use Rattle.pep508_reading_back.proofs.Clauses.{clauses_are_read}

-- ---- releases

abbrev pub AllSmall : List ℕ → Type 0
AllSmall = AllByRecursion (λ number. number < 2 ^ 64)

pub release_printable : (numbers : List ℕ) → AllSmall numbers → 0 < length numbers →
    IsPrintable (release_record numbers)
release_printable numbers small some = record {
  no_least = refl;
  no_most = refl;
  some_number = some;
  fits = record { epoch = omega arith; release = All-from_recursion (λ number. number < 2 ^ 64) numbers small; pre = tt; post = tt; dev = tt };
  segments = tt;
}

pub release_readable : (operator : Operator) (numbers : List ℕ) → is_tilde operator ≡ false →
    operator ≢ versions.ExactEqual → AllSmall numbers → 0 < length numbers →
    IsReadableSpecifier (record { operator = operator; version = release_record numbers })
release_readable operator numbers tilde exact small some = record {
  printed = record {
    printable = release_printable numbers small some;
    built = record {
      local = λ e. refl;
      numbers = λ e. absurd (false≢true (sym tilde ∙ e));
      star = λ e. refl;
    };
  };
  in_markers = exact;
}

version_readable : (key : VersionVariable) (operator : Operator) (version : VersionRecord) →
    is_tilde operator ≡ false → operator ≢ versions.ExactEqual → IsReadableVersion version →
    has_points (version_term key operator version) ≡ true → IsReadable (version_term key operator version)
version_readable key operator version tilde exact h points =
    let is : release_record version.release ≡ without_local version = sym (ap without_local h.0.0) in (
      subst (λ v. IsReadableSpecifier (record { operator = operator; version = v })) is
          (release_readable operator version.release tilde exact h.0.1 h.1),
      points,
    )

-- ---- stars

pub record AreMinor (numbers : List ℕ) : Type 0 where
  pub small : AllSmall numbers
  pub some : 0 < length numbers

pub two_are : (release numbers : List ℕ) → AllSmall release → two_numbers release ≡ Some numbers → AreMinor numbers
two_are [] numbers h e = absurd (cc)
two_are (major ∷ []) numbers h e =
    let is : major ∷ 0 ∷ [] ≡ numbers = cc in
    subst AreMinor is (record { small = (h.0, (omega arith, tt)); some = omega arith })
two_are (major ∷ minor ∷ []) numbers h e =
    let is : major ∷ minor ∷ [] ≡ numbers = cc in subst AreMinor is (record { small = h; some = omega arith })
two_are (major ∷ minor ∷ other ∷ more) numbers h e = absurd (cc)

pub kept_is : {A : Type 0} (test : A → Bool) (o : Option A) (x : A) → kept_where test o ≡ Some x → o ≡ Some x
kept_is test None x e = absurd (cc)
kept_is test (Some y) x e = kept_one (test y) e
  where
    kept_one : (b : Bool) → cond b (Some y) None ≡ Some x → Some y ≡ Some x
    kept_one true same = same
    kept_one false same = absurd (cc)

star_readable : (key : VersionVariable) (operator : Operator) (lower upper : VersionRecord)
    (term : ExpressionRecord) (numbers : Option (List ℕ)) → is_tilde operator ≡ false →
    operator ≢ versions.ExactEqual → IsReadableVersion lower → has_points term ≡ true →
    minor_between lower upper ≡ numbers →
    option_map (λ ns. version_term key operator (release_record ns)) numbers ≡ Some term → IsReadable term
star_readable key operator lower upper term None tilde exact h points same e = absurd (cc)
star_readable key operator lower upper term (Some numbers) tilde exact h points same e =
    let is : version_term key operator (release_record numbers) ≡ term = cc in
    let minor : AreMinor numbers =
    two_are lower.release numbers h.0.1 (kept_is (is_minor_of lower upper) (two_numbers lower.release) numbers same)
    in
    subst IsReadable is
    (release_readable operator numbers tilde exact minor.small minor.some, ap has_points is ∙ points)

-- ---- terms

versions_readable : (key : VersionVariable) → Fits IsReadableVersion IsReadable (version_saying key)
versions_readable key =
    let p = points_fit.versions_fit key in record {
      equal_fits = λ v h. version_readable key versions.Equal v refl (λ e. absurd (cc)) h (p.equal_fits v h.0);
      differs_fits = λ v h. version_readable key versions.NotEqual v refl (λ e. absurd (cc)) h (p.differs_fits v h.0);
      at_least_fits = λ v h. version_readable key versions.GreaterThanEqual v refl (λ e. absurd (cc)) h
          (p.at_least_fits v h.0);
      above_fits = λ v h. version_readable key versions.GreaterThan v refl (λ e. absurd (cc)) h (p.above_fits v h.0);
      at_most_fits = λ v h. version_readable key versions.LessThanEqual v refl (λ e. absurd (cc)) h
          (p.at_most_fits v h.0);
      below_fits = λ v h. version_readable key versions.LessThan v refl (λ e. absurd (cc)) h (p.below_fits v h.0);
      star_fits = λ v w h k term e. star_readable key versions.EqualStar v w term (minor_between v w) refl
          (λ c. absurd (cc)) h (p.star_fits v w h.0 k.0 term e) refl e;
      no_star_fits = λ v w h k term e. star_readable key versions.NotEqualStar v w term (minor_between v w) refl
          (λ c. absurd (cc)) h (p.no_star_fits v w h.0 k.0 term e) refl e;
    }

texts_readable : (key : MarkerValueString) → Fits (IsReadableText key) IsReadable (text_saying key)
texts_readable key = record {
  equal_fits = λ text h. (h.0, (λ e. absurd (cc)), h.1);
  differs_fits = λ text h. (h.0, (λ e. absurd (cc)), h.1);
  at_least_fits = λ text h. (h.0, (λ e. absurd (cc)), h.1);
  above_fits = λ text h. (h.0, (λ e. absurd (cc)), h.1);
  at_most_fits = λ text h. (h.0, (λ e. absurd (cc)), h.1);
  below_fits = λ text h. (h.0, (λ e. absurd (cc)), h.1);
  star_fits = λ v w h k term e. absurd (cc);
  no_star_fits = λ v w h k term e. absurd (cc);
}

set_readable : (asked : Flag) → IsReadableFlag asked → IsReadable (set_term asked)
set_readable (flag.In key text) h = (h.0, (λ e. absurd (cc)), h.1)
set_readable (flag.Contains key text) h = (h.0, (λ e. absurd (cc)), h.1)
set_readable (flag.Extra name) h = h
set_readable (flag.Arbitrary text) h = h

unset_readable : (asked : Flag) → IsReadableFlag asked → IsReadable (unset_term asked)
unset_readable (flag.In key text) h = (h.0, (λ e. absurd (cc)), h.1)
unset_readable (flag.Contains key text) h = (h.0, (λ e. absurd (cc)), h.1)
unset_readable (flag.Extra name) h = h
unset_readable (flag.Arbitrary text) h = h

readable_fit : AllSayingsFit IsReadableVersion IsReadableText IsReadableFlag IsReadable
readable_fit = record {
  versions_fit = versions_readable;
  texts_fit = texts_readable;
  set_fits = set_readable;
  unset_fits = unset_readable;
}

-- ---- questions

abbrev AsksWell : Question → Type 0
AsksWell = GoodQuestion IsReadableVersion IsReadableText IsReadableFlag

asks_well : (q : Question) → AsksReadably q → AsksWell q
asks_well (VersionBelow key (boundary.At version)) h = h
asks_well (VersionBelow key (boundary.JustAbove version)) h = h
asks_well (TextBelow key (boundary.At text)) h = h
asks_well (TextBelow key (boundary.JustAbove text)) h = h
asks_well (IsSet asked) h = h

all_well : (d : Diagram Question) → IsReadableDiagram d → AllQuestions AsksWell d
all_well (Leaf b) h = tt
all_well (Test q low high) h = (asks_well q h.0, all_well low h.1, all_well high h.2)

pub releases_alone : (d : Diagram Question) → IsReadableDiagram d → HasReleasesAlone d
releases_alone (Leaf b) h = tt
releases_alone (Test (VersionBelow key (boundary.At version)) low high) h =
    (h.0.0, releases_alone low h.1, releases_alone high h.2)
releases_alone (Test (VersionBelow key (boundary.JustAbove version)) low high) h =
    (h.0.0, releases_alone low h.1, releases_alone high h.2)
releases_alone (Test (TextBelow key b) low high) h = (tt, releases_alone low h.1, releases_alone high h.2)
releases_alone (Test (IsSet asked) low high) h = (tt, releases_alone low h.1, releases_alone high h.2)

-- ---- clauses

terms_readable : (d : Diagram Question) → IsReadableDiagram d → AllFit IsReadable (disjunction d)
terms_readable d h =
    simplified_fit IsReadable same_term opposite_term (filter has_some (clauses_of d))
    (filter_all (AllByRecursion IsReadable) has_some (clauses_of d) (walk_meets readable_fit d (all_well d h)).0)

clause_some : (clause : Clause) (clauses : List Clause) → list_any is_empty (clause ∷ clauses) ≡ false →
    (0 < length clause) × (list_any is_empty clauses ≡ false)
clause_some [] clauses e = absurd (true≢false e)
clause_some (term ∷ terms) clauses e = (omega arith, e)

all_readable : (clauses : List Clause) → list_any is_empty clauses ≡ false → AllFit IsReadable clauses →
    AllByRecursion IsReadableClause clauses
all_readable [] e h = tt
all_readable (clause ∷ clauses) e h =
    let some = clause_some clause clauses e in ((some.0, h.0), all_readable clauses some.1 h.1)

module _ (d : Diagram Question) (c : IsCanonical d) (h : IsReadableDiagram d) (some : d ≢ Leaf true) where
  abbrev Holds : Valuation → ExpressionRecord → Bool
  Holds v = λ term. expression_holds term v

  means : (v : Valuation) → one_holds (Holds v) (disjunction d) ≡ truth d v
  means v = disjunction_means d c (releases_alone d h) some v

  none_empty : list_any is_empty (disjunction d) ≡ false
  none_empty = elim (cases_Bool (list_any is_empty (disjunction d))) [
    | inl there ↦
        absurd (some (always_leaf d c (λ v. sym (means v) ∙ empty_holds (Holds v) (disjunction d) there)))
    | inr none ↦ none
  ]

  count_some : (clauses : List Clause) → disjunction d ≡ clauses → d ≢ Leaf false → 0 < length clauses
  count_some (clause ∷ clauses) e k = omega arith
  count_some [] e k = absurd (k (never_leaf d c (λ v. sym (means v) ∙ ap (one_holds (Holds v)) e)))
    where
      never_leaf : (f : Diagram Question) → IsCanonical f → ((v : Valuation) → truth f v ≡ false) →
          f ≡ Leaf false
      never_leaf (Leaf b) canonical never = ap Leaf (one_marker_diagram (Leaf b) (Leaf false) canonical tt never)
      never_leaf (Test q low high) canonical never =
          absurd (one_marker_diagram (Test q low high) (Leaf false) canonical tt never)

  pub disjunction_read : d ≢ Leaf false → ReadsDiagram (chars (clauses_text (disjunction d))) d
  disjunction_read k =
      let readable : AreReadable (disjunction d) =
      (count_some (disjunction d) refl k, all_readable (disjunction d) none_empty (terms_readable d h)) in
      let read = clauses_are_read (disjunction d) readable in
      (read.0, read.1, λ v. read.2 (Holds v) ∙ means v)

-- the text of a diagram
pub text_read : (d : Diagram Question) (text : List ℕ) → IsCanonical d → IsReadableDiagram d →
    d ≢ Leaf false → marker_text d ≡ Some text → ReadsDiagram (chars text) d
text_read (Leaf true) text c h k e = absurd (cc)
text_read (Leaf false) text c h k e = absurd (k refl)
text_read (Test q low high) text c h k e =
    let is : clauses_text (disjunction (Test q low high)) ≡ text = cc in
    subst (λ t. ReadsDiagram (chars t) (Test q low high)) is
    (disjunction_read (Test q low high) c h (λ s. absurd (cc)) k)
