-- What is printed of a requirement is one line, where the texts of its marker are pieces of one.
use Rattle.std.proofs.Common.{◌≡◌, ℕ, true, false, List, [], ◌∷◌, ◌++◌, Option, Some, None, option_map, refl}
use Rattle.std.proofs.Common.{sym, subst, arith, append_assoc}
use Rattle.std.proofs.lemmas.Bool.Decides.{nat_tests}
use Rattle.std.specs.List.{AllByRecursion, filter, flat_map, join_by, join_with_byte, list_all}
use Rattle.std.specs.Prelude.{codes}
use Rattle.version_ranges.proofs.Membership.{all_weaker}
use Rattle.version_ranges.specs.declared.boundary.Boundary.TheVariants as boundary
use Rattle.pep440_text.specs.Print.{version_text}
use Rattle.pep440_text.specs.Record.{VersionRecord, release_record}
use Rattle.pep440_operator.specs.declared.operator.Operator.{Operator}
use Rattle.pep440_operator.specs.declared.operator.Operator.TheVariants as versions
use Rattle.pep440_operator.specs.OperatorPrint.{operator_text, star_text}
use Rattle.pep440_specifier.specs.Matching.{SpecifierRecord}
use Rattle.pep508_marker.specs.declared.keys.MarkerValueString.{MarkerValueString}
use Rattle.pep508_marker.specs.declared.keys.MarkerValueString.TheVariants as texts
use Rattle.pep508_marker.specs.declared.keys.MarkerValueVersion.{MarkerValueVersion}
use Rattle.pep508_marker.specs.declared.keys.MarkerValueVersion.TheVariants as keys
use Rattle.pep508_marker.specs.declared.operators.ExtraOperator.{ExtraOperator}
use Rattle.pep508_marker.specs.declared.operators.ExtraOperator.TheVariants as extras
use Rattle.pep508_marker.specs.declared.operators.MarkerOperator.{MarkerOperator}
use Rattle.pep508_marker.specs.declared.operators.MarkerOperator.TheVariants.{Equal, NotEqual, GreaterThan}
use Rattle.pep508_marker.specs.declared.operators.MarkerOperator.TheVariants.{GreaterEqual, LessThan}
use Rattle.pep508_marker.specs.declared.operators.MarkerOperator.TheVariants.{LessEqual, TildeEqual, In}
use Rattle.pep508_marker.specs.declared.operators.MarkerOperator.TheVariants.{NotIn, Contains, NotContains}
use Rattle.pep508_marker.specs.Expression.{ExpressionRecord, Version, VersionIn, String, Extra, term_text}
use Rattle.pep508_marker.specs.Expression.{turned_text, string_text, expression_text}
use Rattle.pep508_marker.specs.Keys.{version_key_name, text_key_name}
use Rattle.pep508_marker.specs.Operators.{marker_operator_text, extra_operator_text}
use Rattle.pep508_marker.specs.Values.{extra_text}
use Rattle.pep508_diagram.specs.declared.variable.VersionVariable.{VersionVariable}
use Rattle.pep508_diagram.specs.declared.variable.Flag.{Flag}
use Rattle.pep508_diagram.specs.declared.variable.Flag.TheVariants as flag
use Rattle.pep508_diagram.specs.Diagram.{Diagram, Leaf, Test}
use Rattle.pep508_diagram.specs.Question.{Question, VersionBelow, TextBelow, IsSet, flag_text}
use Rattle.pep508_marker_text_laws.specs.Clauses.{clauses_of}
use Rattle.pep508_marker_text_laws.specs.MarkerText.{disjunction, clause_text, bracketed_text, clauses_text}
use Rattle.pep508_marker_text_laws.specs.MarkerText.{marker_text}
use Rattle.pep508_marker_text_laws.specs.SameTerms.{same_term, opposite_term}
use Rattle.pep508_marker_text_laws.specs.Saying.{Clause}
use Rattle.pep508_marker_text_laws.specs.Simplified.{has_some}
use Rattle.pep508_marker_text_laws.specs.Terms.{minor_between, version_term, version_saying, text_saying, set_term}
use Rattle.pep508_marker_text_laws.specs.Terms.{unset_term}
use Rattle.pep508_marker_text_laws.proofs.Fitting.{Fits, AllFit, AllSayingsFit, GoodQuestion, simplified_fit}
use Rattle.pep508_diagram.specs.Questions.{AllQuestions}
use Rattle.pep508_marker_text_laws.proofs.Fitting.{walk_meets}
use Rattle.pep508_marker_text_laws.proofs.Where.{filter_all}
use Rattle.pep508_requirement_text.specs.FrontReading.{Front, Source}
use Rattle.pep508_requirement_text.specs.FrontReading.Source.{Any, Specifiers, Url}
use Rattle.pep508_requirement.specs.declared.version_or_url.VersionOrUrl.{VersionOrUrl}
use Rattle.pep508_requirement.specs.declared.version_or_url.VersionOrUrl.TheVariants as asked
use Rattle.pep508_requirement_ref.specs.declared.requirement_ref.RequirementRef.{RequirementRef}
use Rattle.pep508_requirement_ref.specs.RequirementPrint.{extras_text, source_text, front_text, marker_part}
use Rattle.pep508_requirement_ref.specs.RequirementPrint.{requirement_text}
use Rattle.pep508_requirement_ref.specs.Views.{printed, source_of}
use Rattle.pep508_tree_ref.specs.Lent.{tree_in}
use Rattle.pep508_tree_ref.specs.TreeIn.{diagram_in}
use Rattle.pep508_reading_back.specs.Lines.{IsPieceOf, IsLine, IsWholeLine}
use Rattle.pep508_reading_back.specs.ReadableRequirements.{IsReadableFront, IsReadableSource}
use Rattle.pep508_reading_back.specs.Told.{AsksOf}
use Rattle.pep508_reading_back.specs.Writable.{IsSayable, as_written}
use Rattle.pep508_reading_back.proofs.Comparisons.{in_order, plain_name, plain_star}
use Rattle.pep508_reading_back.proofs.Lines.{IsQuiet, IsCalm, is_inked, Inked, calm_append, inked_calm}
use Rattle.pep508_reading_back.proofs.Lines.{calm_by, inked_quiet, quoted_calm, piece_quiet, not_stripped}
use Rattle.pep508_reading_back.proofs.Patterns.{plain_append, plain_version}
use Rattle.pep508_reading_back.proofs.Plain.{is_plain, Plain}
use Rattle.pep508_reading_back.proofs.Requirements.{AreNormal, names_listed}
use Rattle.pep508_reading_back.proofs.Specifiers.{is_listed, Listed, list_listed}
use Rattle.pep508_reading_back.proofs.Told.{all_weaker_asks}
use Rattle.pep508_reading_back.proofs.Unquoted.{sayable}
use Rattle.pep508_reading_back.proofs.Views.{IsReadableShown, shown_front, the_text}
use Rattle.pep508_reading_back.proofs.WritableComparisons.{IsWritable, written_version}
use Rattle.pep508_reading_back.proofs.WritableTerms.{terms_writable}

-- ---- characters

plain_one : (b : ℕ) → is_plain b ≡ true → is_inked b ≡ true
plain_one b h = grind (arith, nat_tests)

listed_one : (b : ℕ) → is_listed b ≡ true → is_inked b ≡ true
listed_one b h = grind (arith, nat_tests)

plain_inked : (bs : List ℕ) → Plain bs → Inked bs
plain_inked = all_weaker (λ b. is_plain b ≡ true) (λ b. is_inked b ≡ true) plain_one

listed_inked : (bs : List ℕ) → Listed bs → Inked bs
listed_inked = all_weaker (λ b. is_listed b ≡ true) (λ b. is_inked b ≡ true) listed_one

nothing_calm : IsCalm []
nothing_calm = calm_by [] refl

-- ---- terms

term_calm : (key operator value : List ℕ) → IsCalm key → IsCalm operator → IsQuiet value →
    IsCalm (term_text key operator value)
term_calm key operator value k o v =
    let blank : IsCalm (32 ∷ []) = calm_by (32 ∷ []) refl in
    let quoted : List ℕ = 39 ∷ (value ++ (39 ∷ [])) in
    let last : IsCalm (operator ++ (32 ∷ quoted)) =
    calm_append operator (32 ∷ quoted) o (calm_append (32 ∷ []) quoted blank (quoted_calm value v)) in
    subst IsCalm (sym (in_order key operator value))
    (calm_append key (32 ∷ (operator ++ (32 ∷ quoted))) k
    (calm_append (32 ∷ []) (operator ++ (32 ∷ quoted)) blank last))

turned_apart : (key operator value : List ℕ) →
    turned_text key operator value ≡ (39 ∷ (value ++ (39 ∷ []))) ++ (32 ∷ (operator ++ (32 ∷ key)))
turned_apart key operator value = simp append_assoc

turned_calm : (key operator value : List ℕ) → IsCalm key → IsCalm operator → IsQuiet value →
    IsCalm (turned_text key operator value)
turned_calm key operator value k o v =
    let blank : IsCalm (32 ∷ []) = calm_by (32 ∷ []) refl in
    let last : IsCalm (operator ++ (32 ∷ key)) =
    calm_append operator (32 ∷ key) o (calm_append (32 ∷ []) key blank k) in
    subst IsCalm (sym (turned_apart key operator value))
    (calm_append (39 ∷ (value ++ (39 ∷ []))) (32 ∷ (operator ++ (32 ∷ key))) (quoted_calm value v)
    (calm_append (32 ∷ []) (operator ++ (32 ∷ key)) blank last))

abbrev IsInked : List ℕ → Type 0
IsInked bs = list_all is_inked bs ≡ true

version_key_inked : (key : MarkerValueVersion) → IsInked (version_key_name key)
version_key_inked keys.ImplementationVersion = refl
version_key_inked keys.PythonFullVersion = refl
version_key_inked keys.PythonVersion = refl

text_key_inked : (key : MarkerValueString) → IsInked (text_key_name key)
text_key_inked texts.ImplementationName = refl
text_key_inked texts.OsName = refl
text_key_inked texts.OsNameDeprecated = refl
text_key_inked texts.PlatformMachine = refl
text_key_inked texts.PlatformMachineDeprecated = refl
text_key_inked texts.PlatformPythonImplementation = refl
text_key_inked texts.PlatformPythonImplementationDeprecated = refl
text_key_inked texts.PythonImplementationDeprecated = refl
text_key_inked texts.PlatformRelease = refl
text_key_inked texts.PlatformSystem = refl
text_key_inked texts.PlatformVersion = refl
text_key_inked texts.PlatformVersionDeprecated = refl
text_key_inked texts.SysPlatform = refl
text_key_inked texts.SysPlatformDeprecated = refl

signs_inked : (operator : Operator) → IsInked (operator_text operator)
signs_inked versions.Equal = refl
signs_inked versions.EqualStar = refl
signs_inked versions.ExactEqual = refl
signs_inked versions.NotEqual = refl
signs_inked versions.NotEqualStar = refl
signs_inked versions.TildeEqual = refl
signs_inked versions.LessThan = refl
signs_inked versions.LessThanEqual = refl
signs_inked versions.GreaterThan = refl
signs_inked versions.GreaterThanEqual = refl

extra_signs_inked : (operator : ExtraOperator) → IsInked (extra_operator_text operator)
extra_signs_inked extras.Equal = refl
extra_signs_inked extras.NotEqual = refl

module _ (key text : List ℕ) (k : IsCalm key) (t : IsQuiet text) where
  forward : (operator : MarkerOperator) → IsInked (marker_operator_text operator) →
      IsCalm (term_text key (marker_operator_text operator) text)
  forward operator inked =
      term_calm key (marker_operator_text operator) text k (calm_by (marker_operator_text operator) inked) t

  backward : (operator : MarkerOperator) → IsInked (marker_operator_text operator) →
      IsCalm (turned_text key (marker_operator_text operator) text)
  backward operator inked =
      turned_calm key (marker_operator_text operator) text k (calm_by (marker_operator_text operator) inked) t

  string_calm : (operator : MarkerOperator) → IsCalm (string_text operator key text)
  string_calm Equal = forward Equal refl
  string_calm NotEqual = forward NotEqual refl
  string_calm GreaterThan = forward GreaterThan refl
  string_calm GreaterEqual = forward GreaterEqual refl
  string_calm LessThan = forward LessThan refl
  string_calm LessEqual = forward LessEqual refl
  string_calm TildeEqual = forward TildeEqual refl
  string_calm In = forward In refl
  string_calm NotIn = forward NotIn refl
  string_calm Contains = backward Contains refl
  string_calm NotContains = backward NotContains refl

-- ---- comparisons

-- a comparison whose text has no line feed and no comment
abbrev IsCalmTerm : ExpressionRecord → Type 0
IsCalmTerm (Version key specifier) = IsWritable (Version key specifier)
IsCalmTerm (VersionIn key versions negated) = ⊥
IsCalmTerm (String key operator text) = IsQuiet text
IsCalmTerm (Extra operator asked) = IsQuiet (extra_text asked)

specifier_quiet : (key : MarkerValueVersion) (specifier : SpecifierRecord) →
    IsWritable (Version key specifier) →
    IsQuiet (version_text specifier.version ++ star_text specifier.operator)
specifier_quiet key specifier h =
    let version : Plain (version_text specifier.version) =
    subst Plain (written_version specifier.version h.1)
    (plain_version (as_written specifier.version) h.0.0.printed.printable) in
    let text : List ℕ = version_text specifier.version ++ star_text specifier.operator in
    inked_quiet text
    (plain_inked text
    (plain_append (version_text specifier.version) (star_text specifier.operator) version
    (plain_star specifier.operator)))

comparison_calm : (term : ExpressionRecord) → IsCalmTerm term → IsCalm (expression_text term)
comparison_calm (Version key specifier) h =
    term_calm (version_key_name key) (operator_text specifier.operator)
    (version_text specifier.version ++ star_text specifier.operator)
    (calm_by (version_key_name key) (version_key_inked key))
    (calm_by (operator_text specifier.operator) (signs_inked specifier.operator))
    (specifier_quiet key specifier h)
comparison_calm (VersionIn key versions negated) h = absurd h
comparison_calm (String key operator text) h =
    string_calm (text_key_name key) text (calm_by (text_key_name key) (text_key_inked key)) h operator
comparison_calm (Extra operator asked) h =
    term_calm (codes "extra") (extra_operator_text operator) (extra_text asked) (calm_by (codes "extra") refl)
    (calm_by (extra_operator_text operator) (extra_signs_inked operator)) h

-- ---- the comparisons of a diagram

star_calm : (key : VersionVariable) (operator : Operator) (lower upper : VersionRecord)
    (term : ExpressionRecord) (numbers : Option (List ℕ)) →
    option_map (λ ns. version_term key operator (release_record ns)) numbers ≡ Some term →
    IsWritable term → IsCalmTerm term
star_calm key operator lower upper term None e h = absurd (cc)
star_calm key operator lower upper term (Some numbers) e h =
    let is : version_term key operator (release_record numbers) ≡ term = cc in
    subst IsCalmTerm is (subst IsWritable (sym is) h)

versions_calm : (key : VersionVariable) → Fits IsSayable IsCalmTerm (version_saying key)
versions_calm key =
    let writable : Fits IsSayable IsWritable (version_saying key) = terms_writable.versions_fit key in
    record {
      equal_fits = λ v h. writable.equal_fits v h;
      differs_fits = λ v h. writable.differs_fits v h;
      at_least_fits = λ v h. writable.at_least_fits v h;
      above_fits = λ v h. writable.above_fits v h;
      at_most_fits = λ v h. writable.at_most_fits v h;
      below_fits = λ v h. writable.below_fits v h;
      star_fits = λ v w h k term e. star_calm key versions.EqualStar v w term (minor_between v w) e
          (writable.star_fits v w h k term e);
      no_star_fits = λ v w h k term e. star_calm key versions.NotEqualStar v w term (minor_between v w) e
          (writable.no_star_fits v w h k term e);
    }

texts_calm : (key : MarkerValueString) → Fits IsQuiet IsCalmTerm (text_saying key)
texts_calm key = record {
  equal_fits = λ text h. h;
  differs_fits = λ text h. h;
  at_least_fits = λ text h. h;
  above_fits = λ text h. h;
  at_most_fits = λ text h. h;
  below_fits = λ text h. h;
  star_fits = λ v w h k term e. absurd (cc);
  no_star_fits = λ v w h k term e. absurd (cc);
}

set_calm : (asked : Flag) → IsQuiet (flag_text asked) → IsCalmTerm (set_term asked)
set_calm (flag.In key text) h = h
set_calm (flag.Contains key text) h = h
set_calm (flag.Extra name) h = h
set_calm (flag.Arbitrary text) h = h

unset_calm : (asked : Flag) → IsQuiet (flag_text asked) → IsCalmTerm (unset_term asked)
unset_calm (flag.In key text) h = h
unset_calm (flag.Contains key text) h = h
unset_calm (flag.Extra name) h = h
unset_calm (flag.Arbitrary text) h = h

terms_calm : AllSayingsFit IsSayable (λ key. IsQuiet) (λ asked. IsQuiet (flag_text asked)) IsCalmTerm
terms_calm = record {
  versions_fit = versions_calm;
  texts_fit = texts_calm;
  set_fits = set_calm;
  unset_fits = unset_calm;
}

abbrev AsksWell : Question → Type 0
AsksWell = GoodQuestion IsSayable (λ key. IsQuiet) (λ asked. IsQuiet (flag_text asked))

asks_well : (q : Question) → AsksOf IsQuiet q → AsksWell q
asks_well (VersionBelow key (boundary.At version)) h = sayable version h
asks_well (VersionBelow key (boundary.JustAbove version)) h = sayable version h
asks_well (TextBelow key (boundary.At text)) h = h
asks_well (TextBelow key (boundary.JustAbove text)) h = h
asks_well (IsSet (flag.In key text)) h = h
asks_well (IsSet (flag.Contains key text)) h = h
asks_well (IsSet (flag.Extra name)) h = inked_quiet name (plain_inked name (plain_name name name h))
asks_well (IsSet (flag.Arbitrary text)) h = h.0

all_well : (d : Diagram Question) → AllQuestions (AsksOf IsQuiet) d → AllQuestions AsksWell d
all_well (Leaf b) h = tt
all_well (Test q low high) h = (asks_well q h.0, all_well low h.1, all_well high h.2)

all_calm : (d : Diagram Question) → AllQuestions (AsksOf IsQuiet) d → AllFit IsCalmTerm (disjunction d)
all_calm d h =
    simplified_fit IsCalmTerm same_term opposite_term (filter has_some (clauses_of d))
    (filter_all (AllByRecursion IsCalmTerm) has_some (clauses_of d) (walk_meets terms_calm d (all_well d h)).0)

-- ---- clauses

module _ {X : Type 0} (text : X → List ℕ) (word : List ℕ) (w : IsCalm word) where
  later_calm : (xs : List X) → AllByRecursion (λ x. IsCalm (text x)) xs →
      IsCalm (flat_map (λ x. word ++ text x) xs)
  later_calm [] h = nothing_calm
  later_calm (x ∷ xs) h =
      calm_append (word ++ text x) (flat_map (λ y. word ++ text y) xs) (calm_append word (text x) w h.0)
      (later_calm xs h.1)

  join_calm : (xs : List X) → AllByRecursion (λ x. IsCalm (text x)) xs → IsCalm (join_by text word xs)
  join_calm [] h = nothing_calm
  join_calm (x ∷ xs) h =
      calm_append (text x) (flat_map (λ y. word ++ text y) xs) h.0 (later_calm xs h.1)

clause_calm : (clause : Clause) → AllByRecursion IsCalmTerm clause → IsCalm (clause_text clause)
clause_calm clause h =
    join_calm expression_text (codes " and ") (calm_by (codes " and ") refl) clause
    (all_weaker IsCalmTerm (λ term. IsCalm (expression_text term)) comparison_calm clause h)

bracketed_calm : (clause : Clause) → AllByRecursion IsCalmTerm clause → IsCalm (bracketed_text clause)
bracketed_calm [] h = nothing_calm
bracketed_calm (term ∷ []) h = clause_calm (term ∷ []) h
bracketed_calm (term ∷ other ∷ terms) h =
    let text : List ℕ = clause_text (term ∷ other ∷ terms) in
    calm_append (codes "(" ++ text) (codes ")")
    (calm_append (codes "(") text (calm_by (codes "(") refl) (clause_calm (term ∷ other ∷ terms) h))
    (calm_by (codes ")") refl)

clauses_calm : (clauses : List Clause) → AllFit IsCalmTerm clauses → IsCalm (clauses_text clauses)
clauses_calm [] h = nothing_calm
clauses_calm (clause ∷ []) h = clause_calm clause h.0
clauses_calm (clause ∷ other ∷ clauses) h =
    join_calm bracketed_text (codes " or ") (calm_by (codes " or ") refl) (clause ∷ other ∷ clauses)
    (all_weaker (AllByRecursion IsCalmTerm) (λ c. IsCalm (bracketed_text c)) bracketed_calm
    (clause ∷ other ∷ clauses) h)

-- ---- markers and fronts

marker_calm : (d : Diagram Question) → AllQuestions (AsksOf IsQuiet) d → IsCalm (marker_part (marker_text d))
marker_calm (Leaf true) h = nothing_calm
marker_calm (Leaf false) h = calm_by (codes " ; python_version < '0'") refl
marker_calm (Test q low high) h =
    calm_append (codes " ; ") (clauses_text (disjunction (Test q low high))) (calm_by (codes " ; ") refl)
    (clauses_calm (disjunction (Test q low high)) (all_calm (Test q low high) h))

extras_calm : (names : List (List ℕ)) → AreNormal names → IsCalm (extras_text names)
extras_calm [] h = nothing_calm
extras_calm (name ∷ names) h =
    let inside : List ℕ = join_with_byte 44 (name ∷ names) in
    calm_append (codes "[" ++ inside) (codes "]")
    (calm_append (codes "[") inside (calm_by (codes "[") refl)
    (inked_calm inside (listed_inked inside (names_listed (name ∷ names) h))))
    (calm_by (codes "]") refl)

source_calm : (source : Source) → IsReadableSource source → IsCalm (source_text source)
source_calm Any h = nothing_calm
source_calm (Specifiers given) h = inked_calm _ (listed_inked _ (list_listed given h.1))
source_calm (Url url) h = absurd h

front_calm : (front : Front) → IsReadableFront front → IsCalm (front_text front)
front_calm front h =
    calm_append (front.name ++ extras_text front.extras) (source_text front.source)
    (calm_append front.name (extras_text front.extras)
    (inked_calm front.name (plain_inked front.name (plain_name front.name front.name h.is_name)))
    (extras_calm front.extras h.are_names))
    (source_calm front.source h.is_source)

part_calm : (front : Front) (behind : Option (List ℕ)) → IsReadableFront front →
    IsCalm (marker_part behind) → IsCalm (requirement_text front behind)
part_calm front behind h k = calm_append (front_text front) (marker_part behind) (front_calm front h) k

whole_line : (text : List ℕ) → IsCalm text → IsWholeLine text
whole_line text h = (h.is_line, not_stripped text h.unreturned)

pieces_quiet : (line : List ℕ) (d : Diagram Question) → IsLine line →
    AllQuestions (AsksOf (IsPieceOf line)) d → AllQuestions (AsksOf IsQuiet) d
pieces_quiet line d good = all_weaker_asks (IsPieceOf line) IsQuiet (λ piece is. piece_quiet line piece good is) d

-- what is printed with the marker of such a diagram
pub requirement_line : (line : List ℕ) (front : Front) (d : Diagram Question) → IsLine line →
    IsReadableFront front → AllQuestions (AsksOf (IsPieceOf line)) d →
    IsWholeLine (requirement_text front (marker_text d))
requirement_line line front d good h asks =
    whole_line (requirement_text front (marker_text d))
    (part_calm front (marker_text d) h (marker_calm d (pieces_quiet line d good asks)))

-- ---- views

module _ {T E : Type 0} (output : T → Option (List ℕ)) (shown : RequirementRef T E)
    (behind : Option (List ℕ)) (calm : IsCalm (marker_part behind)) where
  one_calm : (source : Source) (text : List ℕ) → IsReadableFront (shown_front shown source) →
      Some (requirement_text (shown_front shown source) behind) ≡ Some text → IsCalm text
  one_calm source text h e =
      subst IsCalm (the_text (requirement_text (shown_front shown source) behind) text e)
      (part_calm (shown_front shown source) behind h calm)

  asked_calm : (what : Option (VersionOrUrl T E)) → IsReadableShown shown what → (text : List ℕ) →
      option_map (λ front. requirement_text front behind)
      (option_map (shown_front shown) (source_of output what)) ≡ Some text → IsCalm text
  asked_calm None good text e =
      one_calm Any text (record { is_name = good.name; are_names = good.extras; is_source = tt }) e
  asked_calm (Some (asked.VersionSpecifier list)) good text e =
      one_calm (Specifiers list) text
      (record { is_name = good.name; are_names = good.extras; is_source = (good.asked.0, good.asked.2) }) e
  asked_calm (Some (asked.Url url)) good text e = absurd good.asked

-- what a view prints
pub view_line : {T E : Type 0} (line : List ℕ) (output : T → Option (List ℕ)) (shown : RequirementRef T E) →
    IsLine line → IsReadableShown shown shown.version_or_url.now →
    AllQuestions (AsksOf (IsPieceOf line)) (diagram_in (tree_in shown.marker)) → (text : List ℕ) →
    printed output shown ≡ Some text → IsWholeLine text
view_line line output shown good h asks text e =
    let d = diagram_in (tree_in shown.marker) in
    whole_line text
    (asked_calm output shown (marker_text d) (marker_calm d (pieces_quiet line d good asks))
    shown.version_or_url.now h text e)
