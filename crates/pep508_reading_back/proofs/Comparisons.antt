-- A printed comparison is the text of that comparison.
use Rattle.std.proofs.Common.{◌≡◌, ◌≢◌, ℕ, ◌≤◌, ◌==◌, ◌&&◌, Bool, true, false, not, nat_lt, length}
use Rattle.std.proofs.Common.{if◌then◌else◌, List, [], ◌∷◌, ◌++◌, All, Some, None, Ok, Err, inl, inr, refl}
use Rattle.std.proofs.Common.{ap, sym, subst, ◌∙◌, ◌-◌, arith, append_assoc}
use Rattle.std.proofs.lemmas.Bool.Decides.{nat_tests}
use Rattle.std.proofs.lemmas.List.{append-nil}
use Rattle.std.proofs.lemmas.Str.{chars-append, encodes-chars, IsUtf8-append, IsUtf8-from_ascii}
use Rattle.std.specs.Char.{is_ascii_alphabetic}
use Rattle.std.specs.List.{AllByRecursion, list_all}
use Rattle.std.specs.Option.{option_and_then}
use Rattle.std.specs.Prelude.{codes}
use Rattle.std.specs.Result.{result_ok}
use Rattle.std.specs.Str.{chars, IsAscii, IsUtf8}
use Rattle.version_ranges.proofs.Membership.{all_weaker}
use Rattle.pep440_text.specs.Record.{Segment, VersionRecord}
use Rattle.pep440_text.specs.Print.{version_text}
use Rattle.pep440_text.specs.Printable.{IsPrintable}
use Rattle.pep440_text.specs.Reading.{pattern_of}
use Rattle.pep440_operator.specs.declared.operator.Operator.{Operator}
use Rattle.pep440_operator.specs.declared.operator.Operator.TheVariants as versions
use Rattle.pep440_operator.specs.Operators.{is_star, is_tilde, takes_local}
use Rattle.pep440_operator.specs.OperatorPrint.{operator_text, star_text}
use Rattle.pep440_version.specs.Changes.{has_segments}
use Rattle.pep440_specifier.specs.Building.{IsBuilt, built, built_of_pattern}
use Rattle.pep440_specifier.specs.Matching.{SpecifierRecord}
use Rattle.pep440_specifier.specs.declared.build_error.VersionSpecifierBuildError.TheVariants.{OperatorLocalCombo}
use Rattle.pep440_specifier.specs.declared.build_error.VersionSpecifierBuildError.TheVariants.{CompatibleRelease}
use Rattle.pep508_marker.specs.declared.keys.MarkerValueVersion.{MarkerValueVersion}
use Rattle.pep508_marker.specs.declared.keys.MarkerValueVersion.TheVariants.{ImplementationVersion}
use Rattle.pep508_marker.specs.declared.keys.MarkerValueVersion.TheVariants.{PythonFullVersion, PythonVersion}
use Rattle.pep508_marker.specs.declared.keys.MarkerValueString.{MarkerValueString}
use Rattle.pep508_marker.specs.declared.keys.MarkerValueString.TheVariants as keys
use Rattle.pep508_marker.specs.declared.operators.ExtraOperator.{ExtraOperator}
use Rattle.pep508_marker.specs.declared.operators.ExtraOperator.TheVariants as extras
use Rattle.pep508_marker.specs.declared.operators.MarkerOperator.{MarkerOperator}
use Rattle.pep508_marker.specs.declared.operators.MarkerOperator.TheVariants.{Equal, NotEqual, GreaterThan}
use Rattle.pep508_marker.specs.declared.operators.MarkerOperator.TheVariants.{GreaterEqual, LessThan}
use Rattle.pep508_marker.specs.declared.operators.MarkerOperator.TheVariants.{LessEqual, TildeEqual, In}
use Rattle.pep508_marker.specs.declared.operators.MarkerOperator.TheVariants.{NotIn, Contains, NotContains}
use Rattle.pep508_marker.specs.declared.warnings.MarkerWarningKind.{MarkerWarningKind}
use Rattle.pep508_marker.specs.Expression.{ExpressionRecord, Version, VersionIn, String, Extra, term_text}
use Rattle.pep508_marker.specs.Expression.{turned_text, string_text, expression_text}
use Rattle.pep508_marker.specs.Keys.{version_key_name, text_key_name, is_deprecated}
use Rattle.pep508_marker.specs.Operators.{marker_operator_text, marker_operator_of, is_not_in, behind_not}
use Rattle.pep508_marker.specs.Operators.{extra_operator_text, extra_operator, specifier_operator}
use Rattle.pep508_marker.specs.Values.{ValueRecord, VersionKey, TextKey, ExtraKey, Quoted, ExtraRecord, Name}
use Rattle.pep508_marker.specs.Values.{Arbitrary, key_of_text, version_key_of, text_key_of, extra_text}
use Rattle.pep508_name.specs.Name.{name_of, is_name, is_name_byte, is_alphanumeric_at, normal_name}
use Rattle.pep508_expression.specs.Expressions.{has_points}
use Rattle.pep508_comparison_parser.specs.Compared.{Compared, compared, specifier_behind, of_specifier}
use Rattle.pep508_comparison_parser.specs.Compared.{extra_of, of_extra, warned_of_name, extra_compared}
use Rattle.pep508_comparison_parser.specs.SideReading.{ends_key, ends_word, ends_signs, AtEnd}
use Rattle.pep508_error.specs.Cuts.{begins_by}
use Rattle.pep508_marker_parser.specs.Formula.{Says}
use Rattle.pep508_marker_parser.specs.MarkerReading.{Marker, of_compared}
use Rattle.pep508_marker_parser.specs.MarkerText.{IsBefore, IsSpaced, IsSideText, IsOperatorText}
use Rattle.pep508_marker_parser.specs.MarkerText.{IsComparisonText}
use Rattle.pep508_error.proofs.Cuts.{at_places}
use Rattle.pep508_error.proofs.Tests.{and_parts}
use Rattle.pep508_reading_back.specs.Readable.{IsQuotable, IsReadableExtra, IsReadable, warned_extra}
use Rattle.pep508_reading_back.specs.Readable.{marker_of}
use Rattle.pep508_reading_back.proofs.Plain.{is_plain, Plain, all_from, none_from, plain_ascii, ascii_by}
use Rattle.pep508_reading_back.proofs.Plain.{plain_unquoted, ascii_encoded, ascii_chars, front_chars}
use Rattle.pep508_reading_back.proofs.Patterns.{plain_append, plain_version, version_pattern, star_pattern}

-- ---- characters of comparisons

pub in_order : (key operator value : List ℕ) →
    term_text key operator value ≡ key ++ (32 ∷ (operator ++ (32 ∷ (39 ∷ (value ++ (39 ∷ []))))))
in_order key operator value = simp append_assoc

turned_in_order : (key operator value : List ℕ) →
    turned_text key operator value ≡ 39 ∷ (value ++ (39 ∷ (32 ∷ (operator ++ (32 ∷ key)))))
turned_in_order key operator value = simp append_assoc

closed_regrouped : (key operator value rest : List ℕ) →
    (key ++ (32 ∷ (operator ++ (32 ∷ (39 ∷ (value ++ (39 ∷ []))))))) ++ rest
    ≡ key ++ (32 ∷ (operator ++ (32 ∷ (39 ∷ (value ++ (39 ∷ rest))))))
closed_regrouped key operator value rest = simp append_assoc

turned_regrouped : (key operator value rest : List ℕ) →
    (39 ∷ (value ++ (39 ∷ (32 ∷ (operator ++ (32 ∷ key)))))) ++ rest
    ≡ 39 ∷ (value ++ (39 ∷ (32 ∷ (operator ++ (32 ∷ (key ++ rest))))))
turned_regrouped key operator value rest = simp append_assoc

term_chars : (key operator value rest : List ℕ) → IsAscii key → IsAscii operator → IsUtf8 value →
    chars (term_text key operator value) ++ rest
    ≡ key ++ (32 ∷ (operator ++ (32 ∷ (39 ∷ (chars value ++ (39 ∷ rest))))))
term_chars key operator value rest k o u =
    let quoted : chars (value ++ (39 ∷ [])) ≡ chars value ++ (39 ∷ []) =
    chars-append value (39 ∷ []) u ∙ ap (λ cs. chars value ++ cs) (ascii_chars (39 ∷ []) (ascii_by (39 ∷ []) refl)) in
    let last : chars (32 ∷ (39 ∷ (value ++ (39 ∷ [])))) ≡ 32 ∷ (39 ∷ (chars value ++ (39 ∷ []))) =
    front_chars (32 ∷ 39 ∷ []) (value ++ (39 ∷ [])) (ascii_by (32 ∷ 39 ∷ []) refl)
    ∙ ap (λ cs. 32 ∷ 39 ∷ cs) quoted in
    let middle : chars (32 ∷ (operator ++ (32 ∷ (39 ∷ (value ++ (39 ∷ []))))))
    ≡ 32 ∷ (operator ++ (32 ∷ (39 ∷ (chars value ++ (39 ∷ []))))) =
    front_chars (32 ∷ []) (operator ++ (32 ∷ (39 ∷ (value ++ (39 ∷ []))))) (ascii_by (32 ∷ []) refl)
    ∙ ap (λ cs. 32 ∷ cs) (front_chars operator (32 ∷ (39 ∷ (value ++ (39 ∷ [])))) o
    ∙ ap (λ cs. operator ++ cs) last) in
    ap (λ text. chars text ++ rest) (in_order key operator value)
    ∙ ap (λ cs. cs ++ rest) (front_chars key (32 ∷ (operator ++ (32 ∷ (39 ∷ (value ++ (39 ∷ [])))))) k
    ∙ ap (λ cs. key ++ cs) middle)
    ∙ closed_regrouped key operator (chars value) rest

turned_chars : (key operator value rest : List ℕ) → IsAscii key → IsAscii operator → IsUtf8 value →
    chars (turned_text key operator value) ++ rest
    ≡ 39 ∷ (chars value ++ (39 ∷ (32 ∷ (operator ++ (32 ∷ (key ++ rest))))))
turned_chars key operator value rest k o u =
    let last : chars (32 ∷ key) ≡ 32 ∷ key =
    front_chars (32 ∷ []) key (ascii_by (32 ∷ []) refl) ∙ ap (λ cs. 32 ∷ cs) (ascii_chars key k) in
    let middle : chars (39 ∷ (32 ∷ (operator ++ (32 ∷ key)))) ≡ 39 ∷ (32 ∷ (operator ++ (32 ∷ key))) =
    front_chars (39 ∷ 32 ∷ []) (operator ++ (32 ∷ key)) (ascii_by (39 ∷ 32 ∷ []) refl)
    ∙ ap (λ cs. 39 ∷ 32 ∷ cs) (front_chars operator (32 ∷ key) o ∙ ap (λ cs. operator ++ cs) last) in
    ap (λ text. chars text ++ rest) (turned_in_order key operator value)
    ∙ ap (λ cs. cs ++ rest)
    (front_chars (39 ∷ []) (value ++ (39 ∷ (32 ∷ (operator ++ (32 ∷ key))))) (ascii_by (39 ∷ []) refl)
    ∙ ap (λ cs. 39 ∷ cs) (chars-append value (39 ∷ (32 ∷ (operator ++ (32 ∷ key)))) u
    ∙ ap (λ cs. chars value ++ cs) middle))
    ∙ turned_regrouped key operator (chars value) rest

-- ---- sides

-- a name that is read as a key
pub record IsNameOf (name : List ℕ) (value : ValueRecord) : Type 0 where
  pub ascii : IsAscii name
  pub unended : AllByRecursion (λ c. ends_key c ≡ false) name
  pub is_key : key_of_text name ≡ Some value

named : (name : List ℕ) (value : ValueRecord) → list_all (λ b. nat_lt b 128) name ≡ true →
    list_all (λ c. not (ends_key c)) name ≡ true → key_of_text name ≡ Some value → IsNameOf name value
named name value a u k = record { ascii = ascii_by name a; unended = none_from ends_key name u; is_key = k }

version_named : (key : MarkerValueVersion) → IsNameOf (version_key_name key) (VersionKey key)
unfolding version_key_of
version_named ImplementationVersion = named (codes "implementation_version") (VersionKey ImplementationVersion) refl refl refl
version_named PythonFullVersion = named (codes "python_full_version") (VersionKey PythonFullVersion) refl refl refl
version_named PythonVersion = named (codes "python_version") (VersionKey PythonVersion) refl refl refl

text_named : (key : MarkerValueString) → is_deprecated key ≡ false →
    IsNameOf (text_key_name key) (TextKey key)
unfolding version_key_of text_key_of
text_named keys.ImplementationName h = named (codes "implementation_name") (TextKey keys.ImplementationName) refl refl refl
text_named keys.OsName h = named (codes "os_name") (TextKey keys.OsName) refl refl refl
text_named keys.PlatformMachine h = named (codes "platform_machine") (TextKey keys.PlatformMachine) refl refl refl
text_named keys.PlatformPythonImplementation h =
    named (codes "platform_python_implementation") (TextKey keys.PlatformPythonImplementation) refl refl refl
text_named keys.PlatformRelease h = named (codes "platform_release") (TextKey keys.PlatformRelease) refl refl refl
text_named keys.PlatformSystem h = named (codes "platform_system") (TextKey keys.PlatformSystem) refl refl refl
text_named keys.PlatformVersion h = named (codes "platform_version") (TextKey keys.PlatformVersion) refl refl refl
text_named keys.SysPlatform h = named (codes "sys_platform") (TextKey keys.SysPlatform) refl refl refl
text_named keys.OsNameDeprecated h = absurd (cc)
text_named keys.PlatformMachineDeprecated h = absurd (cc)
text_named keys.PlatformPythonImplementationDeprecated h = absurd (cc)
text_named keys.PythonImplementationDeprecated h = absurd (cc)
text_named keys.PlatformVersionDeprecated h = absurd (cc)
text_named keys.SysPlatformDeprecated h = absurd (cc)

pub extra_named : IsNameOf (codes "extra") ExtraKey
unfolding version_key_of text_key_of
extra_named = named (codes "extra") ExtraKey refl refl refl

key_side : (name : List ℕ) (value : ValueRecord) (rest : List ℕ) → IsNameOf name value →
    IsBefore ends_key rest → IsSideText (name ++ rest) value rest
key_side name value rest n ends = inr (record {
  written = name;
  split = refl;
  whole = at_places ends_key name n.unended;
  ends = ends;
  is_key = ap key_of_text (ascii_encoded name n.ascii) ∙ n.is_key;
})

quoted_side : (text rest : List ℕ) → IsQuotable text →
    IsSideText (39 ∷ (chars text ++ (39 ∷ rest))) (Quoted text) rest
quoted_side text rest q = inl (record {
  quote = 39;
  inside = chars text;
  split = refl;
  quotes = refl;
  closed = q.unquoted;
  encoded = ap Quoted (sym (encodes-chars text q.encoded));
})

-- ---- operators

-- what an operator is read as: containment has none of its own
abbrev pub written_as : MarkerOperator → MarkerOperator
written_as Equal = Equal
written_as NotEqual = NotEqual
written_as GreaterThan = GreaterThan
written_as GreaterEqual = GreaterEqual
written_as LessThan = LessThan
written_as LessEqual = LessEqual
written_as TildeEqual = TildeEqual
written_as In = In
written_as NotIn = NotIn
written_as Contains = In
written_as NotContains = NotIn

sign : (written : List ℕ) (operator : MarkerOperator) (rest : List ℕ) →
    begins_by is_ascii_alphabetic written ≡ false → list_all (λ c. not (ends_signs c)) written ≡ true →
    list_all (λ b. nat_lt b 128) written ≡ true → marker_operator_of written ≡ Some operator →
    IsOperatorText (written ++ (32 ∷ rest)) operator (32 ∷ rest)
sign written operator rest b n a is = inl (record {
  written = written;
  split = refl;
  run = inr (b, at_places ends_signs written (none_from ends_signs written n), inr refl);
  is_operator = ap marker_operator_of (ascii_encoded written (ascii_by written a)) ∙ is;
})

in_is : marker_operator_of (codes "in") ≡ Some In
unfolding marker_operator_of is_not_in behind_not
in_is = refl

word_in : (rest : List ℕ) → IsOperatorText (codes "in" ++ (32 ∷ rest)) In (32 ∷ rest)
word_in rest = inl (record {
  written = codes "in";
  split = refl;
  run = inl (refl, at_places ends_word (codes "in") (none_from ends_word (codes "in") refl), inr refl);
  is_operator = ap marker_operator_of (ascii_encoded (codes "in") (ascii_by (codes "in") refl)) ∙ in_is;
})

words_not_in : (rest : List ℕ) → IsOperatorText (codes "not in" ++ (32 ∷ rest)) NotIn (32 ∷ rest)
words_not_in rest = inr (record {
  spaces = 32 ∷ [];
  split = refl;
  are_spaces = (refl, tt);
  some = omega arith;
  negated = refl;
})

operator_read : (operator : MarkerOperator) (rest : List ℕ) →
    IsOperatorText (marker_operator_text operator ++ (32 ∷ rest)) (written_as operator) (32 ∷ rest)
unfolding marker_operator_of is_not_in behind_not
operator_read Equal rest = sign (codes "==") Equal rest refl refl refl refl
operator_read NotEqual rest = sign (codes "!=") NotEqual rest refl refl refl refl
operator_read GreaterThan rest = sign (codes ">") GreaterThan rest refl refl refl refl
operator_read GreaterEqual rest = sign (codes ">=") GreaterEqual rest refl refl refl refl
operator_read LessThan rest = sign (codes "<") LessThan rest refl refl refl refl
operator_read LessEqual rest = sign (codes "<=") LessEqual rest refl refl refl refl
operator_read TildeEqual rest = sign (codes "~=") TildeEqual rest refl refl refl refl
operator_read In rest = word_in rest
operator_read NotIn rest = words_not_in rest
operator_read Contains rest = word_in rest
operator_read NotContains rest = words_not_in rest

operator_ascii : (operator : MarkerOperator) → IsAscii (marker_operator_text operator)
operator_ascii Equal = ascii_by (codes "==") refl
operator_ascii NotEqual = ascii_by (codes "!=") refl
operator_ascii GreaterThan = ascii_by (codes ">") refl
operator_ascii GreaterEqual = ascii_by (codes ">=") refl
operator_ascii LessThan = ascii_by (codes "<") refl
operator_ascii LessEqual = ascii_by (codes "<=") refl
operator_ascii TildeEqual = ascii_by (codes "~=") refl
operator_ascii In = ascii_by (codes "in") refl
operator_ascii NotIn = ascii_by (codes "not in") refl
operator_ascii Contains = ascii_by (codes "in") refl
operator_ascii NotContains = ascii_by (codes "not in") refl

-- ---- a key and a text

pub said_so : (term : ExpressionRecord) (warned : List MarkerWarningKind) (found : Compared) (rest : List ℕ) →
    has_points term ≡ true → found ≡ record { said = Some term; warned = warned } →
    of_compared (found, rest) ≡ Ok (record { formula = Says term; warned = warned }, rest)
said_so term warned found rest h e =
    ap (λ c. of_compared (c, rest)) e
    ∙ ap (λ b. if b then Ok (record { formula = Says term; warned = warned }, rest) else Err AtEnd) h

spaced : (cs : List ℕ) → IsSpaced cs cs
spaced cs = ([], refl, tt)

one_space : (cs : List ℕ) → IsSpaced (32 ∷ cs) cs
one_space cs = (32 ∷ [], refl, (refl, tt))

module _ (name : List ℕ) (value : ValueRecord) (n : IsNameOf name value) (operator : MarkerOperator)
    (text : List ℕ) (q : IsQuotable text) (marker : Marker) (rest : List ℕ) where
  abbrev Fits : List ℕ → Type 0
  Fits cs = IsComparisonText cs marker rest

  pub term_read : of_compared (compared value (written_as operator) (Quoted text), rest) ≡ Ok (marker, rest) →
      IsComparisonText (chars (term_text name (marker_operator_text operator) text) ++ rest) marker rest
  term_read says =
      let signs = marker_operator_text operator in
      let quoted = 39 ∷ (chars text ++ (39 ∷ rest)) in
      let read : Fits (name ++ (32 ∷ (signs ++ (32 ∷ quoted)))) = record {
        left = value;
        operator = written_as operator;
        right = Quoted text;
        at_left = name ++ (32 ∷ (signs ++ (32 ∷ quoted)));
        behind_left = 32 ∷ (signs ++ (32 ∷ quoted));
        at_operator = signs ++ (32 ∷ quoted);
        behind_operator = 32 ∷ quoted;
        at_right = quoted;
        spaced_left = spaced (name ++ (32 ∷ (signs ++ (32 ∷ quoted))));
        is_left = key_side name value (32 ∷ (signs ++ (32 ∷ quoted))) n (inr refl);
        spaced_operator = one_space (signs ++ (32 ∷ quoted));
        is_operator = operator_read operator quoted;
        spaced_right = one_space quoted;
        is_right = quoted_side text rest q;
        says = says;
      } in
      subst Fits (sym (term_chars name signs text rest n.ascii (operator_ascii operator) q.encoded)) read

  turned_read : IsBefore ends_key rest →
      of_compared (compared (Quoted text) (written_as operator) value, rest) ≡ Ok (marker, rest) →
      IsComparisonText (chars (turned_text name (marker_operator_text operator) text) ++ rest) marker rest
  turned_read ends says =
      let signs = marker_operator_text operator in
      let behind = 32 ∷ (signs ++ (32 ∷ (name ++ rest))) in
      let read : Fits (39 ∷ (chars text ++ (39 ∷ behind))) = record {
        left = Quoted text;
        operator = written_as operator;
        right = value;
        at_left = 39 ∷ (chars text ++ (39 ∷ behind));
        behind_left = behind;
        at_operator = signs ++ (32 ∷ (name ++ rest));
        behind_operator = 32 ∷ (name ++ rest);
        at_right = name ++ rest;
        spaced_left = spaced (39 ∷ (chars text ++ (39 ∷ behind)));
        is_left = quoted_side text behind q;
        spaced_operator = one_space (signs ++ (32 ∷ (name ++ rest)));
        is_operator = operator_read operator (name ++ rest);
        spaced_right = one_space (name ++ rest);
        is_right = key_side name value rest n ends;
        says = says;
      } in
      subst Fits (sym (turned_chars name signs text rest n.ascii (operator_ascii operator) q.encoded)) read

-- ---- versions

no_local : (segments : List Segment) (takes : Bool) → (takes ≡ false → segments ≡ []) →
    (has_segments segments && not takes) ≡ false
no_local [] takes h = refl
no_local (segment ∷ segments) true h = refl
no_local (segment ∷ segments) false h = absurd (let e : segment ∷ segments ≡ [] = h refl in cc)

enough : (tilde : Bool) (count : ℕ) → (tilde ≡ true → 2 ≤ count) → (tilde && nat_lt count 2) ≡ false
enough false count h = refl
enough true count h = let k : 2 ≤ count = h refl in grind (arith, nat_tests)

pub built_is : (operator : Operator) (version : VersionRecord) → IsBuilt (record { operator = operator; version = version }) →
    built operator version ≡ Ok (record { operator = operator; version = version })
built_is operator version b =
    let made : SpecifierRecord = record { operator = operator; version = version } in
    ap (λ t. if t then Err (OperatorLocalCombo operator version)
    else (if is_tilde operator && nat_lt (length version.release) 2 then Err CompatibleRelease else Ok made))
    (no_local version.local (takes_local operator) b.local)
    ∙ ap (λ t. if t then Err CompatibleRelease else Ok made)
    (enough (is_tilde operator) (length version.release) b.numbers)

-- the sign of an operator, without its star
abbrev sign_of : Operator → MarkerOperator
sign_of versions.Equal = Equal
sign_of versions.EqualStar = Equal
sign_of versions.ExactEqual = Equal
sign_of versions.NotEqual = NotEqual
sign_of versions.NotEqualStar = NotEqual
sign_of versions.TildeEqual = TildeEqual
sign_of versions.LessThan = LessThan
sign_of versions.LessThanEqual = LessEqual
sign_of versions.GreaterThan = GreaterThan
sign_of versions.GreaterThanEqual = GreaterEqual

abbrev pub pattern_says : Operator → VersionRecord → List ℕ
pattern_says operator version = version_text version ++ star_text operator

starless : (version : VersionRecord) → IsPrintable version →
    pattern_of (version_text version ++ []) ≡ Some (record { version = version; wildcard = false })
starless version i = ap pattern_of (append-nil (version_text version)) ∙ version_pattern version i

module _ (version : VersionRecord) (i : IsPrintable version) where
  abbrev made : Operator → SpecifierRecord
  made operator = record { operator = operator; version = version }

  behind_plain : (operator : Operator) (marked : MarkerOperator) → specifier_operator marked ≡ Some operator →
      IsBuilt (made operator) → specifier_behind marked (version_text version ++ []) ≡ Some (made operator)
  behind_plain operator marked is b =
      ap (option_and_then (λ pattern. option_and_then (λ s. result_ok (built_of_pattern s pattern))
      (specifier_operator marked))) (starless version i)
      ∙ ap (option_and_then (λ s. result_ok (built_of_pattern s (record { version = version; wildcard = false }))))
      is
      ∙ ap result_ok (built_is operator version b)

  behind_star : (operator starred : Operator) (marked : MarkerOperator) →
      is_star starred ≡ true → specifier_operator marked ≡ Some operator →
      built_of_pattern operator (record { version = version; wildcard = true }) ≡ built starred version →
      IsBuilt (made starred) → specifier_behind marked (version_text version ++ codes ".*") ≡ Some (made starred)
  behind_star operator starred marked star is same b =
      ap (option_and_then (λ pattern. option_and_then (λ s. result_ok (built_of_pattern s pattern))
      (specifier_operator marked))) (star_pattern version i (b.star star))
      ∙ ap (option_and_then (λ s. result_ok (built_of_pattern s (record { version = version; wildcard = true }))))
      is
      ∙ ap result_ok (same ∙ built_is starred version b)

  specifier_read : (operator : Operator) → operator ≢ versions.ExactEqual → IsBuilt (made operator) →
      specifier_behind (sign_of operator) (pattern_says operator version) ≡ Some (made operator)
  specifier_read versions.Equal n b = behind_plain versions.Equal Equal refl b
  specifier_read versions.EqualStar n b = behind_star versions.Equal versions.EqualStar Equal refl refl refl b
  specifier_read versions.ExactEqual n b = absurd (n refl)
  specifier_read versions.NotEqual n b = behind_plain versions.NotEqual NotEqual refl b
  specifier_read versions.NotEqualStar n b =
      behind_star versions.NotEqual versions.NotEqualStar NotEqual refl refl refl b
  specifier_read versions.TildeEqual n b = behind_plain versions.TildeEqual TildeEqual refl b
  specifier_read versions.LessThan n b = behind_plain versions.LessThan LessThan refl b
  specifier_read versions.LessThanEqual n b = behind_plain versions.LessThanEqual LessEqual refl b
  specifier_read versions.GreaterThan n b = behind_plain versions.GreaterThan GreaterThan refl b
  specifier_read versions.GreaterThanEqual n b = behind_plain versions.GreaterThanEqual GreaterEqual refl b

compared_sign : (key : MarkerValueVersion) (operator : Operator) (text : List ℕ) →
    compared (VersionKey key) (written_as (sign_of operator)) (Quoted text)
    ≡ of_specifier key (specifier_behind (sign_of operator) text)
unfolding compared
compared_sign key versions.Equal text = refl
compared_sign key versions.EqualStar text = refl
compared_sign key versions.ExactEqual text = refl
compared_sign key versions.NotEqual text = refl
compared_sign key versions.NotEqualStar text = refl
compared_sign key versions.TildeEqual text = refl
compared_sign key versions.LessThan text = refl
compared_sign key versions.LessThanEqual text = refl
compared_sign key versions.GreaterThan text = refl
compared_sign key versions.GreaterThanEqual text = refl

signs_are : (operator : Operator) → operator ≢ versions.ExactEqual →
    operator_text operator ≡ marker_operator_text (sign_of operator)
signs_are versions.Equal n = refl
signs_are versions.EqualStar n = refl
signs_are versions.ExactEqual n = absurd (n refl)
signs_are versions.NotEqual n = refl
signs_are versions.NotEqualStar n = refl
signs_are versions.TildeEqual n = refl
signs_are versions.LessThan n = refl
signs_are versions.LessThanEqual n = refl
signs_are versions.GreaterThan n = refl
signs_are versions.GreaterThanEqual n = refl

pub plain_star : (operator : Operator) → Plain (star_text operator)
plain_star versions.Equal = tt
plain_star versions.EqualStar = (refl, (refl, tt))
plain_star versions.ExactEqual = tt
plain_star versions.NotEqual = tt
plain_star versions.NotEqualStar = (refl, (refl, tt))
plain_star versions.TildeEqual = tt
plain_star versions.LessThan = tt
plain_star versions.LessThanEqual = tt
plain_star versions.GreaterThan = tt
plain_star versions.GreaterThanEqual = tt

pub plain_quotable : (text : List ℕ) → Plain text → IsQuotable text
plain_quotable text p = record {
  encoded = IsUtf8-from_ascii text (plain_ascii text p);
  unquoted = subst (All (λ c. (c == 39) ≡ false)) (sym (ascii_chars text (plain_ascii text p)))
      (at_places (λ c. c == 39) text (plain_unquoted text p));
}

version_read_back : (key : MarkerValueVersion) (specifier : SpecifierRecord) (rest : List ℕ) →
    IsReadable (Version key specifier) →
    IsComparisonText (chars (expression_text (Version key specifier)) ++ rest)
    (marker_of (Version key specifier)) rest
version_read_back key specifier rest h =
    let text = pattern_says specifier.operator specifier.version in
    let plain : Plain text = plain_append (version_text specifier.version) (star_text specifier.operator)
    (plain_version specifier.version h.0.printed.printable) (plain_star specifier.operator) in
    let found : compared (VersionKey key) (written_as (sign_of specifier.operator)) (Quoted text)
    ≡ record { said = Some (Version key specifier); warned = [] } =
    compared_sign key specifier.operator text
    ∙ ap (of_specifier key)
    (specifier_read specifier.version h.0.printed.printable specifier.operator h.0.in_markers h.0.printed.built) in
    subst (λ signs. IsComparisonText (chars (term_text (version_key_name key) signs text) ++ rest)
    (marker_of (Version key specifier)) rest)
    (sym (signs_are specifier.operator h.0.in_markers))
    (term_read (version_key_name key) (VersionKey key) (version_named key) (sign_of specifier.operator) text
    (plain_quotable text plain) (marker_of (Version key specifier)) rest
    (said_so (Version key specifier) [] (compared (VersionKey key) (written_as (sign_of specifier.operator))
    (Quoted text)) rest h.1 found))

-- ---- texts

text_points : (key : MarkerValueString) (operator : MarkerOperator) (text : List ℕ) →
    has_points (String key operator text) ≡ true
unfolding has_points
text_points key operator text = refl

module _ (key : MarkerValueString) (text rest : List ℕ) (modern : is_deprecated key ≡ false)
    (q : IsQuotable text) where
  abbrev text_marker : MarkerOperator → Marker
  text_marker operator = marker_of (String key operator text)

  forward : (operator : MarkerOperator) →
      compared (TextKey key) (written_as operator) (Quoted text)
      ≡ record { said = Some (String key operator text); warned = [] } →
      IsComparisonText (chars (term_text (text_key_name key) (marker_operator_text operator) text) ++ rest)
      (text_marker operator) rest
  forward operator is =
      term_read (text_key_name key) (TextKey key) (text_named key modern) operator text q (text_marker operator)
      rest
      (said_so (String key operator text) [] (compared (TextKey key) (written_as operator) (Quoted text)) rest
      (text_points key operator text) is)

  backward : (operator : MarkerOperator) → IsBefore ends_key rest →
      compared (Quoted text) (written_as operator) (TextKey key)
      ≡ record { said = Some (String key operator text); warned = [] } →
      IsComparisonText (chars (turned_text (text_key_name key) (marker_operator_text operator) text) ++ rest)
      (text_marker operator) rest
  backward operator ends is =
      turned_read (text_key_name key) (TextKey key) (text_named key modern) operator text q
      (text_marker operator) rest ends
      (said_so (String key operator text) [] (compared (Quoted text) (written_as operator) (TextKey key)) rest
      (text_points key operator text) is)

  text_read_back : (operator : MarkerOperator) → operator ≢ TildeEqual → IsBefore ends_key rest →
      IsComparisonText (chars (string_text operator (text_key_name key) text) ++ rest) (text_marker operator) rest
  unfolding compared
  text_read_back Equal n ends = forward Equal refl
  text_read_back NotEqual n ends = forward NotEqual refl
  text_read_back GreaterThan n ends = forward GreaterThan refl
  text_read_back GreaterEqual n ends = forward GreaterEqual refl
  text_read_back LessThan n ends = forward LessThan refl
  text_read_back LessEqual n ends = forward LessEqual refl
  text_read_back TildeEqual n ends = absurd (n refl)
  text_read_back In n ends = forward In refl
  text_read_back NotIn n ends = forward NotIn refl
  text_read_back Contains n ends = backward Contains ends refl
  text_read_back NotContains n ends = backward NotContains ends refl

-- ---- extras

plain_name_byte : (b : ℕ) → is_name_byte b ≡ true → is_plain b ≡ true
plain_name_byte b h = grind (arith, nat_tests)

name_test : (text name : List ℕ) (b : Bool) → is_name text ≡ b →
    (if b then Some (normal_name text) else None) ≡ Some name → is_name text ≡ true
name_test text name true is h = is
name_test text name false is h = absurd (cc)

named_bytes : (text name : List ℕ) → name_of text ≡ Some name → is_name text ≡ true
unfolding name_of
named_bytes text name h = name_test text name (is_name text) refl h

pub plain_name : (text name : List ℕ) → name_of text ≡ Some name → Plain text
plain_name text name h =
    let all = and_parts (list_all is_name_byte text && is_alphanumeric_at text 0)
    (is_alphanumeric_at text (length text - 1)) (named_bytes text name h) in
    let bytes = and_parts (list_all is_name_byte text) (is_alphanumeric_at text 0) all.0 in
    all_weaker (λ b. is_name_byte b ≡ true) (λ b. is_plain b ≡ true) plain_name_byte text
    (all_from is_name_byte text bytes.0)

pub extra_points : (operator : ExtraOperator) (asked : ExtraRecord) → has_points (Extra operator asked) ≡ true
unfolding has_points
extra_points operator asked = refl

abbrev Shown : ExtraRecord → Type 0
Shown asked = (extra_of (name_of (extra_text asked)) (extra_text asked) ≡ asked)
    × ((compared : Compared) → warned_of_name (name_of (extra_text asked)) compared
    ≡ record compared { warned = warned_extra asked ++ compared.warned })

extra_shown : (asked : ExtraRecord) → IsReadableExtra asked → Shown asked
extra_shown (Name name) h =
    (ap (λ found. extra_of found name) h, λ compared. ap (λ found. warned_of_name found compared) h)
extra_shown (Arbitrary text) h =
    (ap (λ found. extra_of found text) h.0, λ compared. ap (λ found. warned_of_name found compared) h.0)

extra_quotable : (asked : ExtraRecord) → IsReadableExtra asked → IsQuotable (extra_text asked)
extra_quotable (Name name) h = plain_quotable name (plain_name name name h)
extra_quotable (Arbitrary text) h = h.1

extra_by : (sign : MarkerOperator) (operator : ExtraOperator) (asked : ExtraRecord) (rest : List ℕ) →
    extra_operator (written_as sign) ≡ Some operator → extra_operator_text operator ≡ marker_operator_text sign →
    IsReadableExtra asked →
    IsComparisonText (chars (expression_text (Extra operator asked)) ++ rest) (marker_of (Extra operator asked))
    rest
unfolding compared
extra_by sign operator asked rest is same h =
    let term : ExpressionRecord = Extra operator asked in
    let text = extra_text asked in
    let shown : Shown asked = extra_shown asked h in
    let found : extra_compared (written_as sign) text ≡ record { said = Some term; warned = warned_extra asked } =
    ap (λ extra. warned_of_name (name_of text) (of_extra extra (extra_operator (written_as sign)))) shown.0
    ∙ ap (λ found. warned_of_name (name_of text) (of_extra asked found)) is
    ∙ shown.1 (record { said = Some term; warned = [] })
    ∙ ap (λ warned. record { said = Some term; warned = warned }) (append-nil (warned_extra asked)) in
    subst (λ signs. IsComparisonText (chars (term_text (codes "extra") signs text) ++ rest) (marker_of term) rest)
    (sym same)
    (term_read (codes "extra") ExtraKey extra_named sign text (extra_quotable asked h) (marker_of term) rest
    (said_so term (warned_extra asked) (compared ExtraKey (written_as sign) (Quoted text)) rest
    (extra_points operator asked) found))

extra_read_back : (operator : ExtraOperator) (asked : ExtraRecord) (rest : List ℕ) → IsReadableExtra asked →
    IsComparisonText (chars (expression_text (Extra operator asked)) ++ rest) (marker_of (Extra operator asked))
    rest
extra_read_back extras.Equal asked rest h = extra_by Equal extras.Equal asked rest refl refl h
extra_read_back extras.NotEqual asked rest h = extra_by NotEqual extras.NotEqual asked rest refl refl h

-- ---- all

-- a printed comparison, before something that ends a key
pub comparison_read : (term : ExpressionRecord) (rest : List ℕ) → IsReadable term → IsBefore ends_key rest →
    IsComparisonText (chars (expression_text term) ++ rest) (marker_of term) rest
comparison_read (Version key specifier) rest h ends = version_read_back key specifier rest h
comparison_read (VersionIn key versions negated) rest h ends = absurd h
comparison_read (String key operator text) rest h ends = text_read_back key text rest h.0 h.2 operator h.1 ends
comparison_read (Extra operator asked) rest h ends = extra_read_back operator asked rest h

-- ---- the text is UTF-8

pub term_utf8 : (key operator value : List ℕ) → IsAscii key → IsAscii operator → IsUtf8 value →
    IsUtf8 (term_text key operator value)
term_utf8 key operator value k o u =
    let ascii = λ (bs : List ℕ) (a : IsAscii bs). IsUtf8-from_ascii bs a in
    let quotes : IsUtf8 (value ++ (39 ∷ [])) =
    IsUtf8-append value (39 ∷ []) u (ascii (39 ∷ []) (ascii_by (39 ∷ []) refl)) in
    let last : IsUtf8 (operator ++ (32 ∷ (39 ∷ (value ++ (39 ∷ []))))) =
    IsUtf8-append operator (32 ∷ (39 ∷ (value ++ (39 ∷ [])))) (ascii operator o)
    (IsUtf8-append (32 ∷ 39 ∷ []) (value ++ (39 ∷ [])) (ascii (32 ∷ 39 ∷ []) (ascii_by (32 ∷ 39 ∷ []) refl)) quotes)
    in
    subst IsUtf8 (sym (in_order key operator value))
    (IsUtf8-append key (32 ∷ (operator ++ (32 ∷ (39 ∷ (value ++ (39 ∷ [])))))) (ascii key k)
    (IsUtf8-append (32 ∷ []) (operator ++ (32 ∷ (39 ∷ (value ++ (39 ∷ []))))) (ascii (32 ∷ []) (ascii_by (32 ∷ []) refl))
    last))

turned_utf8 : (key operator value : List ℕ) → IsAscii key → IsAscii operator → IsUtf8 value →
    IsUtf8 (turned_text key operator value)
turned_utf8 key operator value k o u =
    let ascii = λ (bs : List ℕ) (a : IsAscii bs). IsUtf8-from_ascii bs a in
    let behind : IsUtf8 (39 ∷ (32 ∷ (operator ++ (32 ∷ key)))) =
    IsUtf8-append (39 ∷ 32 ∷ []) (operator ++ (32 ∷ key)) (ascii (39 ∷ 32 ∷ []) (ascii_by (39 ∷ 32 ∷ []) refl))
    (IsUtf8-append operator (32 ∷ key) (ascii operator o)
    (IsUtf8-append (32 ∷ []) key (ascii (32 ∷ []) (ascii_by (32 ∷ []) refl)) (ascii key k))) in
    subst IsUtf8 (sym (turned_in_order key operator value))
    (IsUtf8-append (39 ∷ []) (value ++ (39 ∷ (32 ∷ (operator ++ (32 ∷ key))))) (ascii (39 ∷ []) (ascii_by (39 ∷ []) refl))
    (IsUtf8-append value (39 ∷ (32 ∷ (operator ++ (32 ∷ key)))) u behind))

string_utf8 : (operator : MarkerOperator) (name text : List ℕ) → IsAscii name → IsUtf8 text →
    IsUtf8 (string_text operator name text)
string_utf8 Equal name text n u = term_utf8 name (marker_operator_text Equal) text n (operator_ascii Equal) u
string_utf8 NotEqual name text n u = term_utf8 name (marker_operator_text NotEqual) text n (operator_ascii NotEqual) u
string_utf8 GreaterThan name text n u =
    term_utf8 name (marker_operator_text GreaterThan) text n (operator_ascii GreaterThan) u
string_utf8 GreaterEqual name text n u =
    term_utf8 name (marker_operator_text GreaterEqual) text n (operator_ascii GreaterEqual) u
string_utf8 LessThan name text n u = term_utf8 name (marker_operator_text LessThan) text n (operator_ascii LessThan) u
string_utf8 LessEqual name text n u =
    term_utf8 name (marker_operator_text LessEqual) text n (operator_ascii LessEqual) u
string_utf8 TildeEqual name text n u =
    term_utf8 name (marker_operator_text TildeEqual) text n (operator_ascii TildeEqual) u
string_utf8 In name text n u = term_utf8 name (marker_operator_text In) text n (operator_ascii In) u
string_utf8 NotIn name text n u = term_utf8 name (marker_operator_text NotIn) text n (operator_ascii NotIn) u
string_utf8 Contains name text n u = turned_utf8 name (marker_operator_text Contains) text n (operator_ascii Contains) u
string_utf8 NotContains name text n u =
    turned_utf8 name (marker_operator_text NotContains) text n (operator_ascii NotContains) u

signs_ascii : (operator : Operator) → IsAscii (operator_text operator)
signs_ascii versions.Equal = ascii_by (codes "==") refl
signs_ascii versions.EqualStar = ascii_by (codes "==") refl
signs_ascii versions.ExactEqual = ascii_by (codes "===") refl
signs_ascii versions.NotEqual = ascii_by (codes "!=") refl
signs_ascii versions.NotEqualStar = ascii_by (codes "!=") refl
signs_ascii versions.TildeEqual = ascii_by (codes "~=") refl
signs_ascii versions.LessThan = ascii_by (codes "<") refl
signs_ascii versions.LessThanEqual = ascii_by (codes "<=") refl
signs_ascii versions.GreaterThan = ascii_by (codes ">") refl
signs_ascii versions.GreaterThanEqual = ascii_by (codes ">=") refl

pub extra_signs_ascii : (operator : ExtraOperator) → IsAscii (extra_operator_text operator)
extra_signs_ascii extras.Equal = ascii_by (codes "==") refl
extra_signs_ascii extras.NotEqual = ascii_by (codes "!=") refl

pub comparison_utf8 : (term : ExpressionRecord) → IsReadable term → IsUtf8 (expression_text term)
comparison_utf8 (Version key specifier) h =
    let plain : Plain (pattern_says specifier.operator specifier.version) =
    plain_append (version_text specifier.version) (star_text specifier.operator)
    (plain_version specifier.version h.0.printed.printable) (plain_star specifier.operator) in
    term_utf8 (version_key_name key) (operator_text specifier.operator)
    (pattern_says specifier.operator specifier.version) (version_named key).ascii
    (signs_ascii specifier.operator) (plain_quotable (pattern_says specifier.operator specifier.version) plain).encoded
comparison_utf8 (VersionIn key versions negated) h = absurd h
comparison_utf8 (String key operator text) h =
    string_utf8 operator (text_key_name key) text (text_named key h.0).ascii h.2.encoded
comparison_utf8 (Extra operator asked) h =
    term_utf8 (codes "extra") (extra_operator_text operator) (extra_text asked) extra_named.ascii
    (extra_signs_ascii operator) (extra_quotable asked h).encoded
