-- A printed requirement is the text of a requirement that says the same.
use Rattle.std.proofs.Common.{◌≡◌, ◌≢◌, ℕ, suc, ◌<◌, ◌==◌, Bool, true, false, length, List, [], ◌∷◌, ◌++◌}
use Rattle.std.proofs.Common.{Some, None, inl, inr, refl, ap, sym, subst, ◌∙◌, arith, append_assoc}
use Rattle.std.proofs.lemmas.List.{append-nil}
use Rattle.std.proofs.lemmas.Str.{chars-nil, IsAscii-append}
use Rattle.std.proofs.lemmas.Str.Ascii.{IsAscii-nil}
use Rattle.std.specs.List.{AllByRecursion, AllZip, join_with_byte}
use Rattle.std.specs.Prelude.{codes}
use Rattle.std.specs.Str.{chars, IsAscii}
use Rattle.pep440_operator.specs.declared.operator.Operator.{Operator}
use Rattle.pep440_operator.specs.declared.operator.Operator.TheVariants.{Equal, EqualStar, ExactEqual}
use Rattle.pep440_operator.specs.declared.operator.Operator.TheVariants.{NotEqual, NotEqualStar, TildeEqual}
use Rattle.pep440_operator.specs.declared.operator.Operator.TheVariants.{LessThan, LessThanEqual, GreaterThan}
use Rattle.pep440_operator.specs.declared.operator.Operator.TheVariants.{GreaterThanEqual}
use Rattle.pep440_operator.specs.OperatorPrint.{operator_text, star_text}
use Rattle.pep440_specifier.specs.Matching.{SpecifierRecord}
use Rattle.pep440_specifier.specs.SpecifierPrint.{specifier_text}
use Rattle.pep440_specifier_list.specs.ListText.{AreSpecifierTexts, list_value_text}
use Rattle.pep440_text.specs.Print.{version_text}
use Rattle.pep508_name.specs.Name.{name_of}
use Rattle.pep508_diagram.specs.Diagram.{Diagram, Leaf, Test}
use Rattle.pep508_diagram.specs.Question.{Question, IsCanonical}
use Rattle.pep508_marker_parser.specs.MarkerReading.{Marker, And, Or}
use Rattle.pep508_marker_parser.specs.MarkerText.{IsJoined, IsFormulaText, IsMarkerText}
use Rattle.pep508_error.proofs.Cuts.{at_places}
use Rattle.pep508_marker_text_laws.specs.MarkerText.{clauses_text, disjunction, marker_text}
use Rattle.pep508_requirement_text.specs.FrontReading.{Front, begins_operator}
use Rattle.pep508_requirement_text.specs.FrontReading as front
use Rattle.pep508_requirement_text.specs.FrontReading.Source.{Any, Specifiers, Url}
use Rattle.pep508_requirement_text.specs.FrontText.{IsSpacedName, IsExtrasText, IsBeforeMarker, IsOpenList}
use Rattle.pep508_requirement_text.specs.FrontText.{IsFrontText}
use Rattle.pep508_error.specs.Cuts.{begins_by}
use Rattle.pep508_requirement.specs.MarkerBehind.{no_marker}
use Rattle.pep508_requirement.specs.RequirementText.{IsMarkedText}
use Rattle.pep508_reading_back.specs.Diagrams.{IsReadableDiagram}
use Rattle.pep508_reading_back.specs.Readable.{IsPrintableSpecifier}
use Rattle.pep508_reading_back.specs.ReadableRequirements.{IsReadableFront, ReadsRequirement}
use Rattle.pep508_requirement_ref.specs.RequirementPrint.{extras_text, front_text, requirement_text}
use Rattle.pep508_reading_back.proofs.Plain.{plain_ascii, ascii_by, ascii_encoded, front_chars}
use Rattle.pep508_reading_back.proofs.Comparisons.{plain_name}
use Rattle.pep508_reading_back.proofs.Dotless.{no_archive}
use Rattle.pep508_reading_back.proofs.Joining.{Leads, joined_leads}
use Rattle.pep508_reading_back.proofs.JoinedClauses.{Part, either_leads}
use Rattle.pep508_reading_back.proofs.Diagrams.{text_read}
use Rattle.pep508_reading_back.proofs.Specifiers.{Listed, plain_are_listed, listed_ascii, listed_no_end}
use Rattle.pep508_reading_back.proofs.Specifiers.{listed_append, AreBlanks, list_is, list_listed}

-- ---- extras

abbrev pub AreNormal : List (List ℕ) → Type 0
AreNormal = AllByRecursion (λ name. name_of name ≡ Some name)

name_listed : (name : List ℕ) → name_of name ≡ Some name → Listed name
name_listed name h = plain_are_listed name (plain_name name name h)

pub names_listed : (names : List (List ℕ)) → AreNormal names → Listed (join_with_byte 44 names)
names_listed [] h = tt
names_listed (name ∷ []) h = name_listed name h.0
names_listed (name ∷ next ∷ names) h =
    listed_append name (44 ∷ join_with_byte 44 (next ∷ names)) (name_listed name h.0)
    (refl, names_listed (next ∷ names) h.1)

are_spaced : (names : List (List ℕ)) → AreNormal names → AllZip IsSpacedName names names
are_spaced [] h = tt
are_spaced (name ∷ names) h = (
  record {
    before = [];
    written = name;
    after = [];
    split = sym (append-nil name);
    spaces_before = tt;
    is_name = h.0;
    spaces_after = tt;
  },
  are_spaced names h.1,
)

extras_are : (extras : List (List ℕ)) → AreNormal extras → IsExtrasText (extras_text extras) extras
extras_are [] h = inl (refl, refl)
extras_are (name ∷ names) h =
    inr (
      join_with_byte 44 (name ∷ names),
      refl,
      inr (record {
        pieces = name ∷ names;
        joined = refl;
        are_names = are_spaced (name ∷ names) h;
        nonempty = omega arith;
      }),
    )

extras_ascii : (extras : List (List ℕ)) → AreNormal extras → IsAscii (extras_text extras)
extras_ascii [] h = IsAscii-nil
extras_ascii (name ∷ names) h =
    let inside = join_with_byte 44 (name ∷ names) in
    IsAscii-append (codes "[" ++ inside) (codes "]")
    (IsAscii-append (codes "[") inside (ascii_by (codes "[") refl)
    (listed_ascii inside (names_listed (name ∷ names) h)))
    (ascii_by (codes "]") refl)

-- ---- specifiers

begins_front : (test : ℕ → Bool) (xs ys : List ℕ) → begins_by test xs ≡ true → begins_by test (xs ++ ys) ≡ true
begins_front test [] ys h = absurd (cc)
begins_front test (x ∷ xs) ys h = h

begins_by_sign : (operator : Operator) → begins_by begins_operator (operator_text operator) ≡ true
begins_by_sign Equal = refl
begins_by_sign EqualStar = refl
begins_by_sign ExactEqual = refl
begins_by_sign NotEqual = refl
begins_by_sign NotEqualStar = refl
begins_by_sign TildeEqual = refl
begins_by_sign LessThan = refl
begins_by_sign LessThanEqual = refl
begins_by_sign GreaterThan = refl
begins_by_sign GreaterThanEqual = refl

specifier_begins : (specifier : SpecifierRecord) (behind : List ℕ) →
    begins_by begins_operator (specifier_text specifier ++ behind) ≡ true
specifier_begins specifier behind =
    let signs = operator_text specifier.operator in
    let version = version_text specifier.version in
    begins_front begins_operator (signs ++ version ++ star_text specifier.operator) behind
    (begins_front begins_operator (signs ++ version) (star_text specifier.operator)
    (begins_front begins_operator signs version (begins_by_sign specifier.operator)))

list_begins : (given : List SpecifierRecord) (blanks : List ℕ) → 0 < length given →
    begins_by begins_operator (list_value_text given ++ blanks) ≡ true
list_begins [] blanks h = absurd (omega arith)
list_begins (specifier ∷ []) blanks h = specifier_begins specifier blanks
list_begins (specifier ∷ next ∷ given) blanks h =
    begins_front begins_operator (specifier_text specifier ++ (44 ∷ list_value_text (next ∷ given))) blanks
    (specifier_begins specifier (44 ∷ list_value_text (next ∷ given)))

open_list : (given : List SpecifierRecord) (blanks rest : List ℕ) → 0 < length given →
    AllByRecursion IsPrintableSpecifier given → AreBlanks blanks → IsBeforeMarker rest →
    IsOpenList (list_value_text given ++ blanks) rest given
open_list given blanks rest some h b before =
    let text = list_value_text given ++ blanks in
    let listed : Listed text = listed_append (list_value_text given) blanks (list_listed given h) b.listed in
    record {
      begins = list_begins given blanks some;
      whole = at_places (λ c. c == 59) text (listed_no_end text listed);
      are_specifiers = subst (λ bytes. AreSpecifierTexts bytes given)
          (sym (ascii_encoded text (listed_ascii text listed))) (list_is blanks given some h b);
      before_marker = before;
    }

-- ---- fronts

any_split : (name extras blanks rest : List ℕ) →
    (name ++ extras ++ []) ++ (blanks ++ rest) ≡ name ++ (extras ++ (blanks ++ rest))
any_split name extras blanks rest = simp append_assoc

list_split : (name extras given blanks rest : List ℕ) →
    (name ++ extras ++ given) ++ (blanks ++ rest) ≡ name ++ (extras ++ ((given ++ blanks) ++ rest))
list_split name extras given blanks rest = simp append_assoc

module _ (blanks behind rest : List ℕ) (b : AreBlanks blanks) (is : chars behind ≡ rest)
    (before : IsBeforeMarker rest) where
  front_chars_are : (front : List ℕ) → IsAscii front →
      chars (front ++ (blanks ++ behind)) ≡ front ++ (blanks ++ rest)
  front_chars_are front a =
      front_chars front (blanks ++ behind) a
      ∙ ap (λ cs. front ++ cs) (front_chars blanks behind (listed_ascii blanks b.listed)
      ∙ ap (λ cs. blanks ++ cs) is)

  named_ascii : (name : List ℕ) (extras : List (List ℕ)) → name_of name ≡ Some name → AreNormal extras →
      IsAscii (name ++ extras_text extras)
  named_ascii name extras n e =
      IsAscii-append name (extras_text extras) (plain_ascii name (plain_name name name n)) (extras_ascii extras e)

  any_read : (name : List ℕ) (extras : List (List ℕ)) → name_of name ≡ Some name → AreNormal extras →
      IsFrontText (front_text (record { name = name; extras = extras; source = Any }) ++ (blanks ++ behind))
      (record { name = name; extras = extras; source = Any }) rest
  any_read name extras n e =
      let text = name ++ extras_text extras ++ [] in
      let ascii : IsAscii text = IsAscii-append (name ++ extras_text extras) [] (named_ascii name extras n e) IsAscii-nil in
      record {
        before = [];
        written = name;
        behind_name = [];
        brackets = extras_text extras;
        behind_extras = blanks;
        asked = [];
        split = front_chars_are text ascii ∙ any_split name (extras_text extras) blanks rest;
        spaces_before = tt;
        is_name = n;
        spaces_behind_name = tt;
        are_extras = extras_are extras e;
        spaces_behind_extras = b.spaces;
        is_source = (refl, before, no_archive name name n);
      }

  list_read : (name : List ℕ) (extras : List (List ℕ)) (given : List SpecifierRecord) → name_of name ≡ Some name →
      AreNormal extras → 0 < length given → AllByRecursion IsPrintableSpecifier given →
      IsFrontText
      (front_text (record { name = name; extras = extras; source = Specifiers given }) ++ (blanks ++ behind))
      (record { name = name; extras = extras; source = Specifiers given }) rest
  list_read name extras given n e some h =
      let text = name ++ extras_text extras ++ list_value_text given in
      let ascii : IsAscii text =
      IsAscii-append (name ++ extras_text extras) (list_value_text given) (named_ascii name extras n e)
      (listed_ascii (list_value_text given) (list_listed given h)) in
      record {
        before = [];
        written = name;
        behind_name = [];
        brackets = extras_text extras;
        behind_extras = [];
        asked = list_value_text given ++ blanks;
        split = front_chars_are text ascii
            ∙ list_split name (extras_text extras) (list_value_text given) blanks rest;
        spaces_before = tt;
        is_name = n;
        spaces_behind_name = tt;
        are_extras = extras_are extras e;
        spaces_behind_extras = tt;
        is_source = inr (open_list given blanks rest some h b before);
      }

  source_read : (name : List ℕ) (extras : List (List ℕ)) (source : front.Source) →
      IsReadableFront (record { name = name; extras = extras; source = source }) →
      IsFrontText (front_text (record { name = name; extras = extras; source = source }) ++ (blanks ++ behind))
      (record { name = name; extras = extras; source = source }) rest
  source_read name extras Any h = any_read name extras h.is_name h.are_names
  source_read name extras (Specifiers given) h =
      list_read name extras given h.is_name h.are_names h.is_source.0 h.is_source.1
  source_read name extras (Url url) h = absurd h.is_source

  front_read : (asked : Front) → IsReadableFront asked →
      IsFrontText (front_text asked ++ (blanks ++ behind)) asked rest
  front_read asked h = source_read asked.name asked.extras asked.source h

-- ---- markers

formula_leads : (depth : ℕ) → Leads (IsFormulaText (suc depth))
formula_leads depth cs marker rest h = record {
  first = h.first;
  others = h.others;
  are_joined = joined_leads Or (IsJoined And (Part depth)) (either_leads depth) cs (h.first ∷ h.others) rest
      h.are_joined;
  joined = h.joined;
}

marker_led : (cs : List ℕ) (marker : Marker) → IsMarkerText cs marker → IsMarkerText (32 ∷ cs) marker
marker_led cs marker h = (h.0, formula_leads 255 cs marker h.0 h.1, h.2)

-- ---- requirements

no_blanks : AreBlanks []
no_blanks = record { spaces = tt; listed = tt }

one_blank : AreBlanks (32 ∷ [])
one_blank = record { spaces = (refl, tt); listed = (refl, tt) }

pub unmarked_read : (asked : Front) → IsReadableFront asked → IsMarkedText (requirement_text asked None) asked no_marker
unmarked_read asked h =
    ([], front_read [] [] [] no_blanks chars-nil (inl refl) asked h, inl (tt, refl))

pub marked_read : (asked : Front) (text : List ℕ) (marker : Marker) → IsReadableFront asked →
    IsMarkerText (chars text) marker → IsMarkedText (requirement_text asked (Some text)) asked marker
marked_read asked text marker h m =
    let rest : List ℕ = 59 ∷ 32 ∷ chars text in (
      rest,
      front_read (32 ∷ []) (59 ∷ 32 ∷ text) rest one_blank
          (front_chars (59 ∷ 32 ∷ []) text (ascii_by (59 ∷ 32 ∷ []) refl)) (inr refl) asked h,
      inr ([], 32 ∷ chars text, refl, tt, marker_led (chars text) marker m),
    )

-- a requirement with the marker of a diagram
pub requirement_read : (asked : Front) (d : Diagram Question) → IsReadableFront asked → IsCanonical d →
    IsReadableDiagram d → d ≢ Leaf false → ReadsRequirement (requirement_text asked (marker_text d)) asked d
requirement_read asked (Leaf true) h c r k = (no_marker, unmarked_read asked h, λ v. refl)
requirement_read asked (Leaf false) h c r k = absurd (k refl)
requirement_read asked (Test q low high) h c r k =
    let d : Diagram Question = Test q low high in
    let text = clauses_text (disjunction d) in
    let read = text_read d text c r k refl in
    (read.0, marked_read asked text read.0 h read.1, read.2)
