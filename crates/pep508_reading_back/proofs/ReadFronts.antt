-- What a requirement that was read asks for before its marker can be printed and read again.
use Rattle.std.proofs.Common.{◌≡◌, ℕ, ◌<◌, ◌&&◌, not, cond, Bool, true, false, if◌then◌else◌, length, List}
use Rattle.std.proofs.Common.{[], ◌∷◌, Option, Some, None, Result, Ok, Err, inl, inr, ap, sym, subst, arith}
use Rattle.std.proofs.lemmas.List.Elements.{recursion_from_All}
use Rattle.std.specs.List.{AllByRecursion, AllZip}
use Rattle.std.specs.Prelude.{nat_lt}
use Rattle.pep440_operator.specs.declared.operator.Operator.{Operator}
use Rattle.pep440_operator.specs.Operators.{is_tilde, starred, takes_local}
use Rattle.pep440_text.specs.Printable.{IsPrintable}
use Rattle.pep440_text.specs.Record.{VersionRecord}
use Rattle.pep440_text.specs.Text.{IsStarText, IsVersionText}
use Rattle.pep440_text.proofs.PrintedSegments.{local_printable}
use Rattle.pep440_version.specs.Changes.{has_local}
use Rattle.pep440_specifier.specs.declared.build_error.VersionSpecifierBuildError.TheVariants.{OperatorLocalCombo}
use Rattle.pep440_specifier.specs.declared.build_error.VersionSpecifierBuildError.TheVariants.{CompatibleRelease}
use Rattle.pep440_specifier.specs.Building.{built, built_starred}
use Rattle.pep440_specifier.specs.Matching.{SpecifierRecord}
use Rattle.pep440_specifier.specs.SpecifierText.{IsSpecifierText}
use Rattle.pep440_specifier.proofs.Said.{text_is_built}
use Rattle.pep440_specifier_list.specs.Lists.{IsByVersion, IsInOrder}
use Rattle.pep440_specifier_list.specs.ListText.{AreSpecifierTexts}
use Rattle.pep440_specifier_list.proofs.Members.{all_in_order}
use Rattle.pep508_name.specs.Name.{name_of}
use Rattle.pep508_name.proofs.Again.{normal_again}
use Rattle.pep508_requirement_text.specs.FrontReading.{Source, Front}
use Rattle.pep508_requirement_text.specs.FrontReading.Source.{Any, Specifiers, Url}
use Rattle.pep508_requirement_text.specs.FrontText.{IsSpacedName, IsInside, IsExtrasText, IsSourceText}
use Rattle.pep508_requirement_text.specs.FrontText.{IsFrontText}
use Rattle.pep508_requirement.specs.declared.version_or_url.VersionOrUrl.{VersionOrUrl}
use Rattle.pep508_requirement.specs.declared.version_or_url.VersionOrUrl.TheVariants as asked
use Rattle.pep508_requirement.specs.RequirementReading.{AsksFor}
use Rattle.pep508_reading_back.specs.Readable.{IsPrintableSpecifier}
use Rattle.pep508_reading_back.specs.ReadableRequirements.{IsReadableSource, NamesNoUrl, IsReadableFront}
use Rattle.pep508_reading_back.specs.Views.{IsReadableAsked}
use Rattle.pep508_reading_back.specs.ReadViews.{AsksNoUrl}
use Rattle.pep508_reading_back.proofs.SortedLists.{some_kept}

-- ---- names

names_normal : (pieces names : List (List ℕ)) → AllZip IsSpacedName pieces names →
    AllByRecursion (λ name. name_of name ≡ Some name) names
names_normal [] [] h = tt
names_normal [] (name ∷ names) h = absurd h
names_normal (piece ∷ pieces) [] h = absurd h
names_normal (piece ∷ pieces) (name ∷ names) h =
    (normal_again h.0.written name h.0.is_name, names_normal pieces names h.1)

inside_normal : (inside : List ℕ) (names : List (List ℕ)) → IsInside inside names →
    AllByRecursion (λ name. name_of name ≡ Some name) names
inside_normal inside names (inl h) = subst (AllByRecursion (λ name. name_of name ≡ Some name)) (sym h.1) tt
inside_normal inside names (inr h) = names_normal h.pieces names h.are_names

pub extras_normal : (cs : List ℕ) (names : List (List ℕ)) → IsExtrasText cs names →
    AllByRecursion (λ name. name_of name ≡ Some name) names
extras_normal cs names (inl h) = subst (AllByRecursion (λ name. name_of name ≡ Some name)) (sym h.1) tt
extras_normal cs names (inr h) = inside_normal h.0 names h.2

-- ---- specifiers

star_printable : (text : List ℕ) (version : VersionRecord) → IsStarText text version → IsPrintable version
star_printable text version h = record {
  no_least = ap (λ v. v.least) h.is_plain;
  no_most = ap (λ v. v.most) h.is_plain;
  some_number = h.head.has_release.is_part.nonempty;
  fits = h.fits;
  segments = subst (AllByRecursion _) (sym (ap (λ (v : VersionRecord). v.local) h.is_plain)) tt;
}

version_printable : (text : List ℕ) (version : VersionRecord) → IsVersionText text version →
    IsPrintable version
version_printable text version h = record {
  no_least = h.no_least;
  no_most = h.no_most;
  some_number = h.head.has_release.is_part.nonempty;
  fits = h.fits;
  segments = local_printable h.local version.local h.has_local;
}

pattern_printable : (text : List ℕ) (version : VersionRecord) (wildcard : Bool) →
    cond wildcard (IsStarText text version) (IsVersionText text version) → IsPrintable version
pattern_printable text version true h = star_printable text version h
pattern_printable text version false h = version_printable text version h

of_tests : {E : Type 0} (made specifier : SpecifierRecord) (e f : E) (b c : Bool) →
    (if b then Err e else (if c then Err f else Ok made)) ≡ Ok specifier → specifier ≡ made
of_tests made specifier e f true c h = absurd (cc)
of_tests made specifier e f false true h = absurd (cc)
of_tests made specifier e f false false h = cc

built_version : (operator : Operator) (version : VersionRecord) (specifier : SpecifierRecord) →
    built operator version ≡ Ok specifier → specifier.version ≡ version
built_version operator version specifier h =
    ap (λ (s : SpecifierRecord). s.version)
    (of_tests (record { operator = operator; version = version }) specifier
    (OperatorLocalCombo operator version)
    CompatibleRelease (has_local version && not (takes_local operator))
    (is_tilde operator && nat_lt (length version.release) 2) h)

starred_version : (operator : Operator) (star : Option Operator) (version : VersionRecord)
    (specifier : SpecifierRecord) → built_starred operator star version ≡ Ok specifier →
    specifier.version ≡ version
starred_version operator None version specifier h = absurd (cc)
starred_version operator (Some star) version specifier h = built_version star version specifier h

same_version : (operator : Operator) (version : VersionRecord) (wildcard : Bool)
    (specifier : SpecifierRecord) →
    (if wildcard then built_starred operator (starred operator) version else built operator version)
    ≡ Ok specifier →
    specifier.version ≡ version
same_version operator version true specifier h =
    starred_version operator (starred operator) version specifier h
same_version operator version false specifier h = built_version operator version specifier h

specifier_printable : (text : List ℕ) (specifier : SpecifierRecord) → IsSpecifierText text specifier →
    IsPrintableSpecifier specifier
specifier_printable text specifier h = record {
  printable = subst IsPrintable
      (sym (same_version h.operator h.pattern.version h.pattern.wildcard specifier h.builds))
      (pattern_printable h.written h.pattern.version h.pattern.wildcard h.is_pattern);
  built = text_is_built text specifier h;
}

given_printable : (pieces : List (List ℕ)) (given : List SpecifierRecord) →
    AllZip IsSpecifierText pieces given →
    AllByRecursion IsPrintableSpecifier given
given_printable [] [] h = tt
given_printable [] (specifier ∷ given) h = absurd h
given_printable (piece ∷ pieces) [] h = absurd h
given_printable (piece ∷ pieces) (specifier ∷ given) h =
    (specifier_printable piece specifier h.0, given_printable pieces given h.1)

some_given : (pieces : List (List ℕ)) (given : List SpecifierRecord) → AllZip IsSpecifierText pieces given →
    0 < length pieces → 0 < length given
some_given [] given h some = absurd (omega arith)
some_given (piece ∷ pieces) [] h some = absurd h
some_given (piece ∷ pieces) (specifier ∷ given) h some = omega arith

specifiers_readable : (text : List ℕ) (given : List SpecifierRecord) → AreSpecifierTexts text given →
    IsReadableSource (Specifiers given)
specifiers_readable text given h = (
  some_given h.pieces given h.are_specifiers h.nonempty,
  given_printable h.pieces given h.are_specifiers,
)

abbrev IsAskedList : List SpecifierRecord → Type 0
IsAskedList list = (0 < length list) × IsByVersion list × AllByRecursion IsPrintableSpecifier list

listed_asked : (text : List ℕ) (given list : List SpecifierRecord) → AreSpecifierTexts text given →
    IsInOrder given list → IsAskedList list
listed_asked text given list h order = (
  some_kept given list (some_given h.pieces given h.are_specifiers h.nonempty) order,
  order.sorted,
  recursion_from_All IsPrintableSpecifier list
      (all_in_order IsPrintableSpecifier given list (given_printable h.pieces given h.are_specifiers) order),
)

-- ---- what is asked for

source_listed : (name cs rest : List ℕ) (given list : List SpecifierRecord) →
    IsSourceText name cs rest (Specifiers given) → IsInOrder given list →
    IsAskedList list
source_listed name cs rest given list (inl h) order = listed_asked _ given list h.are_specifiers order
source_listed name cs rest given list (inr h) order = listed_asked _ given list h.are_specifiers order

source_readable : (name cs rest : List ℕ) (source : Source) → IsSourceText name cs rest source →
    NamesNoUrl source → IsReadableSource source
source_readable name cs rest Any s n = tt
source_readable name cs rest (Specifiers given) (inl h) n = specifiers_readable _ given h.are_specifiers
source_readable name cs rest (Specifiers given) (inr h) n = specifiers_readable _ given h.are_specifiers
source_readable name cs rest (Url url) s n = absurd n

list_readable : (name cs rest : List ℕ) (given list : List SpecifierRecord) →
    IsSourceText name cs rest (Specifiers given) → IsInOrder given list → IsReadableSource (Specifiers list)
list_readable name cs rest given list s order =
    let listed = source_listed name cs rest given list s order in (listed.0, listed.2)

pub asked_readable : {T E : Type 0} (Reads : List ℕ → Result T E → Type 0) (name cs rest : List ℕ)
    (source : Source) (what : Option (VersionOrUrl T E)) → IsSourceText name cs rest source →
    AsksFor Reads source what →
    AsksNoUrl what → IsReadableAsked what
asked_readable Reads name cs rest source None s h n = tt
asked_readable Reads name cs rest source (Some (asked.Url url)) s h n = absurd n
asked_readable Reads name cs rest Any (Some (asked.VersionSpecifier list)) s h n = absurd h
asked_readable Reads name cs rest (Specifiers given) (Some (asked.VersionSpecifier list)) s h n =
    source_listed name cs rest given list s h
asked_readable Reads name cs rest (Url url) (Some (asked.VersionSpecifier list)) s h n = absurd h

-- ---- fronts

pub front_readable : (text : List ℕ) (front : Front) (rest : List ℕ) → IsFrontText text front rest →
    NamesNoUrl front.source → IsReadableFront front
front_readable text front rest is n = record {
  is_name = normal_again is.written front.name is.is_name;
  are_names = extras_normal is.brackets front.extras is.are_extras;
  is_source = source_readable is.written is.asked rest front.source is.is_source n;
}

-- also with its specifiers as a list keeps them
pub kept_readable : (text : List ℕ) (front : Front) (rest : List ℕ) (given list : List SpecifierRecord) →
    IsFrontText text front rest → front.source ≡ Specifiers given → IsInOrder given list →
    IsReadableFront (record front { source = Specifiers list })
kept_readable text front rest given list is same order = record {
  is_name = normal_again is.written front.name is.is_name;
  are_names = extras_normal is.brackets front.extras is.are_extras;
  is_source = list_readable is.written is.asked rest given list
      (subst (IsSourceText is.written is.asked rest) same is.is_source) order;
}
