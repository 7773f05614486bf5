-- What a text says as a specifier is one that may be built.
use Rattle.std.proofs.Common.{◌≡◌, ℕ, ◌≤◌, ◌&&◌, not, cond, Bool, true, false, if◌then◌else◌, List, [], ◌∷◌}
use Rattle.std.proofs.Common.{length, Option, Some, None, Result, Ok, Err, refl, ap, sym, subst, ◌∙◌, arith}
use Rattle.std.specs.Prelude.{nat_lt}
use Rattle.std.proofs.lemmas.Bool.Decides.{nat_tests}
use Rattle.pep440_version.specs.Record.{Segment, VersionRecord, PatternRecord}
use Rattle.pep440_version.specs.Changes.{has_segments, has_local}
use Rattle.pep440_version.specs.Text.{IsVersionText, IsStarText}
use Rattle.pep440_operator.specs.declared.operator.Operator.{Operator}
use Rattle.pep440_operator.specs.declared.operator.Operator.TheVariants.{Equal, EqualStar, ExactEqual}
use Rattle.pep440_operator.specs.declared.operator.Operator.TheVariants.{NotEqual, NotEqualStar, TildeEqual}
use Rattle.pep440_operator.specs.declared.operator.Operator.TheVariants.{LessThan, LessThanEqual}
use Rattle.pep440_operator.specs.declared.operator.Operator.TheVariants.{GreaterThan, GreaterThanEqual}
use Rattle.pep440_operator.specs.Operators.{is_star, takes_local, is_tilde, starred}
use Rattle.pep440_specifier.specs.declared.build_error.VersionSpecifierBuildError.{VersionSpecifierBuildError}
use Rattle.pep440_specifier.specs.declared.build_error.VersionSpecifierBuildError.TheVariants.{OperatorLocalCombo}
use Rattle.pep440_specifier.specs.declared.build_error.VersionSpecifierBuildError.TheVariants.{CompatibleRelease}
use Rattle.pep440_specifier.specs.Matching.{SpecifierRecord}
use Rattle.pep440_specifier.specs.Building.{IsStarVersion, IsBuilt, built, built_starred, built_of_pattern}
use Rattle.pep440_specifier.specs.SpecifierText.{IsSpecifierText}

no_segments : (segments : List Segment) → has_segments segments ≡ false → segments ≡ []
no_segments [] h = refl
no_segments (segment ∷ segments) h = absurd (cc)

not_both : (b takes : Bool) → (b && not takes) ≡ false → takes ≡ false → b ≡ false
not_both false takes h e = refl
not_both true true h e = absurd (cc)
not_both true false h e = absurd (cc)

two_numbers : (tilde : Bool) (count : ℕ) → (tilde && nat_lt count 2) ≡ false → tilde ≡ true → 2 ≤ count
two_numbers false count h e = absurd (cc)
two_numbers true count h e = grind (arith, nat_tests)

-- ---- an operator and a version

record IsOf (operator : Operator) (version : VersionRecord) (specifier : SpecifierRecord) : Type 0 where
  is : specifier ≡ record { operator = operator; version = version }
  may : IsBuilt specifier

built_by : (operator : Operator) (version : VersionRecord) (specifier : SpecifierRecord) (b c : Bool)
    → (has_local version && not (takes_local operator)) ≡ b
    → (is_tilde operator && nat_lt (length version.release) 2) ≡ c
    → (is_star operator ≡ true → IsStarVersion version)
    → (if b then Err (OperatorLocalCombo operator version)
    else (if c then Err CompatibleRelease else Ok (record { operator = operator; version = version })))
    ≡ Ok specifier
    → IsOf operator version specifier
built_by operator version specifier true c l n s h = absurd (cc)
built_by operator version specifier false true l n s h = absurd (cc)
built_by operator version specifier false false l n s h =
    let made : SpecifierRecord = record { operator = operator; version = version } in
    let same : specifier ≡ made = cc in
    let may : IsBuilt made = record {
      local = λ e. no_segments version.local (not_both (has_local version) (takes_local operator) l e);
      numbers = λ e. two_numbers (is_tilde operator) (length version.release) n e;
      star = s;
    } in
    record { is = same; may = subst IsBuilt (sym same) may }

built_is : (operator : Operator) (version : VersionRecord) (specifier : SpecifierRecord)
    → (is_star operator ≡ true → IsStarVersion version) → built operator version ≡ Ok specifier
    → IsOf operator version specifier
built_is operator version specifier s h = built_by operator version specifier _ _ refl refl s h

-- ---- an operator and a pattern

record IsOfText (version : VersionRecord) (specifier : SpecifierRecord) : Type 0 where
  same_version : specifier.version ≡ version
  may : IsBuilt specifier

of_version : (operator : Operator) (version : VersionRecord) (specifier : SpecifierRecord)
    → IsOf operator version specifier → IsOfText version specifier
of_version operator version specifier h = record { same_version = ap (λ s. s.version) h.is; may = h.may }

starred_is : (operator : Operator) (star : Option Operator) (version : VersionRecord) (specifier : SpecifierRecord)
    → IsStarVersion version → built_starred operator star version ≡ Ok specifier → IsOfText version specifier
starred_is operator None version specifier s h = absurd (cc)
starred_is operator (Some star) version specifier s h =
    of_version star version specifier (built_is star version specifier (λ e. s) h)

unstarred : (operator : Operator) (version : VersionRecord) → is_star operator ≡ false → is_star operator ≡ true
    → IsStarVersion version
unstarred operator version n h = absurd (cc)

no_ends : (version : VersionRecord) → IsStarVersion version → (version.least ≡ None) × (version.most ≡ None)
no_ends version h = (ap (λ v. v.least) h, ap (λ v. v.most) h)

record IsSaidBy (specifier : SpecifierRecord) : Type 0 where
  may : IsBuilt specifier
  ends : (specifier.version.least ≡ None) × (specifier.version.most ≡ None)

said : (version : VersionRecord) (specifier : SpecifierRecord) → IsOfText version specifier
    → (version.least ≡ None) × (version.most ≡ None) → IsSaidBy specifier
said version specifier h ends = record {
  may = h.may;
  ends = (ap (λ v. v.least) h.same_version ∙ ends.0, ap (λ v. v.most) h.same_version ∙ ends.1);
}

pattern_is : (text : List ℕ) (operator : Operator) (version : VersionRecord) (wildcard : Bool)
    (specifier : SpecifierRecord) → is_star operator ≡ false
    → cond wildcard (IsStarText text version) (IsVersionText text version)
    → (if wildcard then built_starred operator (starred operator) version else built operator version) ≡ Ok specifier
    → IsSaidBy specifier
pattern_is text operator version true specifier n h e =
    said version specifier (starred_is operator (starred operator) version specifier h.is_plain e)
    (no_ends version h.is_plain)
pattern_is text operator version false specifier n h e =
    said version specifier
    (of_version operator version specifier (built_is operator version specifier (unstarred operator version n) e))
    (h.no_least, h.no_most)

text_is : (text : List ℕ) (specifier : SpecifierRecord) → IsSpecifierText text specifier → IsSaidBy specifier
text_is text specifier h =
    pattern_is h.written h.operator h.pattern.version h.pattern.wildcard specifier h.starless h.is_pattern h.builds

pub text_is_built : (text : List ℕ) (specifier : SpecifierRecord) → IsSpecifierText text specifier → IsBuilt specifier
text_is_built text specifier h = (text_is text specifier h).may

pub text_has_no_ends : (text : List ℕ) (specifier : SpecifierRecord) → IsSpecifierText text specifier
    → (specifier.version.least ≡ None) × (specifier.version.most ≡ None)
text_has_no_ends text specifier h = (text_is text specifier h).ends
