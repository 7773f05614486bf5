-- The comparisons that clauses are made of have a text where what they compare with has one.
use Rattle.std.proofs.Common.{◌≡◌, ◌≢◌, ℕ, Bool, true, false, List, Option, Some, None, option_map, refl, ap}
use Rattle.std.proofs.Common.{sym, subst, ◌∙◌}
use Rattle.std.proofs.lemmas.Bool.{false≢true}
use Rattle.std.specs.Option.{is_some}
use Rattle.std.specs.Prelude.{cond}
use Rattle.pep440_text.specs.Record.{VersionRecord, release_record}
use Rattle.pep440_text.proofs.Releases.{by_recursion}
use Rattle.pep440_version.specs.Order.{version_eq}
use Rattle.pep440_operator.specs.declared.operator.Operator.{Operator}
use Rattle.pep440_operator.specs.declared.operator.Operator.TheVariants as versions
use Rattle.pep440_operator.specs.Operators.{is_star, is_tilde}
use Rattle.pep440_specifier.specs.Bounds.{next_minor, equals_release}
use Rattle.pep440_range.specs.Ranges.{release_range_by, all_but, star_releases}
use Rattle.pep440_range.proofs.Intervals.{minor_range}
use Rattle.pep508_marker.specs.declared.keys.MarkerValueString.{MarkerValueString}
use Rattle.pep508_marker.specs.Expression.{ExpressionRecord, Version}
use Rattle.pep508_diagram.specs.declared.variable.VersionVariable.{VersionVariable}
use Rattle.pep508_diagram.specs.declared.variable.VersionVariable.TheVariants.{ImplementationVersion}
use Rattle.pep508_diagram.specs.declared.variable.VersionVariable.TheVariants.{PythonFullVersion}
use Rattle.pep508_diagram.specs.declared.variable.Flag.{Flag}
use Rattle.pep508_diagram.specs.declared.variable.Flag.TheVariants as flag
use Rattle.pep508_diagram.specs.Question.{flag_text}
use Rattle.pep508_expression.specs.Expressions.{has_points}
use Rattle.pep508_error.proofs.Tests.{and_parts}
use Rattle.pep508_marker_text_laws.specs.Terms.{key_of_variable, two_numbers, is_minor_of, kept_where}
use Rattle.pep508_marker_text_laws.specs.Terms.{minor_between, version_term, version_saying, text_saying, set_term}
use Rattle.pep508_marker_text_laws.specs.Terms.{unset_term}
use Rattle.pep508_marker_text_laws.proofs.Fitting.{Fits, AllSayingsFit}
use Rattle.pep508_reading_back.specs.Readable.{IsQuotable}
use Rattle.pep508_reading_back.specs.Writable.{IsSayable, as_written}
use Rattle.pep508_reading_back.proofs.Diagrams.{AreMinor, two_are, kept_is, release_readable}
use Rattle.pep508_reading_back.proofs.WritableComparisons.{IsWritable}

-- ---- versions

version_points : (key : VersionVariable) (operator : Operator) (version : VersionRecord) →
    is_some (release_range_by operator version.release) ≡ true →
    has_points (Version (key_of_variable key) (record { operator = operator; version = version })) ≡ true
unfolding has_points
version_points ImplementationVersion operator version h = h
version_points PythonFullVersion operator version h = h

version_writable : (key : VersionVariable) (operator : Operator) (version : VersionRecord) →
    is_star operator ≡ false → is_tilde operator ≡ false → operator ≢ versions.ExactEqual →
    is_some (release_range_by operator version.release) ≡ true → IsSayable version →
    IsWritable (version_term key operator version)
version_writable key operator version star tilde exact points h = (
  (
    record {
      printed = record {
        printable = h;
        built = record {
          local = λ e. refl;
          numbers = λ e. absurd (false≢true (sym tilde ∙ e));
          star = λ e. absurd (false≢true (sym star ∙ e));
        };
      };
      in_markers = exact;
    },
    version_points key operator (as_written version) points,
  ),
  refl,
)

-- ---- stars

kept_meets : {A : Type 0} (test : A → Bool) (o : Option A) (x : A) → kept_where test o ≡ Some x →
    test x ≡ true
kept_meets test None x e = absurd (cc)
kept_meets test (Some y) x e = kept_one (test y) refl e
  where
    kept_one : (b : Bool) → test y ≡ b → cond b (Some y) None ≡ Some x → test x ≡ true
    kept_one true same e = let is : y ≡ x = cc in ap test (sym is) ∙ same
    kept_one false same e = absurd (cc)

-- the numbers of a star can be raised, since a version has them raised
star_raised : (lower upper : VersionRecord) (numbers : List ℕ) → IsSayable upper →
    minor_between lower upper ≡ Some numbers → is_some (star_releases numbers) ≡ true
star_raised lower upper numbers h e =
    let parts = and_parts (version_eq (release_record numbers) lower)
    (equals_release (next_minor numbers) upper)
    (kept_meets (is_minor_of lower upper) (two_numbers lower.release) numbers e) in
    let found = minor_range (release_record numbers) upper parts.1 refl
    (by_recursion upper.release h.fits.release) in
    ap is_some found.1

all_but_some : {A B : Type 0} (f : A → B) (o : Option A) → is_some o ≡ true → is_some (option_map f o) ≡ true
all_but_some f None h = h
all_but_some f (Some x) h = refl

star_writable : (key : VersionVariable) (operator : Operator) (lower upper : VersionRecord)
    (term : ExpressionRecord) (numbers : Option (List ℕ)) → is_tilde operator ≡ false →
    operator ≢ versions.ExactEqual → IsSayable lower →
    ((found : List ℕ) → minor_between lower upper ≡ Some found →
    is_some (release_range_by operator found) ≡ true) →
    minor_between lower upper ≡ numbers →
    option_map (λ ns. version_term key operator (release_record ns)) numbers ≡ Some term → IsWritable term
star_writable key operator lower upper term None tilde exact h points same e = absurd (cc)
star_writable key operator lower upper term (Some numbers) tilde exact h points same e =
    let is : version_term key operator (release_record numbers) ≡ term = cc in
    let minor : AreMinor numbers =
    two_are lower.release numbers (by_recursion lower.release h.fits.release)
    (kept_is (is_minor_of lower upper) (two_numbers lower.release) numbers same) in
    subst IsWritable is (
      (
        release_readable operator numbers tilde exact minor.small minor.some,
        version_points key operator (release_record numbers) (points numbers same),
      ),
      refl,
    )

-- ---- all

versions_writable : (key : VersionVariable) → Fits IsSayable IsWritable (version_saying key)
versions_writable key = record {
  equal_fits = λ v h. version_writable key versions.Equal v refl refl (λ e. absurd (cc)) refl h;
  differs_fits = λ v h. version_writable key versions.NotEqual v refl refl (λ e. absurd (cc)) refl h;
  at_least_fits = λ v h. version_writable key versions.GreaterThanEqual v refl refl (λ e. absurd (cc)) refl h;
  above_fits = λ v h. version_writable key versions.GreaterThan v refl refl (λ e. absurd (cc)) refl h;
  at_most_fits = λ v h. version_writable key versions.LessThanEqual v refl refl (λ e. absurd (cc)) refl h;
  below_fits = λ v h. version_writable key versions.LessThan v refl refl (λ e. absurd (cc)) refl h;
  star_fits = λ v w h k term e. star_writable key versions.EqualStar v w term (minor_between v w) refl
      (λ c. absurd (cc)) h (λ numbers is. star_raised v w numbers k is) refl e;
  no_star_fits = λ v w h k term e. star_writable key versions.NotEqualStar v w term (minor_between v w) refl
      (λ c. absurd (cc)) h
      (λ numbers is. all_but_some all_but (star_releases numbers) (star_raised v w numbers k is)) refl e;
}

texts_writable : (key : MarkerValueString) → Fits IsQuotable IsWritable (text_saying key)
texts_writable key = record {
  equal_fits = λ text h. ((λ e. absurd (cc)), h);
  differs_fits = λ text h. ((λ e. absurd (cc)), h);
  at_least_fits = λ text h. ((λ e. absurd (cc)), h);
  above_fits = λ text h. ((λ e. absurd (cc)), h);
  at_most_fits = λ text h. ((λ e. absurd (cc)), h);
  below_fits = λ text h. ((λ e. absurd (cc)), h);
  star_fits = λ v w h k term e. absurd (cc);
  no_star_fits = λ v w h k term e. absurd (cc);
}

set_writable : (asked : Flag) → IsQuotable (flag_text asked) → IsWritable (set_term asked)
set_writable (flag.In key text) h = ((λ e. absurd (cc)), h)
set_writable (flag.Contains key text) h = ((λ e. absurd (cc)), h)
set_writable (flag.Extra name) h = h
set_writable (flag.Arbitrary text) h = h

unset_writable : (asked : Flag) → IsQuotable (flag_text asked) → IsWritable (unset_term asked)
unset_writable (flag.In key text) h = ((λ e. absurd (cc)), h)
unset_writable (flag.Contains key text) h = ((λ e. absurd (cc)), h)
unset_writable (flag.Extra name) h = h
unset_writable (flag.Arbitrary text) h = h

pub terms_writable :
    AllSayingsFit IsSayable (λ key. IsQuotable) (λ asked. IsQuotable (flag_text asked)) IsWritable
terms_writable = record {
  versions_fit = versions_writable;
  texts_fit = texts_writable;
  set_fits = set_writable;
  unset_fits = unset_writable;
}
