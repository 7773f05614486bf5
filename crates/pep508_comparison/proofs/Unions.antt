-- What listed versions and listed minor releases hold: no points for none, and else what one of two halves of
-- the list holds.
use Rattle.std.proofs.Common.{◌≡◌, ◌∙◌, Bool, true, false, not, ◌||◌, ◌&&◌, List, [], ◌∷◌, ◌++◌, length}
use Rattle.std.proofs.Common.{Option, Some, None, Result, Ok, Err, IfOk, IfErr, refl, ap, sym, subst, arith}
use Rattle.std.proofs.Common.{if◌then◌else◌}
use Rattle.std.proofs.lemmas.Bool.{false≢true}
use Rattle.std.proofs.lemmas.List.{map-append}
use Rattle.std.proofs.lemmas.List.Folds.{list_all-append, list_any-append}
use Rattle.std.specs.List.{list_all}
use Rattle.std.specs.Option.{is_some, option_map}
use Rattle.version_ranges.specs.Point.{Point}
use Rattle.version_ranges.specs.Held.{holds_at}
use Rattle.pep440_text.specs.Record.{VersionRecord}
use Rattle.pep440_version.specs.Order.{version_cmp}
use Rattle.pep440_range.specs.Ranges.{PointTest, at_version, range_holds, Gives}
use Rattle.pep440_range.specs.declared.range_error.RangeError.{RangeError}
use Rattle.pep440_range.specs.declared.range_error.RangeError.TheVariants.{NumberAtEnd, Memory}
use Rattle.pep508_comparison.specs.Comparisons.{nowhere, negated_points, listed, in_minor, is_minor}
use Rattle.pep508_comparison.specs.Comparisons.{listed_minors, some_holds, python_listed_points}
use Rattle.pep508_comparison.specs.Unions.{GivesAny}

-- a set that holds the points of a test
abbrev pub Holds : (Point VersionRecord → Bool) → List (Point VersionRecord) → Type 0
Holds test set = (p : Point VersionRecord) → holds_at version_cmp set p ≡ test p

-- what either of two sets holds
abbrev pub HoldsEither : List (Point VersionRecord) → List (Point VersionRecord)
    → List (Point VersionRecord) → Type 0
HoldsEither set other =
    Holds (λ p. holds_at version_cmp set p || holds_at version_cmp other p)

-- what a set does not hold
abbrev pub HoldsRest : List (Point VersionRecord) → List (Point VersionRecord) → Type 0
HoldsRest set = Holds (λ p. not (holds_at version_cmp set p))

-- ---- listed versions

pub none_listed : (versions : List VersionRecord) (set : List (Point VersionRecord)) → length versions ≡ 0
    → Holds (λ p. false) set → Holds (listed versions) set
none_listed [] set e h = h
none_listed (version ∷ versions) set e h = absurd (omega arith)

pub halves_listed : {E : Type 0} (versions front back : List VersionRecord)
    (set other : List (Point VersionRecord)) (either : Result (List (Point VersionRecord)) E)
    → front ++ back ≡ versions → Holds (listed front) set → Holds (listed back) other
    → IfOk either (HoldsEither set other) → IfOk either (Holds (listed versions))
halves_listed versions front back set other (Ok either) e g k h = λ p.
    h p ∙ (λ i. g p i || k p i) ∙ sym (list_any-append (λ version. at_version version p) front back)
    ∙ ap (λ versions. listed versions p) e
halves_listed versions front back set other (Err error) e g k h = tt

pub rest_listed : {E : Type 0} (negated : Bool) (points : PointTest) (set : List (Point VersionRecord))
    (rest : Result (List (Point VersionRecord)) E) → negated ≡ true → Holds points set
    → IfOk rest (HoldsRest set) → IfOk rest (Holds (negated_points negated points))
rest_listed true points set (Ok rest) e g h = λ p. h p ∙ ap not (g p)
rest_listed true points set (Err error) e g h = tt
rest_listed false points set rest e g h = absurd (false≢true e)

-- ---- listed minor releases

pub no_minors : (versions : List VersionRecord) (set : List (Point VersionRecord)) → length versions ≡ 0
    → Holds (λ p. false) set → GivesAny (Ok set) (listed_minors versions)
no_minors [] set e h = (refl, h)
no_minors (version ∷ versions) set e h = absurd (omega arith)

either_joined : (tests others : List (Option PointTest)) (set other either : List (Point VersionRecord))
    → GivesAny (Ok set) tests → GivesAny (Ok other) others → HoldsEither set other either
    → GivesAny (Ok either) (tests ++ others)
either_joined tests others set other either g k h = (
  list_all-append is_some tests others ∙ (λ i. g.0 i && k.0 i),
  λ p. h p ∙ (λ i. g.1 p i || k.1 p i) ∙ sym (list_any-append (λ test. range_holds test p) tests others),
)

split_minors : (versions front back : List VersionRecord) → front ++ back ≡ versions
    → listed_minors front ++ listed_minors back ≡ listed_minors versions
split_minors versions front back e =
    sym (map-append (λ version. in_minor version.release) front back) ∙ ap listed_minors e

pub halves_join : (versions front back : List VersionRecord) (set other : List (Point VersionRecord))
    (either : Result (List (Point VersionRecord)) RangeError) → front ++ back ≡ versions
    → GivesAny (Ok set) (listed_minors front) → GivesAny (Ok other) (listed_minors back)
    → IfOk either (HoldsEither set other) → IfErr either (λ error. error ≡ Memory)
    → GivesAny either (listed_minors versions)
halves_join versions front back set other (Ok either) e g k h m =
    subst (GivesAny (Ok either)) (split_minors versions front back e)
    (either_joined (listed_minors front) (listed_minors back) set other either g k h)
halves_join versions front back set other (Err NumberAtEnd) e g k h m = absurd (cc)
halves_join versions front back set other (Err Memory) e g k h m = tt

-- ---- the whole list

-- the points that any of these hold, where all of them are there
abbrev pub any_of : List (Option PointTest) → Option PointTest
any_of tests = if list_all is_some tests then Some (some_holds tests) else None

pub any_given : (tests : List (Option PointTest)) (answer : Result (List (Point VersionRecord)) RangeError)
    → GivesAny answer tests → Gives answer (any_of tests)
any_given tests (Ok set) g =
    subst (λ b. Gives (Ok set) (if b then Some (some_holds tests) else None)) (sym g.0) (refl, g.1)
any_given tests (Err NumberAtEnd) g = ap (λ b. is_some (if b then Some (some_holds tests) else None)) g
any_given tests (Err Memory) g = tt

chosen : (few there negated : Bool) (points : PointTest) → few ≡ true
    → option_map (negated_points negated) (if there then Some points else None)
    ≡ if not few then Some nowhere else (if there then Some (negated_points negated points) else None)
chosen true true negated points e = refl
chosen true false negated points e = refl
chosen false there negated points e = absurd (false≢true e)

pub all_minors : (negated : Bool) (versions : List VersionRecord)
    (answer : Result (List (Point VersionRecord)) RangeError)
    → list_all (λ version. is_minor version.release) versions ≡ true
    → Gives answer (option_map (negated_points negated) (any_of (listed_minors versions)))
    → Gives answer (python_listed_points negated versions)
all_minors negated versions answer e g =
    subst (Gives answer) (chosen (list_all (λ version. is_minor version.release) versions)
    (list_all is_some (listed_minors versions)) negated (some_holds (listed_minors versions)) e) g

-- ---- what a set does not hold

pub rest_given : (set rest : List (Point VersionRecord)) (negated : Bool) (wanted : Option PointTest)
    → negated ≡ true → Gives (Ok set) wanted → HoldsRest set rest
    → Gives (Ok rest) (option_map (negated_points negated) wanted)
rest_given set rest true (Some test) e g h = (refl, λ p. h p ∙ ap not (g.1 p))
rest_given set rest true None e g h = absurd (cc)
rest_given set rest false wanted e g h = absurd (false≢true e)
