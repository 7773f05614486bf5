-- What `python_version` holds beside an operator and beside its negation, and by `in` and `not in`.
use Rattle.std.proofs.Common.{◌≡◌, ◌∙◌, ℕ, Bool, true, false, not, List, Option, Some, None, refl, ap, sym}
use Rattle.std.proofs.Common.{if◌then◌else◌}
use Rattle.std.proofs.lemmas.Bool.{false≢true}
use Rattle.std.specs.Option.{option_map, is_some}
use Rattle.std.specs.List.{list_all}
use Rattle.std.specs.declared.ops.Bound.TheVariants.{Included, Excluded}
use Rattle.pep440_text.specs.Record.{VersionRecord, release_record}
use Rattle.pep440_text.specs.Releases.{last_raised}
use Rattle.pep440_operator.specs.Operators.{negated}
use Rattle.pep440_range.specs.Ranges.{PointTest, all_but, from_bound, to_bound, star_releases}
use Rattle.pep440_operator.specs.declared.operator.Operator.{Operator}
use Rattle.pep440_operator.specs.declared.operator.Operator.TheVariants as operators
use Rattle.pep440_range.proofs.Complements.{rest_of_rest, from_is_rest, below_is_rest}
use Rattle.pep508_comparison.specs.Comparisons.{nowhere, everywhere, negated_points, minor_of, in_minor}
use Rattle.pep508_comparison.specs.Comparisons.{from_next_minor, before_next_minor, compared_numbers}
use Rattle.pep508_comparison.specs.Comparisons.{is_minor, python_version_points, listed_minors, some_holds}
use Rattle.pep508_comparison.specs.Comparisons.{python_listed_points}

-- ---- an operator and its negation

mapped_rest : (points : Option PointTest) → points ≡ option_map all_but (option_map all_but points)
mapped_rest None = refl
mapped_rest (Some test) = ap Some (sym (rest_of_rest test))

from_next : (found : Option (List ℕ))
    → option_map (λ end. from_bound (Included (release_record end))) found
    ≡ option_map all_but (option_map (λ end. to_bound (Excluded (release_record end))) found)
from_next None = refl
from_next (Some end) = ap Some (from_is_rest (release_record end))

before_next : (found : Option (List ℕ))
    → option_map (λ end. to_bound (Excluded (release_record end))) found
    ≡ option_map all_but (option_map (λ end. from_bound (Included (release_record end))) found)
before_next None = refl
before_next (Some end) = ap Some (below_is_rest (release_record end))

-- in each of two cases
rest_by : (few : Bool) (points past rest rest_past : Option PointTest) → rest ≡ option_map all_but points
    → rest_past ≡ option_map all_but past
    → (if few then rest else rest_past) ≡ option_map all_but (if few then points else past)
rest_by true points past rest rest_past e f = e
rest_by false points past rest rest_past e f = f

by_name : (points : Operator → Option PointTest) (named other : Operator) (wanted : Option PointTest)
    → Some named ≡ Some other → points named ≡ wanted → points other ≡ wanted
by_name points named other wanted e h = let same : named ≡ other = cc in ap points (sym same) ∙ h

pub python_rest : (operator other : Operator) (version : VersionRecord) → negated operator ≡ Some other
    → python_version_points (record { operator = other; version = version })
    ≡ option_map all_but (python_version_points (record { operator = operator; version = version }))
python_rest operator other version =
    let points : Operator → Option PointTest =
    λ o. python_version_points (record { operator = o; version = version }) in
    let ns : List ℕ = compared_numbers operators.Equal version.release in
    let stars : List ℕ = version.release in
    let few : Bool = is_minor ns in
    let next : Option PointTest = from_next_minor ns in
    let before : Option PointTest = before_next_minor ns in
    let from : Option PointTest = Some (from_bound (Included (release_record ns))) in
    let below : Option PointTest = Some (to_bound (Excluded (release_record ns))) in
    let found : Option (List ℕ) = last_raised (minor_of ns) in
    elim operator as (λ o. negated o ≡ Some other → points other ≡ option_map all_but (points o)) [
      | operators.Equal ↦ λ e. by_name points operators.NotEqual other
          (option_map all_but (points operators.Equal)) e
          (rest_by few (in_minor ns) (Some nowhere) (option_map all_but (in_minor ns)) (Some everywhere)
          refl refl)
      | operators.EqualStar ↦ λ e. by_name points operators.NotEqualStar other
          (option_map all_but (points operators.EqualStar)) e
          (rest_by (is_minor stars) (star_releases stars) (Some nowhere)
          (option_map all_but (star_releases stars)) (Some everywhere) refl refl)
      | operators.ExactEqual ↦ λ e. by_name points operators.NotEqual other
          (option_map all_but (points operators.ExactEqual)) e
          (rest_by few (in_minor ns) (Some nowhere) (option_map all_but (in_minor ns)) (Some everywhere)
          refl refl)
      | operators.NotEqual ↦ λ e. by_name points operators.Equal other
          (option_map all_but (points operators.NotEqual)) e
          (rest_by few (option_map all_but (in_minor ns)) (Some everywhere) (in_minor ns) (Some nowhere)
          (mapped_rest (in_minor ns)) refl)
      | operators.NotEqualStar ↦ λ e. by_name points operators.EqualStar other
          (option_map all_but (points operators.NotEqualStar)) e
          (rest_by (is_minor stars) (option_map all_but (star_releases stars)) (Some everywhere)
          (star_releases stars) (Some nowhere) (mapped_rest (star_releases stars)) refl)
      | operators.TildeEqual ↦ λ e. absurd (cc)
      | operators.LessThan ↦ λ e. by_name points operators.GreaterThanEqual other
          (option_map all_but (points operators.LessThan)) e
          (rest_by few below before from next (ap Some (from_is_rest (release_record ns))) (from_next found))
      | operators.LessThanEqual ↦ λ e. by_name points operators.GreaterThan other
          (option_map all_but (points operators.LessThanEqual)) e
          (rest_by few before before next next (from_next found) (from_next found))
      | operators.GreaterThan ↦ λ e. by_name points operators.LessThanEqual other
          (option_map all_but (points operators.GreaterThan)) e
          (rest_by few next next before before (before_next found) (before_next found))
      | operators.GreaterThanEqual ↦ λ e. by_name points operators.LessThan other
          (option_map all_but (points operators.GreaterThanEqual)) e
          (rest_by few from next below before (ap Some (below_is_rest (release_record ns)))
          (before_next found))
    ]

-- ---- `in` and `not in`

rest_of_few : (few there : Bool) (points : PointTest) → few ≡ true
    → (if not few then Some nowhere else (if there then Some (negated_points true points) else None))
    ≡ option_map all_but
    (if not few then Some nowhere else (if there then Some (negated_points false points) else None))
rest_of_few true true points e = refl
rest_of_few true false points e = refl
rest_of_few false there points e = absurd (false≢true e)

pub not_in_rest : (versions : List VersionRecord)
    → list_all (λ version. is_minor version.release) versions ≡ true
    → python_listed_points true versions ≡ option_map all_but (python_listed_points false versions)
not_in_rest versions e =
    rest_of_few (list_all (λ version. is_minor version.release) versions)
    (list_all is_some (listed_minors versions)) (some_holds (listed_minors versions)) e
