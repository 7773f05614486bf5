-- The laws of the equality of environments, and that equal ones feed a hash alike.
use Rattle.std.specs.Prelude.{◌≡◌, ℕ, true, List, [], ◌∷◌, ◌++◌, refl}
use Rattle.std.proofs.Common.{ap}
use Rattle.std.proofs.lemmas.Bool.{and_parts}
use Rattle.std.specs.Cmp.{IsEquivalence, IsPartialEquivalence, partial_equiv_from_equiv, on_equiv, and_equiv}
use Rattle.std.specs.Cmp.Lexicographic.{pointwise, lists_equiv, nat_list_eq_equiv, pointwise_decides}
use Rattle.std.specs.Cmp.Lexicographic.{bytes_decides}
use Rattle.std.specs.Hash as fed
use Rattle.std.specs.List.{flat_map}
use Rattle.std.specs.Str.{bytes_eq}
use Rattle.pep440_text.specs.Record.{VersionRecord}
use Rattle.pep440_version.specs.Order.{version_eq}
use Rattle.pep440_version.specs.OrderLaws.{version_eq_equiv, alike_versions}
use Rattle.pep508_environment.specs.Environment.{EnvironmentRecord}
use Rattle.pep508_environment.specs.EnvironmentValues.{texts_of, versions_of, environment_eq, fed_version}
use Rattle.pep508_environment.specs.EnvironmentValues.{fed_environment}

-- equality is an equivalence
pub environment_eq_equiv : IsEquivalence environment_eq
environment_eq_equiv =
    and_equiv (on_equiv texts_of (lists_equiv nat_list_eq_equiv))
    (on_equiv versions_of (lists_equiv version_eq_equiv))

pub environment_eq_partial : IsPartialEquivalence environment_eq
environment_eq_partial = partial_equiv_from_equiv environment_eq_equiv

versions_alike : (a b : List VersionRecord) → pointwise version_eq a b ≡ true
    → flat_map fed_version a ≡ flat_map fed_version b
versions_alike [] [] h = refl
versions_alike [] (y ∷ ys) h = absurd (cc)
versions_alike (x ∷ xs) [] h = absurd (cc)
versions_alike (x ∷ xs) (y ∷ ys) h =
    let both = and_parts (version_eq x y) (pointwise version_eq xs ys) h in
    let one : fed_version x ≡ fed_version y = alike_versions x y both.0 in
    let rest : flat_map fed_version xs ≡ flat_map fed_version ys = versions_alike xs ys both.1 in
    (λ k. one k ++ rest k)

-- equal environments feed a hash alike
pub alike_environments : (a b : EnvironmentRecord) → environment_eq a b ≡ true
    → fed_environment a ≡ fed_environment b
alike_environments a b h =
    let both = and_parts (pointwise bytes_eq (texts_of a) (texts_of b))
    (pointwise version_eq (versions_of a) (versions_of b)) h in
    let texts : texts_of a ≡ texts_of b =
    (pointwise_decides bytes_decides (texts_of a) (texts_of b)).0 both.0 in
    let versions : flat_map fed_version (versions_of a) ≡ flat_map fed_version (versions_of b) =
    versions_alike (versions_of a) (versions_of b) both.1 in
    (λ k. flat_map fed.str (texts k) ++ versions k)
