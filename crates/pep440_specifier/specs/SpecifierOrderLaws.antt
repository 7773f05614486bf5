-- The laws of the order, equality and hash of specifiers.
use Rattle.std.specs.Prelude.{◌≡◌, ℕ, true, List, [], ◌∷◌, refl}
use Rattle.std.proofs.Common.{ap}
use Rattle.std.proofs.lemmas.Map.Lookups.{exact_bytes}
use Rattle.std.specs.Cmp.{Equal-is, IsTotalOrder, IsEquivalence, IsPartialEquivalence, IsPartialOrder}
use Rattle.std.specs.Cmp.{partial_equiv_from_equiv, eq_by_cmp_equiv, partial_order_from_agreeing_total}
use Rattle.std.specs.Cmp.{on_total}
use Rattle.std.specs.Cmp.Lexicographic.{slice_cmp, lists_total, nat_list_cmp_total}
use Rattle.std.specs.declared.cmp.Ordering.TheVariants.{Equal}
use Rattle.std.specs.Ordering.{nat_cmp, is_eq, as_partial_cmp}
use Rattle.pep440_version.specs.Order.{key_of, key_cmp, fed_key}
use Rattle.version_ranges.specs.HashingLaws.{then_equal}
use Rattle.pep440_version.specs.OrderLaws.{same_key}
use Rattle.pep440_specifier.specs.Matching.{SpecifierRecord}
use Rattle.pep440_specifier.specs.SpecifierOrder.{operator_rank, specifier_key, specifier_cmp, specifier_eq}
use Rattle.pep440_specifier.specs.SpecifierHash.{fed_specifier}

-- the order is total
pub specifier_cmp_total : IsTotalOrder specifier_cmp
specifier_cmp_total = on_total specifier_key (lists_total nat_list_cmp_total)

-- equality is an equivalence
pub specifier_eq_equiv : IsEquivalence specifier_eq
specifier_eq_equiv = eq_by_cmp_equiv specifier_cmp_total

pub specifier_eq_partial : IsPartialEquivalence specifier_eq
specifier_eq_partial = partial_equiv_from_equiv specifier_eq_equiv

-- the order agrees with equality
pub specifier_partial_order : IsPartialOrder specifier_eq (as_partial_cmp specifier_cmp)
specifier_partial_order =
    partial_order_from_agreeing_total specifier_cmp specifier_cmp_total (λ x y. refl) (λ x y. refl)

-- equal specifiers have one key
pub same_specifier_key : (a b : SpecifierRecord) → specifier_eq a b ≡ true → specifier_key a ≡ specifier_key b
unfolding specifier_key
same_specifier_key a b h =
    let e : specifier_cmp a b ≡ Equal = (Equal-is (specifier_cmp a b)).0 h in
    let r : List ℕ = operator_rank a.operator ∷ [] in
    let s : List ℕ = operator_rank b.operator ∷ [] in
    let both = then_equal (slice_cmp nat_cmp r s) (key_cmp (key_of a.version) (key_of b.version)) e in
    let one : r ≡ s = exact_bytes r s both.0 in
    let rest : key_of a.version ≡ key_of b.version = same_key a.version b.version (ap is_eq both.1) in
    cc

-- so equal specifiers feed a hash alike
pub alike_specifiers : (a b : SpecifierRecord) → specifier_eq a b ≡ true → fed_specifier a ≡ fed_specifier b
alike_specifiers a b h = ap fed_key (same_specifier_key a b h)
