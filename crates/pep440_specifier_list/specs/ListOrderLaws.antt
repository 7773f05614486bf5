-- The laws of the order, equality and hash of lists.
use Rattle.std.specs.Prelude.{◌≡◌, true, List, [], ◌∷◌, ◌++◌, refl}
use Rattle.std.proofs.Common.{ap}
use Rattle.std.specs.Hash as fed
use Rattle.std.specs.List.{flat_map}
use Rattle.std.specs.Cmp.{Equal-is, IsTotalOrder, IsEquivalence, IsPartialEquivalence, IsPartialOrder}
use Rattle.std.specs.Cmp.{partial_equiv_from_equiv, eq_by_cmp_equiv, partial_order_from_agreeing_total}
use Rattle.std.specs.Cmp.Lexicographic.{lists_total}
use Rattle.std.specs.declared.cmp.Ordering.TheVariants.{Equal}
use Rattle.std.specs.Ordering.{is_eq, as_partial_cmp}
use Rattle.version_ranges.specs.HashingLaws.{then_equal}
use Rattle.pep440_specifier.specs.Matching.{SpecifierRecord}
use Rattle.pep440_specifier.specs.SpecifierOrder.{specifier_cmp}
use Rattle.pep440_specifier.specs.SpecifierHash.{fed_specifier}
use Rattle.pep440_specifier.specs.SpecifierOrderLaws.{specifier_cmp_total, alike_specifiers}
use Rattle.pep440_specifier_list.specs.ListOrder.{list_cmp, list_eq}
use Rattle.pep440_specifier_list.specs.ListHash.{fed_member, fed_list}

-- the order is total
pub list_cmp_total : IsTotalOrder list_cmp
list_cmp_total = lists_total specifier_cmp_total

-- equality is an equivalence
pub list_eq_equiv : IsEquivalence list_eq
list_eq_equiv = eq_by_cmp_equiv list_cmp_total

pub list_eq_partial : IsPartialEquivalence list_eq
list_eq_partial = partial_equiv_from_equiv list_eq_equiv

-- the order agrees with equality
pub list_partial_order : IsPartialOrder list_eq (as_partial_cmp list_cmp)
list_partial_order = partial_order_from_agreeing_total list_cmp list_cmp_total (λ x y. refl) (λ x y. refl)

members_alike : (a b : List SpecifierRecord) → list_cmp a b ≡ Equal
    → flat_map fed_member a ≡ flat_map fed_member b
members_alike [] [] h = refl
members_alike [] (y ∷ ys) h = absurd (cc)
members_alike (x ∷ xs) [] h = absurd (cc)
members_alike (x ∷ xs) (y ∷ ys) h =
    let both = then_equal (specifier_cmp x y) (list_cmp xs ys) h in
    let one : fed_specifier x ≡ fed_specifier y = alike_specifiers x y (ap is_eq both.0) in
    let rest : flat_map fed_member xs ≡ flat_map fed_member ys = members_alike xs ys both.1 in
    (λ k. (fed.u8 1 ++ one k) ++ rest k)

-- equal lists feed a hash alike
pub alike_lists : (a b : List SpecifierRecord) → list_eq a b ≡ true → fed_list a ≡ fed_list b
alike_lists a b h = ap (λ members. members ++ fed.u8 0) (members_alike a b ((Equal-is (list_cmp a b)).0 h))
