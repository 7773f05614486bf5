-- Lists brought in order by version: a test of all members, or of some, says what it says of the given ones.
use Rattle.std.proofs.Common.{◌≡◌, Bool, true, false, cond, not, ◌&&◌, List, [], ◌∷◌, ◌++◌}
use Rattle.std.proofs.Common.{append_assoc, refl, ap, sym, ◌∙◌}
use Rattle.std.specs.List.{filter, list_all, list_any}
use Rattle.std.specs.List.Sorted.{ties}
use Rattle.std.specs.Cmp.{tied_itself}
use Rattle.std.specs.Ordering.{is_lt}
use Rattle.pep440_version.specs.Order.{version_cmp}
use Rattle.pep440_version.specs.OrderLaws.{version_cmp_total}
use Rattle.pep440_specifier.specs.Matching.{SpecifierRecord}
use Rattle.pep440_specifier_list.specs.Lists.{IsInOrder}
use Rattle.reqtable_answer.proofs.Tests.{any_all}

-- ---- filters

abbrev Test : Type 0
Test = SpecifierRecord → Bool

both_true : (a b : Bool) → (a && b) ≡ true → (a ≡ true) × (b ≡ true)
both_true true b h = (refl, h)
both_true false b h = absurd (cc)

kept_by : (passes : Test) (kept : Bool) (x : SpecifierRecord) (xs : List SpecifierRecord) → passes x ≡ true
    → list_all passes xs ≡ true → list_all passes (cond kept (x ∷ xs) xs) ≡ true
kept_by passes true x xs h k = λ i. h i && k i
kept_by passes false x xs h k = k

all_kept : (passes keeps : Test) (xs : List SpecifierRecord) → list_all passes xs ≡ true
    → list_all passes (filter keeps xs) ≡ true
all_kept passes keeps [] h = refl
all_kept passes keeps (x ∷ xs) h =
    let parts = both_true (passes x) (list_all passes xs) h in
    kept_by passes (keeps x) x (filter keeps xs) parts.0 (all_kept passes keeps xs parts.1)

-- what is behind the first of a filter
behind_first : (passes : Test) (kept : Bool) (x : SpecifierRecord) (xs : List SpecifierRecord)
    → list_all passes (cond kept (x ∷ xs) xs) ≡ true → list_all passes xs ≡ true
behind_first passes true x xs h = (both_true (passes x) (list_all passes xs) h).1
behind_first passes false x xs h = h

passes_at : (passes keeps : Test) (front : List SpecifierRecord) (x : SpecifierRecord)
    (rest : List SpecifierRecord) → keeps x ≡ true
    → list_all passes (filter keeps (front ++ x ∷ rest)) ≡ true → passes x ≡ true
passes_at passes keeps [] x rest k h =
    let later = filter keeps rest in
    let whole : (passes x && list_all passes later) ≡ true =
    sym (ap (λ t. list_all passes (cond t (x ∷ later) later)) k) ∙ h in
    (both_true (passes x) (list_all passes later) whole).0
passes_at passes keeps (y ∷ front) x rest k h =
    passes_at passes keeps front x rest k
    (behind_first passes (keeps y) y (filter keeps (front ++ x ∷ rest)) h)

-- all pass where in each filter all do, and each element is in its own
all_by : (passes : Test) (keeps : SpecifierRecord → Test) (front rest : List SpecifierRecord)
    → ((x : SpecifierRecord) → keeps x x ≡ true)
    → ((x : SpecifierRecord) → list_all passes (filter (keeps x) (front ++ rest)) ≡ true)
    → list_all passes rest ≡ true
all_by passes keeps front [] own all = refl
all_by passes keeps front (x ∷ rest) own all =
    let first = passes_at passes (keeps x) front x rest (own x) (all x) in
    let later = all_by passes keeps (front ++ x ∷ []) rest own
    (λ y. ap (λ xs. list_all passes (filter (keeps y) xs)) (append_assoc front (x ∷ []) rest) ∙ all y) in
    λ i. first i && later i

-- ---- lists in order

abbrev is_before : SpecifierRecord → Test
is_before a b = is_lt (version_cmp a.version b.version)

ties_itself : (x : SpecifierRecord) → ties is_before x x ≡ true
ties_itself x = ap (λ o. not (is_lt o) && not (is_lt o)) (tied_itself version_cmp_total x.version)

carried : (passes : Test) (xs ys : List SpecifierRecord)
    → ((x : SpecifierRecord) → filter (ties is_before x) ys ≡ filter (ties is_before x) xs)
    → list_all passes xs ≡ true → list_all passes ys ≡ true
carried passes xs ys same h =
    all_by passes (ties is_before) [] ys ties_itself
    (λ x. ap (list_all passes) (same x) ∙ all_kept passes (ties is_before x) xs h)

both_ways : (a b : Bool) → (a ≡ true → b ≡ true) → (b ≡ true → a ≡ true) → a ≡ b
both_ways true b f g = sym (f refl)
both_ways false true f g = g refl
both_ways false false f g = refl

pub same_all : (passes : Test) (given members : List SpecifierRecord) → IsInOrder given members
    → list_all passes members ≡ list_all passes given
same_all passes given members order =
    both_ways (list_all passes members) (list_all passes given)
    (carried passes members given (λ x. sym (order.stable x)))
    (carried passes given members order.stable)

pub same_any : (passes : Test) (given members : List SpecifierRecord) → IsInOrder given members
    → list_any passes members ≡ list_any passes given
same_any passes given members order =
    any_all passes members ∙ ap not (same_all (λ s. not (passes s)) given members order)
    ∙ sym (any_all passes given)
