-- How many cases are left.
use Rattle.std.proofs.Common.{◌≡◌, ◌∙◌, ◌≤◌, ◌+◌, ◌-◌, ◌*◌, ℕ, List, [], ◌∷◌, ◌++◌, length, refl, ap, arith, Option}
use Rattle.std.proofs.Common.{Some, None}
use Rattle.std.proofs.Math.Nat.{min-le_left, mul-le-mul_left}
use Rattle.std.specs.Prelude.{min, option_map, unwrap_or}
use Rattle.reqtable_table.specs.Kept.{KeptPackage}
use Rattle.reqtable_table.specs.Cases.{table_cases}
use Rattle.reqtable_table.specs.Building.{most_cases, IsLeft, IsWithin}

pub most_at_most : (limit : ℕ) (left : Option ℕ) → most_cases limit left ≤ limit
most_at_most limit None = omega arith
most_at_most limit (Some left) = min-le_left limit left

pub nothing_made : (in_all : Option ℕ) → IsLeft in_all 0 in_all
nothing_made None = refl
nothing_made (Some n) = ap Some (omega arith)

pub left_after : (limit : ℕ) (in_all : Option ℕ) (made more count : ℕ) (left : Option ℕ) → more ≡ made + count →
    count ≤ most_cases limit left → IsLeft in_all made left → IsLeft in_all more (option_map (λ n. n - count) left)
left_after limit in_all made more count None e few is = is
left_after limit in_all made more count (Some left) e few is =
    let within : count ≤ left = omega (arith, few) in
    is ∙ ap Some (omega (arith, e, within))

-- what was made is no more than the bound
pub left_within : (in_all made : ℕ) (left : Option ℕ) → IsLeft (Some in_all) made left → made ≤ in_all
left_within in_all made None is = absurd (cc)
left_within in_all made (Some left) is =
    let same : in_all ≡ made + left = ap (λ o. unwrap_or o 0) is in omega (arith, same)

pub is_within : (in_all : Option ℕ) (made : ℕ) (left : Option ℕ) → IsLeft in_all made left → IsWithin in_all made
is_within None made left is = tt
is_within (Some in_all) made left is = left_within in_all made left is

-- as many as the limit are left
pub limit_left : (in_all limit made : ℕ) (left : Option ℕ) → IsLeft (Some in_all) made left →
    most_cases limit left ≡ limit → made + limit ≤ in_all
limit_left in_all limit made None is e = absurd (cc)
limit_left in_all limit made (Some left) is e =
    let same : in_all ≡ made + left = ap (λ o. unwrap_or o 0) is in
    let room : min limit left ≡ limit = e in
    omega (arith, same, room)

-- just so many are left
pub some_left : (in_all made most : ℕ) (left : Option ℕ) → IsLeft (Some in_all) made left → left ≡ Some most →
    in_all ≡ made + most
some_left in_all made most left is e =
    ap (λ o. unwrap_or o 0) (is ∙ ap (option_map (λ n. made + n)) e)

pub none_left : (made most : ℕ) (left : Option ℕ) → IsLeft None made left → left ≡ Some most → ⊥
none_left made most None is e = absurd (cc)
none_left made most (Some left) is e = absurd (cc)

pub table_pushed : (table : List KeptPackage) (kept : KeptPackage) →
    table_cases (table ++ kept ∷ []) ≡ table_cases table + length kept.cases
table_pushed [] kept = omega arith
table_pushed (one ∷ table) kept = let rest = table_pushed table kept in omega (arith, rest)

-- conjunctions for a smaller limit
pub fewer_conjunctions : (count most limit old new : ℕ) → most ≤ limit → new ≤ old + 2 * (count * most) →
    new ≤ old + 2 * (count * limit)
fewer_conjunctions count most limit old new few h =
    let wide : count * most ≤ count * limit = mul-le-mul_left count few in
    omega (arith, h, wide)
