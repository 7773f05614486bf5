-- When a `<` implies another one, and a `>` another one.
use Rattle.std.proofs.Common.{◌≡◌, ◌∙◌, Bool, true, false, ◌&&◌, ◌||◌, not, [], refl, ap, sym, true≢false}
use Rattle.std.proofs.Common.{is_some, List}
use Rattle.std.proofs.lemmas.Bool.{and_parts, and_from}
use Rattle.std.proofs.lemmas.Cmp.{upto, alike_right, on_total, then_total, nat_cmp_total, nat_list_cmp_total}
use Rattle.std.specs.Cmp.{Equal-is, IsTotalOrder}
use Rattle.std.specs.declared.cmp.Ordering.{Ordering}
use Rattle.std.specs.declared.cmp.Ordering.TheVariants.{Less, Equal, Greater}
use Rattle.std.specs.Ordering.{ordering_then, ordering_reverse, is_eq, is_lt, is_le, is_gt, is_ge}
use Rattle.pep440_version.specs.Record.{Segment, VersionRecord, without_local}
use Rattle.pep440_version.specs.Changes.{is_prerelease}
use Rattle.pep440_version.specs.Order.{stripped, version_cmp}
use Rattle.pep440_version.specs.OrderLaws.{version_cmp_total}
use Rattle.pep440_operator.specs.declared.operator.Operator.{Operator}
use Rattle.pep440_operator.specs.declared.operator.Operator.TheVariants.{LessThan, GreaterThan}
use Rattle.pep440_operator.specs.Operators.{takes_local}
use Rattle.pep440_specifier.specs.Building.{IsBuilt}
use Rattle.pep440_specifier.specs.Matching.{SpecifierRecord, seen_beside, candidate_cmp, same_release, matches}
use Rattle.pep440_range.proofs.Fronts.{front_cmp, tail_cmp, by_front, same_front, before}
use Rattle.reqtable_range.specs.Sorting.{Implies}

-- ---- answers of orders

is_less : (o : Ordering) → is_lt o ≡ true → o ≡ Less
is_less Less h = refl
is_less Equal h = absurd (true≢false (sym h))
is_less Greater h = absurd (true≢false (sym h))

less_not_above : (o : Ordering) → is_lt o ≡ true → is_gt o ≡ false
less_not_above Less h = refl
less_not_above Equal h = refl
less_not_above Greater h = sym h

at_most_not_above : (o : Ordering) → is_le o ≡ true → is_gt o ≡ false
at_most_not_above Less h = refl
at_most_not_above Equal h = refl
at_most_not_above Greater h = sym h

at_least_turned : (o : Ordering) → is_ge o ≡ true → is_gt (ordering_reverse o) ≡ false
at_least_turned Less h = sym h
at_least_turned Equal h = refl
at_least_turned Greater h = refl

first_not_above : (o p : Ordering) → is_gt (ordering_then o p) ≡ false → is_gt o ≡ false
first_not_above Less p h = refl
first_not_above Equal p h = refl
first_not_above Greater p h = h

neither_above : (o : Ordering) → is_gt (ordering_reverse o) ≡ false → is_gt o ≡ false
    → is_eq (ordering_reverse o) ≡ true
neither_above Less h k = sym h
neither_above Equal h k = refl
neither_above Greater h k = sym k

-- ---- epoch and release alone

front_total : IsTotalOrder front_cmp
front_total =
    then_total (on_total (λ (v : VersionRecord). v.epoch) nat_cmp_total)
    (on_total (λ (v : VersionRecord). stripped v.release) nat_list_cmp_total)

-- what is not above another is not of a later release
front_kept : (a b : VersionRecord) → is_gt (version_cmp a b) ≡ false → is_gt (front_cmp a b) ≡ false
front_kept a b h = first_not_above (front_cmp a b) (tail_cmp a b) (sym (ap is_gt (by_front a b)) ∙ h)

-- two of which neither is of a later release are of one release
same_both : (a b : VersionRecord) → is_gt (front_cmp a b) ≡ false → is_gt (front_cmp b a) ≡ false
    → same_release a b ≡ true
same_both a b h k =
    let turned : front_cmp a b ≡ ordering_reverse (front_cmp b a) = front_total.antisymm a b in
    same_front a b ∙ ap is_eq turned ∙ neither_above (front_cmp b a) (sym (ap is_gt turned) ∙ h) k

level : (a b : VersionRecord) → same_release a b ≡ true → front_cmp a b ≡ Equal
level a b h = (Equal-is (front_cmp a b)).0 (sym (same_front a b) ∙ h)

level_not_above : (a b : VersionRecord) → same_release a b ≡ true → is_gt (front_cmp a b) ≡ false
level_not_above a b h = ap is_gt (level a b h)

same_turned : (a b : VersionRecord) → same_release a b ≡ true → is_gt (front_cmp b a) ≡ false
same_turned a b h = ap is_gt (front_total.antisymm b a ∙ ap ordering_reverse (level a b h))

same_on : (a b c : VersionRecord) → same_release a b ≡ true → same_release b c ≡ true → same_release a c ≡ true
same_on a b c h k =
    same_front a c ∙ ap is_eq (front_total.congr a b c (level a b h)) ∙ sym (same_front b c) ∙ k

-- ---- what is excluded

-- what the one does not exclude of its release is not excluded by the other, where it lets through
not_excluded : (own theirs same x one other : Bool) → not (own && (x && not one)) ≡ true
    → (other || (not same || not one)) ≡ true → (theirs ≡ true → same ≡ true)
    → (theirs ≡ true → same ≡ true → own ≡ true) → not (theirs && (x && not other)) ≡ true
not_excluded own false same x one other h t f g = refl
not_excluded own true same false one other h t f g = refl
not_excluded own true same true one true h t f g = refl
not_excluded own true false true one false h t f g = absurd (true≢false (sym (f refl)))
not_excluded own true true true true false h t f g = t
not_excluded false true true true false false h t f g = absurd (true≢false (sym (g refl refl)))
not_excluded true true true true false false h t f g = h

-- a candidate is seen without its local part
seen_public : (version candidate : VersionRecord) → version.local ≡ []
    → candidate_cmp version candidate ≡ version_cmp (without_local candidate) version
seen_public version candidate plain =
    ap (λ (segments : List Segment). version_cmp (seen_beside segments candidate) version) plain

-- ---- `<`

below_by : (x a b : VersionRecord) (o : Ordering) → version_cmp a b ≡ o → is_gt o ≡ false
    → is_lt (version_cmp x a) ≡ true → is_lt (version_cmp x b) ≡ true
below_by x a b Less e h k = ap is_lt (version_cmp_total.trans x a b (is_less (version_cmp x a) k) e)
below_by x a b Equal e h k = ap is_lt (sym (alike_right version_cmp_total a b x e)) ∙ k
below_by x a b Greater e h k = absurd (true≢false h)

less_implied : (one other : VersionRecord) → one.local ≡ [] → other.local ≡ []
    → (is_le (version_cmp one other)
    && (is_prerelease other || (not (same_release one other) || not (is_prerelease one)))) ≡ true
    → (candidate : VersionRecord) → matches LessThan one candidate ≡ true
    → matches LessThan other candidate ≡ true
less_implied one other plain others_plain test candidate taken =
    let seen : VersionRecord = without_local candidate in
    let tests = and_parts (is_le (version_cmp one other))
    (is_prerelease other || (not (same_release one other) || not (is_prerelease one))) test in
    let parts = and_parts (is_lt (candidate_cmp one candidate))
    (not (same_release one candidate && (is_prerelease candidate && not (is_prerelease one)))) taken in
    let order : is_gt (version_cmp one other) ≡ false = at_most_not_above (version_cmp one other) tests.0 in
    let below : is_lt (version_cmp seen one) ≡ true = sym (ap is_lt (seen_public one candidate plain)) ∙ parts.0 in
    let low : is_gt (front_cmp candidate one) ≡ false =
    front_kept seen one (less_not_above (version_cmp seen one) below) in
    let fronts : is_gt (front_cmp one other) ≡ false = front_kept one other order in
    and_from (is_lt (candidate_cmp other candidate))
    (not (same_release other candidate && (is_prerelease candidate && not (is_prerelease other))))
    (ap is_lt (seen_public other candidate others_plain)
    ∙ below_by seen one other (version_cmp one other) refl order below)
    (not_excluded (same_release one candidate) (same_release other candidate) (same_release one other)
    (is_prerelease candidate) (is_prerelease one) (is_prerelease other) parts.1 tests.1
    (λ same. same_both one other fronts
    (upto front_total other candidate one (level_not_above other candidate same) low))
    (λ same both. same_on one other candidate both same))

-- what a comparison of the two versions told
pub less_implies : (one other : SpecifierRecord) (version wanted : VersionRecord) → version ≡ one.version
    → wanted ≡ other.version → LessThan ≡ one.operator → LessThan ≡ other.operator → IsBuilt one → IsBuilt other
    → (told : Bool)
    → told ≡ (is_le (version_cmp version wanted)
    && (is_prerelease wanted || (not (same_release version wanted) || not (is_prerelease version))))
    → told ≡ true → Implies one other
less_implies one other version wanted v w e f built others_built told is h candidate taken =
    ap (λ (o : Operator). matches o other.version candidate) (sym f)
    ∙ less_implied one.version other.version (built.local (ap takes_local (sym e)))
    (others_built.local (ap takes_local (sym f)))
    ((λ i. is_le (version_cmp (sym v i) (sym w i))
    && (is_prerelease (sym w i) || (not (same_release (sym v i) (sym w i)) || not (is_prerelease (sym v i)))))
    ∙ sym is ∙ h)
    candidate (ap (λ (o : Operator). matches o one.version candidate) e ∙ taken)

-- ---- `>`

above_by : (x a b : VersionRecord) (o : Ordering) → version_cmp b a ≡ o → is_gt o ≡ false
    → is_gt (version_cmp x a) ≡ true → is_gt (version_cmp x b) ≡ true
above_by x a b Less e h k =
    sym (before b x)
    ∙ ap is_lt (version_cmp_total.trans b a x e (is_less (version_cmp a x) (before a x ∙ k)))
above_by x a b Equal e h k =
    sym (before b x) ∙ ap is_lt (version_cmp_total.congr b a x e) ∙ before a x ∙ k
above_by x a b Greater e h k = absurd (true≢false h)

greater_implied : (one other : VersionRecord) → one.local ≡ [] → other.local ≡ []
    → (is_ge (version_cmp one other)
    && (is_some other.post || (not (same_release one other) || not (is_some one.post)))) ≡ true
    → (candidate : VersionRecord) → matches GreaterThan one candidate ≡ true
    → matches GreaterThan other candidate ≡ true
greater_implied one other plain others_plain test candidate taken =
    let seen : VersionRecord = without_local candidate in
    let tests = and_parts (is_ge (version_cmp one other))
    (is_some other.post || (not (same_release one other) || not (is_some one.post))) test in
    let parts = and_parts (is_gt (candidate_cmp one candidate))
    (not (same_release one candidate && (is_some candidate.post && not (is_some one.post)))) taken in
    let order : is_gt (version_cmp other one) ≡ false =
    ap is_gt (version_cmp_total.antisymm other one) ∙ at_least_turned (version_cmp one other) tests.0 in
    let above : is_gt (version_cmp seen one) ≡ true = sym (ap is_gt (seen_public one candidate plain)) ∙ parts.0 in
    let high : is_gt (front_cmp one candidate) ≡ false =
    front_kept one seen (less_not_above (version_cmp one seen) (before one seen ∙ above)) in
    let fronts : is_gt (front_cmp other one) ≡ false = front_kept other one order in
    and_from (is_gt (candidate_cmp other candidate))
    (not (same_release other candidate && (is_some candidate.post && not (is_some other.post))))
    (ap is_gt (seen_public other candidate others_plain)
    ∙ above_by seen one other (version_cmp other one) refl order above)
    (not_excluded (same_release one candidate) (same_release other candidate) (same_release one other)
    (is_some candidate.post) (is_some one.post) (is_some other.post) parts.1 tests.1
    (λ same. same_both one other (upto front_total one candidate other high (same_turned other candidate same))
    fronts)
    (λ same both. same_on one other candidate both same))

pub greater_implies : (one other : SpecifierRecord) (version wanted : VersionRecord) → version ≡ one.version
    → wanted ≡ other.version → GreaterThan ≡ one.operator → GreaterThan ≡ other.operator → IsBuilt one
    → IsBuilt other → (told : Bool)
    → told ≡ (is_ge (version_cmp version wanted)
    && (is_some wanted.post || (not (same_release version wanted) || not (is_some version.post))))
    → told ≡ true → Implies one other
greater_implies one other version wanted v w e f built others_built told is h candidate taken =
    ap (λ (o : Operator). matches o other.version candidate) (sym f)
    ∙ greater_implied one.version other.version (built.local (ap takes_local (sym e)))
    (others_built.local (ap takes_local (sym f)))
    ((λ i. is_ge (version_cmp (sym v i) (sym w i))
    && (is_some (sym w i).post || (not (same_release (sym v i) (sym w i)) || not (is_some (sym v i).post))))
    ∙ sym is ∙ h)
    candidate (ap (λ (o : Operator). matches o one.version candidate) e ∙ taken)
