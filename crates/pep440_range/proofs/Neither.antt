-- Points that neither the range of an operator holds nor that of its negation.
use Rattle.std.proofs.Common.{◌≡◌, ℕ, ◌+◌, ◌<◌, not, true, false, if◌then◌else◌, List, [], ◌∷◌, map}
use Rattle.std.proofs.Common.{Option, Some, None, is_some, refl, ap, sym, ◌∙◌, arith}
use Rattle.std.specs.Option.{option_map}
use Rattle.std.specs.declared.cmp.Ordering.{Ordering}
use Rattle.std.specs.declared.cmp.Ordering.TheVariants.{Less, Equal, Greater}
use Rattle.std.specs.declared.ops.Bound.TheVariants.{Included}
use Rattle.std.specs.Ordering.{ordering_then, nat_cmp, is_lt, is_gt, MatchOrdering}
use Rattle.std.specs.Cmp.{ranks, tied_itself, nat_cmp_total}
use Rattle.std.specs.Cmp.Lexicographic.{nat_list_cmp_total}
use Rattle.version_ranges.specs.Point.{At, JustAbove}
use Rattle.pep440_text.specs.declared.Prerelease.{Prerelease}
use Rattle.pep440_version.specs.Record.{Segment, VersionRecord}
use Rattle.pep440_version.specs.Changes.{is_prerelease}
use Rattle.pep440_text.specs.Releases.{raised}
use Rattle.pep440_version.specs.Order.{kind_rank, pre_key, post_key, absent_last, segment_key}
use Rattle.pep440_version.specs.Order.{version_cmp, key_cmp}
use Rattle.pep440_version.specs.OrderLaws.{version_cmp_total}
use Rattle.pep440_operator.specs.declared.operator.Operator.TheVariants as operators
use Rattle.pep440_range.specs.Agreement.{IsSaid}
use Rattle.pep440_range.specs.Ranges.{range_holds, range_by, greater_range, from_bound}
use Rattle.pep440_range.proofs.Orderings.{equal_first, neither, is_none}
use Rattle.pep440_range.proofs.Prefixes.{raised_is}
use Rattle.pep440_range.proofs.Fronts.{tail_of, tail_key, tail_cmp, front_cmp, by_front, said_tail}
use Rattle.pep440_range.proofs.Sides.{before_least}

-- ---- versions of one release

itself : (version : VersionRecord) → version_cmp version version ≡ Equal
itself version = tied_itself version_cmp_total version

level_front : (version : VersionRecord) → front_cmp version version ≡ Equal
level_front version =
    equal_first (front_cmp version version) (tail_cmp version version)
    (sym (by_front version version) ∙ itself version)

-- where epoch and release are those of another version, the rest decides
by_tail : (version other : VersionRecord) (o : Ordering) → front_cmp version other ≡ Equal
    → tail_cmp version other ≡ o
    → version_cmp version other ≡ o
by_tail version other o front tail = by_front version other ∙ (λ i. ordering_then (front i) (tail i))

level_part : (part : List ℕ) (xs ys : List (List ℕ)) → key_cmp (part ∷ xs) (part ∷ ys) ≡ key_cmp xs ys
level_part part xs ys = ap (λ o. ordering_then o (key_cmp xs ys)) (tied_itself nat_list_cmp_total part)

-- ---- `<` and `>=`: a developmental release

dev_before : (post : Option ℕ)
    → is_gt (key_cmp (tail_of None post None None None []) (tail_of None post (Some 0) None None [])) ≡ true
dev_before None = refl
dev_before (Some number) =
    ap (λ o. is_gt (ordering_then (ordering_then o Equal) Greater)) (tied_itself nat_cmp_total number)

own_tail : (version : VersionRecord) → IsSaid version → version.local ≡ [] → is_prerelease version ≡ false
    → tail_key version ≡ tail_of None version.post None None None []
own_tail version said plain final =
    let parts = neither (is_some version.pre) (is_some version.dev) final in
    let pre : version.pre ≡ None = is_none version.pre parts.0 in
    let dev : version.dev ≡ None = is_none version.dev parts.1 in
    said_tail version said plain ∙ (λ i. tail_of (pre i) version.post (dev i) None None [])

dev_tail : (version : VersionRecord) → IsSaid version → version.local ≡ [] → is_prerelease version ≡ false
    → tail_key (record version { dev = Some 0 }) ≡ tail_of None version.post (Some 0) None None []
dev_tail version said plain final =
    let parts = neither (is_some version.pre) (is_some version.dev) final in
    let pre : version.pre ≡ None = is_none version.pre parts.0 in
    λ i. tail_of (pre i) version.post (Some 0) (said.no_least i) (said.no_most i) (plain i)

-- a developmental release of a version that is none lies before it
behind_its_dev : (version : VersionRecord) → IsSaid version → version.local ≡ [] → is_prerelease version
    ≡ false
    → is_gt (version_cmp version (record version { dev = Some 0 })) ≡ true
behind_its_dev version said plain final =
    let first : VersionRecord = record version { dev = Some 0 } in
    let left = own_tail version said plain final in
    let right = dev_tail version said plain final in
    ap is_gt (by_tail version first (tail_cmp version first) (level_front version) refl)
    ∙ (λ i. is_gt (key_cmp (left i) (right i))) ∙ dev_before version.post

pub before : (version : VersionRecord) → IsSaid version → version.local ≡ [] → is_prerelease version ≡ false
    → (range_holds (range_by operators.LessThan version) (At (record version { dev = Some 0 })) ≡ false)
    × (range_holds (range_by operators.GreaterThanEqual version) (At (record version { dev = Some 0 }))
    ≡ false)
before version said plain final =
    let first : VersionRecord = record version { dev = Some 0 } in
    let also : IsSaid first = record { no_least = said.no_least; no_most = said.no_most } in (
      ap (λ b. is_lt (version_cmp first (if b then version else record version { least = Some 0 }))) final
          ∙ before_least version first also plain ∙ ap is_gt (level_front version),
      ap not (behind_its_dev version said plain final),
    )

-- ---- `<=` and `>`: what lies just above

-- a number that is there lies behind a lesser one
behind_number : (d n : ℕ) (o : Ordering) → d + 1 ≡ n → MatchOrdering o (n < d) (n ≡ d) (d < n) → o ≡ Greater
behind_number d n Less e h = absurd (omega arith)
behind_number d n Equal e h = absurd (omega arith)
behind_number d n Greater e h = refl

numbers_decide : (d n : ℕ) (xs ys : List (List ℕ)) → d + 1 ≡ n
    → key_cmp ((0 ∷ n ∷ []) ∷ xs) ((0 ∷ d ∷ []) ∷ ys) ≡ Greater
numbers_decide d n xs ys e =
    ap (λ o. ordering_then (ordering_then o Equal) (key_cmp xs ys))
    (behind_number d n (nat_cmp n d) e (ranks n d))

level_parts : (c p q l : List ℕ) (xs ys : List (List ℕ))
    → key_cmp (c ∷ p ∷ q ∷ l ∷ xs) (c ∷ p ∷ q ∷ l ∷ ys) ≡ key_cmp xs ys
level_parts c p q l xs ys =
    level_part c (p ∷ q ∷ l ∷ xs) (p ∷ q ∷ l ∷ ys) ∙ level_part p (q ∷ l ∷ xs) (q ∷ l ∷ ys)
    ∙ level_part q (l ∷ xs) (l ∷ ys)
    ∙ level_part l xs ys

-- a raised developmental release lies behind its version
dev_behind : (pre : Option Prerelease) (post : Option ℕ) (d n : ℕ) (local : List Segment) → d + 1 ≡ n
    → key_cmp (tail_of pre post (Some n) None None local) (tail_of pre post (Some d) None None local)
    ≡ Greater
dev_behind (Some pre) post d n local e =
    let rest : List (List ℕ) = map segment_key local in
    level_parts ((2 + kind_rank pre.kind) ∷ []) (pre_key (Some pre)) (post_key post None) []
    ((0 ∷ n ∷ []) ∷ rest) ((0 ∷ d ∷ []) ∷ rest)
    ∙ numbers_decide d n rest rest e
dev_behind None (Some post) d n local e =
    let rest : List (List ℕ) = map segment_key local in
    level_parts (6 ∷ []) [] (0 ∷ post ∷ []) [] ((0 ∷ n ∷ []) ∷ rest) ((0 ∷ d ∷ []) ∷ rest)
    ∙ numbers_decide d n rest rest e
dev_behind None None d n local e =
    let rest : List (List ℕ) = map segment_key local in
    level_parts (1 ∷ []) [] [] [] ((0 ∷ n ∷ []) ∷ rest) ((0 ∷ d ∷ []) ∷ rest)
    ∙ numbers_decide d n rest rest e

-- and a raised post-release
post_behind : (pre : Option Prerelease) (dev : Option ℕ) (p n : ℕ) (local : List Segment) → p + 1 ≡ n
    → key_cmp (tail_of pre (Some n) dev None None local) (tail_of pre (Some p) dev None None local) ≡ Greater
post_behind (Some pre) dev p n local e =
    let rest : List (List ℕ) = [] ∷ absent_last dev ∷ map segment_key local in
    level_part ((2 + kind_rank pre.kind) ∷ []) (pre_key (Some pre) ∷ (0 ∷ n ∷ []) ∷ rest)
    (pre_key (Some pre) ∷ (0 ∷ p ∷ []) ∷ rest)
    ∙ level_part (pre_key (Some pre)) ((0 ∷ n ∷ []) ∷ rest) ((0 ∷ p ∷ []) ∷ rest)
    ∙ numbers_decide p n rest rest e
post_behind None dev p n local e =
    let rest : List (List ℕ) = [] ∷ absent_last dev ∷ map segment_key local in
    level_part (6 ∷ []) ([] ∷ (0 ∷ n ∷ []) ∷ rest) ([] ∷ (0 ∷ p ∷ []) ∷ rest)
    ∙ level_part [] ((0 ∷ n ∷ []) ∷ rest) ((0 ∷ p ∷ []) ∷ rest)
    ∙ numbers_decide p n rest rest e

-- and the last of a version that is neither
most_behind : (pre : Option Prerelease) (local : List Segment)
    → key_cmp (tail_of pre None None None (Some 0) local) (tail_of pre None None None None local) ≡ Greater
most_behind None local = refl
most_behind (Some pre) local =
    let rest : List (List ℕ) = [] ∷ absent_last None ∷ map segment_key local in
    level_part ((2 + kind_rank pre.kind) ∷ []) (pre_key (Some pre) ∷ (1 ∷ 0 ∷ []) ∷ rest)
    (pre_key (Some pre) ∷ [] ∷ rest)
    ∙ level_part (pre_key (Some pre)) ((1 ∷ 0 ∷ []) ∷ rest) ([] ∷ rest)

tail_with : (version : VersionRecord) (dev post : Option ℕ) → version.dev ≡ dev → version.post ≡ post
    → IsSaid version
    → tail_key version ≡ tail_of version.pre post dev None None version.local
tail_with version dev post d p said =
    λ i. tail_of version.pre (p i) (d i) (said.no_least i) (said.no_most i) version.local

-- what begins at a raised version does not hold what lies just above the version
later_held : (next : Option ℕ) (start : ℕ → VersionRecord) (version : VersionRecord)
    → ((n : ℕ) → next ≡ Some n → version_cmp (start n) version ≡ Greater)
    → range_holds (option_map (λ n. from_bound (Included (start n))) next) (JustAbove version) ≡ false
later_held None start version f = refl
later_held (Some n) start version f = ap (λ o. not (is_gt (ordering_then o Less))) (f n refl)

held_by : (version : VersionRecord) (dev post : Option ℕ) → version.dev ≡ dev → version.post ≡ post
    → IsSaid version
    → range_holds (greater_range version dev post) (JustAbove version) ≡ false
held_by version (Some dev) post d p said =
    let start : ℕ → VersionRecord = λ n. record version { dev = Some n } in
    later_held (raised dev) start version
    (λ n e. by_tail (start n) version Greater (level_front version)
    ((λ i. key_cmp (tail_with (start n) (Some n) post refl p record
    { no_least = said.no_least; no_most = said.no_most } i)
    (tail_with version (Some dev) post d p said i))
    ∙ dev_behind version.pre post dev n version.local (raised_is dev n e)))
held_by version None (Some post) d p said =
    let start : ℕ → VersionRecord = λ n. record version { post = Some n } in
    later_held (raised post) start version
    (λ n e. by_tail (start n) version Greater (level_front version)
    ((λ i. key_cmp (tail_with (start n) None (Some n) d refl record
    { no_least = said.no_least; no_most = said.no_most } i)
    (tail_with version None (Some post) d p said i))
    ∙ post_behind version.pre None post n version.local (raised_is post n e)))
held_by version None None d p said =
    let start : VersionRecord = record version { most = Some 0 } in
    let left : tail_key start ≡ tail_of version.pre None None None (Some 0) version.local =
    λ i. tail_of version.pre (p i) (d i) (said.no_least i) (Some 0) version.local in
    let right = tail_with version None None d p said in
    ap (λ o. not (is_gt o))
    (by_tail start version Greater (level_front version)
    ((λ i. key_cmp (left i) (right i)) ∙ most_behind version.pre version.local))

pub behind : (version : VersionRecord) → IsSaid version
    → (range_holds (range_by operators.LessThanEqual version) (JustAbove version) ≡ false)
    × (range_holds (range_by operators.GreaterThan version) (JustAbove version) ≡ false)
behind version said = (
  ap (λ o. not (is_gt (ordering_then o Greater))) (itself version),
  held_by version version.dev version.post refl refl said,
)
