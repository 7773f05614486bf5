-- `<` and `>`: what lies on one side of a version.
use Rattle.std.proofs.Common.{◌≡◌, ◌⊎◌, ℕ, ◌+◌, inl, inr, ◌&&◌, not, Bool, true, false, if◌then◌else◌, List}
use Rattle.std.proofs.Common.{[], ◌∷◌, Option, Some, None, is_some, refl, ap, sym, ◌∙◌, true≢false}
use Rattle.std.specs.declared.cmp.Ordering.{Ordering}
use Rattle.std.specs.declared.cmp.Ordering.TheVariants.{Less, Equal, Greater}
use Rattle.std.specs.Ordering.{ordering_then, is_eq, is_lt, is_gt}
use Rattle.std.specs.declared.ops.Bound.TheVariants.{Included, Excluded}
use Rattle.version_ranges.specs.Point.{At}
use Rattle.pep440_version.specs.Record.{VersionRecord}
use Rattle.pep440_version.specs.Changes.{is_prerelease}
use Rattle.pep440_text.specs.Releases.{raised}
use Rattle.pep440_version.specs.Order.{version_cmp, key_cmp}
use Rattle.pep440_version.specs.OrderLaws.{version_cmp_total}
use Rattle.pep440_specifier.specs.Matching.{same_release}
use Rattle.pep440_range.specs.Ranges.{PointTest, from_bound, end_of_less, greater_range}
use Rattle.pep440_range.specs.Agreement.{IsSaid, IsFinal, AreApart}
use Rattle.pep440_range.proofs.Orderings.{turned_greater, not_from, last_not_greater, and_true, neither}
use Rattle.pep440_range.proofs.Orderings.{is_none, mapped_from}
use Rattle.pep440_range.proofs.Prefixes.{raised_is}
use Rattle.pep440_range.proofs.Fronts.{tail_of, tail_key, tail_cmp, front_cmp, rest_of, by_front}
use Rattle.pep440_range.proofs.Fronts.{same_front, before, said_tail}
use Rattle.pep440_range.proofs.Tails.{least_not_above, below_final, dev_raised, none_behind}
use Rattle.pep440_range.proofs.Tails.{final_behind}

-- where versions that are apart have one release, neither is a post-release
no_posts : (version candidate : VersionRecord) → AreApart version candidate → front_cmp version candidate
    ≡ Equal → (version.post ≡ None) × (candidate.post ≡ None)
no_posts version candidate (inl other) e =
    absurd (true≢false (sym (same_front version candidate ∙ ap is_eq e) ∙ other))
no_posts version candidate (inr none) e = none

-- ---- `<`

-- where versions of one release agree beside `<`, the specifier's is no post-release
no_post : (version candidate : VersionRecord) → (same_release version candidate ≡ false)
    ⊎ (version.post ≡ None) → front_cmp version candidate ≡ Equal → version.post ≡ None
no_post version candidate (inl other) e =
    absurd (true≢false (sym (same_front version candidate ∙ ap is_eq e) ∙ other))
no_post version candidate (inr none) e = none

nothing_taken : (x s p : Bool) → x ≡ (x && not (s && (p && false)))
nothing_taken false s p = refl
nothing_taken true false p = refl
nothing_taken true true false = refl
nothing_taken true true true = refl

all_taken : (g p : Bool) → (g ≡ true → p ≡ true) → false ≡ (g && not (p && true))
all_taken false p f = refl
all_taken true true f = refl
all_taken true false f = f refl

less_by_front : (f t : Ordering) (p : Bool) → (f ≡ Equal → is_gt t ≡ true → p ≡ true) → is_gt f
    ≡ (is_gt (ordering_then f t) && not (is_eq f && (p && true)))
less_by_front Less t p h = refl
less_by_front Equal t p h = all_taken (is_gt t) p (h refl)
less_by_front Greater t p h = refl

-- what lies below a version that is no pre-release, at its release, is one
below_is_prerelease : (version candidate : VersionRecord) → IsSaid version → version.local ≡ []
    → IsSaid candidate → candidate.local ≡ [] → (same_release version candidate ≡ false)
    ⊎ (version.post ≡ None) → is_prerelease version ≡ false
    → front_cmp version candidate ≡ Equal → is_gt (tail_cmp version candidate) ≡ true
    → is_prerelease candidate ≡ true
below_is_prerelease version candidate said plain other_said other_plain apart final e h =
    let post = no_post version candidate apart e in
    let parts = neither (is_some version.pre) (is_some version.dev) final in
    let pre : version.pre ≡ None = is_none version.pre parts.0 in
    let dev : version.dev ≡ None = is_none version.dev parts.1 in
    let left : tail_key version ≡ tail_of None None None None None [] = said_tail version said plain
    ∙ (λ i. tail_of (pre i) (post i) (dev i) None None []) in
    let right : tail_key candidate ≡ tail_of candidate.pre candidate.post candidate.dev None None [] =
    said_tail candidate other_said other_plain in
    below_final candidate.pre candidate.post candidate.dev (sym (λ i. is_gt (key_cmp (left i) (right i))) ∙ h)

-- the place below all of a release
pub before_least : (version candidate : VersionRecord) → IsSaid candidate → candidate.local ≡ []
    → is_lt (version_cmp candidate (record version { least = Some 0 })) ≡ is_gt (front_cmp version candidate)
before_least version candidate said plain =
    let end : VersionRecord = record version { least = Some 0 } in
    let rest : List (List ℕ) = rest_of version.pre version.post version.dev (Some 0) version.most
    version.local in
    let low : is_gt (tail_cmp end candidate) ≡ false =
    ap (λ k. is_gt (key_cmp ((0 ∷ []) ∷ rest) k)) (said_tail candidate said plain)
    ∙ least_not_above rest candidate.pre candidate.post candidate.dev in
    before candidate end ∙ ap is_gt (by_front end candidate)
    ∙ last_not_greater (front_cmp version candidate) (tail_cmp end candidate) low

-- being below, and the release the same, by fronts
less_sides : (version candidate : VersionRecord) (p q : Bool)
    → (is_gt (ordering_then (front_cmp version candidate) (tail_cmp version candidate))
    && not (is_eq (front_cmp version candidate) && (p && q)))
    ≡ (is_lt (version_cmp candidate version) && not (same_release version candidate && (p && q)))
less_sides version candidate p q =
    let low : is_lt (version_cmp candidate version)
    ≡ is_gt (ordering_then (front_cmp version candidate) (tail_cmp version candidate)) =
    before candidate version ∙ ap is_gt (by_front version candidate) in
    let same = same_front version candidate in
    λ i. sym low i && not (sym same i && (p && q))

less_by : (version candidate : VersionRecord) (t : Bool) → is_prerelease version ≡ t → IsSaid version
    → version.local ≡ [] → IsSaid candidate → candidate.local ≡ []
    → (same_release version candidate ≡ false) ⊎ (version.post ≡ None)
    → is_lt (version_cmp candidate (if t then version else record version { least = Some 0 }))
    ≡ (is_lt (version_cmp candidate version)
    && not (same_release version candidate && (is_prerelease candidate && not t)))
less_by version candidate true e said plain other_said other_plain apart =
    nothing_taken (is_lt (version_cmp candidate version)) (same_release version candidate)
    (is_prerelease candidate)
less_by version candidate false e said plain other_said other_plain apart =
    before_least version candidate other_said other_plain
    ∙ less_by_front (front_cmp version candidate) (tail_cmp version candidate) (is_prerelease candidate)
    (below_is_prerelease version candidate said plain other_said other_plain apart e)
    ∙ less_sides version candidate (is_prerelease candidate) true

pub less_agrees : (version candidate : VersionRecord) → IsSaid version → version.local ≡ []
    → IsSaid candidate → candidate.local ≡ []
    → (same_release version candidate ≡ false) ⊎ (version.post ≡ None)
    → is_lt (version_cmp candidate (end_of_less version))
    ≡ (is_lt (version_cmp candidate version)
    && not (same_release version candidate && (is_prerelease candidate && not (is_prerelease version))))
less_agrees version candidate = less_by version candidate (is_prerelease version) refl

-- ---- `>`

from_by_front : (f t u : Ordering) (x : Bool) → (f ≡ Equal → not (is_gt t) ≡ (is_lt u && not x))
    → not (is_gt (ordering_then f t)) ≡ (is_lt (ordering_then f u) && not (is_eq f && x))
from_by_front Less t u x h = refl
from_by_front Equal t u x h = h refl
from_by_front Greater t u x h = refl

behind_by_front : (f t u : Ordering) (x : Bool) → (f ≡ Equal → is_lt t ≡ (is_lt u && not x))
    → not (is_gt (ordering_then (ordering_then f t) Greater))
    ≡ (is_lt (ordering_then f u) && not (is_eq f && x))
behind_by_front Less t u x h = refl
behind_by_front Equal t u x h = not_from t ∙ h refl
behind_by_front Greater t u x h = refl

-- whether only the candidate is a post-release
abbrev newly_post : VersionRecord → VersionRecord → Bool
newly_post version candidate = is_some candidate.post && not (is_some version.post)

-- whether a specifier `>` takes the candidate
abbrev pub IsTaken : VersionRecord → VersionRecord → Bool
IsTaken version candidate = is_gt (version_cmp candidate version)
    && not (same_release version candidate && newly_post version candidate)

greater_sides : (version candidate : VersionRecord)
    → (is_lt (ordering_then (front_cmp version candidate) (tail_cmp version candidate))
    && not (is_eq (front_cmp version candidate) && newly_post version candidate)) ≡ IsTaken version candidate
greater_sides version candidate =
    let high : is_gt (version_cmp candidate version)
    ≡ is_lt (ordering_then (front_cmp version candidate) (tail_cmp version candidate)) =
    ap is_gt (version_cmp_total.antisymm candidate version)
    ∙ turned_greater (version_cmp version candidate) ∙ ap is_lt (by_front version candidate) in
    let same = same_front version candidate in
    λ i. sym high i && not (sym same i && newly_post version candidate)

-- without a post-release nothing is taken away
none_taken : (version candidate : VersionRecord) (b : Bool) → candidate.post ≡ None → b
    ≡ (b && not (newly_post version candidate))
none_taken version candidate b none = sym (and_true b)
    ∙ ap (λ (post : Option ℕ). b && not (is_some post && not (is_some version.post))) (sym none)

-- the keys of versions without post-releases
plain_tail : (version : VersionRecord) → IsSaid version → version.local ≡ [] → version.post ≡ None
    → tail_key version ≡ tail_of version.pre None version.dev None None []
plain_tail version said plain none = said_tail version said plain
    ∙ (λ i. tail_of version.pre (none i) version.dev None None [])

-- behind a developmental release: from its next one on
dev_level : (version candidate : VersionRecord) (dev next : ℕ) → version.dev ≡ Some dev → dev + 1 ≡ next
    → IsSaid version → version.local ≡ [] → IsSaid candidate → candidate.local ≡ [] → version.post ≡ None
    → candidate.post ≡ None → not (is_gt (tail_cmp (record version { dev = Some next }) candidate))
    ≡ (is_lt (tail_cmp version candidate) && not (newly_post version candidate))
dev_level version candidate dev next d n said plain other_said other_plain none other_none =
    let first : tail_key version ≡ tail_of version.pre None (Some dev) None None [] =
    plain_tail version said plain none ∙ (λ i. tail_of version.pre None (d i) None None []) in
    let later : tail_key (record version { dev = Some next })
    ≡ tail_of version.pre None (Some next) None None [] =
    (λ i. tail_of version.pre (none i) (Some next) (said.no_least i) (said.no_most i) (plain i)) in
    let right : tail_key candidate ≡ tail_of candidate.pre None candidate.dev None None [] =
    plain_tail candidate other_said other_plain other_none in
    (λ i. not (is_gt (key_cmp (later i) (right i))))
    ∙ dev_raised dev next version.pre candidate.pre candidate.dev n
    ∙ (λ i. is_lt (key_cmp (sym first i) (sym right i)))
    ∙ none_taken version candidate (is_lt (tail_cmp version candidate)) other_none

from_dev : (version candidate : VersionRecord) (dev next : ℕ) → version.dev ≡ Some dev → dev + 1 ≡ next
    → IsSaid version → version.local ≡ [] → IsSaid candidate → candidate.local ≡ []
    → AreApart version candidate → not (is_gt (version_cmp (record version { dev = Some next })
    candidate)) ≡ IsTaken version candidate
from_dev version candidate dev next d n said plain other_said other_plain apart =
    let start : VersionRecord = record version { dev = Some next } in
    ap (λ o. not (is_gt o)) (by_front start candidate)
    ∙ from_by_front (front_cmp version candidate) (tail_cmp start candidate) (tail_cmp version candidate)
    (newly_post version candidate)
    (λ e. dev_level version candidate dev next d n said plain other_said other_plain
    (no_posts version candidate apart e).0 (no_posts version candidate apart e).1)
    ∙ greater_sides version candidate

-- behind a post-release: from its next one on
from_post : (version candidate : VersionRecord) (post next : ℕ) → version.post ≡ Some post
    → AreApart version candidate → not (is_gt (version_cmp (record version { post = Some next })
    candidate)) ≡ IsTaken version candidate
from_post version candidate post next p apart =
    let start : VersionRecord = record version { post = Some next } in
    ap (λ o. not (is_gt o)) (by_front start candidate)
    ∙ from_by_front (front_cmp version candidate) (tail_cmp start candidate) (tail_cmp version candidate)
    (newly_post version candidate)
    (λ e. let none : version.post ≡ None = (no_posts version candidate apart e).0 in absurd (cc))
    ∙ greater_sides version candidate

-- behind another release: behind all that is no post-release of it
most_level : (version candidate : VersionRecord) → version.dev ≡ None → IsSaid version → version.local
    ≡ [] → IsSaid candidate → candidate.local ≡ [] → version.post ≡ None → candidate.post ≡ None
    → is_lt (tail_cmp (record version { most = Some 0 }) candidate)
    ≡ (is_lt (tail_cmp version candidate) && not (newly_post version candidate))
most_level version candidate d said plain other_said other_plain none other_none =
    let first : tail_key version ≡ tail_of version.pre None None None None [] =
    plain_tail version said plain none ∙ (λ i. tail_of version.pre None (d i) None None []) in
    let last : tail_key (record version { most = Some 0 }) ≡ tail_of version.pre None None None (Some 0) [] =
    (λ i. tail_of version.pre (none i) (d i) (said.no_least i) (Some 0) (plain i)) in
    let right : tail_key candidate ≡ tail_of candidate.pre None candidate.dev None None [] =
    plain_tail candidate other_said other_plain other_none in
    (λ i. is_lt (key_cmp (last i) (right i)))
    ∙ none_behind version.pre candidate.pre candidate.dev
    ∙ (λ i. is_lt (key_cmp (sym first i) (sym right i)))
    ∙ none_taken version candidate (is_lt (tail_cmp version candidate)) other_none

-- and behind a final release: behind its post-releases too
final_level : (version candidate : VersionRecord) → IsFinal version → IsSaid version → version.local
    ≡ [] → IsSaid candidate → candidate.local ≡ []
    → is_lt (tail_cmp (record version { most = Some 0 }) candidate)
    ≡ (is_lt (tail_cmp version candidate) && not (newly_post version candidate))
final_level version candidate final said plain other_said other_plain =
    let first : tail_key version ≡ tail_of None None None None None [] = said_tail version said plain
    ∙ (λ i. tail_of (final.no_pre i) (final.no_post i) (final.no_dev i) None None []) in
    let last : tail_key (record version { most = Some 0 }) ≡ tail_of None None None None (Some 0) [] =
    (λ i. tail_of (final.no_pre i) (final.no_post i) (final.no_dev i) (said.no_least i) (Some 0) (plain i)) in
    let right : tail_key candidate ≡ tail_of candidate.pre candidate.post candidate.dev None None [] =
    said_tail candidate other_said other_plain in
    (λ i. is_lt (key_cmp (last i) (right i)))
    ∙ final_behind candidate.pre candidate.post candidate.dev
    ∙ (λ i. is_lt (key_cmp (sym first i) (sym right i))
    && not (is_some candidate.post && not (is_some (sym final.no_post i))))

-- where a version agrees beside `>`
abbrev IsClear : VersionRecord → VersionRecord → Type 0
IsClear version candidate = AreApart version candidate ⊎ IsFinal version

level : (version candidate : VersionRecord) → version.dev ≡ None → IsSaid version → version.local ≡ []
    → IsSaid candidate → candidate.local ≡ [] → IsClear version candidate → front_cmp version candidate
    ≡ Equal → is_lt (tail_cmp (record version { most = Some 0 }) candidate)
    ≡ (is_lt (tail_cmp version candidate) && not (newly_post version candidate))
level version candidate d said plain other_said other_plain (inl apart) e =
    most_level version candidate d said plain other_said other_plain
    (no_posts version candidate apart e).0 (no_posts version candidate apart e).1
level version candidate d said plain other_said other_plain (inr final) e =
    final_level version candidate final said plain other_said other_plain

behind_most : (version candidate : VersionRecord) → version.dev ≡ None → IsSaid version → version.local
    ≡ [] → IsSaid candidate → candidate.local ≡ [] → IsClear version candidate
    → not (is_gt (ordering_then (version_cmp (record version { most = Some 0 }) candidate) Greater))
    ≡ IsTaken version candidate
behind_most version candidate d said plain other_said other_plain clear =
    let start : VersionRecord = record version { most = Some 0 } in
    ap (λ o. not (is_gt (ordering_then o Greater))) (by_front start candidate)
    ∙ behind_by_front (front_cmp version candidate) (tail_cmp start candidate)
    (tail_cmp version candidate) (newly_post version candidate)
    (level version candidate d said plain other_said other_plain clear)
    ∙ greater_sides version candidate

-- beside a developmental or a post-release, which is no final one
apart_by_dev : (version candidate : VersionRecord) (dev : ℕ) → version.dev ≡ Some dev
    → IsClear version candidate → AreApart version candidate
apart_by_dev version candidate dev d (inl apart) = apart
apart_by_dev version candidate dev d (inr final) = let none = final.no_dev in absurd (cc)

apart_by_post : (version candidate : VersionRecord) (post : ℕ) → version.post ≡ Some post
    → IsClear version candidate → AreApart version candidate
apart_by_post version candidate post p (inl apart) = apart
apart_by_post version candidate post p (inr final) = let none = final.no_post in absurd (cc)

greater_by : (version candidate : VersionRecord) (range : PointTest) (dev post : Option ℕ) → version.dev
    ≡ dev → version.post ≡ post → IsSaid version → version.local ≡ [] → IsSaid candidate → candidate.local
    ≡ [] → IsClear version candidate → greater_range version dev post ≡ Some range → range (At candidate)
    ≡ IsTaken version candidate
greater_by version candidate range (Some dev) post d p said plain other_said other_plain clear e =
    let found = mapped_from (λ (next : ℕ). from_bound (Included (record version { dev = Some next })))
    (raised dev) range e in
    ap (λ (r : PointTest). r (At candidate)) (sym found.2)
    ∙ from_dev version candidate dev found.0 d (raised_is dev found.0 found.1) said plain other_said
    other_plain (apart_by_dev version candidate dev d clear)
greater_by version candidate range None (Some post) d p said plain other_said other_plain clear e =
    let found = mapped_from (λ (next : ℕ). from_bound (Included (record version { post = Some next })))
    (raised post) range e in
    ap (λ (r : PointTest). r (At candidate)) (sym found.2)
    ∙ from_post version candidate post found.0 p (apart_by_post version candidate post p clear)
greater_by version candidate range None None d p said plain other_said other_plain clear e =
    let same : from_bound (Excluded (record version { most = Some 0 })) ≡ range = cc in
    ap (λ (r : PointTest). r (At candidate)) (sym same)
    ∙ behind_most version candidate d said plain other_said other_plain clear

pub greater_agrees : (version candidate : VersionRecord) (range : PointTest) → IsSaid version
    → version.local ≡ [] → IsSaid candidate → candidate.local ≡ [] → IsClear version candidate
    → greater_range version version.dev version.post ≡ Some range → range (At candidate)
    ≡ IsTaken version candidate
greater_agrees version candidate range =
    greater_by version candidate range version.dev version.post refl refl
