-- Equal versions in their shortest spelling are the same, and so are diagrams that are one.
use Rattle.std.proofs.Common.{◌≡◌, ◌∙◌, ℕ, ◌==◌, cond, if◌then◌else◌, List, [], ◌∷◌, map, refl, ap, ap₂, sym}
use Rattle.std.proofs.Common.{arith, Option, Some, None, Less, Equal, Greater}
use Rattle.std.specs.Ordering.{is_eq}
use Rattle.std.specs.Cmp.Lexicographic.{slice_cmp}
use Rattle.version_ranges.specs.declared.boundary.Boundary.{Boundary}
use Rattle.version_ranges.specs.declared.boundary.Boundary.TheVariants as boundary
use Rattle.version_ranges.specs.Boundaries.{boundary_cmp}
use Rattle.pep440_text.specs.declared.Prerelease.{Prerelease}
use Rattle.pep440_text.specs.declared.PrereleaseKind.{PrereleaseKind}
use Rattle.pep440_text.specs.declared.PrereleaseKind.TheVariants.{Alpha, Beta, Rc}
use Rattle.pep440_text.specs.Record.{Segment, Text, Number, VersionRecord}
use Rattle.pep440_version.specs.Changes.{or_zero}
use Rattle.pep440_version.specs.Order.{kind_rank, stripped, absent_first, absent_last, pre_key, post_key}
use Rattle.pep440_version.specs.Order.{segment_key, key_of, version_cmp}
use Rattle.pep440_version.specs.OrderLaws.{key_decides}
use Rattle.pep508_diagram.specs.Diagram.{Diagram, Leaf, Test}
use Rattle.pep508_diagram.specs.Question.{Question, VersionBelow, TextBelow, IsSet, Valuation, truth, AreOne}
use Rattle.pep508_diagram.specs.Question.{IsCanonical, place_of, version_rank, text_rank, question_cmp}
use Rattle.pep508_diagram.specs.Shortened.{post_beside, shortest, IsShort, AsksOfShort, HasShortVersions}
use Rattle.pep508_diagram.specs.Text.{text_cmp}
use Rattle.pep508_diagram.proofs.Places.{not_less, texts_same, versions_same, text_keys_same}
use Rattle.version_ranges.specs.HashingLaws.{then_equal}
use Rattle.pep508_diagram.proofs.Places.{version_rank_below, rank_below, flag_rank_from, flag_from_place}
use Rattle.pep508_diagram.proofs.Questions.{one_marker_diagram}

-- ---- parts of keys

abbrev head : List ℕ → ℕ
head [] = 0
head (x ∷ xs) = x

abbrev tail : List ℕ → List ℕ
tail [] = []
tail (x ∷ xs) = xs

abbrev front : List (List ℕ) → List ℕ
front [] = []
front (x ∷ xs) = x

abbrev rest : List (List ℕ) → List (List ℕ)
rest [] = []
rest (x ∷ xs) = xs

abbrev kind_at : ℕ → PrereleaseKind
kind_at n = cond (n == 0) Alpha (cond (n == 1) Beta Rc)

kind_at_rank : (kind : PrereleaseKind) → kind_at (kind_rank kind) ≡ kind
kind_at_rank Alpha = refl
kind_at_rank Beta = refl
kind_at_rank Rc = refl

kinds_same : (a b : PrereleaseKind) → kind_rank a ≡ kind_rank b → a ≡ b
kinds_same a b e = sym (kind_at_rank a) ∙ ap kind_at e ∙ kind_at_rank b

abbrev pre_made : PrereleaseKind → ℕ → Option Prerelease
pre_made kind number = Some (record { kind = kind; number = number })

pres_same : (a b : Option Prerelease) → pre_key a ≡ pre_key b → a ≡ b
pres_same None None e = refl
pres_same None (Some b) e = absurd (cc)
pres_same (Some a) None e = absurd (cc)
pres_same (Some a) (Some b) e =
    ap₂ pre_made (kinds_same a.kind b.kind (ap head e)) (ap (λ xs. head (tail xs)) e)

-- `most`, of a key of post-releases
abbrev most_in : List ℕ → Option ℕ
most_in [] = None
most_in (x ∷ xs) = if x == 1 then Some (head xs) else None

-- the post-release that stands beside no `most`
abbrev post_in : List ℕ → Option ℕ
post_in [] = None
post_in (x ∷ xs) = if x == 1 then None else Some (head xs)

most_back : (post most : Option ℕ) → most_in (post_key post most) ≡ most
most_back post (Some m) = refl
most_back (Some p) None = refl
most_back None None = refl

post_back : (post most : Option ℕ) → post_in (post_key post most) ≡ post_beside most post
post_back post (Some m) = refl
post_back (Some p) None = refl
post_back None None = refl

leasts_same : (a b : Option ℕ) → absent_first a ≡ absent_first b → a ≡ b
leasts_same None None e = refl
leasts_same None (Some b) e = absurd (cc)
leasts_same (Some a) None e = absurd (cc)
leasts_same (Some a) (Some b) e = ap (λ xs. Some (head xs)) e

devs_same : (a b : Option ℕ) → absent_last a ≡ absent_last b → a ≡ b
devs_same None None e = refl
devs_same None (Some b) e = let l : 1 ≡ 0 = ap head e in absurd (omega (arith, l))
devs_same (Some a) None e = let l : 0 ≡ 1 = ap head e in absurd (omega (arith, l))
devs_same (Some a) (Some b) e = ap (λ xs. Some (head (tail xs))) e

segment_same : (a b : Segment) → segment_key a ≡ segment_key b → a ≡ b
segment_same (Text a) (Text b) e = ap (λ xs. Text (tail xs)) e
segment_same (Text a) (Number b) e = let l : 0 ≡ 1 = ap head e in absurd (omega (arith, l))
segment_same (Number a) (Text b) e = let l : 1 ≡ 0 = ap head e in absurd (omega (arith, l))
segment_same (Number a) (Number b) e = ap (λ xs. Number (head (tail xs))) e

locals_same : (a b : List Segment) → map segment_key a ≡ map segment_key b → a ≡ b
locals_same [] [] e = refl
locals_same [] (y ∷ b) e = absurd (cc)
locals_same (x ∷ a) [] e = absurd (cc)
locals_same (x ∷ a) (y ∷ b) e =
    ap₂ (λ s l. s ∷ l) (segment_same x y (ap front e)) (locals_same a b (ap rest e))

-- ---- versions

record SameParts (v w : VersionRecord) : Type 0 where
  epoch : v.epoch ≡ w.epoch
  release : stripped v.release ≡ stripped w.release
  pre : pre_key v.pre ≡ pre_key w.pre
  post : post_key v.post v.most ≡ post_key w.post w.most
  least : absent_first v.least ≡ absent_first w.least
  dev : absent_last v.dev ≡ absent_last w.dev
  local : map segment_key v.local ≡ map segment_key w.local

same_parts : (v w : VersionRecord) → key_of v ≡ key_of w → SameParts v w
unfolding key_of
same_parts v w e = record {
  epoch = ap (λ k. head (front k)) e;
  release = ap (λ k. front (rest k)) e;
  pre = ap (λ k. front (rest (rest (rest k)))) e;
  post = ap (λ k. front (rest (rest (rest (rest k))))) e;
  least = ap (λ k. front (rest (rest (rest (rest (rest k)))))) e;
  dev = ap (λ k. front (rest (rest (rest (rest (rest (rest k))))))) e;
  local = ap (λ k. rest (rest (rest (rest (rest (rest (rest k))))))) e;
}

-- the shortest spelling of equal versions is one
shortest_same : (v w : VersionRecord) → SameParts v w → shortest v ≡ shortest w
shortest_same v w same = λ i. record {
  epoch = same.epoch i;
  release = or_zero (same.release i);
  pre = pres_same v.pre w.pre same.pre i;
  post = (sym (post_back v.post v.most) ∙ ap post_in same.post ∙ post_back w.post w.most) i;
  dev = devs_same v.dev w.dev same.dev i;
  local = locals_same v.local w.local same.local i;
  least = leasts_same v.least w.least same.least i;
  most = (sym (most_back v.post v.most) ∙ ap most_in same.post ∙ most_back w.post w.most) i;
}

-- equal versions in their shortest spelling are the same
pub versions_spelled : (v w : VersionRecord) → shortest v ≡ v → shortest w ≡ w → version_cmp v w ≡ Equal → v ≡ w
versions_spelled v w is other e =
    sym is ∙ shortest_same v w (same_parts v w ((key_decides v w).0 (ap is_eq e))) ∙ other

abbrev version_in : Boundary VersionRecord → VersionRecord
version_in (boundary.At v) = v
version_in (boundary.JustAbove v) = v

-- ---- boundaries and questions

boundaries_same : (a b : Boundary VersionRecord) → IsShort a → IsShort b →
    boundary_cmp version_cmp a b ≡ Equal → a ≡ b
boundaries_same (boundary.At v) (boundary.At w) is other e = ap boundary.At (versions_spelled v w (ap version_in is) (ap version_in other) e)
boundaries_same (boundary.At v) (boundary.JustAbove w) is other e =
    absurd (not_less (sym (then_equal (version_cmp v w) Less e).1))
boundaries_same (boundary.JustAbove v) (boundary.At w) is other e =
    let l : Greater ≡ Equal = (then_equal (version_cmp v w) Greater e).1 in absurd (cc)
boundaries_same (boundary.JustAbove v) (boundary.JustAbove w) is other e =
    ap boundary.JustAbove (versions_spelled v w (ap version_in is) (ap version_in other) e)

texts_at : (a b : Boundary (List ℕ)) → boundary_cmp text_cmp a b ≡ Equal → a ≡ b
texts_at (boundary.At v) (boundary.At w) e = ap boundary.At (texts_same v w e)
texts_at (boundary.At v) (boundary.JustAbove w) e = absurd (not_less (sym (then_equal (text_cmp v w) Less e).1))
texts_at (boundary.JustAbove v) (boundary.At w) e =
    let l : Greater ≡ Equal = (then_equal (text_cmp v w) Greater e).1 in absurd (cc)
texts_at (boundary.JustAbove v) (boundary.JustAbove w) e = ap boundary.JustAbove (texts_same v w e)

questions_same : (q r : Question) → AsksOfShort q → AsksOfShort r → question_cmp q r ≡ Equal → q ≡ r
unfolding question_cmp
questions_same (VersionBelow k a) (VersionBelow j b) is other e =
    let parts = then_equal (text_cmp (version_rank k ∷ []) (version_rank j ∷ [])) _ e in
    let inner = then_equal (slice_cmp (boundary_cmp version_cmp) (a ∷ []) (b ∷ [])) _ parts.1 in
    ap₂ VersionBelow
    (versions_same k j (ap head (texts_same (version_rank k ∷ []) (version_rank j ∷ []) parts.0)))
    (boundaries_same a b is other (then_equal (boundary_cmp version_cmp a b) _ inner.0).0)
questions_same (VersionBelow k a) (TextBelow j b) is other e =
    let parts = then_equal (text_cmp (version_rank k ∷ []) (text_rank j ∷ [])) _ e in
    let l = ap head (texts_same (version_rank k ∷ []) (text_rank j ∷ []) parts.0) in
    absurd (omega (arith, l, version_rank_below k))
questions_same (VersionBelow k a) (IsSet g) is other e =
    let parts = then_equal (text_cmp (version_rank k ∷ []) (place_of (IsSet g))) _ e in
    let l = ap head (texts_same (version_rank k ∷ []) (place_of (IsSet g)) parts.0) in
    absurd (omega (arith, l, version_rank_below k, flag_rank_from g))
questions_same (TextBelow k a) (VersionBelow j b) is other e =
    let parts = then_equal (text_cmp (text_rank k ∷ []) (version_rank j ∷ [])) _ e in
    let l = ap head (texts_same (text_rank k ∷ []) (version_rank j ∷ []) parts.0) in
    absurd (omega (arith, l, version_rank_below j))
questions_same (TextBelow k a) (TextBelow j b) is other e =
    let parts = then_equal (text_cmp (text_rank k ∷ []) (text_rank j ∷ [])) _ e in
    let l = ap head (texts_same (text_rank k ∷ []) (text_rank j ∷ []) parts.0) in
    ap₂ TextBelow (text_keys_same k j (omega (arith, l)))
    (texts_at a b (then_equal (boundary_cmp text_cmp a b) _ parts.1).0)
questions_same (TextBelow k a) (IsSet g) is other e =
    let parts = then_equal (text_cmp (text_rank k ∷ []) (place_of (IsSet g))) _ e in
    let l = ap head (texts_same (text_rank k ∷ []) (place_of (IsSet g)) parts.0) in
    absurd (omega (arith, l, rank_below k, flag_rank_from g))
questions_same (IsSet f) (VersionBelow j b) is other e =
    let parts = then_equal (text_cmp (place_of (IsSet f)) (version_rank j ∷ [])) _ e in
    let l = ap head (texts_same (place_of (IsSet f)) (version_rank j ∷ []) parts.0) in
    absurd (omega (arith, l, version_rank_below j, flag_rank_from f))
questions_same (IsSet f) (TextBelow j b) is other e =
    let parts = then_equal (text_cmp (place_of (IsSet f)) (text_rank j ∷ [])) _ e in
    let l = ap head (texts_same (place_of (IsSet f)) (text_rank j ∷ []) parts.0) in
    absurd (omega (arith, l, rank_below j, flag_rank_from f))
questions_same (IsSet f) (IsSet g) is other e =
    ap IsSet (flag_from_place f g (then_equal (text_cmp (place_of (IsSet f)) (place_of (IsSet g))) _ e).0)

-- ---- diagrams

-- diagrams of shortest spellings that are one are the same
pub diagrams_spelled : (d e : Diagram Question) → HasShortVersions d → HasShortVersions e → AreOne d e → d ≡ e
diagrams_spelled (Leaf b) (Leaf c) is other one = ap Leaf one
diagrams_spelled (Leaf b) (Test r low high) is other one = absurd one
diagrams_spelled (Test q low high) (Leaf c) is other one = absurd one
diagrams_spelled (Test q low high) (Test r other_low other_high) is other one =
    let same = questions_same q r is.0 other.0 one.0 in
    let lows = diagrams_spelled low other_low is.1 other.1 one.1 in
    let highs = diagrams_spelled high other_high is.2 other.2 one.2 in
    λ i. Test (same i) (lows i) (highs i)

-- one meaning has one diagram
pub one_spelling : (d e : Diagram Question) → IsCanonical d → IsCanonical e → HasShortVersions d →
    HasShortVersions e → ((v : Valuation) → truth d v ≡ truth e v) → d ≡ e
one_spelling d e canonical other_canonical short other_short agree =
    diagrams_spelled d e short other_short (one_marker_diagram d e canonical other_canonical agree)
