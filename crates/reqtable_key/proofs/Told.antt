-- Heads tell apart what requirements on packages say together.
use Rattle.std.proofs.Common.{◌≡◌, ◌∙◌, ℕ, Bool, true, false, List, [], ◌∷◌, ◌++◌, refl, sym, ap, arith}
use Rattle.std.proofs.lemmas.Map.Lookups.{exact_bytes}
use Rattle.std.specs.List.{list_any}
use Rattle.std.specs.Cmp.Lexicographic.{slice_cmp}
use Rattle.std.specs.Str.{bytes_eq}
use Rattle.std.specs.declared.cmp.Ordering.TheVariants.{Less, Equal, Greater}
use Rattle.version_ranges.specs.Point.{Point, BelowAll, At, JustAbove, point_cmp}
use Rattle.version_ranges.specs.Held.{holds_at}
use Rattle.version_ranges.specs.Turns.{flips, reaches}
use Rattle.version_ranges.specs.HashingLaws.{then_equal}
use Rattle.version_ranges.specs.OrderLaws.{points_total}
use Rattle.version_ranges.proofs.Membership.{canonical, like}
use Rattle.pep440_version.specs.Record.{VersionRecord}
use Rattle.pep440_version.specs.Order.{version_cmp}
use Rattle.pep440_version.specs.OrderLaws.{version_cmp_total}
use Rattle.pep440_key.specs.Key.{component_bytes, version_bytes}
use Rattle.pep508_diagram.specs.Text.{text_cmp}
use Rattle.pep508_marker_key.specs.Told.{TellApart, listed_bytes}
use Rattle.pep508_marker_key.proofs.Apart.{heads, tails, texts_apart, versions_apart, listed_apart, same_bytes}
use Rattle.pep508_requirement_text.specs.FrontReading.{Front}
use Rattle.reqtable_answer.specs.Asks.{names_prerelease}
use Rattle.reqtable_answer.proofs.OneAnswer.{same_texts}
use Rattle.reqtable_cases.specs.Requires.{AskAlike}
use Rattle.reqtable_key.specs.Heads.{point_bytes, flag_bytes, head_bytes, IsHead}

abbrev Range : Type 0
Range = List (Point VersionRecord)

pub less_not_equal : Less ≡ Equal → ⊥
less_not_equal e = absurd (cc)

pub greater_not_equal : Greater ≡ Equal → ⊥
greater_not_equal e = absurd (cc)

-- ---- points

points_apart : TellApart (point_cmp version_cmp) point_bytes
points_apart BelowAll BelowAll u v = (λ e. (refl, tails 2 2 u v e), λ h. ap (λ t. 2 ∷ t) h.1)
points_apart BelowAll (At w) u v =
    (λ e. absurd (omega (arith, heads 2 0 u (version_bytes w ++ v) e)), λ h. absurd (less_not_equal h.0))
points_apart BelowAll (JustAbove w) u v =
    (λ e. absurd (omega (arith, heads 2 1 u (version_bytes w ++ v) e)), λ h. absurd (less_not_equal h.0))
points_apart (At x) BelowAll u v =
    (λ e. absurd (omega (arith, heads 0 2 (version_bytes x ++ u) v e)), λ h. absurd (greater_not_equal h.0))
points_apart (At x) (At y) u v = (
  λ e. (versions_apart x y u v).0 (tails 0 0 (version_bytes x ++ u) (version_bytes y ++ v) e),
  λ h. ap (λ t. 0 ∷ t) ((versions_apart x y u v).1 h),
)
points_apart (At x) (JustAbove y) u v = (
  λ e. absurd (omega (arith, heads 0 1 (version_bytes x ++ u) (version_bytes y ++ v) e)),
  λ h. absurd (less_not_equal (then_equal (version_cmp x y) Less h.0).1),
)
points_apart (JustAbove x) BelowAll u v =
    (λ e. absurd (omega (arith, heads 1 2 (version_bytes x ++ u) v e)), λ h. absurd (greater_not_equal h.0))
points_apart (JustAbove x) (At y) u v = (
  λ e. absurd (omega (arith, heads 1 0 (version_bytes x ++ u) (version_bytes y ++ v) e)),
  λ h. absurd (greater_not_equal (then_equal (version_cmp x y) Greater h.0).1),
)
points_apart (JustAbove x) (JustAbove y) u v = (
  λ e. (versions_apart x y u v).0 (tails 1 1 (version_bytes x ++ u) (version_bytes y ++ v) e),
  λ h. ap (λ t. 1 ∷ t) ((versions_apart x y u v).1 h),
)

-- ranges of equal points hold the same
same_held : (r s : Range) → slice_cmp (point_cmp version_cmp) r s ≡ Equal → (p : Point VersionRecord) →
    holds_at version_cmp r p ≡ holds_at version_cmp s p
same_held [] [] e p = refl
same_held [] (y ∷ s) e p = absurd (less_not_equal e)
same_held (x ∷ r) [] e p = absurd (greater_not_equal e)
same_held (x ∷ r) (y ∷ s) e p =
    let both = then_equal (point_cmp version_cmp x y) (slice_cmp (point_cmp version_cmp) r s) e in
    let first : reaches (point_cmp version_cmp) x p ≡ reaches (point_cmp version_cmp) y p =
    like (point_cmp version_cmp) (points_total version_cmp version_cmp_total) x y p both.0 in
    let rest = same_held r s both.1 p in
    λ i. flips (first i) (rest i)

-- ---- heads

exact_texts : (es fs : List (List ℕ)) → slice_cmp text_cmp es fs ≡ Equal → es ≡ fs
exact_texts [] [] e = refl
exact_texts [] (f ∷ fs) e = absurd (less_not_equal e)
exact_texts (x ∷ es) [] e = absurd (greater_not_equal e)
exact_texts (x ∷ es) (f ∷ fs) e =
    let both = then_equal (text_cmp x f) (slice_cmp text_cmp es fs) e in
    let first = exact_bytes x f both.0 in
    let rest = exact_texts es fs both.1 in
    λ i. first i ∷ rest i

same_flag : (p q : Bool) → flag_bytes p ≡ flag_bytes q → p ≡ q
same_flag true true e = refl
same_flag true false e = absurd (omega (arith, heads 1 0 [] [] e))
same_flag false true e = absurd (omega (arith, heads 0 1 [] [] e))
same_flag false false e = refl

pub record SameParts (n m : List ℕ) (es fs : List (List ℕ)) (r s : Range) (p q : Bool) : Type 0 where
  pub name : n ≡ m
  pub extras : es ≡ fs
  pub range : slice_cmp (point_cmp version_cmp) r s ≡ Equal
  pub flag : p ≡ q

same_parts : (n m : List ℕ) (es fs : List (List ℕ)) (r s : Range) (p q : Bool) →
    head_bytes n es r p ≡ head_bytes m fs s q → SameParts n m es fs r s p q
unfolding head_bytes
same_parts n m es fs r s p q e =
    let a = (texts_apart n m (listed_bytes component_bytes es ++ (listed_bytes point_bytes r ++ flag_bytes p))
    (listed_bytes component_bytes fs ++ (listed_bytes point_bytes s ++ flag_bytes q))).0 e in
    let b = (listed_apart component_bytes texts_apart es fs (listed_bytes point_bytes r ++ flag_bytes p)
    (listed_bytes point_bytes s ++ flag_bytes q)).0 a.1 in
    let c = (listed_apart point_bytes points_apart r s (flag_bytes p) (flag_bytes q)).0 b.1 in
    record {
      name = exact_bytes n m a.0;
      extras = exact_texts es fs b.0;
      range = c.0;
      flag = same_flag p q c.1;
    }

-- one head is of one package, and of requirements that say the same
pub head_of_one : (n m : List ℕ) (asks others : List Front) (bytes : List ℕ) → IsHead n asks bytes →
    IsHead m others bytes → (n ≡ m) × AskAlike asks others
head_of_one n m asks others bytes h k =
    let same = same_parts n m h.extras k.extras h.range k.range (names_prerelease asks) (names_prerelease others)
    (sym h.is ∙ k.is) in (
      same.name,
      record {
        extras = λ extra. sym (h.has extra) ∙ ap (list_any (bytes_eq extra)) same.extras ∙ k.has extra;
        points = λ p. sym (h.points p) ∙ same_held h.range k.range same.range p ∙ k.points p;
        prerelease = same.flag;
      },
    )

-- requirements that say the same have one head
pub one_head : (name : List ℕ) (asks others : List Front) (bytes other : List ℕ) → AskAlike asks others →
    IsHead name asks bytes → IsHead name others other → bytes ≡ other
unfolding head_bytes
one_head name asks others bytes other alike h k =
    let extras : h.extras ≡ k.extras = same_texts h.extras k.extras h.rising k.rising
    (λ q. h.has q ∙ alike.extras q ∙ sym (k.has q)) in
    let points : slice_cmp (point_cmp version_cmp) h.range k.range ≡ Equal =
    canonical (points_total version_cmp version_cmp_total) h.range k.range h.normal k.normal
    (λ p. h.points p ∙ alike.points p ∙ sym (k.points p)) in
    let range : listed_bytes point_bytes h.range ≡ listed_bytes point_bytes k.range =
    same_bytes (listed_bytes point_bytes) (listed_apart point_bytes points_apart) h.range k.range points in
    h.is
    ∙ (λ i. component_bytes name ++ (listed_bytes component_bytes (extras i) ++ (range i ++ flag_bytes (alike.prerelease i))))
    ∙ sym k.is
