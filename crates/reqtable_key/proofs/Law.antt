-- Keys of lists are the same exactly where the lists require the same.
use Rattle.std.proofs.Common.{◌≡◌, ◌≢◌, ◌∙◌, ◌&&◌, ◌||◌, ℕ, Bool, true, false, List, [], ◌∷◌, ◌++◌, map}
use Rattle.std.proofs.Common.{refl, sym, ap, subst, true≢false}
use Rattle.std.proofs.lemmas.Cmp.{nat_list_cmp_total, nat_list_eq_equiv}
use Rattle.std.proofs.lemmas.Map.Lookups.{exact_bytes}
use Rattle.std.proofs.lemmas.Map.Text.{is_eq-slice_cmp}
use Rattle.std.specs.List.{AllByRecursion}
use Rattle.std.specs.List.Sorted.{IsStrictlySortedBy}
use Rattle.std.specs.Ordering.{nat_cmp, is_eq, ordering_reverse, then_cmp}
use Rattle.std.specs.Cmp.Lexicographic.{slice_cmp}
use Rattle.std.specs.Str.{bytes_eq}
use Rattle.std.specs.declared.cmp.Ordering.{Ordering}
use Rattle.std.specs.declared.cmp.Ordering.TheVariants.{Less, Equal, Greater}
use Rattle.version_ranges.specs.HashingLaws.{then_equal}
use Rattle.pep440_key.specs.Key.{component_bytes}
use Rattle.pep508_diagram.specs.Text.{text_cmp}
use Rattle.pep508_diagram.specs.Question.{Valuation, truth, IsCanonical}
use Rattle.pep508_marker_key.specs.Key.{diagram_key}
use Rattle.pep508_marker_key.specs.Told.{TellApart, listed_bytes}
use Rattle.pep508_marker_key.proofs.Apart.{texts_apart, then_apart, listed_apart}
use Rattle.pep508_marker_key.proofs.OneKey.{one_key}
use Rattle.pep508_requirement_text.specs.FrontReading.{Front}
use Rattle.reqtable_answer.proofs.Tests.{same_bytes as same_names}
use Rattle.reqtable_requirements.specs.LineReading.{LineRecord}
use Rattle.reqtable_cases.specs.Requires.{RequireAlike, RequireTheSame, AskAlike, asked_of}
use Rattle.reqtable_key.specs.Keys.{Region, is_there, AreRegions, region_bytes}
use Rattle.reqtable_key.specs.Keys.{OneKeyOfLists}
use Rattle.reqtable_key.proofs.Told.{head_of_one, one_head, less_not_equal, greater_not_equal}

-- ---- regions as bytes

abbrev region_cmp : Region → Region → Ordering
region_cmp = then_cmp (λ r s. text_cmp r.0 s.0) (λ r s. text_cmp (diagram_key r.1) (diagram_key s.1))

regions_apart : TellApart region_cmp region_bytes
regions_apart =
    then_apart (λ r. component_bytes r.0) (λ r. component_bytes (diagram_key r.1))
    (λ r s. texts_apart r.0 s.0) (λ r s. texts_apart (diagram_key r.1) (diagram_key s.1))

-- regions one by one with the same bytes
abbrev AreAlike : List Region → List Region → Type 0
AreAlike [] [] = Unit {0}
AreAlike [] (s ∷ ss) = ⊥
AreAlike (r ∷ rs) [] = ⊥
AreAlike (r ∷ rs) (s ∷ ss) = (r.0 ≡ s.0) × (diagram_key r.1 ≡ diagram_key s.1) × AreAlike rs ss

alike_by : (rs ss : List Region) → slice_cmp region_cmp rs ss ≡ Equal → AreAlike rs ss
alike_by [] [] e = tt
alike_by [] (s ∷ ss) e = absurd (less_not_equal e)
alike_by (r ∷ rs) [] e = absurd (greater_not_equal e)
alike_by (r ∷ rs) (s ∷ ss) e =
    let both = then_equal (region_cmp r s) (slice_cmp region_cmp rs ss) e in
    let one = then_equal (text_cmp r.0 s.0) (text_cmp (diagram_key r.1) (diagram_key s.1)) both.0 in
    (exact_bytes r.0 s.0 one.0, exact_bytes (diagram_key r.1) (diagram_key s.1) one.1, alike_by rs ss both.1)

from_bytes : (rs ss : List Region) → listed_bytes region_bytes rs ≡ listed_bytes region_bytes ss → AreAlike rs ss
from_bytes rs ss e =
    alike_by rs ss ((listed_apart region_bytes regions_apart rs ss [] []).0 (ap (λ t. t ++ []) e)).0

to_bytes : (rs ss : List Region) → AreAlike rs ss → listed_bytes region_bytes rs ≡ listed_bytes region_bytes ss
to_bytes [] [] h = refl
to_bytes [] (s ∷ ss) h = absurd h
to_bytes (r ∷ rs) [] h = absurd h
to_bytes (r ∷ rs) (s ∷ ss) h =
    let head = h.0 in
    let key = h.1 in
    let rest = to_bytes rs ss h.2 in
    λ i. 1 ∷ ((component_bytes (head i) ++ component_bytes (key i)) ++ rest i)

-- ---- where they hold

abbrev AllCanonical : List Region → Type 0
AllCanonical rs = AllByRecursion (λ r. IsCanonical r.1) rs

same_there : (rs ss : List Region) → AllCanonical rs → AllCanonical ss → AreAlike rs ss →
    (b : List ℕ) (v : Valuation) → is_there rs b v ≡ is_there ss b v
same_there [] [] c d h b v = refl
same_there [] (s ∷ ss) c d h b v = absurd h
same_there (r ∷ rs) [] c d h b v = absurd h
same_there (r ∷ rs) (s ∷ ss) c d h b v =
    let head = h.0 in
    let means = (one_key r.1 s.1 c.0 d.0).0 h.1 v in
    let rest = same_there rs ss c.1 d.1 h.2 b v in
    λ i. (bytes_eq b (head i) && means i) || rest i

-- ---- keys that are the same

module _ (left right : List LineRecord) (rs ss : List Region) (ours : AreRegions left rs) (theirs : AreRegions right ss)
    (same : (b : List ℕ) (v : Valuation) → is_there rs b v ≡ is_there ss b v) where
  some_front : (asks : List Front) (ask : Front) (rest : List Front) → asks ≡ ask ∷ rest → asks ≢ []
  some_front asks ask rest is empty = let wrong : [] ≡ ask ∷ rest = sym empty ∙ is in absurd (cc)

  -- what the left list requires of a package the right one requires too
  over : (name : List ℕ) (v : Valuation) → asked_of name v left ≢ [] →
      (asked_of name v right ≢ []) × AskAlike (asked_of name v left) (asked_of name v right)
  over name v some =
      let told = ours.all name v some in
      let there = theirs.required told.bytes v (sym (same told.bytes v) ∙ told.there) in
      let one = head_of_one name there.name (asked_of name v left) (asked_of there.name v right) told.bytes told.head
      there.head in (
        subst (λ n. asked_of n v right ≢ []) (sym one.0) there.some,
        subst (λ n. AskAlike (asked_of name v left) (asked_of n v right)) (sym one.0) one.1,
      )

  back : (name : List ℕ) (v : Valuation) → asked_of name v right ≢ [] → asked_of name v left ≢ []
  back name v some =
      let told = theirs.all name v some in
      let there = ours.required told.bytes v (same told.bytes v ∙ told.there) in
      let one = head_of_one name there.name (asked_of name v right) (asked_of there.name v left) told.bytes told.head
      there.head in
      subst (λ n. asked_of n v left ≢ []) (sym one.0) there.some

  alike_at : (name : List ℕ) (v : Valuation) (asks others : List Front) → asked_of name v left ≡ asks →
      asked_of name v right ≡ others → RequireAlike asks others
  alike_at name v [] [] e f = tt
  alike_at name v [] (o ∷ os) e f = absurd (back name v (some_front (asked_of name v right) o os f) e)
  alike_at name v (x ∷ xs) [] e f = absurd ((over name v (some_front (asked_of name v left) x xs e)).0 f)
  alike_at name v (x ∷ xs) (o ∷ os) e f =
      let alike = (over name v (some_front (asked_of name v left) x xs e)).1 in
      subst (λ a. AskAlike a (o ∷ os)) e (subst (AskAlike (asked_of name v left)) f alike)

  pub require_the_same : RequireTheSame left right
  require_the_same name v = alike_at name v (asked_of name v left) (asked_of name v right) refl refl

-- ---- lists that require the same

some_alike : (asks others : List Front) → RequireAlike asks others → asks ≢ [] →
    (others ≢ []) × AskAlike asks others
some_alike [] others h some = absurd (some refl)
some_alike (x ∷ xs) [] h some = absurd h
some_alike (x ∷ xs) (o ∷ os) h some = (λ e. absurd (cc), h)

-- a region of one of two such lists holds nowhere else than one of the other
within : (left right : List LineRecord) (rs ss : List Region) → AreRegions left rs → AreRegions right ss →
    RequireTheSame left right → (b : List ℕ) (v : Valuation) → is_there rs b v ≡ true → is_there ss b v ≡ true
within left right rs ss ours theirs same b v there =
    let one = ours.required b v there in
    let alike = some_alike (asked_of one.name v left) (asked_of one.name v right) (same one.name v) one.some in
    let told = theirs.all one.name v alike.0 in
    let is : b ≡ told.bytes = one_head one.name (asked_of one.name v left) (asked_of one.name v right) b told.bytes
    alike.1 one.head told.head in
    subst (λ c. is_there ss c v ≡ true) (sym is) told.there

alike_back : (asks others : List Front) → RequireAlike asks others → RequireAlike others asks
alike_back [] [] h = tt
alike_back [] (o ∷ os) h = absurd h
alike_back (x ∷ xs) [] h = absurd h
alike_back (x ∷ xs) (o ∷ os) h = record {
  extras = λ extra. sym (h.extras extra);
  points = λ p. sym (h.points p);
  prerelease = sym h.prerelease;
}

by_truth : (a b : Bool) → (a ≡ true → b ≡ true) → (b ≡ true → a ≡ true) → a ≡ b
by_truth true b f g = sym (f refl)
by_truth false true f g = g refl
by_truth false false f g = refl

-- ---- sorted regions that hold alike are alike

abbrev Rise : List Region → Type 0
Rise rs = IsStrictlySortedBy (slice_cmp nat_cmp) (map (λ r. r.0) rs)

abbrev Somewhere : List Region → Type 0
Somewhere rs = AllByRecursion (λ r. (v : Valuation) × (truth r.1 v ≡ true)) rs

abbrev AllAfter : List ℕ → List Region → Type 0
AllAfter b rs = AllByRecursion (λ y. slice_cmp nat_cmp b y ≡ Less) (map (λ r. r.0) rs)

other_bytes : (b c : List ℕ) → slice_cmp nat_cmp b c ≡ Less → bytes_eq b c ≡ false
other_bytes b c less = sym (is_eq-slice_cmp b c) ∙ ap is_eq less

not_after : (b : List ℕ) (rs : List Region) (v : Valuation) → AllAfter b rs → is_there rs b v ≡ false
not_after b [] v h = refl
not_after b (r ∷ rs) v h =
    let first = other_bytes b r.0 h.0 in
    let rest = not_after b rs v h.1 in
    λ i. (first i && truth r.1 v) || rest i

after_all : (b c : List ℕ) (rs : List Region) → slice_cmp nat_cmp b c ≡ Less → AllAfter c rs → AllAfter b rs
after_all b c [] less h = tt
after_all b c (r ∷ rs) less h = (nat_list_cmp_total.trans b c r.0 less h.0, after_all b c rs less h.1)

or_false : (a : Bool) → (a || false) ≡ a
or_false true = refl
or_false false = refl

-- the first region where its own bytes are asked for
first_there : (r : Region) (rs : List Region) (v : Valuation) → AllAfter r.0 rs → is_there (r ∷ rs) r.0 v ≡ truth r.1 v
first_there r rs v after =
    let itself = nat_list_eq_equiv.refl r.0 in
    let rest = not_after r.0 rs v after in
    (λ i. (itself i && truth r.1 v) || rest i) ∙ or_false (truth r.1 v)

-- the others where they are
rest_by : (b : List ℕ) (r : Region) (rs : List Region) (v : Valuation) (same : Bool) → bytes_eq b r.0 ≡ same →
    AllAfter r.0 rs → (same ≡ false → is_there rs b v ≡ is_there (r ∷ rs) b v)
rest_by b r rs v same e after other = λ i. (sym (e ∙ other) i && truth r.1 v) || is_there rs b v

module _ where
  abbrev HoldAlike : List Region → List Region → Type 0
  HoldAlike rs ss = (b : List ℕ) (v : Valuation) → is_there rs b v ≡ is_there ss b v

  -- without their first regions, of the same bytes
  rest_alike_by : (r s : Region) (rs ss : List Region) → r.0 ≡ s.0 → AllAfter r.0 rs → AllAfter s.0 ss →
      HoldAlike (r ∷ rs) (s ∷ ss) → (b : List ℕ) (v : Valuation) (same : Bool) → bytes_eq b r.0 ≡ same →
      is_there rs b v ≡ is_there ss b v
  rest_alike_by r s rs ss one after also hold b v true e =
      let is : b ≡ r.0 = same_names b r.0 e in
      subst (λ c. is_there rs c v ≡ false) (sym is) (not_after r.0 rs v after)
      ∙ sym (subst (λ c. is_there ss c v ≡ false) (sym (is ∙ one)) (not_after s.0 ss v also))
  rest_alike_by r s rs ss one after also hold b v false e =
      let f : bytes_eq b s.0 ≡ false = sym (ap (bytes_eq b) one) ∙ e in
      rest_by b r rs v false e after refl ∙ hold b v ∙ sym (rest_by b s ss v false f also refl)

  rest_alike : (r s : Region) (rs ss : List Region) → r.0 ≡ s.0 → AllAfter r.0 rs → AllAfter s.0 ss →
      HoldAlike (r ∷ rs) (s ∷ ss) → HoldAlike rs ss
  rest_alike r s rs ss one after also hold b v =
      rest_alike_by r s rs ss one after also hold b v (bytes_eq b r.0) refl

  -- a region before all of another list is in it nowhere
  none_before : (r : Region) (rs ss : List Region) → ((v : Valuation) × (truth r.1 v ≡ true)) → AllAfter r.0 rs →
      AllAfter r.0 ss → HoldAlike (r ∷ rs) ss → ⊥
  none_before r rs ss some after before hold =
      true≢false (sym (first_there r rs some.0 after ∙ some.1) ∙ hold r.0 some.0 ∙ not_after r.0 ss some.0 before)

  alike_by_order : (r s : Region) (rs ss : List Region) → AllAfter r.0 rs → AllAfter s.0 ss →
      ((v : Valuation) × (truth r.1 v ≡ true)) → ((v : Valuation) × (truth s.1 v ≡ true)) → IsCanonical r.1 →
      IsCanonical s.1 → HoldAlike (r ∷ rs) (s ∷ ss) → (HoldAlike rs ss → AreAlike rs ss) →
      (o : Ordering) → slice_cmp nat_cmp r.0 s.0 ≡ o → AreAlike (r ∷ rs) (s ∷ ss)
  alike_by_order r s rs ss after also some some' c d hold below Less e =
      absurd (none_before r rs (s ∷ ss) some after (e, after_all r.0 s.0 ss e also) hold)
  alike_by_order r s rs ss after also some some' c d hold below Greater e =
      let less : slice_cmp nat_cmp s.0 r.0 ≡ Less = nat_list_cmp_total.antisymm s.0 r.0 ∙ ap ordering_reverse e in
      absurd (none_before s ss (r ∷ rs) some' also (less, after_all s.0 r.0 rs less after) (λ b v. sym (hold b v)))
  alike_by_order r s rs ss after also some some' c d hold below Equal e =
      let one : r.0 ≡ s.0 = exact_bytes r.0 s.0 e in
      let means : (v : Valuation) → truth r.1 v ≡ truth s.1 v = λ v.
      sym (first_there r rs v after) ∙ hold r.0 v ∙ ap (λ b. is_there (s ∷ ss) b v) one ∙ first_there s ss v also in (
        one,
        (one_key r.1 s.1 c d).1 means,
        below (rest_alike r s rs ss one after also hold),
      )

  risen : (r : Region) (rs : List Region) → Rise (r ∷ rs) → AllAfter r.0 rs × Rise rs
  unfolding IsStrictlySortedBy
  risen r rs rise = rise

  none_at_all : (r : Region) (rs : List Region) → Rise (r ∷ rs) → ((v : Valuation) × (truth r.1 v ≡ true)) →
      HoldAlike (r ∷ rs) [] → ⊥
  none_at_all r rs rise some hold = none_before r rs [] some (risen r rs rise).0 tt hold

  alike_in_order : (rs ss : List Region) → Rise rs → Rise ss → Somewhere rs → Somewhere ss → AllCanonical rs →
      AllCanonical ss → HoldAlike rs ss → AreAlike rs ss
  alike_in_order [] [] rise rise' some some' c d hold = tt
  alike_in_order [] (s ∷ ss) rise rise' some some' c d hold =
      absurd (none_at_all s ss rise' some'.0 (λ b v. sym (hold b v)))
  alike_in_order (r ∷ rs) [] rise rise' some some' c d hold = absurd (none_at_all r rs rise some.0 hold)
  alike_in_order (r ∷ rs) (s ∷ ss) rise rise' some some' c d hold =
      let one = risen r rs rise in
      let other = risen s ss rise' in
      alike_by_order r s rs ss one.0 other.0 some.0 some'.0 c.0 d.0 hold
      (alike_in_order rs ss one.1 other.1 some.1 some'.1 c.1 d.1) (slice_cmp nat_cmp r.0 s.0) refl

-- ---- the law

pub one_key_of_lists : OneKeyOfLists
one_key_of_lists left right key other ours theirs = (
  λ e.
      let alike = from_bytes ours.regions theirs.regions (sym ours.is ∙ e ∙ theirs.is) in
      require_the_same left right ours.regions theirs.regions ours.are theirs.are
      (same_there ours.regions theirs.regions ours.are.canonical theirs.are.canonical alike),
  λ same.
      let hold : (b : List ℕ) (v : Valuation) → is_there ours.regions b v ≡ is_there theirs.regions b v = λ b v.
      by_truth (is_there ours.regions b v) (is_there theirs.regions b v)
      (within left right ours.regions theirs.regions ours.are theirs.are same b v)
      (within right left theirs.regions ours.regions theirs.are ours.are
      (λ name w. alike_back (asked_of name w left) (asked_of name w right) (same name w)) b v) in
      ours.is
      ∙ to_bytes ours.regions theirs.regions (alike_in_order ours.regions theirs.regions ours.are.rising theirs.are.rising
      ours.are.somewhere theirs.are.somewhere ours.are.canonical theirs.are.canonical hold)
      ∙ sym theirs.is,
)
