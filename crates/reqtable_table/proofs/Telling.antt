-- Of which versions a case's range tells, and what its flags say.
use Rattle.std.proofs.Common.{◌≡◌, ◌∙◌, ◌==◌, ◌&&◌, ◌||◌, ℕ, Bool, true, false, not, List, [], ◌∷◌, ◌++◌, map}
use Rattle.std.proofs.Common.{length, Option, Some, None, is_some, is_none, refl, sym, ap, subst, true≢false}
use Rattle.std.proofs.Common.{arith}
use Rattle.std.specs.List.{list_any, list_all, AllByRecursion}
use Rattle.std.proofs.lemmas.Bool.Decides.{nat_tests}
use Rattle.std.proofs.lemmas.List.Elements.{All-from_recursion}
use Rattle.std.proofs.lemmas.List.Folds.{list_all-append, list_any-append}
use Rattle.version_ranges.specs.Point.{Point, At}
use Rattle.pep440_version.specs.Record.{VersionRecord}
use Rattle.pep440_operator.specs.declared.operator.Operator.{Operator}
use Rattle.pep440_operator.specs.declared.operator.Operator.TheVariants.{Equal, EqualStar, ExactEqual}
use Rattle.pep440_operator.specs.declared.operator.Operator.TheVariants.{NotEqual, NotEqualStar, TildeEqual}
use Rattle.pep440_operator.specs.declared.operator.Operator.TheVariants.{LessThan, LessThanEqual, GreaterThan}
use Rattle.pep440_operator.specs.declared.operator.Operator.TheVariants.{GreaterThanEqual}
use Rattle.pep440_specifier.specs.Building.{IsBuilt}
use Rattle.pep440_specifier.specs.Matching.{SpecifierRecord, takes}
use Rattle.pep440_specifier_list.specs.Lists.{matches_all}
use Rattle.pep440_range.specs.Agreement.{agrees_beside_posts, IsSaid, Agrees, IsAgreeing}
use Rattle.pep440_range.specs.Ranges.{range_of}
use Rattle.pep440_range.proofs.Lists.{both_true, list_agrees, agreeing}
use Rattle.pep508_requirement_text.specs.FrontReading.{Front}
use Rattle.reqtable_answer.specs.Asks.{specifiers_of, has_url, ask_takes}
use Rattle.pep508_cases.specs.Sets.{marked}
use Rattle.reqtable_cases.specs.Usable.{members_asked, is_ranged, is_usable, points_of}
use Rattle.reqtable_cases.specs.Usable.{IsRangeOf}
use Rattle.reqtable_cases.proofs.Taken.{usable_takes}
use Rattle.reqtable_table.specs.declared.kept.TableLine.{TableLine}
use Rattle.reqtable_table.specs.Choosing.{case_asks, Tells}
use Rattle.reqtable_table.specs.Standing.{HasItsFlags, IsOfTexts}
use Rattle.reqtable_search.specs.Told.{is_bound}
use Rattle.reqtable_table.specs.Kept.{KeptLine, kept_source, kept_front}
use Rattle.reqtable_table.proofs.AskedLines.{records}
use Rattle.reqtable_table.proofs.MarkedAsks.{flag_seen}

-- ---- exactness without `<` and `>`

-- a specifier as texts say it
abbrev Read : SpecifierRecord → Type 0
Read s = IsBuilt s × IsSaid s.version

unbound : (operator : Operator) (version candidate : VersionRecord) → agrees_beside_posts operator version ≡ true →
    is_bound operator ≡ false → Agrees operator version candidate
unbound ExactEqual version candidate e b = absurd (true≢false (sym e))
unbound LessThan version candidate e b = absurd (true≢false b)
unbound GreaterThan version candidate e b = absurd (true≢false b)
unbound Equal version candidate e b = tt
unbound EqualStar version candidate e b = tt
unbound NotEqual version candidate e b = tt
unbound NotEqualStar version candidate e b = tt
unbound TildeEqual version candidate e b = tt
unbound LessThanEqual version candidate e b = tt
unbound GreaterThanEqual version candidate e b = tt

both_false : (a b : Bool) → (a || b) ≡ false → (a ≡ false) × (b ≡ false)
both_false true b e = absurd (true≢false e)
both_false false b e = (refl, e)

unbound_members : (candidate : VersionRecord) (members : List SpecifierRecord) → AllByRecursion Read members →
    list_all is_ranged members ≡ true → list_any (λ s. is_bound s.operator) members ≡ false →
    AllByRecursion (IsAgreeing candidate) members × (list_all is_some (map range_of members) ≡ true)
unbound_members candidate [] read e b = (tt, refl)
unbound_members candidate (s ∷ members) read e b =
    let parts = both_true (is_ranged s) (list_all is_ranged members) e in
    let here = both_true (agrees_beside_posts s.operator s.version) (is_some (range_of s)) parts.0 in
    let free = both_false (is_bound s.operator) (list_any (λ m. is_bound m.operator) members) b in
    let rest = unbound_members candidate members read.1 parts.1 free.1 in (
      (
        record {
          built = read.0.0;
          said = read.0.1;
          agrees = unbound s.operator s.version candidate here.0 free.0;
        },
        rest.0,
      ),
      (λ i. here.1 i && rest.1 i),
    )

all_asked : (candidate : VersionRecord) (asks : List Front) →
    matches_all (members_asked asks) candidate ≡ list_all (ask_takes candidate) asks
all_asked candidate [] = refl
all_asked candidate (ask ∷ asks) =
    list_all-append (takes candidate) (specifiers_of ask.source) (members_asked asks)
    ∙ ap (λ b. matches_all (specifiers_of ask.source) candidate && b) (all_asked candidate asks)

unbound_takes : (asks : List Front) (candidate : VersionRecord) → is_usable asks ≡ true →
    AllByRecursion Read (members_asked asks) → list_any (λ s. is_bound s.operator) (members_asked asks) ≡ false →
    IsSaid candidate → candidate.local ≡ [] → points_of asks (At candidate) ≡ list_all (ask_takes candidate) asks
unbound_takes asks candidate usable read free said no_local =
    let members = members_asked asks in
    let parts = both_true (not (list_any has_url asks)) (list_all is_ranged members) usable in
    let each = unbound_members candidate members read parts.1 free in
    list_agrees range_of candidate (IsAgreeing candidate) (agreeing candidate said no_local) members each.0 each.1
    ∙ all_asked candidate asks

-- ---- exactness where the flags allow

pub none_long : {A : Type 0} (xs : List A) → length xs ≡ 0 → xs ≡ []
none_long [] e = refl
none_long (x ∷ xs) e = absurd (omega arith)

is_zero : (n : ℕ) → (n == 0) ≡ true → n ≡ 0
is_zero n e = grind (arith, nat_tests)

no_post : (post : Option ℕ) → is_none post ≡ true → post ≡ None
no_post None e = refl
no_post (Some n) e = absurd (true≢false (sym e))

built_of : (members : List SpecifierRecord) → AllByRecursion Read members → AllByRecursion IsBuilt members
built_of [] h = tt
built_of (s ∷ members) h = (h.0.0, built_of members h.1)

said_of : (members : List SpecifierRecord) → AllByRecursion Read members →
    AllByRecursion (λ s. IsSaid s.version) members
said_of [] h = tt
said_of (s ∷ members) h = (h.0.1, said_of members h.1)

told_by : (asks : List Front) (candidate : VersionRecord) (bounded : Bool) (none : Bool) →
    is_none candidate.post ≡ none → (none || not bounded) ≡ true → is_usable asks ≡ true → AllByRecursion Read (members_asked asks) →
    bounded ≡ list_any (λ s. is_bound s.operator) (members_asked asks) → IsSaid candidate → candidate.local ≡ [] →
    points_of asks (At candidate) ≡ list_all (ask_takes candidate) asks
told_by asks candidate bounded true e told usable read flag said no_local =
    let members = members_asked asks in
    usable_takes asks candidate usable (All-from_recursion IsBuilt members (built_of members read))
    (All-from_recursion (λ (s : SpecifierRecord). IsSaid s.version) members (said_of members read))
    (record { said = said; no_local = no_local; no_post = no_post candidate.post e })
told_by asks candidate true false e told usable read flag said no_local = absurd (true≢false (sym told))
told_by asks candidate false false e told usable read flag said no_local =
    unbound_takes asks candidate usable read (sym flag) said no_local

-- ---- the asks of lines

module _ {X : Type 0} (P : X → Type 0) where
  all_marked : (marks : List Bool) (xs : List X) → AllByRecursion P xs → AllByRecursion P (marked marks xs)
  all_marked [] xs h = tt
  all_marked (true ∷ marks) [] h = tt
  all_marked (false ∷ marks) [] h = tt
  all_marked (true ∷ marks) (x ∷ xs) h = (h.0, all_marked marks xs h.1)
  all_marked (false ∷ marks) (x ∷ xs) h = all_marked marks xs h.1

  all_joined : (xs ys : List X) → AllByRecursion P xs → AllByRecursion P ys → AllByRecursion P (xs ++ ys)
  all_joined [] ys h k = k
  all_joined (x ∷ xs) ys h k = (h.0, all_joined xs ys h.1 k)

own_by : (url : Bool) (members : List SpecifierRecord) → (url ≡ true → members ≡ []) →
    specifiers_of (kept_source url members) ≡ members
own_by true members none = sym (none refl)
own_by false members none = refl

own_members : (line : KeptLine) → HasItsFlags line →
    specifiers_of (kept_front line).source ≡ line.specifiers.members
own_members line flags = own_by line.url line.specifiers.members flags.direct

asks_read : (lines : List KeptLine) → AllByRecursion HasItsFlags lines → AllByRecursion IsOfTexts lines →
    AllByRecursion Read (members_asked (map kept_front lines))
asks_read [] flags read = tt
asks_read (line ∷ lines) flags read =
    all_joined Read (specifiers_of (kept_front line).source) (members_asked (map kept_front lines))
    (subst (AllByRecursion Read) (sym (own_members line flags.0)) read.0) (asks_read lines flags.1 read.1)

asks_bounded : (lines : List KeptLine) → AllByRecursion HasItsFlags lines →
    list_any (λ line. line.bounded) lines
    ≡ list_any (λ s. is_bound s.operator) (members_asked (map kept_front lines))
asks_bounded [] flags = refl
asks_bounded (line ∷ lines) flags =
    let bound : SpecifierRecord → Bool = λ s. is_bound s.operator in
    let here = flags.0.bounded ∙ sym (ap (list_any bound) (own_members line flags.0)) in
    let rest = asks_bounded lines flags.1 in
    (λ i. here i || rest i)
    ∙ sym (list_any-append bound (specifiers_of (kept_front line).source) (members_asked (map kept_front lines)))

pub case_tells : (marks : List Bool) (lines : List TableLine) (range : Option (List (Point VersionRecord)))
    (bounded : Bool) → AllByRecursion HasItsFlags (records lines) → AllByRecursion IsOfTexts (records lines) →
    IsRangeOf (case_asks marks (records lines)) range →
    bounded ≡ list_any (λ line. line.is_bounded) (marked marks lines) →
    Tells bounded range (case_asks marks (records lines))
case_tells marks lines range bounded flags read is bound =
    let own = marked marks (records lines) in
    let own_flags = all_marked HasItsFlags marks (records lines) flags in
    let own_read = asks_read own own_flags (all_marked IsOfTexts marks (records lines) read) in
    let flag = bound ∙ flag_seen (λ line. line.bounded) marks lines ∙ asks_bounded own own_flags in
    record {
      range_is = is;
      exact = λ version said told usable.
          let parts = both_true (length version.local == 0) (is_none version.post || not bounded) told in
          told_by (map kept_front own) version bounded (is_none version.post) refl parts.1 usable own_read flag said
          (none_long version.local (is_zero (length version.local) parts.0));
    }
