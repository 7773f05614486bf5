-- Lines that can be compared ask for usable things.
use Rattle.std.proofs.Common.{◌≡◌, ◌∙◌, ◌&&◌, ◌||◌, ℕ, Bool, true, false, cond, not, List, [], ◌∷◌}
use Rattle.std.proofs.Common.{All, Option, Some, None, is_some, is_none, refl, sym, true≢false}
use Rattle.std.specs.List.{list_any, list_all, AllByRecursion}
use Rattle.std.proofs.lemmas.List.Elements.{All-filter, All-from_recursion, recursion_from_All}
use Rattle.std.proofs.lemmas.List.Folds.{list_all-append}
use Rattle.std.proofs.lemmas.Option.{none-some}
use Rattle.pep440_version.specs.Record.{VersionRecord}
use Rattle.pep440_operator.specs.declared.operator.Operator.{Operator}
use Rattle.pep440_operator.specs.declared.operator.Operator.TheVariants.{ExactEqual, LessThan, GreaterThan}
use Rattle.pep440_operator.specs.declared.operator.Operator.TheVariants.{Equal, EqualStar, NotEqual}
use Rattle.pep440_operator.specs.declared.operator.Operator.TheVariants.{NotEqualStar, TildeEqual}
use Rattle.pep440_operator.specs.declared.operator.Operator.TheVariants.{LessThanEqual, GreaterThanEqual}
use Rattle.pep440_specifier.specs.Matching.{SpecifierRecord}
use Rattle.pep440_range.specs.Agreement.{agrees_beside_posts}
use Rattle.pep440_range.specs.Ranges.{range_of}
use Rattle.pep508_requirement_text.specs.FrontReading.{Front}
use Rattle.reqtable_answer.specs.Asks.{specifiers_of, is_url, has_url, is_of}
use Rattle.reqtable_search.specs.Told.{is_bound}
use Rattle.reqtable_requirements.specs.LineReading.{LineRecord}
use Rattle.reqtable_requirements.specs.Asks.{lines_of}
use Rattle.pep508_cases.specs.Cases.{Marks}
use Rattle.reqtable_cases.specs.Lines.{asked_by}
use Rattle.reqtable_cases.specs.Usable.{members_asked, is_ranged, is_usable}
use Rattle.reqtable_compare.specs.declared.sides.LineCause.{LineCause}
use Rattle.reqtable_compare.specs.declared.sides.LineCause.TheVariants as causes
use Rattle.reqtable_compare.specs.declared.sides.Side.{Side}
use Rattle.reqtable_compare.specs.declared.sides.Side.TheVariants.{Left, Right}
use Rattle.reqtable_compare.specs.Refusals.{Refusal, is_exact, bounds_post, members_cause}
use Rattle.reqtable_compare.specs.Refusals.{line_cause, refused_by, refusal_in, line_refusal}

-- ---- one line

both_false : (a b : Bool) → (a || b) ≡ false → (a ≡ false) × (b ≡ false)
both_false true b e = absurd (true≢false e)
both_false false b e = (refl, e)

none_there : {A : Type 0} (found : Option A) → is_some found ≡ false → is_none found ≡ true
none_there None e = refl
none_there (Some x) e = absurd (true≢false e)

one_there : {A : Type 0} (found : Option A) → is_none found ≡ false → is_some found ≡ true
one_there None e = absurd (true≢false e)
one_there (Some x) e = refl

agrees : (operator : Operator) (version : VersionRecord) → is_exact operator ≡ false →
    cond (is_bound operator) (is_some version.post) false ≡ false → agrees_beside_posts operator version ≡ true
agrees ExactEqual version e b = absurd (true≢false e)
agrees LessThan version e b = none_there version.post b
agrees GreaterThan version e b = none_there version.post b
agrees Equal version e b = refl
agrees EqualStar version e b = refl
agrees NotEqual version e b = refl
agrees NotEqualStar version e b = refl
agrees TildeEqual version e b = refl
agrees LessThanEqual version e b = refl
agrees GreaterThanEqual version e b = refl

are_ranged : (members : List SpecifierRecord) → list_any (λ s. is_exact s.operator) members ≡ false →
    list_any bounds_post members ≡ false → list_any (λ s. is_none (range_of s)) members ≡ false →
    list_all is_ranged members ≡ true
are_ranged [] exact bound ends = refl
are_ranged (s ∷ members) exact bound ends =
    let a = both_false (is_exact s.operator) (list_any (λ m. is_exact m.operator) members) exact in
    let b = both_false (bounds_post s) (list_any bounds_post members) bound in
    let c = both_false (is_none (range_of s)) (list_any (λ m. is_none (range_of m)) members) ends in
    let agreeing = agrees s.operator s.version a.0 b.0 in
    let there = one_there (range_of s) c.0 in
    let rest = are_ranged members a.1 b.1 c.1 in
    λ i. (agreeing i && there i) && rest i

no_cause : (test : Bool) (cause : LineCause) (rest : Option LineCause) → cond test (Some cause) rest ≡ None →
    (test ≡ false) × (rest ≡ None)
no_cause true cause rest e = absurd (none-some cause (sym e))
no_cause false cause rest e = (refl, e)

members_ranged : (members : List SpecifierRecord) → members_cause members ≡ None →
    list_all is_ranged members ≡ true
members_ranged members e =
    let ends : Bool = list_any (λ s. is_none (range_of s)) members in
    let third : Option LineCause = cond ends (Some causes.NumberAtEnd) None in
    let second : Option LineCause = cond (list_any bounds_post members) (Some causes.PostAfterBound) third in
    let a = no_cause (list_any (λ s. is_exact s.operator) members) causes.ExactEqual second e in
    let b = no_cause (list_any bounds_post members) causes.PostAfterBound third a.1 in
    let c = no_cause ends causes.NumberAtEnd None b.1 in
    are_ranged members a.0 b.0 c.0

-- an ask that can be compared
pub record IsComparable (ask : Front) : Type 0 where
  pub direct : has_url ask ≡ false
  pub ranged : list_all is_ranged (specifiers_of ask.source) ≡ true

comparable : (ask : Front) → line_cause ask ≡ None → IsComparable ask
comparable ask e =
    let parts = no_cause (is_url ask.source) causes.Url (members_cause (specifiers_of ask.source)) e in
    record { direct = parts.0; ranged = members_ranged (specifiers_of ask.source) parts.1 }

-- ---- the lines of a list

nothing_by : (side : Side) (number : ℕ) (cause : Option LineCause) (later : Option Refusal) →
    refused_by side number cause later ≡ None → (cause ≡ None) × (later ≡ None)
nothing_by side number (Some cause) later e =
    absurd (none-some (record { side = side; number = number; cause = cause }) (sym e))
nothing_by side number None later e = (refl, e)

abbrev pub AreComparable : List LineRecord → Type 0
AreComparable lines = All (λ line. IsComparable line.front) lines

nothing_in : (side : Side) (lines : List LineRecord) (later : Option Refusal) →
    refusal_in side lines later ≡ None →
    AllByRecursion (λ line. IsComparable line.front) lines × (later ≡ None)
nothing_in side [] later e = (tt, e)
nothing_in side (line ∷ lines) later e =
    let parts = nothing_by side line.number (line_cause line.front) (refusal_in side lines later) e in
    let rest = nothing_in side lines later parts.1 in
    ((comparable line.front parts.0, rest.0), rest.1)

pub both_comparable : (left right : List LineRecord) → line_refusal left right ≡ None →
    AreComparable left × AreComparable right
both_comparable left right e =
    let P : LineRecord → Type 0 = λ line. IsComparable line.front in
    let one = nothing_in Left left (refusal_in Right right None) e in
    let other = nothing_in Right right None one.1 in
    (All-from_recursion P left one.0, All-from_recursion P right other.0)

-- ---- what they ask for

pub no_urls : (asks : List Front) → AllByRecursion IsComparable asks → list_any has_url asks ≡ false
no_urls [] h = refl
no_urls (ask ∷ asks) h =
    let rest = no_urls asks h.1 in
    λ i. h.0.direct i || rest i

all_ranged : (asks : List Front) → AllByRecursion IsComparable asks →
    list_all is_ranged (members_asked asks) ≡ true
all_ranged [] h = refl
all_ranged (ask ∷ asks) h =
    let rest = all_ranged asks h.1 in
    list_all-append is_ranged (specifiers_of ask.source) (members_asked asks) ∙ (λ i. h.0.ranged i && rest i)

pub are_usable : (asks : List Front) → AllByRecursion IsComparable asks → is_usable asks ≡ true
are_usable asks h =
    let urls = no_urls asks h in
    let ranged = all_ranged asks h in
    λ i. not (urls i) && ranged i

asked_comparable : (marks : Marks) (lines : List LineRecord) →
    AllByRecursion (λ line. IsComparable line.front) lines →
    AllByRecursion IsComparable (asked_by marks lines)
asked_comparable [] lines h = tt
asked_comparable (b ∷ marks) [] h = tt
asked_comparable (true ∷ marks) (line ∷ lines) h = (h.0, asked_comparable marks lines h.1)
asked_comparable (false ∷ marks) (line ∷ lines) h = asked_comparable marks lines h.1

-- by the lines of a case
pub case_usable : (marks : Marks) (name : List ℕ) (lines : List LineRecord) → AreComparable lines →
    is_usable (asked_by marks (lines_of name lines)) ≡ true
case_usable marks name lines h =
    let P : LineRecord → Type 0 = λ line. IsComparable line.front in
    are_usable (asked_by marks (lines_of name lines))
    (asked_comparable marks (lines_of name lines)
    (recursion_from_All P (lines_of name lines) (All-filter (λ line. is_of name line.front) P lines h)))
