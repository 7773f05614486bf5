-- Lines by their numbers, which rise.
use Rattle.std.proofs.Common.{◌≡◌, ◌∙◌, ◌==◌, ℕ, zero, suc, ◌+◌, ◌<◌, ◌≤◌, ◌⊎◌, Bool, true, false, cond, nat_lt}
use Rattle.std.proofs.Common.{List, [], ◌∷◌, ◌++◌, map, filter, get_or, length, Option}
use Rattle.std.proofs.Common.{refl, sym, ap, subst, arith, Less, Equal, Greater, inl, inr}
use Rattle.std.proofs.lemmas.Bool.{cases_Bool}
use Rattle.std.proofs.lemmas.Bool.Decides.{nat_tests}
use Rattle.std.proofs.lemmas.List.{append-nil, append_assoc}
use Rattle.std.proofs.lemmas.List.Sorted.{searchable_from_sorted}
use Rattle.std.specs.Cmp.{nat_cmp_total, tied_itself}
use Rattle.std.specs.List.{AllByRecursion}
use Rattle.std.specs.List.Sorted.{IsStrictlySortedBy, IsSortedBy, IsNonDecreasingBy, IsPartitionPoint}
use Rattle.std.specs.Ordering.{nat_cmp, is_lt, ordering_index, ordering_reverse}
use Rattle.version_ranges.specs.Point.{Point}
use Rattle.pep440_version.specs.Record.{VersionRecord}
use Rattle.pep508_cases.specs.Cases.{Marks}
use Rattle.pep508_cases.specs.Sets.{marked}
use Rattle.reqtable_cases.specs.Usable.{IsRangeOf}
use Rattle.reqtable_table.specs.declared.kept.TableLine.{TableLine}
use Rattle.reqtable_table.specs.Choosing.{case_asks}
use Rattle.reqtable_table.specs.Kept.{KeptLine, kept_front}
use Rattle.reqtable_table.specs.KeptLines.{line_record}
use Rattle.reqtable_table.specs.Numbered.{lines_at, asks_at}

abbrev number : KeptLine → ℕ
number line = line.number

abbrev pub Rise : List KeptLine → Type 0
Rise lines = IsStrictlySortedBy nat_cmp (map (λ (line : KeptLine). line.number) lines)

abbrev has_number : ℕ → KeptLine → Bool
has_number n line = line.number == n

abbrev AllAbove : ℕ → List ℕ → Type 0
AllAbove n ns = AllByRecursion (λ m. nat_cmp n m ≡ Less) ns

-- ---- two numbers

tied_by : (less equal : Bool) → cond less Less (cond equal Equal Greater) ≡ Equal → equal ≡ true
tied_by true equal e = absurd (cc)
tied_by false true e = refl
tied_by false false e = absurd (cc)

tied : (a n : ℕ) → nat_cmp a n ≡ Equal → (a == n) ≡ true
tied a n e = tied_by (nat_lt a n) (a == n) e

is_number : (a n : ℕ) → (a == n) ≡ true → a ≡ n
is_number a n e = grind (arith, nat_tests, e)

itself : (a : ℕ) → (a == a) ≡ true
itself a = tied a a (tied_itself nat_cmp_total a)

apart : (a n : ℕ) → (nat_cmp a n ≡ Equal → ⊥) → (a == n) ≡ false
apart a n other = elim (cases_Bool (a == n)) [
  | inl e ↦ absurd (other (subst (λ m. nat_cmp a m ≡ Equal) (is_number a n e) (tied_itself nat_cmp_total a)))
  | inr e ↦ e
]

below : (a n : ℕ) → nat_cmp a n ≡ Less → (a == n) ≡ false
below a n less = apart a n (λ equal. absurd (cc))

behind : (a n : ℕ) → nat_cmp a n ≡ Greater → (a == n) ≡ false
behind a n greater = apart a n (λ equal. absurd (cc))

above : (a n : ℕ) → nat_cmp n a ≡ Less → (a == n) ≡ false
above a n less = behind a n (nat_cmp_total.antisymm a n ∙ ap ordering_reverse less)

-- ---- a line by its number

none_above : (n : ℕ) (lines : List KeptLine) → AllAbove n (map number lines) → filter (has_number n) lines ≡ []
none_above n [] h = refl
none_above n (line ∷ lines) h =
    ap (λ b. cond b (line ∷ filter (has_number n) lines) (filter (has_number n) lines)) (above line.number n h.0)
    ∙ none_above n lines h.1

own_line : (line : KeptLine) (lines : List KeptLine) → AllAbove line.number (map number lines) →
    filter (has_number line.number) (line ∷ lines) ≡ line ∷ []
own_line line lines h =
    let rest = none_above line.number lines h in
    ap (λ b. cond b (line ∷ filter (has_number line.number) lines) (filter (has_number line.number) lines)) (itself line.number)
    ∙ ap (λ l. line ∷ l) rest

adjacent : (lines : List TableLine) → Rise (map line_record lines) → (k : ℕ) (d : TableLine) → suc k < length lines →
    nat_cmp (get_or lines k d).number (get_or lines (suc k) d).number ≡ Less
unfolding IsStrictlySortedBy
adjacent [] h k d within = absurd (omega arith)
adjacent (p ∷ []) h k d within = absurd (omega arith)
adjacent (p ∷ (q ∷ lines)) h zero d within = h.0.0
adjacent (p ∷ (q ∷ lines)) h (suc k) d within = adjacent (q ∷ lines) h.1 k d (omega arith)

sorted : (lines : List TableLine) → Rise (map line_record lines) →
    IsSortedBy (λ (a b : TableLine). is_lt (nat_cmp a.number b.number)) lines
sorted lines h k d low within =
    let next : k + 1 ≡ suc k = omega arith in
    let less = adjacent lines h k d (omega arith) in
    ap (λ n. is_lt (nat_cmp (get_or lines n d).number (get_or lines k d).number)) next
    ∙ ap is_lt (nat_cmp_total.antisymm (get_or lines (suc k) d).number (get_or lines k d).number
    ∙ ap ordering_reverse less)

pub searchable : (lines : List TableLine) (n : ℕ) → Rise (map line_record lines) →
    IsNonDecreasingBy (λ (line : TableLine). ordering_index (nat_cmp line.number n)) lines
searchable lines n h =
    searchable_from_sorted nat_cmp_total (λ (line : TableLine). line.number) lines n (sorted lines h)

below_at : (n : ℕ) (lines : List TableLine) (i : ℕ) (d : TableLine) → AllAbove n (map number (map line_record lines)) →
    i < length lines → nat_cmp n (get_or lines i d).number ≡ Less
below_at n [] i d h within = absurd (omega arith)
below_at n (p ∷ lines) zero d h within = h.0
below_at n (p ∷ lines) (suc i) d h within = below_at n lines i d h.1 (omega arith)

-- found at a place
pub found_line : (lines : List TableLine) (i : ℕ) (line : TableLine) (n : ℕ) → Rise (map line_record lines) → i < length lines →
    line ≡ get_or lines i line → line.number ≡ n →
    filter (has_number n) (map line_record lines) ≡ line_record line ∷ []
unfolding IsStrictlySortedBy
found_line [] i line n h within here e = absurd (omega arith)
found_line (p ∷ lines) zero line n h within here e =
    let same : p.number ≡ n = ap (λ (l : TableLine). l.number) (sym here) ∙ e in
    subst (λ m. filter (has_number m) (map line_record (p ∷ lines)) ≡ line_record line ∷ []) same
    (own_line (line_record p) (map line_record lines) h.0 ∙ ap (λ l. line_record l ∷ []) (sym here))
found_line (p ∷ lines) (suc i) line n h within here e =
    let less : nat_cmp p.number line.number ≡ Less =
    subst (λ (l : TableLine). nat_cmp p.number l.number ≡ Less) (sym here) (below_at p.number lines i line h.0 (omega arith)) in
    let rest = filter (has_number n) (map line_record lines) in
    ap (λ b. cond b (line_record p ∷ rest) rest) (below p.number n (subst (λ m. nat_cmp p.number m ≡ Less) e less))
    ∙ found_line lines i line n h.1 (omega arith) here e

pub equal_numbers : (a n : ℕ) → nat_cmp a n ≡ Equal → a ≡ n
equal_numbers a n e = is_number a n (tied a n e)

either_side : (k i : ℕ) → (k < i) ⊎ (i ≤ k)
either_side k zero = inr (omega arith)
either_side zero (suc i) = inl (omega arith)
either_side (suc k) (suc i) = elim (either_side k i) [
  | inl e ↦ inl (omega arith)
  | inr e ↦ inr (omega arith)
]

none_found : (lines : List TableLine) (n : ℕ) →
    ((k : ℕ) (d : TableLine) → k < length lines → ((get_or lines k d).number == n) ≡ false) →
    filter (has_number n) (map line_record lines) ≡ []
none_found [] n h = refl
none_found (p ∷ lines) n h =
    let rest = filter (has_number n) (map line_record lines) in
    ap (λ b. cond b (line_record p ∷ rest) rest) (h 0 p (omega arith))
    ∙ none_found lines n (λ k d within. h (suc k) d (omega arith))

-- found nowhere
pub no_line : (lines : List TableLine) (i n : ℕ) →
    IsPartitionPoint (λ (line : TableLine). nat_cmp line.number n ≡ Less) (λ line. nat_cmp line.number n ≡ Greater) lines i →
    filter (has_number n) (map line_record lines) ≡ []
no_line lines i n parted =
    none_found lines n (λ k d within. elim (either_side k i) [
      | inl less ↦ below (get_or lines k d).number n (parted.0 k d (omega arith) less)
      | inr not_less ↦ behind (get_or lines k d).number n (parted.1 k d not_less within)
    ])

pub lines_more : (ns : List ℕ) (n : ℕ) (lines : List KeptLine) →
    lines_at (ns ++ n ∷ []) lines ≡ lines_at ns lines ++ filter (λ (line : KeptLine). line.number == n) lines
lines_more [] n lines = append-nil (filter (has_number n) lines)
lines_more (m ∷ ns) n lines =
    ap (λ l. filter (has_number m) lines ++ l) (lines_more ns n lines)
    ∙ sym (append_assoc (filter (has_number m) lines) (lines_at ns lines) (filter (has_number n) lines))

pub none_rise : Rise []
unfolding IsStrictlySortedBy
none_rise = tt

-- ---- marked lines by their numbers

marked_above : (n : ℕ) (marks : Marks) (lines : List KeptLine) → AllAbove n (map number lines) →
    AllAbove n (map number (marked marks lines))
marked_above n [] lines h = tt
marked_above n (true ∷ marks) [] h = tt
marked_above n (false ∷ marks) [] h = tt
marked_above n (true ∷ marks) (line ∷ lines) h = (h.0, marked_above n marks lines h.1)
marked_above n (false ∷ marks) (line ∷ lines) h = marked_above n marks lines h.1

passed : (line : KeptLine) (lines : List KeptLine) (ns : List ℕ) → AllAbove line.number ns →
    lines_at ns (line ∷ lines) ≡ lines_at ns lines
passed line lines [] h = refl
passed line lines (n ∷ ns) h =
    let here = below line.number n h.0 in
    let rest = passed line lines ns h.1 in
    (λ i. cond (here i) (line ∷ filter (has_number n) lines) (filter (has_number n) lines) ++ rest i)

pub lines_marked : (marks : Marks) (lines : List KeptLine) → Rise lines →
    lines_at (map (λ (line : KeptLine). line.number) (marked marks lines)) lines ≡ marked marks lines
unfolding IsStrictlySortedBy
lines_marked [] lines h = refl
lines_marked (true ∷ marks) [] h = refl
lines_marked (false ∷ marks) [] h = refl
lines_marked (true ∷ marks) (line ∷ lines) h =
    let here = own_line line lines h.0 in
    let rest = passed line lines (map number (marked marks lines)) (marked_above line.number marks lines h.0)
    ∙ lines_marked marks lines h.1 in
    (λ i. here i ++ rest i)
lines_marked (false ∷ marks) (line ∷ lines) h =
    passed line lines (map number (marked marks lines)) (marked_above line.number marks lines h.0)
    ∙ lines_marked marks lines h.1

-- the range of marked lines is that of their numbers
pub range_marked : (marks : Marks) (lines : List KeptLine) (numbers : List ℕ) (range : Option (List (Point VersionRecord))) →
    Rise lines → numbers ≡ map (λ (line : KeptLine). line.number) (marked marks lines) → IsRangeOf (asks_at numbers lines) range →
    IsRangeOf (case_asks marks lines) range
range_marked marks lines numbers range rise are is =
    subst (λ own. IsRangeOf (map kept_front own) range) (ap (λ ns. lines_at ns lines) are ∙ lines_marked marks lines rise) is
