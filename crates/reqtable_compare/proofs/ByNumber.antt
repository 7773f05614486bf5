-- A line by its number, among lines whose numbers rise.
use Rattle.std.proofs.Common.{◌≡◌, ◌∙◌, ℕ, zero, suc, ◌+◌, ◌<◌, ◌≤◌, Bool, true, false, cond, ◌⊎◌, List, []}
use Rattle.std.proofs.Common.{◌∷◌}
use Rattle.std.proofs.Common.{map, get_or, length, refl, sym, ap, subst, arith, Some, None, Less, Equal}
use Rattle.std.proofs.Common.{Greater}
use Rattle.std.proofs.Common.{inl, inr}
use Rattle.std.proofs.lemmas.Cmp.{nat_cmp_total}
use Rattle.std.proofs.lemmas.List.Sorted.{searchable_from_sorted}
use Rattle.std.specs.Prelude.{find}
use Rattle.std.specs.List.{AllByRecursion, AllZip}
use Rattle.std.specs.Cmp.{tied_itself}
use Rattle.std.specs.List.Sorted.{IsStrictlySortedBy, IsSortedBy, IsNonDecreasingBy, IsPartitionPoint}
use Rattle.std.specs.Ordering.{nat_cmp, is_eq, is_lt, ordering_index, ordering_reverse}
use Rattle.pep508_tree.specs.Meaning.{NodeRecord}
use Rattle.pep508_url.specs.Vars.{Variables}
use Rattle.reqtable_requirements.specs.LineReading.{LineRecord}
use Rattle.reqtable_requirements.specs.Requirements.{StandsFor}
use Rattle.reqtable_requirements.specs.declared.requirements.Line.{Line}
use Rattle.reqtable_compare.specs.Numbered.{extras_in, extras_at}

abbrev pub numbers_of : List Line → List ℕ
numbers_of lines = map (λ line. line.number) lines

abbrev pub Rise : List Line → Type 0
Rise lines = IsStrictlySortedBy nat_cmp (numbers_of lines)

abbrev is : ℕ → Line → Bool
is n line = is_eq (nat_cmp n line.number)

adjacent : (lines : List Line) → Rise lines → (k : ℕ) (d : Line) → suc k < length lines →
    nat_cmp (get_or lines k d).number (get_or lines (suc k) d).number ≡ Less
unfolding IsStrictlySortedBy
adjacent [] h k d within = absurd (omega arith)
adjacent (p ∷ []) h k d within = absurd (omega arith)
adjacent (p ∷ (q ∷ lines)) h zero d within = h.0.0
adjacent (p ∷ (q ∷ lines)) h (suc k) d within = adjacent (q ∷ lines) h.1 k d (omega arith)

sorted : (lines : List Line) → Rise lines → IsSortedBy (λ (a b : Line). is_lt (nat_cmp a.number b.number)) lines
sorted lines h k d low within =
    let next : k + 1 ≡ suc k = omega arith in
    let less = adjacent lines h k d (omega arith) in
    ap (λ n. is_lt (nat_cmp (get_or lines n d).number (get_or lines k d).number)) next
    ∙ ap is_lt (nat_cmp_total.antisymm (get_or lines (suc k) d).number (get_or lines k d).number
    ∙ ap ordering_reverse less)

pub searchable : (lines : List Line) (n : ℕ) → Rise lines →
    IsNonDecreasingBy (λ (line : Line). ordering_index (nat_cmp line.number n)) lines
searchable lines n h =
    searchable_from_sorted nat_cmp_total (λ (line : Line). line.number) lines n (sorted lines h)

-- ---- found

turned_equal : (a n : ℕ) → nat_cmp a n ≡ Equal → is_eq (nat_cmp n a) ≡ true
turned_equal a n e = ap is_eq (nat_cmp_total.antisymm n a ∙ ap ordering_reverse e)

turned_less : (a n : ℕ) → nat_cmp a n ≡ Less → is_eq (nat_cmp n a) ≡ false
turned_less a n e = ap is_eq (nat_cmp_total.antisymm n a ∙ ap ordering_reverse e)

turned_greater : (a n : ℕ) → nat_cmp a n ≡ Greater → is_eq (nat_cmp n a) ≡ false
turned_greater a n e = ap is_eq (nat_cmp_total.antisymm n a ∙ ap ordering_reverse e)

below_at : (n : ℕ) (lines : List Line) (i : ℕ) (d : Line) → AllByRecursion (λ m. nat_cmp n m ≡ Less) (numbers_of lines) →
    i < length lines → nat_cmp n (get_or lines i d).number ≡ Less
below_at n [] i d h within = absurd (omega arith)
below_at n (p ∷ lines) zero d h within = h.0
below_at n (p ∷ lines) (suc i) d h within = below_at n lines i d h.1 (omega arith)

found_at : (lines : List Line) (i : ℕ) (line : Line) (n : ℕ) → Rise lines → i < length lines →
    line ≡ get_or lines i line → nat_cmp line.number n ≡ Equal → find (is n) lines ≡ Some line
unfolding IsStrictlySortedBy
found_at [] i line n h within here e = absurd (omega arith)
found_at (p ∷ lines) zero line n h within here e =
    let same : nat_cmp p.number n ≡ Equal = sym (ap (λ (l : Line). nat_cmp l.number n) here) ∙ e in
    ap (λ b. cond b (Some p) (find (is n) lines)) (turned_equal p.number n same) ∙ ap (λ l. Some l) (sym here)
found_at (p ∷ lines) (suc i) line n h within here e =
    let less : nat_cmp p.number line.number ≡ Less =
    subst (λ (l : Line). nat_cmp p.number l.number ≡ Less) (sym here) (below_at p.number lines i line h.0 (omega arith)) in
    let other : is_eq (nat_cmp n p.number) ≡ false =
    ap is_eq (sym (nat_cmp_total.congr line.number n p.number e)) ∙ turned_less p.number line.number less in
    ap (λ b. cond b (Some p) (find (is n) lines)) other ∙ found_at lines i line n h.1 (omega arith) here e

pub found_extras : (lines : List Line) (i : ℕ) (line : Line) (n : ℕ) → Rise lines → i < length lines →
    line ≡ get_or lines i line → nat_cmp line.number n ≡ Equal →
    line.requirement.extras.items ≡ extras_at lines n
found_extras lines i line n h within here e = sym (ap extras_in (found_at lines i line n h within here e))

-- ---- not found

either_side : (k i : ℕ) → (k < i) ⊎ (i ≤ k)
either_side k zero = inr (omega arith)
either_side zero (suc i) = inl (omega arith)
either_side (suc k) (suc i) = elim (either_side k i) [
  | inl e ↦ inl (omega arith)
  | inr e ↦ inr (omega arith)
]

none_found : (lines : List Line) (n : ℕ) →
    ((k : ℕ) (d : Line) → k < length lines → is n (get_or lines k d) ≡ false) → find (is n) lines ≡ None
none_found [] n h = refl
none_found (p ∷ lines) n h =
    ap (λ b. cond b (Some p) (find (is n) lines)) (h 0 p (omega arith))
    ∙ none_found lines n (λ k d within. h (suc k) d (omega arith))

pub no_extras : (lines : List Line) (i n : ℕ) →
    IsPartitionPoint (λ (line : Line). nat_cmp line.number n ≡ Less) (λ line. nat_cmp line.number n ≡ Greater) lines i →
    [] ≡ extras_at lines n
no_extras lines i n parted =
    sym (ap extras_in (none_found lines n (λ k d within. elim (either_side k i) [
      | inl less ↦ turned_less (get_or lines k d).number n (parted.0 k d (omega arith) less)
      | inr not_less ↦ turned_greater (get_or lines k d).number n (parted.1 k d not_less within)
    ])))

-- ---- the lines that stand for those of a text

lifted : (vars : Variables) (nodes : List NodeRecord) (k : ℕ) (lines : List Line) (said : List LineRecord) →
    AllZip (StandsFor vars nodes) lines said → AllByRecursion (λ n. nat_cmp k n ≡ Less) (numbers_of lines) →
    AllByRecursion (λ (r : LineRecord). nat_cmp k r.number ≡ Less) said
lifted vars nodes k [] [] h all = tt
lifted vars nodes k [] (one ∷ said) h all = absurd h
lifted vars nodes k (line ∷ lines) [] h all = absurd h
lifted vars nodes k (line ∷ lines) (one ∷ said) h all =
    (subst (λ n. nat_cmp k n ≡ Less) h.0.number all.0, lifted vars nodes k lines said h.1 all.1)

-- the extras at a record's number are its own
abbrev pub HasExtras : List Line → LineRecord → Type 0
HasExtras lines r = extras_at lines r.number ≡ r.front.extras

behind_first : (p : Line) (lines : List Line) (said : List LineRecord) →
    AllByRecursion (λ (r : LineRecord). nat_cmp p.number r.number ≡ Less) said → AllByRecursion (HasExtras lines) said →
    AllByRecursion (HasExtras (p ∷ lines)) said
behind_first p lines [] less all = tt
behind_first p lines (r ∷ said) less all = (
  ap (λ b. extras_in (cond b (Some p) (find (is r.number) lines))) (turned_less p.number r.number less.0)
      ∙ all.0,
  behind_first p lines said less.1 all.1,
)

pub extras_said : (vars : Variables) (nodes : List NodeRecord) (lines : List Line) (said : List LineRecord) →
    AllZip (StandsFor vars nodes) lines said → Rise lines → AllByRecursion (HasExtras lines) said
unfolding IsStrictlySortedBy
extras_said vars nodes [] [] h rise = tt
extras_said vars nodes [] (one ∷ said) h rise = absurd h
extras_said vars nodes (line ∷ lines) [] h rise = absurd h
extras_said vars nodes (line ∷ lines) (one ∷ said) h rise =
    let same : nat_cmp line.number one.number ≡ Equal =
    subst (λ n. nat_cmp line.number n ≡ Equal) h.0.number (tied_itself nat_cmp_total line.number) in (
      ap (λ b. extras_in (cond b (Some line) (find (is one.number) lines))) (turned_equal line.number one.number same)
          ∙ h.0.extras,
      behind_first line lines said (lifted vars nodes line.number lines said h.1 rise.0)
          (extras_said vars nodes lines said h.1 rise.1),
    )

-- lines that stand for others have their numbers
pub numbers_alike : (vars : Variables) (nodes : List NodeRecord) (lines : List Line) (said : List LineRecord) →
    AllZip (StandsFor vars nodes) lines said → numbers_of lines ≡ map (λ (r : LineRecord). r.number) said
numbers_alike vars nodes [] [] h = refl
numbers_alike vars nodes [] (one ∷ said) h = absurd h
numbers_alike vars nodes (line ∷ lines) [] h = absurd h
numbers_alike vars nodes (line ∷ lines) (one ∷ said) h =
    let here = h.0.number in
    let rest = numbers_alike vars nodes lines said h.1 in
    (λ i. here i ∷ rest i)
