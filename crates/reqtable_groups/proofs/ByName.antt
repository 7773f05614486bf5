-- Lines in the order of their packages' names.
use Rattle.std.proofs.Common.{◌≡◌, ◌∙◌, ℕ, ◌+◌, Bool, true, false, not, ◌&&◌, ◌||◌, cond, List, [], ◌∷◌, map}
use Rattle.std.proofs.Common.{filter, length, get_or, refl, sym, ap, subst, arith, Less, Equal, Greater}
use Rattle.std.proofs.lemmas.Cmp.{nat_list_cmp_total}
use Rattle.std.proofs.lemmas.List.{get_or-map, length-map}
use Rattle.std.proofs.lemmas.List.Kept.{IsStrictlySortedBy-dedup}
use Rattle.std.proofs.lemmas.List.Sorted.{length_permutation, list_any-IsPermutation}
use Rattle.std.proofs.lemmas.Map.Text.{is_eq-slice_cmp}
use Rattle.std.specs.List.{list_any}
use Rattle.std.specs.List.Sorted.{IsPermutation, IsSorted, IsSortedBy, IsStableBy, IsStrictlySortedBy, ties}
use Rattle.std.specs.Ordering.{nat_cmp, is_lt, is_eq, ordering_reverse}
use Rattle.std.specs.Cmp.Lexicographic.{slice_cmp}
use Rattle.std.specs.Str.{bytes_eq}
use Rattle.std.specs.declared.cmp.Ordering.{Ordering}
use Rattle.reqtable_requirements.specs.declared.requirements.Line.{Line}
use Rattle.reqtable_groups.specs.declared.given.NamedGiven.{NamedGiven}
use Rattle.reqtable_groups.specs.declared.lines_by_package.Group.{Group}
use Rattle.reqtable_groups.specs.Given.{given_by, named_by, is_under, is_beside, AreSoFar, AreGrouped}
use Rattle.reqtable_groups.proofs.GroupedLines.{name_of, given_in}

abbrev pub is_before : NamedGiven → NamedGiven → Bool
is_before a b = is_lt (slice_cmp nat_cmp (name_of a) (name_of b))

tied : (o : Ordering) → (not (is_lt o) && not (is_lt (ordering_reverse o))) ≡ is_eq o
tied Less = refl
tied Equal = refl
tied Greater = refl

ties_names : (x line : NamedGiven) → ties is_before x line ≡ bytes_eq (name_of x) (name_of line)
ties_names x line =
    let o = slice_cmp nat_cmp (name_of x) (name_of line) in
    ap (λ b. not (is_lt o) && not (is_lt b)) (nat_list_cmp_total.antisymm (name_of line) (name_of x))
    ∙ tied o ∙ is_eq-slice_cmp (name_of x) (name_of line)

none_left : (sorted : List NamedGiven) → length sorted ≡ 0 → (q : List ℕ) → filter (is_beside q) sorted ≡ []
none_left [] e q = refl
none_left (line ∷ sorted) e q = absurd (omega arith)

-- sorting moves no line before another one of its package
same_under : (lines sorted : List NamedGiven) → IsPermutation lines sorted → IsStableBy is_before lines sorted → (q : List ℕ) →
    filter (is_beside q) sorted ≡ filter (is_beside q) lines
same_under [] sorted same stable q = none_left sorted (length_permutation [] sorted same) q
same_under (line ∷ lines) sorted same stable q =
    let one : NamedGiven = record line { name = q } in
    let test : ties is_before one ≡ is_beside q = (λ i other. ties_names one other i) in
    ap (λ p. filter p sorted) (sym test) ∙ stable one ∙ ap (λ p. filter p (line ∷ lines)) test

names_sorted : (lines : List NamedGiven) → IsSortedBy is_before lines → IsSorted (slice_cmp nat_cmp) (map name_of lines)
names_sorted [] h k d low within = absurd (omega arith)
names_sorted (line ∷ lines) h k d low within =
    let all = line ∷ lines in
    let long = length-map all name_of in
    let there = get_or-map name_of all (k + 1) line d (omega arith) in
    let here = get_or-map name_of all k line d (omega arith) in
    ap (λ n. is_lt (slice_cmp nat_cmp n (get_or (map name_of all) k d))) there
    ∙ ap (λ n. is_lt (slice_cmp nat_cmp (name_of (get_or all (k + 1) line)) n)) here
    ∙ h k line low (omega arith)

-- what stands beside the names of lines
any_beside : (q : List ℕ) (lines : List Line) → list_any (is_beside q) (map named_by lines) ≡ list_any (is_under q) lines
any_beside q [] = refl
any_beside q (line ∷ lines) = ap (λ b. is_under q line || b) (any_beside q lines)

kept_by : (b : Bool) (line : Line) (kept : List NamedGiven) →
    map given_in (cond b (named_by line ∷ kept) kept) ≡ cond b (given_by line ∷ map given_in kept) (map given_in kept)
kept_by true line kept = refl
kept_by false line kept = refl

chosen_by : (b : Bool) (line : Line) (kept : List Line) →
    map given_by (cond b (line ∷ kept) kept) ≡ cond b (given_by line ∷ map given_by kept) (map given_by kept)
chosen_by true line kept = refl
chosen_by false line kept = refl

given_beside : (q : List ℕ) (lines : List Line) →
    map given_in (filter (is_beside q) (map named_by lines)) ≡ map given_by (filter (is_under q) lines)
given_beside q [] = refl
given_beside q (line ∷ lines) =
    kept_by (is_under q line) line (filter (is_beside q) (map named_by lines))
    ∙ ap (λ kept. cond (is_under q line) (given_by line ∷ kept) kept) (given_beside q lines)
    ∙ sym (chosen_by (is_under q line) line (filter (is_under q) lines))

-- groups of all lines, once these stand by their names
pub all_grouped : (lines : List Line) (named sorted : List NamedGiven) (groups : List Group) → named ≡ map named_by lines →
    IsPermutation named sorted → IsSortedBy is_before sorted → IsStableBy is_before named sorted → AreSoFar sorted groups →
    AreGrouped lines groups
all_grouped lines named sorted groups are same rise stable so = record {
  rising =
      subst (IsStrictlySortedBy (slice_cmp nat_cmp)) (sym so.names)
      (IsStrictlySortedBy-dedup nat_list_cmp_total (λ x y. sym (is_eq-slice_cmp x y)) (map name_of sorted) (names_sorted sorted rise));
  named = λ q.
      so.named q ∙ sym (list_any-IsPermutation (is_beside q) named sorted same)
      ∙ ap (list_any (is_beside q)) are ∙ any_beside q lines;
  each = λ q.
      so.each q ∙ ap (map given_in) (same_under named sorted same stable q)
      ∙ ap (λ l. map given_in (filter (is_beside q) l)) are ∙ given_beside q lines;
  all = so.all ∙ length_permutation named sorted same ∙ ap length are ∙ length-map lines named_by;
}
