-- The cases under a name are those of the lines of the text.
use Rattle.std.proofs.Common.{◌≡◌, ◌∙◌, ◌&&◌, ◌||◌, ℕ, Bool, true, false, cond, not, List, [], ◌∷◌, map, filter, refl}
use Rattle.std.proofs.Common.{sym, ap, subst, Option, Some, None, inl, inr, Less}
use Rattle.std.proofs.lemmas.Bool.{cases_Bool}
use Rattle.std.proofs.lemmas.List.Folds.{list_all-append, list_all-map}
use Rattle.std.specs.Prelude.{find}
use Rattle.std.specs.Option.{option_map}
use Rattle.std.specs.List.{list_any, list_all, AllZip, AllByRecursion}
use Rattle.std.specs.List.Sorted.{IsStrictlySortedBy}
use Rattle.std.specs.Ordering.{nat_cmp}
use Rattle.std.specs.Str.{bytes_eq}
use Rattle.version_ranges.specs.Point.{Point}
use Rattle.pep440_version.specs.Record.{VersionRecord}
use Rattle.pep440_specifier.specs.Matching.{SpecifierRecord}
use Rattle.pep440_range.specs.Ranges.{range_of, range_holds}
use Rattle.pep508_tree.specs.Tree.{Tree}
use Rattle.pep508_tree.specs.Meaning.{NodeRecord}
use Rattle.pep508_requirement_text.specs.FrontReading.{Front}
use Rattle.pep508_cases.specs.Cases.{Marks, AreCases}
use Rattle.reqtable_answer.specs.Asks.{specifiers_of, has_url, is_of}
use Rattle.reqtable_answer.proofs.Tests.{any_zip, same_bytes}
use Rattle.reqtable_requirements.specs.Asks.{lines_of}
use Rattle.reqtable_requirements.specs.LineReading.{LineRecord}
use Rattle.pep508_cases.specs.Sets.{marked}
use Rattle.reqtable_cases.specs.Lines.{numbers_of, asked_by, is_named}
use Rattle.reqtable_cases.specs.Usable.{members_asked, is_ranged, is_usable, points_of, IsRangeOf}
use Rattle.reqtable_table.specs.Kept.{KeptLine, KeptCase, KeptPackage, Keeps, KeepsAll, names_in, kept_under, kept_front}
use Rattle.reqtable_table.specs.Cases.{IsCaseOf, HasItsCases, IsCaseOfLines, AreCasesOf, cases_under}
use Rattle.reqtable_table.specs.Numbered.{lines_at, asks_at}
use Rattle.reqtable_table.proofs.Numbered.{lines_marked}
use Rattle.reqtable_table.proofs.RowsOfLines.{AsksAlike, front_kept, say_the_same, own_lines, IsKept}
use Rattle.reqtable_table.proofs.RowsOfLines.{each_kept}
use Rattle.reqtable_table.proofs.Said.{marks_said}

abbrev number_of : LineRecord → ℕ
number_of line = line.number

abbrev pub NumbersRise : List LineRecord → Type 0
NumbersRise lines = IsStrictlySortedBy nat_cmp (map (λ (line : LineRecord). line.number) lines)

-- ---- asks that are alike have one range

members_all : (test : SpecifierRecord → Bool) (asks others : List Front) → AllZip AsksAlike asks others →
    list_all test (members_asked asks) ≡ list_all test (members_asked others)
members_all test [] [] h = refl
members_all test [] (other ∷ others) h = absurd h
members_all test (ask ∷ asks) [] h = absurd h
members_all test (ask ∷ asks) (other ∷ others) h =
    let here = h.0.source.all test in
    let rest = members_all test asks others h.1 in
    list_all-append test (specifiers_of ask.source) (members_asked asks)
    ∙ (λ i. here i && rest i)
    ∙ sym (list_all-append test (specifiers_of other.source) (members_asked others))

pub same_usable : (asks others : List Front) → AllZip AsksAlike asks others → is_usable asks ≡ is_usable others
same_usable asks others h =
    let urls = any_zip AsksAlike has_url has_url (λ ask other r. r.source.url) asks others h in
    let ranged = members_all is_ranged asks others h in
    (λ i. not (urls i) && ranged i)

pub same_points : (asks others : List Front) → AllZip AsksAlike asks others → (p : Point VersionRecord) → points_of asks p ≡ points_of others p
same_points asks others h p =
    list_all-map (λ range. range_holds range p) range_of (members_asked asks)
    ∙ members_all (λ s. range_holds (range_of s) p) asks others h
    ∙ sym (list_all-map (λ range. range_holds range p) range_of (members_asked others))

same_range : (asks others : List Front) (range : Option (List (Point VersionRecord))) → AllZip AsksAlike asks others →
    IsRangeOf asks range → IsRangeOf others range
same_range asks others None h is = sym (same_usable asks others h) ∙ is
same_range asks others (Some set) h is =
    (sym (same_usable asks others h) ∙ is.0, λ p. is.1 p ∙ same_points asks others h p)

-- ---- a case

numbers_alike : (nodes : List NodeRecord) (marks : Marks) (kept : List KeptLine) (lines : List LineRecord) → AllZip (Keeps nodes) kept lines →
    map (λ (line : KeptLine). line.number) (marked marks kept) ≡ numbers_of marks lines
numbers_alike nodes [] kept lines h = refl
numbers_alike nodes (b ∷ marks) [] [] h = refl
numbers_alike nodes (b ∷ marks) [] (line ∷ lines) h = absurd h
numbers_alike nodes (b ∷ marks) (one ∷ kept) [] h = absurd h
numbers_alike nodes (true ∷ marks) (one ∷ kept) (line ∷ lines) h =
    let rest = numbers_alike nodes marks kept lines h.1 in
    (λ i. h.0.number i ∷ rest i)
numbers_alike nodes (false ∷ marks) (one ∷ kept) (line ∷ lines) h = numbers_alike nodes marks kept lines h.1

asks_alike : (nodes : List NodeRecord) (marks : Marks) (kept : List KeptLine) (lines : List LineRecord) → AllZip (Keeps nodes) kept lines →
    AllZip AsksAlike (map kept_front (marked marks kept)) (asked_by marks lines)
asks_alike nodes [] kept lines h = tt
asks_alike nodes (b ∷ marks) [] [] h = tt
asks_alike nodes (b ∷ marks) [] (line ∷ lines) h = absurd h
asks_alike nodes (b ∷ marks) (one ∷ kept) [] h = absurd h
asks_alike nodes (true ∷ marks) (one ∷ kept) (line ∷ lines) h =
    (front_kept nodes one line h.0, asks_alike nodes marks kept lines h.1)
asks_alike nodes (false ∷ marks) (one ∷ kept) (line ∷ lines) h = asks_alike nodes marks kept lines h.1

-- ---- the range of a case

filter_above : (test : LineRecord → Bool) (n : ℕ) (lines : List LineRecord) →
    AllByRecursion (λ m. nat_cmp n m ≡ Less) (map number_of lines) →
    AllByRecursion (λ m. nat_cmp n m ≡ Less) (map number_of (filter test lines))
filter_above test n [] h = tt
filter_above test n (line ∷ lines) h = elim (cases_Bool (test line)) [
  | inl e ↦
      subst (λ b. AllByRecursion (λ m. nat_cmp n m ≡ Less) (map number_of (cond b (line ∷ filter test lines) (filter test lines))))
      (sym e) (h.0, filter_above test n lines h.1)
  | inr e ↦
      subst (λ b. AllByRecursion (λ m. nat_cmp n m ≡ Less) (map number_of (cond b (line ∷ filter test lines) (filter test lines))))
      (sym e) (filter_above test n lines h.1)
]

-- lines whose numbers rise, without some
pub filter_rises : (test : LineRecord → Bool) (lines : List LineRecord) → NumbersRise lines → NumbersRise (filter test lines)
unfolding IsStrictlySortedBy
filter_rises test [] h = tt
filter_rises test (line ∷ lines) h = elim (cases_Bool (test line)) [
  | inl e ↦
      subst (λ b. NumbersRise (cond b (line ∷ filter test lines) (filter test lines))) (sym e)
      (filter_above test line.number lines h.0, filter_rises test lines h.1)
  | inr e ↦
      subst (λ b. NumbersRise (cond b (line ∷ filter test lines) (filter test lines))) (sym e) (filter_rises test lines h.1)
]

numbers_kept : (nodes : List NodeRecord) (kept : List KeptLine) (lines : List LineRecord) → AllZip (Keeps nodes) kept lines →
    map number_of lines ≡ map (λ (line : KeptLine). line.number) kept
numbers_kept nodes [] [] h = refl
numbers_kept nodes [] (line ∷ lines) h = absurd h
numbers_kept nodes (one ∷ kept) [] h = absurd h
numbers_kept nodes (one ∷ kept) (line ∷ lines) h =
    let here = sym h.0.number in
    let rest = numbers_kept nodes kept lines h.1 in
    (λ i. here i ∷ rest i)

-- what the lines with a case's numbers require is what the case's lines require
pub asks_of_case : (nodes : List NodeRecord) (kept : List KeptLine) (lines : List LineRecord) → AllZip (Keeps nodes) kept lines →
    NumbersRise lines → (case : KeptCase) (set : Marks × Tree) → IsCaseOfLines lines case set →
    AllZip AsksAlike (asks_at case.numbers kept) (asked_by set.0 lines)
asks_of_case nodes kept lines h rise case set is =
    let own : lines_at case.numbers kept ≡ marked set.0 kept =
    ap (λ ns. lines_at ns kept) (is.numbers ∙ sym (numbers_alike nodes set.0 kept lines h))
    ∙ lines_marked set.0 kept (subst (IsStrictlySortedBy nat_cmp) (numbers_kept nodes kept lines h) rise) in
    subst (λ l. AllZip AsksAlike (map kept_front l) (asked_by set.0 lines)) (sym own) (asks_alike nodes set.0 kept lines h)

pub range_of_case : (nodes : List NodeRecord) (table : List KeptPackage) (said : List LineRecord) (name : List ℕ)
    (case : KeptCase) (set : Marks × Tree) (range : Option (List (Point VersionRecord))) → KeepsAll nodes table said →
    NumbersRise said → IsCaseOfLines (lines_of name said) case set →
    IsRangeOf (asks_at case.numbers (kept_under name table)) range → IsRangeOf (asked_by set.0 (lines_of name said)) range
range_of_case nodes table said name case set range keeps rise is =
    same_range (asks_at case.numbers (kept_under name table)) (asked_by set.0 (lines_of name said)) range
    (asks_of_case nodes (kept_under name table) (lines_of name said) (keeps.each name)
    (filter_rises (λ line. is_of name line.front) said rise) case set is)

-- ---- the cases

each_case : (nodes : List NodeRecord) (kept : List KeptLine) (lines : List LineRecord) → AllZip (Keeps nodes) kept lines →
    (cases : List KeptCase) (sets : List (Marks × Tree)) → AllZip (IsCaseOf kept) cases sets → AllZip (IsCaseOfLines lines) cases sets
each_case nodes kept lines h [] [] are = tt
each_case nodes kept lines h [] (set ∷ sets) are = absurd are
each_case nodes kept lines h (case ∷ cases) [] are = absurd are
each_case nodes kept lines h (case ∷ cases) (set ∷ sets) are = (
  record {
    numbers = are.0.numbers ∙ numbers_alike nodes set.0 kept lines h;
    tree = are.0.tree;
    prerelease = are.0.prerelease
        ∙ (say_the_same (map kept_front (marked set.0 kept)) (asked_by set.0 lines) (asks_alike nodes set.0 kept lines h)).prereleases;
  },
  each_case nodes kept lines h cases sets are.1,
)

cases_of : (nodes : List NodeRecord) (p : KeptPackage) (lines : List LineRecord) → AllZip (Keeps nodes) p.lines lines → HasItsCases nodes p →
    AreCasesOf nodes lines p.cases
cases_of nodes p lines kept has = record {
  sets = has.sets;
  are = subst (λ marking. AreCases marking nodes has.sets) (marks_said nodes p.lines lines kept) has.are;
  each = each_case nodes p.lines lines kept p.cases has.sets has.each;
}

-- ---- a package of a table

abbrev cases_in : Option KeptPackage → Option (List KeptCase)
cases_in found = option_map (λ p. p.cases) found

abbrev value_or : {A : Type 0} → A → Option A → A
value_or x None = x
value_or x (Some z) = z

same_some : {A : Type 0} (x y : A) → Some x ≡ Some y → x ≡ y
same_some x y e = ap (value_or x) e

found_in : (nodes : List NodeRecord) (said : List LineRecord) (name : List ℕ) (cases : List KeptCase) (table : List KeptPackage) →
    AllByRecursion (IsKept nodes said) table → AllByRecursion (HasItsCases nodes) table → cases_under name table ≡ Some cases →
    AreCasesOf nodes (lines_of name said) cases
found_in nodes said name cases [] kept has e = absurd (cc)
found_in nodes said name cases (p ∷ table) kept has e = elim (cases_Bool (bytes_eq name p.name)) [
  | inl same ↦
      let is : name ≡ p.name = same_bytes name p.name same in
      let its : p.cases ≡ cases =
      same_some p.cases cases (sym (ap (λ b. cases_in (cond b (Some p) (find (λ q. bytes_eq name q.name) table))) same) ∙ e) in
      subst (λ n. AreCasesOf nodes (lines_of n said) cases) (sym is)
      (subst (AreCasesOf nodes (lines_of p.name said)) its (cases_of nodes p (lines_of p.name said) kept.0 has.0))
  | inr other ↦
      found_in nodes said name cases table kept.1 has.1
      (sym (ap (λ b. cases_in (cond b (Some p) (find (λ q. bytes_eq name q.name) table))) other) ∙ e)
]

pub cases_of_lines : (nodes : List NodeRecord) (table : List KeptPackage) (said : List LineRecord) (name : List ℕ)
    (cases : List KeptCase) → KeepsAll nodes table said → AllByRecursion (HasItsCases nodes) table →
    cases_under name table ≡ Some cases → AreCasesOf nodes (lines_of name said) cases
cases_of_lines nodes table said name cases keeps has e =
    found_in nodes said name cases table (each_kept nodes said table table keeps.each (own_lines table keeps.rising)) has e

not_there : (name : List ℕ) (table : List KeptPackage) → cases_under name table ≡ None → list_any (bytes_eq name) (names_in table) ≡ false
not_there name [] e = refl
not_there name (p ∷ table) e = elim (cases_Bool (bytes_eq name p.name)) [
  | inl same ↦
      let some : Some p.cases ≡ None = sym (ap (λ b. cases_in (cond b (Some p) (find (λ q. bytes_eq name q.name) table))) same) ∙ e in
      absurd (cc)
  | inr other ↦
      let rest = not_there name table (sym (ap (λ b. cases_in (cond b (Some p) (find (λ q. bytes_eq name q.name) table))) other) ∙ e) in
      (λ i. other i || rest i)
]

pub none_of_lines : (nodes : List NodeRecord) (table : List KeptPackage) (said : List LineRecord) (name : List ℕ) →
    KeepsAll nodes table said → cases_under name table ≡ None → is_named name said ≡ false
none_of_lines nodes table said name keeps e = sym (keeps.named name) ∙ not_there name table e
