-- What a table of all groups is to the lines of the text.
use Rattle.std.proofs.Common.{◌≡◌, ◌∙◌, ◌+◌, ℕ, Bool, true, false, cond, ◌||◌, List, [], ◌∷◌, ◌++◌, map, filter}
use Rattle.std.proofs.Common.{refl, sym, ap, subst, append-nil, true≢false, inl, inr}
use Rattle.std.proofs.lemmas.Bool.{cases_Bool}
use Rattle.std.proofs.lemmas.Cmp.{nat_list_eq_equiv}
use Rattle.std.proofs.lemmas.List.{map-append}
use Rattle.std.proofs.lemmas.List.Concat.{flat_map-append}
use Rattle.std.specs.List.{list_any, AllZip, AllByRecursion}
use Rattle.std.specs.List.Sorted.{IsStrictlySortedBy}
use Rattle.std.specs.Str.{bytes_eq}
use Rattle.pep508_url.specs.Vars.{Variables}
use Rattle.pep508_tree.specs.Meaning.{NodeRecord, IsTree, Extends}
use Rattle.pep508_cases.specs.Cases.{marks_of, HasMore}
use Rattle.reqtable_answer.proofs.Tests.{same_bytes}
use Rattle.reqtable_requirements.specs.Asks.{AreOfNodes, lines_of}
use Rattle.reqtable_requirements.specs.LineReading.{LineRecord}
use Rattle.reqtable_requirements.specs.Requirements.{StandsFor}
use Rattle.reqtable_requirements.specs.declared.requirements.Line.{Line}
use Rattle.reqtable_cases.specs.Lines.{line_marks, is_named, HasTooMany}
use Rattle.reqtable_groups.specs.declared.given.Given.{Given}
use Rattle.reqtable_groups.specs.declared.lines_by_package.Group.{Group}
use Rattle.reqtable_groups.specs.Given.{given_by, is_under, group_names, lines_under, AreGrouped}
use Rattle.reqtable_table.specs.Kept.{KeptPackage, names_in, kept_under, Keeps, KeepsAll}
use Rattle.reqtable_table.specs.KeptLines.{kept_by}
use Rattle.reqtable_table.specs.Cases.{HasItsCases}
use Rattle.reqtable_table.specs.Counts.{tests_of, all_tests}
use Rattle.reqtable_table.specs.Building.{AreOfTrees, group_marks, IsPackageOf}
use Rattle.reqtable_table.proofs.Firsts.{no_more}
use Rattle.reqtable_table.proofs.Packages.{kept_markers}
use Rattle.reqtable_table.proofs.Rising.{name_cmp, below_other, around, not_before, AllBefore}
use Rattle.reqtable_table.proofs.Said.{lines_kept, named_alike, marks_said}

-- ---- the table beside its groups

no_tests : (lines : List Given) → tests_of (map kept_by lines) ≡ 0
no_tests [] = refl
no_tests (line ∷ lines) = ap (λ n. 0 + n) (no_tests lines)

module _ (limit : ℕ) (nodes : List NodeRecord) where
  pub names_alike : (groups : List Group) (table : List KeptPackage) → AllZip (IsPackageOf limit nodes) groups table →
      names_in table ≡ group_names groups
  names_alike [] [] h = refl
  names_alike [] (kept ∷ table) h = absurd h
  names_alike (group ∷ groups) [] h = absurd h
  names_alike (group ∷ groups) (kept ∷ table) h =
      let rest = names_alike groups table h.1 in
      (λ i. h.0.name i ∷ rest i)

  mapped : (b : Bool) (lines : List Given) → cond b (map kept_by lines) [] ≡ map kept_by (cond b lines [])
  mapped true lines = refl
  mapped false lines = refl

  pub under_alike : (q : List ℕ) (groups : List Group) (table : List KeptPackage) → AllZip (IsPackageOf limit nodes) groups table →
      kept_under q table ≡ map kept_by (lines_under q groups)
  under_alike q [] [] h = refl
  under_alike q [] (kept ∷ table) h = absurd h
  under_alike q (group ∷ groups) [] h = absurd h
  under_alike q (group ∷ groups) (kept ∷ table) h =
      let own = cond (bytes_eq q group.name) group.lines.items [] in
      (λ i. cond (bytes_eq q (h.0.name i)) (h.0.lines i) [] ++ kept_under q table)
      ∙ (λ i. mapped (bytes_eq q group.name) group.lines.items i ++ under_alike q groups table h.1 i)
      ∙ sym (map-append kept_by own (lines_under q groups))

  pub all_cases : (groups : List Group) (table : List KeptPackage) → AllZip (IsPackageOf limit nodes) groups table →
      AllByRecursion (HasItsCases nodes) table
  all_cases [] [] h = tt
  all_cases [] (kept ∷ table) h = absurd h
  all_cases (group ∷ groups) [] h = absurd h
  all_cases (group ∷ groups) (kept ∷ table) h = (h.0.cases, all_cases groups table h.1)

  pub none_asked : (groups : List Group) (table : List KeptPackage) → AllZip (IsPackageOf limit nodes) groups table → all_tests table ≡ 0
  none_asked [] [] h = refl
  none_asked [] (kept ∷ table) h = absurd h
  none_asked (group ∷ groups) [] h = absurd h
  none_asked (group ∷ groups) (kept ∷ table) h =
      let here = ap tests_of h.0.lines ∙ no_tests group.lines.items in
      let rest = none_asked groups table h.1 in
      (λ i. here i + rest i)

  pub made_of : (front : List Group) (group : Group) (back : List Group) (table : List KeptPackage) →
      AllZip (IsPackageOf limit nodes) (front ++ group ∷ back) table → (kept : KeptPackage) × IsPackageOf limit nodes group kept
  made_of [] group back [] h = absurd h
  made_of [] group back (kept ∷ table) h = (kept, h.0)
  made_of (one ∷ front) group back [] h = absurd h
  made_of (one ∷ front) group back (kept ∷ table) h = made_of front group back table h.1

-- ---- one group

abbrev Found : List ℕ → List Group → Type 0
Found q groups =
    (front : List Group) × (group : Group) × (back : List Group) × (groups ≡ front ++ group ∷ back) × (group.name ≡ q)

pub found : (q : List ℕ) (groups : List Group) → list_any (bytes_eq q) (group_names groups) ≡ true → Found q groups
found q [] h = absurd (true≢false (sym h))
found q (group ∷ groups) h = elim (cases_Bool (bytes_eq q group.name)) [
  | inl e ↦ ([], group, groups, refl, sym (same_bytes q group.name e))
  | inr e ↦
      let rest = found q groups (sym (ap (λ b. b || list_any (bytes_eq q) (group_names groups)) e) ∙ h) in
      (group ∷ rest.0, rest.1, rest.2, ap (λ l. group ∷ l) rest.3, rest.4)
]

pub names_split : (front : List Group) (group : Group) (back : List Group) →
    group_names (front ++ group ∷ back) ≡ group_names front ++ group.name ∷ group_names back
names_split front group back = map-append (λ (g : Group). g.name) front (group ∷ back)

none_under : (q : List ℕ) (groups : List Group) → list_any (bytes_eq q) (group_names groups) ≡ false → lines_under q groups ≡ []
none_under q [] h = refl
none_under q (group ∷ groups) h = elim (cases_Bool (bytes_eq q group.name)) [
  | inl e ↦ absurd (true≢false (sym (ap (λ b. b || list_any (bytes_eq q) (group_names groups)) e) ∙ h))
  | inr e ↦
      (λ i. cond (e i) group.lines.items [] ++ lines_under q groups)
      ∙ none_under q groups (sym (ap (λ b. b || list_any (bytes_eq q) (group_names groups)) e) ∙ h)
]

none_in_front : (q : List ℕ) (names : List (List ℕ)) → AllBefore q names → list_any (bytes_eq q) names ≡ false
none_in_front q [] h = refl
none_in_front q (n ∷ names) h =
    let here = nat_list_eq_equiv.symm q n ∙ below_other n q h.0 in
    let rest = none_in_front q names h.1 in
    (λ i. here i || rest i)

-- a group has the lines of its name
own_lines : (front : List Group) (group : Group) (back : List Group) →
    IsStrictlySortedBy name_cmp (group_names front ++ group.name ∷ group_names back) →
    lines_under group.name (front ++ group ∷ back) ≡ group.lines.items
own_lines front group back rising =
    let sides = around (group_names front) group.name (group_names back) rising in
    let name = group.name in
    let first = none_under name front (none_in_front name (group_names front) sides.0) in
    let last = none_under name back (not_before name (group_names back) sides.1) in
    let here : bytes_eq name name ≡ true = nat_list_eq_equiv.refl name in
    flat_map-append (λ (g : Group). cond (bytes_eq name g.name) g.lines.items []) front (group ∷ back)
    ∙ (λ i. first i ++ (cond (here i) group.lines.items [] ++ last i))
    ∙ append-nil group.lines.items

-- ---- lines of trees

all_front : {A : Type 0} (P : A → Type 0) (xs ys : List A) → AllByRecursion P (xs ++ ys) → AllByRecursion P xs × AllByRecursion P ys
all_front P [] ys h = (tt, h)
all_front P (x ∷ xs) ys h = let rest = all_front P xs ys h.1 in ((h.0, rest.0), rest.1)

all_under : (P : Given → Type 0) (groups : List Group) → ((q : List ℕ) → AllByRecursion P (lines_under q groups)) →
    AllByRecursion (λ (g : Group). AllByRecursion P g.lines.items) groups
all_under P [] h = tt
all_under P (group ∷ groups) h = (
  subst (λ b. AllByRecursion P (cond b group.lines.items [])) (nat_list_eq_equiv.refl group.name)
      (all_front P (cond (bytes_eq group.name group.name) group.lines.items []) (lines_under group.name groups) (h group.name)).0,
  all_under P groups (λ q. (all_front P (cond (bytes_eq q group.name) group.lines.items []) (lines_under q groups) (h q)).1),
)

given_if : (nodes : List NodeRecord) (b : Bool) (line : Line) (lines : List Line) → IsTree nodes line.requirement.marker →
    AllByRecursion (λ (g : Given). IsTree nodes g.marker) (map given_by lines) →
    AllByRecursion (λ (g : Given). IsTree nodes g.marker) (map given_by (cond b (line ∷ lines) lines))
given_if nodes true line lines h rest = (h, rest)
given_if nodes false line lines h rest = rest

given_are : (nodes : List NodeRecord) (q : List ℕ) (lines : List Line) → AreOfNodes nodes lines →
    AllByRecursion (λ (g : Given). IsTree nodes g.marker) (map given_by (filter (is_under q) lines))
given_are nodes q [] h = tt
given_are nodes q (line ∷ lines) h =
    given_if nodes (is_under q line) line (filter (is_under q) lines) h.0 (given_are nodes q lines h.1)

pub groups_of_trees : (nodes : List NodeRecord) (lines : List Line) (groups : List Group) → AreOfNodes nodes lines →
    AreGrouped lines groups → AllByRecursion (AreOfTrees nodes) groups
groups_of_trees nodes lines groups h are =
    all_under (λ g. IsTree nodes g.marker) groups
    (λ q. subst (AllByRecursion (λ (g : Given). IsTree nodes g.marker)) (sym (are.each q)) (given_are nodes q lines h))

-- ---- what is built

module _ (vars : Variables) (old new : List NodeRecord) (keeps : Extends old new) (lines : List Line) (groups : List Group)
    (are : AreGrouped lines groups) (said : List LineRecord) (stand : AllZip (StandsFor vars old) lines said) where
  -- which lines of a group apply is what the lines of its name say
  pub group_is_said : (front : List Group) (group : Group) (back : List Group) → groups ≡ front ++ group ∷ back →
      group_marks new group ≡ line_marks (lines_of group.name said)
  group_is_said front group back split =
      let rising = subst (IsStrictlySortedBy name_cmp) (ap group_names split ∙ names_split front group back) are.rising in
      let own : map given_by (filter (is_under group.name) lines) ≡ group.lines.items =
      sym (are.each group.name) ∙ ap (lines_under group.name) split ∙ own_lines front group back rising in
      let kept = map kept_by group.lines.items in
      let zip : AllZip (Keeps new) kept (lines_of group.name said) =
      subst (λ l. AllZip (Keeps new) (map kept_by l) (lines_of group.name said)) own
      (lines_kept vars old new keeps group.name lines said stand) in
      ap (marks_of new) (sym (kept_markers group.lines.items)) ∙ marks_said new kept (lines_of group.name said) zip

  pub keeps_all : (limit : ℕ) (table : List KeptPackage) → AllZip (IsPackageOf limit new) groups table → KeepsAll new table said
  keeps_all limit table made = record {
    rising = subst (IsStrictlySortedBy name_cmp) (sym (names_alike limit new groups table made)) are.rising;
    named = λ q. ap (list_any (bytes_eq q)) (names_alike limit new groups table made) ∙ are.named q
        ∙ named_alike vars old new keeps q lines said stand;
    each = λ q.
        subst (λ l. AllZip (Keeps new) l (lines_of q said))
        (sym (under_alike limit new q groups table made ∙ ap (map kept_by) (are.each q)))
        (lines_kept vars old new keeps q lines said stand);
  }

  pub is_there : (q : List ℕ) → is_named q said ≡ true → list_any (bytes_eq q) (group_names groups) ≡ true
  is_there q h = are.named q ∙ named_alike vars old new keeps q lines said stand ∙ h

  pub none_too_many : (limit : ℕ) (table : List KeptPackage) → AllZip (IsPackageOf limit new) groups table →
      (q : List ℕ) → HasTooMany limit said q → ⊥
  none_too_many limit table made q many =
      let at = found q groups (is_there q many.named) in
      let kept = made_of limit new at.0 at.1 at.2 table (subst (λ g. AllZip (IsPackageOf limit new) g table) at.3 made) in
      no_more limit new at.1 kept.0 kept.1
      (subst (HasMore limit) (sym (group_is_said at.0 at.1 at.2 at.3 ∙ ap (λ n. line_marks (lines_of n said)) at.4)) many.more)

  pub all_built : (limit : ℕ) (table : List KeptPackage) → AllZip (IsPackageOf limit new) groups table →
      KeepsAll new table said × AllByRecursion (HasItsCases new) table × ((q : List ℕ) → HasTooMany limit said q → ⊥)
  all_built limit table made = (keeps_all limit table made, all_cases limit new groups table made, none_too_many limit table made)

-- ---- a group's name

or_true : (b : Bool) → (b || true) ≡ true
or_true true = refl
or_true false = refl

in_front : (front : List Group) (group : Group) (back : List Group) →
    list_any (bytes_eq group.name) (group_names (front ++ group ∷ back)) ≡ true
in_front [] group back = ap (λ b. b || list_any (bytes_eq group.name) (group_names back)) (nat_list_eq_equiv.refl group.name)
in_front (one ∷ front) group back =
    ap (λ b. bytes_eq group.name one.name || b) (in_front front group back) ∙ or_true (bytes_eq group.name one.name)

pub is_in : (front : List Group) (group : Group) (back groups : List Group) → groups ≡ front ++ group ∷ back →
    list_any (bytes_eq group.name) (group_names groups) ≡ true
is_in front group back groups split =
    ap (λ g. list_any (bytes_eq group.name) (group_names g)) split ∙ in_front front group back
