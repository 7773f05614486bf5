-- The cases that are picked are the conflicts of their package's lines, and they stand by name.
use Rattle.std.proofs.Common.{◌≡◌, ◌∙◌, ◌<◌, ◌⊎◌, ℕ, Bool, true, false, cond, ◌||◌, List, [], ◌∷◌, ◌++◌, map}
use Rattle.std.proofs.Common.{filter}
use Rattle.std.proofs.Common.{length, Option, Some, None, Ok, Err, refl, sym, ap, subst, inl, inr, true≢false, Less}
use Rattle.std.proofs.Common.{Greater}
use Rattle.std.specs.List.{list_any, AllZip, AllByRecursion}
use Rattle.std.specs.List.Sorted.{IsStrictlySortedBy}
use Rattle.std.specs.Ordering.{nat_cmp, is_eq, ordering_reverse}
use Rattle.std.specs.Cmp.Lexicographic.{slice_cmp}
use Rattle.std.specs.Str.{bytes_eq}
use Rattle.std.proofs.lemmas.Cmp.{nat_list_cmp_total}
use Rattle.std.proofs.lemmas.List.{length-map, append-nil}
use Rattle.std.proofs.lemmas.Map.Text.{is_eq-slice_cmp}
use Rattle.pep508_diagram.specs.Question.{Valuation}
use Rattle.pep508_tree.specs.Tree.{Tree}
use Rattle.pep508_tree.specs.Meaning.{NodeRecord}
use Rattle.pep508_cases.specs.Cases.{Marks, same_marks, marks_cmp, sets_of, IsRealised, IsCase}
use Rattle.pep508_cases.proofs.Marks.{marks_is}
use Rattle.pep508_url.specs.Vars.{Variables}
use Rattle.reqtable_answer.specs.Asks.{is_of}
use Rattle.reqtable_answer.proofs.Tests.{same_bytes}
use Rattle.reqtable_requirements.specs.Asks.{lines_of}
use Rattle.reqtable_requirements.specs.LineReading.{LineRecord}
use Rattle.reqtable_requirements.specs.Requirements.{StandsFor}
use Rattle.reqtable_requirements.specs.declared.requirements.Line.{Line}
use Rattle.pep508_cases.specs.Sets.{marked}
use Rattle.reqtable_cases.specs.Lines.{line_marks, numbers_of, asked_by}
use Rattle.reqtable_cases.specs.Conflicts.{IsConflict, told_of, AreConflicts}
use Rattle.reqtable_table.specs.declared.table.TableError.{TableError}
use Rattle.reqtable_table.specs.declared.table.TableError.TheVariants.{TooManyCases, TooManyCasesInAll, Memory}
use Rattle.reqtable_table.specs.Cases.{Builds, HasItsCases, IsCaseOfLines, AreCasesOf, cases_under, BuildsWithin}
use Rattle.reqtable_table.specs.Kept.{KeptLine, KeptCase, KeptPackage, Keeps, KeepsAll, kept_under}
use Rattle.reqtable_table.specs.Numbered.{asks_at}
use Rattle.reqtable_table_laws.proofs.CasesOfLines.{cases_of_lines, none_of_lines, NumbersRise, filter_rises}
use Rattle.reqtable_table_laws.proofs.CasesOfLines.{asks_of_case, same_usable, same_points}
use Rattle.reqtable_conflicts.specs.Contradictions.{ConflictRecord, FindsConflicts, HasNoPoint, StandByName, FindsWithin}
use Rattle.reqtable_conflicts.specs.Contradictions.{told_under}
use Rattle.reqtable_conflicts.specs.Picking.{Picks, PicksOf, PicksUnder, FoundFor, named}
use Rattle.reqtable_conflicts.specs.Agreeing.{AreDoubtful}
use Rattle.reqtable_packages.specs.Packages.{said_among}
use Rattle.reqtable_conflicts.proofs.Numbered.{numbers_alike}
use Rattle.reqtable_conflicts.proofs.Agreed.{empty_has_none, no_conflict, few_others}
use Rattle.reqtable_packages.proofs.Among.{among_lines, none_too_many, first_too_many, too_many_in_all}
use Rattle.reqtable_packages.proofs.Standing.{unnamed}

-- ---- a case without any point is a conflict

as_many : (set : Marks) (lines : List LineRecord) → length (asked_by set lines) ≡ length (numbers_of set lines)
as_many set lines =
    length-map (marked set lines) (λ line. line.front) ∙ sym (length-map (marked set lines) (λ line. line.number))

to_conflict : (nodes : List NodeRecord) (kept : List KeptLine) (lines : List LineRecord) (case : KeptCase)
    (set : Marks × Tree) → AllZip (Keeps nodes) kept lines → NumbersRise lines → IsCaseOfLines lines case set →
    HasNoPoint kept case → IsConflict (asked_by set.0 lines)
to_conflict nodes kept lines case set keeps rise one none =
    let alike = asks_of_case nodes kept lines keeps rise case set one in
    let asks = asks_at case.numbers kept in
    let others = asked_by set.0 lines in
    record {
      some = subst (λ n. 0 < n) (ap length one.numbers ∙ sym (as_many set.0 lines)) none.some;
      usable = sym (same_usable asks others alike) ∙ none.usable;
      none = λ p. sym (same_points asks others alike p) ∙ none.none p;
    }

to_no_point : (nodes : List NodeRecord) (kept : List KeptLine) (lines : List LineRecord) (case : KeptCase)
    (set : Marks × Tree) → AllZip (Keeps nodes) kept lines → NumbersRise lines → IsCaseOfLines lines case set →
    IsConflict (asked_by set.0 lines) → HasNoPoint kept case
to_no_point nodes kept lines case set keeps rise one conflict =
    let alike = asks_of_case nodes kept lines keeps rise case set one in
    let asks = asks_at case.numbers kept in
    let others = asked_by set.0 lines in
    record {
      some = subst (λ n. 0 < n) (as_many set.0 lines ∙ sym (ap length one.numbers)) conflict.some;
      usable = same_usable asks others alike ∙ conflict.usable;
      none = λ p. same_points asks others alike p ∙ conflict.none p;
    }

-- ---- and those picked are all conflicts

-- the sets of the picked cases, among those of all
record Kept (lines : List LineRecord) (sets : List (Marks × Tree)) (picked : List (List ℕ × Bool)) : Type 1 where
  kept : List Marks
  within : (P : Marks → Type 0) → AllByRecursion P (sets_of sets) → AllByRecursion P kept
  rising : IsStrictlySortedBy marks_cmp (sets_of sets) → IsStrictlySortedBy marks_cmp kept
  conflicts : AllByRecursion (λ set. IsConflict (asked_by set lines)) kept
  all : (m : Marks) → IsConflict (asked_by m lines) → list_any (same_marks m) (sets_of sets) ≡ true →
      list_any (same_marks m) kept ≡ true
  told : picked ≡ map (λ set. told_of set lines) kept

or_there : (b c d : Bool) → (b || c) ≡ true → (c ≡ true → d ≡ true) → (b || d) ≡ true
or_there true c d h f = refl
or_there false c d h f = f h

or_other : (b c : Bool) → (b || c) ≡ true → (b ≡ true → ⊥) → c ≡ true
or_other true c h never = absurd (never refl)
or_other false c h never = h

picked_kept : (nodes : List NodeRecord) (own : List KeptLine) (lines : List LineRecord) → AllZip (Keeps nodes) own lines →
    NumbersRise lines → (cases : List KeptCase) (sets : List (Marks × Tree)) (picked : List (List ℕ × Bool)) →
    AllZip (IsCaseOfLines lines) cases sets → Picks own cases picked → Kept lines sets picked
unfolding IsStrictlySortedBy
picked_kept nodes own lines keeps rise [] [] picked h picks = record {
  kept = [];
  within = λ P all. tt;
  rising = λ rise. tt;
  conflicts = tt;
  all = λ m conflict there. there;
  told = picks;
}
picked_kept nodes own lines keeps rise [] (set ∷ sets) picked h picks = absurd h
picked_kept nodes own lines keeps rise (case ∷ cases) [] picked h picks = absurd h
picked_kept nodes own lines keeps rise (case ∷ cases) (set ∷ sets) picked h (inl (none, (rest, is, below))) =
    let k = picked_kept nodes own lines keeps rise cases sets rest h.1 below in
    record {
      kept = set.0 ∷ k.kept;
      within = λ P all. (all.0, k.within P all.1);
      rising = λ rise. (k.within (λ m. marks_cmp set.0 m ≡ Less) rise.0, k.rising rise.1);
      conflicts = (to_conflict nodes own lines case set keeps rise h.0 none, k.conflicts);
      all = λ m conflict there. or_there (same_marks m set.0) (list_any (same_marks m) (sets_of sets))
          (list_any (same_marks m) k.kept) there (k.all m conflict);
      told = is ∙ (λ i. (h.0.numbers i, h.0.prerelease i) ∷ k.told i);
    }
picked_kept nodes own lines keeps rise (case ∷ cases) (set ∷ sets) picked h (inr (some, below)) =
    let k = picked_kept nodes own lines keeps rise cases sets picked h.1 below in
    record {
      kept = k.kept;
      within = λ P all. k.within P all.1;
      rising = λ rise. k.rising rise.1;
      conflicts = k.conflicts;
      all = λ m conflict there. k.all m conflict
          (or_other (same_marks m set.0) (list_any (same_marks m) (sets_of sets)) there
          (λ same. some (to_no_point nodes own lines case set keeps rise h.0
          (subst (λ s. IsConflict (asked_by s lines)) (marks_is m set.0 same) conflict))));
      told = k.told;
    }

realised_each : (lines : List LineRecord) (nodes : List NodeRecord) (sets : List (Marks × Tree)) →
    AllByRecursion (IsCase (line_marks lines) nodes) sets →
    AllByRecursion (IsRealised (line_marks lines)) (sets_of sets)
realised_each lines nodes [] h = tt
realised_each lines nodes (set ∷ sets) h = (h.0.realised, realised_each lines nodes sets h.1)

pub picked_are_conflicts : (nodes : List NodeRecord) (own : List KeptLine) (lines : List LineRecord) →
    AllZip (Keeps nodes) own lines → NumbersRise lines → (cases : List KeptCase) (picked : List (List ℕ × Bool)) →
    AreCasesOf nodes lines cases → Picks own cases picked → AreConflicts lines picked
picked_are_conflicts nodes own lines keeps rise cases picked h picks =
    let k = picked_kept nodes own lines keeps rise cases h.sets picked h.each picks in
    record {
      sets = k.kept;
      rising = k.rising h.are.rising;
      realised = k.within (IsRealised (line_marks lines)) (realised_each lines nodes h.sets h.are.each);
      conflicts = k.conflicts;
      all = λ v conflict. k.all (line_marks lines v) conflict (h.are.all v);
      told = k.told;
    }

none_rise : IsStrictlySortedBy marks_cmp []
unfolding IsStrictlySortedBy
none_rise = tt

never_conflict : (lines : List LineRecord) (picked : List (List ℕ × Bool)) →
    ((v : Valuation) → IsConflict (asked_by (line_marks lines v) lines) → ⊥) → picked ≡ [] →
    AreConflicts lines picked
never_conflict lines picked never none = record {
  sets = [];
  rising = none_rise;
  realised = tt;
  conflicts = tt;
  all = λ v conflict. absurd (never v conflict);
  told = none;
}

-- ---- by name

abbrev pub told_by : ConflictRecord → List ℕ × Bool
told_by c = (c.numbers, c.prerelease)

first_by : (b : Bool) (c : ConflictRecord) (cs : List ConflictRecord) → b ≡ true →
    map told_by (cond b (c ∷ cs) cs) ≡ told_by c ∷ map told_by cs
first_by true c cs h = refl
first_by false c cs h = absurd (true≢false (sym h))

passed_by : (b : Bool) (c : ConflictRecord) (cs : List ConflictRecord) → b ≡ false →
    map told_by (cond b (c ∷ cs) cs) ≡ map told_by cs
passed_by true c cs h = absurd (true≢false h)
passed_by false c cs h = refl

-- a package's own
own_under : (q n : List ℕ) (picked : List (List ℕ × Bool)) (rest : List ConflictRecord) → bytes_eq q n ≡ true →
    told_under q (map (named n) picked ++ rest) ≡ picked ++ told_under q rest
own_under q n [] rest h = refl
own_under q n (x ∷ picked) rest h =
    first_by (bytes_eq q n) (named n x) (filter (λ c. bytes_eq q c.name) (map (named n) picked ++ rest)) h
    ∙ ap (λ l. x ∷ l) (own_under q n picked rest h)

-- and another one's
other_under : (q n : List ℕ) (picked : List (List ℕ × Bool)) (rest : List ConflictRecord) → bytes_eq q n ≡ false →
    told_under q (map (named n) picked ++ rest) ≡ told_under q rest
other_under q n [] rest h = refl
other_under q n (x ∷ picked) rest h =
    passed_by (bytes_eq q n) (named n x) (filter (λ c. bytes_eq q c.name) (map (named n) picked ++ rest)) h
    ∙ other_under q n picked rest h

not_later : (q n : List ℕ) (names : List (List ℕ)) → q ≡ n →
    AllByRecursion (λ y. slice_cmp nat_cmp n y ≡ Less) names → list_any (bytes_eq q) names ≡ false
not_later q n [] same h = refl
not_later q n (y ∷ names) same h =
    let here : bytes_eq q y ≡ false =
    sym (is_eq-slice_cmp q y) ∙ ap (λ m. is_eq (slice_cmp nat_cmp m y)) same ∙ ap is_eq h.0 in
    let rest = not_later q n names same h.1 in
    λ i. here i || rest i

abbrev Under : List KeptPackage → List (List ℕ) → List ConflictRecord → List ℕ → Type 0
Under table names found q =
    ((list_any (bytes_eq q) names ≡ true) × PicksUnder table q (told_under q found))
    ⊎ ((list_any (bytes_eq q) names ≡ false) × (told_under q found ≡ []))

absent : (table : List KeptPackage) (names : List (List ℕ)) (found : List ConflictRecord) (q : List ℕ) →
    Under table names found q → list_any (bytes_eq q) names ≡ false → told_under q found ≡ []
absent table names found q (inl there) none = absurd (true≢false (sym there.0 ∙ none))
absent table names found q (inr h) none = h.1

under_by : (table : List KeptPackage) (n : List ℕ) (names : List (List ℕ)) (found rest : List ConflictRecord)
    (picked : List (List ℕ × Bool)) (q : List ℕ) (b : Bool) → bytes_eq q n ≡ b →
    AllByRecursion (λ y. slice_cmp nat_cmp n y ≡ Less) names → PicksUnder table n picked →
    found ≡ map (named n) picked ++ rest → Under table names rest q → Under table (n ∷ names) found q
under_by table n names found rest picked q true e later picks is below =
    let same : q ≡ n = same_bytes q n e in
    let none = absent table names rest q below (not_later q n names same later) in
    let told : told_under q found ≡ picked =
    ap (told_under q) is ∙ own_under q n picked rest e ∙ ap (λ l. picked ++ l) none ∙ append-nil picked in
    inl (
      ap (λ b. b || list_any (bytes_eq q) names) e,
      subst (λ l. PicksUnder table q l) (sym told)
          (subst (λ m. PicksUnder table m picked) (sym same) picks),
    )
under_by table n names found rest picked q false e later picks is (inl below) =
    let told : told_under q found ≡ told_under q rest =
    ap (told_under q) is ∙ other_under q n picked rest e in
    inl (
      ap (λ b. b || list_any (bytes_eq q) names) e ∙ below.0,
      subst (λ l. PicksUnder table q l) (sym told) below.1,
    )
under_by table n names found rest picked q false e later picks is (inr below) =
    inr (
      ap (λ b. b || list_any (bytes_eq q) names) e ∙ below.0,
      ap (told_under q) is ∙ other_under q n picked rest e ∙ below.1,
    )

found_under : (table : List KeptPackage) (names : List (List ℕ)) (found : List ConflictRecord) →
    IsStrictlySortedBy (slice_cmp nat_cmp) names → FoundFor table names found → (q : List ℕ) →
    Under table names found q
unfolding IsStrictlySortedBy
found_under table [] found rise h q = inr (refl, ap (told_under q) h)
found_under table (n ∷ names) found rise (picked, rest, picks, is, below) q =
    under_by table n names found rest picked q (bytes_eq q n) refl rise.0 picks is
    (found_under table names rest rise.1 below q)

-- ---- they stand by name

abbrev NotBefore : List ℕ → ConflictRecord → Type 0
NotBefore n other = slice_cmp nat_cmp other.name n ≡ Less → ⊥

later_not_before : (n m : List ℕ) → slice_cmp nat_cmp n m ≡ Less → slice_cmp nat_cmp m n ≡ Less → ⊥
later_not_before n m h back =
    let turned : Less ≡ Greater = sym back ∙ nat_list_cmp_total.antisymm m n ∙ ap ordering_reverse h in absurd (cc)

own_not_before : (n : List ℕ) → slice_cmp nat_cmp n n ≡ Less → ⊥
own_not_before n h = later_not_before n n h h

each_named : (n : List ℕ) (table : List KeptPackage) (names : List (List ℕ)) (found : List ConflictRecord) →
    AllByRecursion (λ y. slice_cmp nat_cmp n y ≡ Less) names → FoundFor table names found →
    AllByRecursion (NotBefore n) found
each_named n table [] found h is = subst (AllByRecursion (NotBefore n)) (sym is) tt
each_named n table (m ∷ names) found h (picked, rest, picks, is, below) =
    subst (AllByRecursion (NotBefore n)) (sym is)
    (own_and_rest m picked (later_not_before n m h.0) (each_named n table names rest h.1 below))
  where
    own_and_rest : (m : List ℕ) (picked : List (List ℕ × Bool)) → (slice_cmp nat_cmp m n ≡ Less → ⊥) →
        AllByRecursion (NotBefore n) rest → AllByRecursion (NotBefore n) (map (named m) picked ++ rest)
    own_and_rest m [] one all = all
    own_and_rest m (x ∷ picked) one all = (one, own_and_rest m picked one all)

with_own : (n : List ℕ) (picked : List (List ℕ × Bool)) (rest : List ConflictRecord) →
    AllByRecursion (NotBefore n) rest → AllByRecursion (NotBefore n) (map (named n) picked ++ rest)
with_own n [] rest h = h
with_own n (x ∷ picked) rest h = (own_not_before n, with_own n picked rest h)

own_stand : (n : List ℕ) (picked : List (List ℕ × Bool)) (rest : List ConflictRecord) →
    AllByRecursion (NotBefore n) rest → StandByName rest → StandByName (map (named n) picked ++ rest)
own_stand n [] rest h stand = stand
own_stand n (x ∷ picked) rest h stand = (with_own n picked rest h, own_stand n picked rest h stand)

pub found_stand : (table : List KeptPackage) (names : List (List ℕ)) (found : List ConflictRecord) →
    IsStrictlySortedBy (slice_cmp nat_cmp) names → FoundFor table names found → StandByName found
unfolding IsStrictlySortedBy
found_stand table [] found rise h = subst StandByName (sym h) tt
found_stand table (n ∷ names) found rise (picked, rest, picks, is, below) =
    subst StandByName (sym is)
    (own_stand n picked rest (each_named n table names rest rise.0 below) (found_stand table names rest rise.1 below))

-- ---- and are the conflicts of each package

module _ (nodes : List NodeRecord) (table : List KeptPackage) (said : List LineRecord) (names : List (List ℕ)) where
  conflicts_by : (q : List ℕ) (picked : List (List ℕ × Bool)) (cases : Option (List KeptCase)) (lines : List LineRecord) →
      KeepsAll nodes table lines → AllByRecursion (HasItsCases nodes) table → cases_under q table ≡ cases →
      NumbersRise lines → PicksOf (kept_under q table) cases picked → AreConflicts (lines_of q lines) picked
  conflicts_by q picked None lines keeps has is rise picks =
      never_conflict (lines_of q lines) picked
      (λ v. empty_has_none (lines_of q lines) v
      (unnamed (λ line. is_of q line.front) lines (none_of_lines nodes table lines q keeps is))) picks
  conflicts_by q picked (Some cases) lines keeps has is rise picks =
      picked_are_conflicts nodes (kept_under q table) (lines_of q lines) (keeps.each q)
      (filter_rises (λ line. is_of q line.front) lines rise) cases picked
      (cases_of_lines nodes table lines q cases keeps has is) picks

  conflicts_under : (found : List ConflictRecord) (q : List ℕ) → KeepsAll nodes table (said_among names said) →
      AllByRecursion (HasItsCases nodes) table → NumbersRise (said_among names said) →
      (list_any (bytes_eq q) names ≡ false → (v : Valuation) →
      IsConflict (asked_by (line_marks (lines_of q said) v) (lines_of q said)) → ⊥) →
      Under table names found q → AreConflicts (lines_of q said) (told_under q found)
  conflicts_under found q keeps has rise others (inl there) =
      subst (λ lines. AreConflicts lines (told_under q found)) (among_lines names q said there.0)
      (conflicts_by q (told_under q found) (cases_under q table) (said_among names said) keeps has refl rise there.1)
  conflicts_under found q keeps has rise others (inr none) =
      never_conflict (lines_of q said) (told_under q found) (others none.0) none.1

-- ---- what is found

pub all_found : (vars : Variables) (old nodes : List NodeRecord) (limit : ℕ) (lines : List Line)
    (said : List LineRecord) (table : List KeptPackage) (names : List (List ℕ)) (found : List ConflictRecord) →
    AllZip (StandsFor vars old) lines said → IsStrictlySortedBy nat_cmp (map (λ (line : Line). line.number) lines) →
    AreDoubtful limit lines names → Builds limit nodes (said_among names said) (Ok table) → FoundFor table names found →
    FindsConflicts (λ conflicts. conflicts) limit said (Ok found)
all_found vars old nodes limit lines said table names found stand rise are built h = (
  none_too_many limit names said (few_others vars old limit lines said names stand are) built.2,
  found_stand table names found are.rising h,
  λ q. conflicts_under nodes table said names found q built.0 built.1
      (filter_rises (λ line. list_any (bytes_eq line.front.name) names) said (subst (IsStrictlySortedBy nat_cmp) (numbers_alike vars old lines said stand) rise))
      (no_conflict vars old limit lines said names stand are q) (found_under table names found are.rising h q),
)

pub refused_too : {X : Type 0} (view : X → List ConflictRecord) (vars : Variables) (old nodes : List NodeRecord)
    (limit : ℕ) (lines : List Line) (said : List LineRecord) (names : List (List ℕ)) (error : TableError) →
    AllZip (StandsFor vars old) lines said → AreDoubtful limit lines names →
    Builds limit nodes (said_among names said) (Err error) → FindsConflicts view limit said (Err error)
refused_too view vars old nodes limit lines said names (TooManyCases name) stand are first =
    first_too_many limit names said (few_others vars old limit lines said names stand are) name first
refused_too view vars old nodes limit lines said names TooManyCasesInAll stand are h = absurd h
refused_too view vars old nodes limit lines said names Memory stand are first = tt

pub refused_within : {X : Type 0} (view : X → List ConflictRecord) (vars : Variables) (old nodes : List NodeRecord)
    (limit in_all : ℕ) (lines : List Line) (said : List LineRecord) (names : List (List ℕ)) (error : TableError) →
    AllZip (StandsFor vars old) lines said → AreDoubtful limit lines names →
    BuildsWithin limit in_all nodes (said_among names said) (Err error) → FindsWithin view limit in_all said (Err error)
refused_within view vars old nodes limit in_all lines said names (TooManyCases name) stand are first =
    first_too_many limit names said (few_others vars old limit lines said names stand are) name first.0
refused_within view vars old nodes limit in_all lines said names TooManyCasesInAll stand are h =
    too_many_in_all limit names said (few_others vars old limit lines said names stand are) in_all h
refused_within view vars old nodes limit in_all lines said names Memory stand are h = tt
