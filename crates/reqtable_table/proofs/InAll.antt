-- The cases of all packages together, by what the lines of the text say.
use Rattle.std.proofs.Common.{◌≡◌, ◌∙◌, ◌≤◌, ◌<◌, ◌+◌, ℕ, zero, suc, true, List, [], ◌∷◌, ◌++◌, map, length, take}
use Rattle.std.proofs.Common.{refl, sym, ap, subst, append_assoc, arith, inl, inr, Less, Option, Some, None, Ok, Err}
use Rattle.std.proofs.lemmas.Bool.{cases_Bool}
use Rattle.std.proofs.lemmas.List.{map-append, length-map, length-take-le}
use Rattle.std.specs.List.{list_any, AllZip, AllByRecursion}
use Rattle.std.specs.List.Sorted.{IsStrictlySortedBy}
use Rattle.std.specs.Str.{bytes_eq}
use Rattle.std.specs.declared.cmp.Ordering.{Ordering}
use Rattle.pep508_url.specs.Vars.{Variables}
use Rattle.pep508_tree.specs.Tree.{Tree}
use Rattle.pep508_tree.specs.Meaning.{NodeRecord, Extends}
use Rattle.pep508_cases.specs.Cases.{Marks, Marking, marks_of, marks_cmp, IsRealised, IsCase, HasMore, sets_of}
use Rattle.reqtable_answer.proofs.Tests.{same_bytes}
use Rattle.reqtable_requirements.specs.Asks.{lines_of}
use Rattle.reqtable_requirements.specs.LineReading.{LineRecord}
use Rattle.reqtable_requirements.specs.Requirements.{StandsFor}
use Rattle.reqtable_requirements.specs.declared.requirements.Line.{Line}
use Rattle.reqtable_table.specs.InAll.{cases_in_all, AreSomeCases, HasMoreInAll, HasTooManyInAll}
use Rattle.reqtable_cases.specs.Lines.{line_marks, is_named, HasTooMany, IsFirstTooMany}
use Rattle.reqtable_groups.specs.declared.given.Given.{Given}
use Rattle.reqtable_groups.specs.declared.lines_by_package.Group.{Group}
use Rattle.reqtable_groups.specs.Given.{group_names, AreGrouped}
use Rattle.reqtable_table.specs.declared.table.TableError.{TableError}
use Rattle.reqtable_table.specs.declared.table.TableError.TheVariants.{TooManyCases, TooManyCasesInAll, Memory}
use Rattle.reqtable_table.specs.Kept.{KeptLine, KeptPackage}
use Rattle.reqtable_table.specs.Cases.{IsCaseOf, table_cases}
use Rattle.reqtable_table.specs.Building.{most_cases, group_marks, IsPackageOf, IsWithin, IsRefusedAt}
use Rattle.reqtable_table.specs.Building.{IsFirstRefusal, BuildsBy}
use Rattle.reqtable_table.proofs.Built.{found, made_of, names_split, is_in, is_there, group_is_said, all_built}
use Rattle.reqtable_table.proofs.Firsts.{longer, no_more}
use Rattle.reqtable_table.proofs.Packages.{as_long, kept_markers, zip_pushed}
use Rattle.reqtable_table.proofs.Rising.{name_cmp, around, stands_before, before_other, not_behind, front_rises}
use Rattle.reqtable_table.proofs.Rooms.{limit_left, some_left, none_left}
use Rattle.reqtable_table.proofs.Said.{named_alike}
use Rattle.reqtable_table.proofs.Sums.{Counted, names_counted, total, IsAmong, AllAmong, within_all, among_front}
use Rattle.reqtable_table.proofs.Sums.{among_last, sum_pushed}

not_more : (a b : ℕ) → (b < a → ⊥) → a ≤ b
not_more a b none = omega (arith, none)

taken_all : {A : Type 0} (P : A → Type 0) (n : ℕ) (xs : List A) → AllByRecursion P xs → AllByRecursion P (take n xs)
taken_all P zero xs h = tt
taken_all P (suc n) [] h = tt
taken_all P (suc n) (x ∷ xs) h = (h.0, taken_all P n xs h.1)

taken_rises : {A : Type 0} (R : A → A → Ordering) (n : ℕ) (xs : List A) → IsStrictlySortedBy R xs →
    IsStrictlySortedBy R (take n xs)
unfolding IsStrictlySortedBy
taken_rises R zero xs h = tt
taken_rises R (suc n) [] h = tt
taken_rises R (suc n) (x ∷ xs) h = (taken_all (λ y. R x y ≡ Less) n xs h.0, taken_rises R n xs h.1)

real_sets : (marking : Marking) (nodes : List NodeRecord) (cases : List (Marks × Tree)) →
    AllByRecursion (IsCase marking nodes) cases → AllByRecursion (IsRealised marking) (sets_of cases)
real_sets marking nodes [] each = tt
real_sets marking nodes (c ∷ cases) each = (each.0.realised, real_sets marking nodes cases each.1)

-- ---- the packages of a table, each with its number of cases

abbrev counted : List KeptPackage → Counted
counted table = map (λ p. (p.name, length p.cases)) table

total_is : (table : List KeptPackage) → total (counted table) ≡ table_cases table
total_is [] = refl
total_is (p ∷ table) = ap (λ n. length p.cases + n) (total_is table)

total_more : (table : List KeptPackage) (name : List ℕ) (n : ℕ) →
    total (counted table ++ (name, n) ∷ []) ≡ table_cases table + n
total_more [] name n = omega arith
total_more (p ∷ table) name n = let rest = total_more table name n in omega (arith, rest)

module _ (limit : ℕ) (nodes : List NodeRecord) where
  names_are : (groups : List Group) (table : List KeptPackage) → AllZip (IsPackageOf limit nodes) groups table →
      names_counted (counted table) ≡ group_names groups
  names_are [] [] h = refl
  names_are [] (kept ∷ table) h = absurd h
  names_are (group ∷ groups) [] h = absurd h
  names_are (group ∷ groups) (kept ∷ table) h =
      let rest = names_are groups table h.1 in
      (λ i. h.0.name i ∷ rest i)

  names_more : (groups : List Group) (table : List KeptPackage) (name : List ℕ) (n : ℕ) →
      AllZip (IsPackageOf limit nodes) groups table →
      names_counted (counted table ++ (name, n) ∷ []) ≡ group_names groups ++ name ∷ []
  names_more groups table name n made =
      map-append (λ (c : List ℕ × ℕ). c.0) (counted table) ((name, n) ∷ [])
      ∙ ap (λ names. names ++ name ∷ []) (names_are groups table made)

  -- a package has as many cases as it has realised sets, or more
  as_many : (group : Group) (kept : KeptPackage) (sets : List Marks) → IsPackageOf limit nodes group kept →
      IsStrictlySortedBy marks_cmp sets → AllByRecursion (IsRealised (group_marks nodes group)) sets →
      length sets ≤ length kept.cases
  as_many group kept sets is rising real =
      not_more (length sets) (length kept.cases)
      (λ less.
      let beyond = longer limit nodes group kept (length kept.cases) is
      (record { sets = sets; rising = rising; realised = real; more = less }) in omega (arith, beyond))

  among_made : (front : List Group) (group : Group) (back : List Group) (table : List KeptPackage) (q : List ℕ) (n : ℕ) →
      AllZip (IsPackageOf limit nodes) (front ++ group ∷ back) table → group.name ≡ q →
      ((kept : KeptPackage) → IsPackageOf limit nodes group kept → n ≤ length kept.cases) → IsAmong q n (counted table)
  among_made [] group back [] q n h e few = absurd h
  among_made [] group back (kept ∷ table) q n h e few = inl (sym e ∙ sym h.0.name, few kept h.0)
  among_made (one ∷ front) group back [] q n h e few = absurd h
  among_made (one ∷ front) group back (kept ∷ table) q n h e few =
      inr (among_made front group back table q n h.1 e few)

  -- the realised sets of each package
  made_sets : (groups : List Group) (table : List KeptPackage) → AllZip (IsPackageOf limit nodes) groups table →
      List (List Marks)
  made_sets [] [] h = []
  made_sets [] (kept ∷ table) h = []
  made_sets (group ∷ groups) [] h = []
  made_sets (group ∷ groups) (kept ∷ table) h = sets_of h.0.cases.sets ∷ made_sets groups table h.1

  its_sets : (group : Group) (kept : KeptPackage) (is : IsPackageOf limit nodes group kept) →
      length (sets_of is.cases.sets) ≡ length kept.cases
  its_sets group kept is =
      length-map is.cases.sets (λ (c : Marks × Tree). c.0)
      ∙ sym (as_long (IsCaseOf kept.lines) kept.cases is.cases.sets is.cases.each)

  sets_sum : (groups : List Group) (table : List KeptPackage) (h : AllZip (IsPackageOf limit nodes) groups table) →
      cases_in_all (made_sets groups table h) ≡ table_cases table
  unfolding made_sets
  sets_sum [] [] h = refl
  sets_sum [] (kept ∷ table) h = absurd h
  sets_sum (group ∷ groups) [] h = absurd h
  sets_sum (group ∷ groups) (kept ∷ table) h =
      let here = its_sets group kept h.0 in
      let rest = sets_sum groups table h.1 in
      λ i. here i + rest i

-- ---- beside the lines

module _ (vars : Variables) (old new : List NodeRecord) (keeps : Extends old new) (lines : List Line) (groups : List Group)
    (are : AreGrouped lines groups) (said : List LineRecord) (stand : AllZip (StandsFor vars old) lines said) (limit : ℕ) where
  abbrev Made : List Group → List KeptPackage → Type 0
  Made some table = AllZip (IsPackageOf limit new) some table

  said_marks : (front : List Group) (group : Group) (back : List Group) (q : List ℕ) → groups ≡ front ++ group ∷ back →
      group.name ≡ q → group_marks new group ≡ line_marks (lines_of q said)
  said_marks front group back q split e =
      group_is_said vars old new keeps lines groups are said stand front group back split
      ∙ ap (λ n. line_marks (lines_of n said)) e

  named_group : (front : List Group) (group : Group) (back : List Group) → groups ≡ front ++ group ∷ back →
      is_named group.name said ≡ true
  named_group front group back split =
      sym (are.named group.name ∙ named_alike vars old new keeps group.name lines said stand)
      ∙ is_in front group back groups split

  rises : (front : List Group) (group : Group) (back : List Group) → groups ≡ front ++ group ∷ back →
      IsStrictlySortedBy name_cmp (group_names front ++ group.name ∷ group_names back)
  rises front group back split =
      subst (IsStrictlySortedBy name_cmp) (ap group_names split ∙ names_split front group back) are.rising

  few_of : (front : List Group) (group : Group) (back : List Group) (q : List ℕ) (sets : List Marks) →
      groups ≡ front ++ group ∷ back → group.name ≡ q → AreSomeCases limit said q sets → (kept : KeptPackage) →
      IsPackageOf limit new group kept → length sets ≤ length kept.cases
  few_of front group back q sets split e some kept is =
      as_many limit new group kept sets is some.rising
      (subst (λ marking. AllByRecursion (IsRealised marking) sets) (sym (said_marks front group back q split e)) some.realised)

  -- ---- a whole table

  among_all : (table : List KeptPackage) → Made groups table → (names : List (List ℕ)) (sets : List (List Marks)) →
      AllZip (AreSomeCases limit said) names sets → AllAmong (counted table) names sets
  among_all table made [] [] h = tt
  among_all table made [] (s ∷ sets) h = absurd h
  among_all table made (q ∷ names) [] h = absurd h
  among_all table made (q ∷ names) (s ∷ sets) h =
      let at = found q groups (is_there vars old new keeps lines groups are said stand q h.0.named) in (
        among_made limit new at.0 at.1 at.2 table q (length s)
            (subst (λ g. Made g table) at.3 made) at.4
            (few_of at.0 at.1 at.2 q s at.3 at.4 h.0),
        among_all table made names sets h.1,
      )

  none_in_all : (in_all : ℕ) (table : List KeptPackage) → Made groups table → table_cases table ≤ in_all →
      (last : List ℕ) → HasMoreInAll limit in_all said last → ⊥
  none_in_all in_all table made few last h =
      let rising = subst (IsStrictlySortedBy name_cmp) (sym (names_are limit new groups table made)) are.rising in
      let within = within_all (counted table) h.names h.sets rising h.rising (among_all table made h.names h.sets h.each) in
      let sum = total_is table in
      let more = h.more in
      omega (arith, within, sum, few, more)

  pub built_by : (in_all : Option ℕ) (table : List KeptPackage) → Made groups table → IsWithin in_all (table_cases table) →
      BuildsBy limit in_all new said (Ok table)
  built_by None table made few = all_built vars old new keeps lines groups are said stand limit table made
  built_by (Some in_all) table made few =
      (all_built vars old new keeps lines groups are said stand limit table made, few, none_in_all in_all table made few)

  -- ---- a group that is refused

  module _ (front : List Group) (group : Group) (back : List Group) (split : groups ≡ front ++ group ∷ back)
      (table : List KeptPackage) (made : Made front table) where
    abbrev Before : List ℕ → Type 0
    Before q =
        (at : List Group) × (one : Group) × (later : List Group) × (front ≡ at ++ one ∷ later) × (one.name ≡ q)
        × (groups ≡ at ++ one ∷ (later ++ group ∷ back))

    -- a named package that comes before is in front
    in_front : (q : List ℕ) → is_named q said ≡ true → name_cmp q group.name ≡ Less → Before q
    in_front q named less =
        let there = is_there vars old new keeps lines groups are said stand q named in
        let names = ap group_names split ∙ names_split front group back in
        let inside = stands_before q (group_names front) group.name (group_names back) less (rises front group back split)
        (subst (λ l. list_any (bytes_eq q) l ≡ true) names there) in
        let at = found q front inside in (
          at.0,
          at.1,
          at.2,
          at.3,
          at.4,
          split ∙ ap (λ l. l ++ group ∷ back) at.3 ∙ append_assoc at.0 (at.1 ∷ at.2) (group ∷ back),
        )

    few_before : (other : List ℕ) → name_cmp other group.name ≡ Less → HasTooMany limit said other → ⊥
    few_before other less many =
        let at = in_front other many.named less in
        let kept = made_of limit new at.0 at.1 at.2 table (subst (λ g. Made g table) at.3 made) in
        no_more limit new at.1 kept.0 kept.1
        (subst (HasMore limit) (sym (said_marks at.0 at.1 (at.2 ++ group ∷ back) other at.5 at.4)) many.more)

    among_up_to : (q : List ℕ) (sets : List Marks) → AreSomeCases limit said q sets → (name_cmp group.name q ≡ Less → ⊥) →
        IsAmong q (length sets) (counted table ++ (group.name, limit) ∷ [])
    among_up_to q sets some not = elim (cases_Bool (bytes_eq q group.name)) [
      | inl e ↦ among_last q group.name (length sets) limit (counted table) (same_bytes q group.name e) some.few
      | inr e ↦
          let at = in_front q some.named (before_other q group.name not e) in
          among_front q (length sets) (counted table) ((group.name, limit) ∷ [])
          (among_made limit new at.0 at.1 at.2 table q (length sets) (subst (λ g. Made g table) at.3 made) at.4
          (few_of at.0 at.1 (at.2 ++ group ∷ back) q sets at.5 at.4 some))
    ]

    all_up_to : (names : List (List ℕ)) (sets : List (List Marks)) → AllZip (AreSomeCases limit said) names sets →
        AllByRecursion (λ q. name_cmp group.name q ≡ Less → ⊥) names →
        AllAmong (counted table ++ (group.name, limit) ∷ []) names sets
    all_up_to [] [] h not = tt
    all_up_to [] (s ∷ sets) h not = absurd h
    all_up_to (q ∷ names) [] h not = absurd h
    all_up_to (q ∷ names) (s ∷ sets) h not = (among_up_to q s h.0 not.0, all_up_to names sets h.1 not.1)

    -- where the limit is left, there are no more in all up to this group
    limit_within : (in_all : ℕ) → table_cases table + limit ≤ in_all → HasMoreInAll limit in_all said group.name → ⊥
    limit_within in_all room h =
        let rising = subst (IsStrictlySortedBy name_cmp) (sym (names_more limit new front table group.name limit made))
        (front_rises name_cmp (group_names front) group.name (group_names back) (rises front group back split)) in
        let within = within_all (counted table ++ (group.name, limit) ∷ []) h.names h.sets rising h.rising
        (all_up_to h.names h.sets h.each h.up_to) in
        let sum = total_more table group.name limit in
        let more = h.more in
        omega (arith, within, sum, room, more)

    some_of : (at : List Group) (one : Group) (later : List Group) → groups ≡ at ++ one ∷ later → (kept : KeptPackage)
        (is : IsPackageOf limit new one kept) → AreSomeCases limit said one.name (sets_of is.cases.sets)
    some_of at one later e kept is =
        let markers : map (λ (line : KeptLine). line.marker) kept.lines ≡ map (λ (line : Given). line.marker) one.lines.items =
        ap (map (λ (line : KeptLine). line.marker)) is.lines ∙ kept_markers one.lines.items in
        record {
          named = named_group at one later e;
          rising = is.cases.are.rising;
          realised =
              subst (λ marking. AllByRecursion (IsRealised marking) (sets_of is.cases.sets))
              (ap (marks_of new) markers ∙ said_marks at one later one.name e refl)
              (real_sets (marks_of new (map (λ (line : KeptLine). line.marker) kept.lines)) new is.cases.sets is.cases.are.each);
          few = (let few = is.few in let long = its_sets limit new one kept is in omega (arith, few, long));
        }

    all_some : (at some later : List Group) → groups ≡ at ++ (some ++ later) → (kept : List KeptPackage)
        (h : Made some kept) → AllZip (AreSomeCases limit said) (group_names some) (made_sets limit new some kept h)
    unfolding made_sets
    all_some at [] later e [] h = tt
    all_some at [] later e (one ∷ kept) h = absurd h
    all_some at (g ∷ some) later e [] h = absurd h
    all_some at (g ∷ some) later e (one ∷ kept) h = (
      some_of at g (some ++ later) e one h.0,
      all_some (at ++ g ∷ []) some later (e ∙ sym (append_assoc at (g ∷ []) (some ++ later))) kept h.1,
    )

    -- more sets than are left, of which one more than these is taken
    pub too_many_in_all : (in_all most : ℕ) → in_all ≡ table_cases table + most → most < limit →
        HasMore most (group_marks new group) → HasTooManyInAll limit in_all said
    too_many_in_all in_all most room less more =
        let own = take (suc most) more.sets in
        let beyond = more.more in
        let count : length own ≡ suc most = length-take-le (suc most) more.sets (omega (arith, beyond)) in
        let others = made_sets limit new front table made in
        let sum : cases_in_all (others ++ own ∷ []) ≡ cases_in_all others + length own = sum_pushed others own in
        let same = sets_sum limit new front table made in
        record {
          last = group.name;
          before = few_before;
          more = record {
            names = group_names front ++ group.name ∷ [];
            rising = front_rises name_cmp (group_names front) group.name (group_names back) (rises front group back split);
            up_to = not_behind group.name (group_names front)
                (around (group_names front) group.name (group_names back) (rises front group back split)).0;
            sets = others ++ own ∷ [];
            each =
                zip_pushed (AreSomeCases limit said) (group_names front) (group_names front ++ group.name ∷ []) others
                (others ++ own ∷ []) group.name own refl refl (all_some [] front (group ∷ back) split table made)
                (record {
                  named = named_group front group back split;
                  rising = taken_rises marks_cmp (suc most) more.sets more.rising;
                  realised =
                      subst (λ marking. AllByRecursion (IsRealised marking) own)
                      (said_marks front group back group.name split refl)
                      (taken_all (IsRealised (group_marks new group)) (suc most) more.sets more.realised);
                  few = omega (arith, count, less);
                });
            more = omega (arith, room, sum, same, count);
          };
        }

  first_too_many : (in_all : Option ℕ) (name : List ℕ) → IsRefusedAt limit in_all new groups (TooManyCases name) →
      IsFirstTooMany limit said name
  first_too_many in_all name at =
      let e : name ≡ at.group.name = at.refused.0 in
      record {
        has = record {
          named = ap (λ n. is_named n said) e ∙ named_group at.front at.group at.back at.split;
          more = subst (HasMore limit) (said_marks at.front at.group at.back name at.split (sym e))
              (subst (λ n. HasMore n (group_marks new at.group)) at.refused.1 at.more);
        };
        first = λ other less.
            few_before at.front at.group at.back at.split at.table at.made other (subst (λ n. name_cmp other n ≡ Less) e less);
      }

  refused_at : (in_all : Option ℕ) (error : TableError) → IsRefusedAt limit in_all new groups error →
      BuildsBy limit in_all new said (Err error)
  refused_at None (TooManyCases name) at = first_too_many None name at
  refused_at None TooManyCasesInAll at =
      absurd (none_left (table_cases at.table) (most_cases limit at.left) at.left at.is_left at.refused.1)
  refused_at None Memory at = absurd at.refused
  refused_at (Some in_all) (TooManyCases name) at = (
    first_too_many (Some in_all) name at,
    λ more.
        limit_within at.front at.group at.back at.split at.table at.made in_all
        (limit_left in_all limit (table_cases at.table) at.left at.is_left at.refused.1)
        (subst (HasMoreInAll limit in_all said) at.refused.0 more),
  )
  refused_at (Some in_all) TooManyCasesInAll at =
      too_many_in_all at.front at.group at.back at.split at.table at.made in_all (most_cases limit at.left)
      (some_left in_all (table_cases at.table) (most_cases limit at.left) at.left at.is_left at.refused.1)
      at.refused.0 at.more
  refused_at (Some in_all) Memory at = absurd at.refused

  out_of_memory : (in_all : Option ℕ) → BuildsBy limit in_all new said (Err Memory)
  out_of_memory None = tt
  out_of_memory (Some in_all) = tt

  pub refused_by : (in_all : Option ℕ) (error : TableError) → IsFirstRefusal limit in_all new groups error →
      BuildsBy limit in_all new said (Err error)
  refused_by in_all error h = elim h [
    | inl e ↦ subst (λ x. BuildsBy limit in_all new said (Err x)) (sym e) (out_of_memory in_all)
    | inr at ↦ refused_at in_all error at
  ]
