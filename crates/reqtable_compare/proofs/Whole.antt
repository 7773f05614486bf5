-- What the tables of two lists say of what the lists require.
use Rattle.std.proofs.Common.{◌≡◌, ◌∙◌, ◌||◌, ℕ, Bool, true, false, List, [], ◌∷◌, ◌++◌, Option}
use Rattle.std.proofs.Common.{Some, None}
use Rattle.std.proofs.Common.{Result, Ok, Err, refl, sym, ap, subst, Less, Greater}
use Rattle.std.specs.List.{list_any, AllZip, AllByRecursion}
use Rattle.std.specs.List.Sorted.{IsStrictlySortedBy}
use Rattle.std.specs.Ordering.{nat_cmp, ordering_reverse}
use Rattle.std.specs.Cmp.Lexicographic.{slice_cmp}
use Rattle.std.specs.Str.{bytes_eq}
use Rattle.std.proofs.lemmas.Cmp.{nat_list_cmp_total, nat_list_eq_equiv}
use Rattle.pep508_diagram.specs.Question.{Valuation}
use Rattle.pep508_tree.specs.Tree.{Tree}
use Rattle.pep508_tree.specs.Meaning.{NodeRecord, Extends}
use Rattle.pep508_cases.proofs.Keeping.{cases_kept}
use Rattle.pep508_url.specs.Vars.{Variables}
use Rattle.reqtable_answer.specs.Asks.{is_of}
use Rattle.reqtable_answer.proofs.Tests.{same_bytes}
use Rattle.reqtable_requirements.specs.Asks.{lines_of}
use Rattle.reqtable_requirements.specs.LineReading.{LineRecord}
use Rattle.reqtable_requirements.specs.Requirements.{StandsFor}
use Rattle.reqtable_requirements.specs.declared.requirements.Line.{Line}
use Rattle.reqtable_cases.specs.Lines.{line_marks}
use Rattle.reqtable_cases.specs.Requires.{asked_of}
use Rattle.reqtable_table.specs.Cases.{AreCasesOf, cases_under, Builds}
use Rattle.reqtable_table.specs.Kept.{KeptCase, KeptPackage, kept_under}
use Rattle.reqtable_table_laws.proofs.CasesOfLines.{cases_of_lines, none_of_lines, range_of_case}
use Rattle.reqtable_table_laws.proofs.CasesOfLines.{filter_rises}
use Rattle.reqtable_compare.specs.declared.sides.Relation.{Relation}
use Rattle.reqtable_compare.specs.declared.sides.Same.{Same}
use Rattle.reqtable_compare.specs.declared.sides.Same.TheVariants.{Yes, No}
use Rattle.reqtable_compare.specs.declared.sides.SameError.{SameError}
use Rattle.reqtable_compare.specs.declared.sides.SameError.TheVariants as errors
use Rattle.reqtable_compare.specs.declared.sides.Side.TheVariants.{Left, Right}
use Rattle.reqtable_compare.specs.Compared.{NoneTooMany, MayCompare, ComparesBy, PassesInAll, TablesSide}
use Rattle.reqtable_compare.specs.Related.{Relates}
use Rattle.reqtable_compare.specs.Relations.{Relate, RelateThroughout, IsFirstUnrelated}
use Rattle.reqtable_compare.specs.Differences.{Listed, Sums, AgreeOn, IsFirstPlace, Place, IsBoth}
use Rattle.reqtable_compare.specs.Differences.{ComparesTables, listed}
use Rattle.reqtable_compare.specs.Refusals.{line_refusal}
use Rattle.reqtable_packages.specs.Packages.{said_among}
use Rattle.reqtable_compare.specs.Summed.{SummaryRecord, AreSummaries}
use Rattle.reqtable_compare.specs.Totals.{AreSummed}
use Rattle.reqtable_compare.proofs.ByNumber.{Rise, HasExtras, extras_said, numbers_alike}
use Rattle.reqtable_compare.proofs.Comparable.{AreComparable}
use Rattle.reqtable_compare.proofs.Likeness.{alike_related}
use Rattle.reqtable_compare.proofs.Summaries.{AreRanged, no_summaries, some_summaries}
use Rattle.reqtable_compare.proofs.Paired.{all_pass, differs}
use Rattle.reqtable_packages.proofs.Among.{among_lines, none_too_many, first_too_many, too_many_in_all}
use Rattle.reqtable_packages.proofs.Standing.{unnamed}
use Rattle.reqtable_compare.proofs.Bounded.{by_bounds}
use Rattle.reqtable_compare.proofs.Outside.{AreOutside}

-- ---- a list with its table, and what its lines say

pub record SideOf (nodes : List NodeRecord) (names : List (List ℕ)) (side : Listed) (said : List LineRecord)
    : Type 0 where
  pub extras : AllByRecursion (HasExtras side.lines) said
  pub comparable : AreComparable said
  pub some : (q : List ℕ) (cases : List KeptCase) → list_any (bytes_eq q) names ≡ true →
      cases_under q side.table ≡ Some cases → AreCasesOf nodes (lines_of q said) cases
  pub ranged : (q : List ℕ) → list_any (bytes_eq q) names ≡ true →
      AreRanged (kept_under q side.table) (lines_of q said)
  pub none : (q : List ℕ) → list_any (bytes_eq q) names ≡ true → cases_under q side.table ≡ None →
      lines_of q said ≡ []

kept_cases : (old new : List NodeRecord) (lines : List LineRecord) (cases : List KeptCase) → Extends old new →
    AreCasesOf old lines cases → AreCasesOf new lines cases
kept_cases old new lines cases keeps of = record {
  sets = of.sets;
  are = cases_kept (line_marks lines) old new of.sets keeps of.are;
  each = of.each;
}

pub side_of : (vars : Variables) (old made new : List NodeRecord) (limit : ℕ) (names : List (List ℕ)) (lines : List Line)
    (table : List KeptPackage) (said : List LineRecord) → AllZip (StandsFor vars old) lines said → Rise lines →
    AreComparable said → Builds limit made (said_among names said) (Ok table) → Extends made new →
    SideOf new names (listed lines table) said
side_of vars old made new limit names lines table said stand rise comparable built keeps = record {
  extras = extras_said vars old lines said stand rise;
  comparable = comparable;
  some = λ q cases there is. kept_cases made new (lines_of q said) cases keeps
      (subst (λ l. AreCasesOf made l cases) (among_lines names q said there)
      (cases_of_lines made table (said_among names said) q cases built.0 built.1 is));
  ranged = λ q there. subst (AreRanged (kept_under q table)) (among_lines names q said there)
      (λ case set range. range_of_case made table (said_among names said) q case set range built.0
      (filter_rises (λ line. list_any (bytes_eq line.front.name) names) said
      (subst (IsStrictlySortedBy nat_cmp) (numbers_alike vars old lines said stand) rise)));
  none = λ q there is. sym (among_lines names q said there)
      ∙ unnamed (λ line. is_of q line.front) (said_among names said)
      (none_of_lines made table (said_among names said) q built.0 is);
}

sums_by : (nodes : List NodeRecord) (names : List (List ℕ)) (side : Listed) (said : List LineRecord) (q : List ℕ)
    (summaries : List SummaryRecord) (cases : Option (List KeptCase)) → SideOf nodes names side said →
    list_any (bytes_eq q) names ≡ true → cases_under q side.table ≡ cases →
    AreSummed side.lines (kept_under q side.table) cases summaries →
    AreSummaries nodes (lines_of q said) summaries
sums_by nodes names side said q summaries None of there is sums =
    no_summaries nodes (lines_of q said) summaries (of.none q there is) sums
sums_by nodes names side said q summaries (Some cases) of there is sums =
    some_summaries nodes side.lines (kept_under q side.table) q said summaries cases of.extras of.comparable
    (of.ranged q there) sums (of.some q cases there is)

pub sums_of : (nodes : List NodeRecord) (names : List (List ℕ)) (side : Listed) (said : List LineRecord) (q : List ℕ)
    (summaries : List SummaryRecord) → SideOf nodes names side said → list_any (bytes_eq q) names ≡ true →
    Sums side q summaries → AreSummaries nodes (lines_of q said) summaries
sums_of nodes names side said q summaries of there sums =
    sums_by nodes names side said q summaries (cases_under q side.table) of there refl sums

-- ---- both require what the relation has

module _ (relation : Relation) (nodes : List NodeRecord) (limit : ℕ) (names : List (List ℕ)) (left right : Listed)
    (said others : List LineRecord) (ours : SideOf nodes names left said) (theirs : SideOf nodes names right others)
    (outside : AreOutside limit names said others) where
  abbrev RelatedOn : List ℕ → Type 0
  RelatedOn q = (v : Valuation) → Relate relation (asked_of q v said) (asked_of q v others)

  agree : (q : List ℕ) → list_any (bytes_eq q) names ≡ true → AgreeOn relation nodes left right q → RelatedOn q
  agree q there a v =
      all_pass relation nodes (lines_of q said) (lines_of q others) a.ours a.theirs
      (sums_of nodes names left said q a.ours ours there a.our_sums)
      (sums_of nodes names right others q a.theirs theirs there a.their_sums) a.pass v

  member_by : (P : List ℕ → Type 0) (q n : List ℕ) (rest : Bool) (b : Bool) → bytes_eq q n ≡ b → P n →
      (b || rest) ≡ true → (rest ≡ true → P q) → P q
  member_by P q n rest true e one h below = subst P (sym (same_bytes q n e)) one
  member_by P q n rest false e one h below = below h

  member : (P : List ℕ → Type 0) (q : List ℕ) (some : List (List ℕ)) → AllByRecursion P some →
      list_any (bytes_eq q) some ≡ true → P q
  member P q [] all h = absurd (cc)
  member P q (n ∷ some) all h =
      member_by P q n (list_any (bytes_eq q) some) (bytes_eq q n) refl all.0 h (member P q some all.1)

  either_way : (front : List (List ℕ)) (q : List ℕ) (b : Bool) → list_any (bytes_eq q) names ≡ b →
      AllByRecursion (AgreeOn relation nodes left right) front →
      (list_any (bytes_eq q) names ≡ true → list_any (bytes_eq q) front ≡ true) → RelatedOn q
  either_way front q true e all there = agree q e (member (AgreeOn relation nodes left right) q front all (there e))
  either_way front q false e all there =
      (λ v. alike_related relation (asked_of q v said) (asked_of q v others) (outside.alike q e v))

  same_all : AllByRecursion (AgreeOn relation nodes left right) names → RelateThroughout relation said others
  same_all all q = either_way names q (list_any (bytes_eq q) names) refl all (λ h. h)

  -- ---- or not

  earlier : (a b : List ℕ) → slice_cmp nat_cmp a b ≡ Less → slice_cmp nat_cmp b a ≡ Less → ⊥
  earlier a b h back =
      let turned : Less ≡ Greater = sym back ∙ nat_list_cmp_total.antisymm b a ∙ ap ordering_reverse h in absurd (cc)

  in_front_by : (q n : List ℕ) (front back : List (List ℕ)) (b : Bool) → bytes_eq q n ≡ b →
      AllByRecursion (λ y. slice_cmp nat_cmp n y ≡ Less) back → slice_cmp nat_cmp q n ≡ Less →
      (b || list_any (bytes_eq q) back) ≡ true → ⊥
  in_front_by q n front back true e rise less h =
      let itself : slice_cmp nat_cmp n n ≡ Less = subst (λ m. slice_cmp nat_cmp m n ≡ Less) (same_bytes q n e) less in
      earlier n n itself itself
  in_front_by q n front back false e rise less h =
      earlier q n less (member (λ y. slice_cmp nat_cmp n y ≡ Less) q back rise h)

  or_true : (b : Bool) → (b || true) ≡ true
  or_true true = refl
  or_true false = refl

  or_there : (b c d : Bool) → (b || c) ≡ true → (c ≡ true → d ≡ true) → (b || d) ≡ true
  or_there true c d h f = refl
  or_there false c d h f = f h

  in_front : (q n : List ℕ) (front back : List (List ℕ)) → IsStrictlySortedBy (slice_cmp nat_cmp) (front ++ n ∷ back) →
      slice_cmp nat_cmp q n ≡ Less → list_any (bytes_eq q) (front ++ n ∷ back) ≡ true →
      list_any (bytes_eq q) front ≡ true
  unfolding IsStrictlySortedBy
  in_front q n [] back rise less h = absurd (in_front_by q n [] back (bytes_eq q n) refl rise.0 less h)
  in_front q n (f ∷ front) back rise less h =
      or_there (bytes_eq q f) (list_any (bytes_eq q) (front ++ n ∷ back)) (list_any (bytes_eq q) front) h
      (in_front q n front back rise.1 less)

  in_middle : (n : List ℕ) (front back : List (List ℕ)) → list_any (bytes_eq n) (front ++ n ∷ back) ≡ true
  in_middle n [] back = ap (λ b. b || list_any (bytes_eq n) back) (nat_list_eq_equiv.refl n)
  in_middle n (f ∷ front) back =
      or_there (bytes_eq n f) true (list_any (bytes_eq n) (front ++ n ∷ back)) (or_true (bytes_eq n f))
      (λ h. in_middle n front back)

  first_difference : (new : List NodeRecord) (place : Place) (tree : Tree) →
      IsStrictlySortedBy (slice_cmp nat_cmp) names → IsFirstPlace relation nodes left right names place →
      IsBoth nodes new place.1.0 place.1.1 tree → IsFirstUnrelated relation said others new place.0 tree
  first_difference new place tree rising first both =
      let d = first.differ in
      let n = place.0 in
      let there : list_any (bytes_eq n) names ≡ true =
      subst (λ ns. list_any (bytes_eq n) ns ≡ true) (sym first.split) (in_middle n first.front first.back) in
      let all = differs relation nodes new (lines_of n said) (lines_of n others) d.ours d.theirs place.1.0 place.1.1 tree
      (sums_of nodes names left said n d.ours ours there d.our_sums)
      (sums_of nodes names right others n d.theirs theirs there d.their_sums) d.pair both in
      record {
        pair = all.pair;
        made = all.made;
        somewhere = all.somewhere;
        means = all.means;
        differ = all.differ;
        first = all.first;
        before = λ q v less. either_way first.front q (list_any (bytes_eq q) names) refl first.before
            (λ h. in_front q n first.front first.back
            (subst (IsStrictlySortedBy (slice_cmp nat_cmp)) first.split rising) less
            (subst (λ ns. list_any (bytes_eq q) ns ≡ true) first.split h)) v;
      }

  pub compares : (new : List NodeRecord) (result : Result Same SameError) →
      IsStrictlySortedBy (slice_cmp nat_cmp) names → MayCompare limit said others →
      ComparesTables relation nodes new left right names result → Relates relation limit new said others result
  compares new (Ok Yes) rising may h = (may, same_all h)
  compares new (Ok (No name tree)) rising may h = (
    may,
    subst (λ n. IsFirstUnrelated relation said others new n tree) (sym h.named)
        (first_difference new h.place tree rising h.first h.both),
  )
  compares new (Err error) rising may h = subst (λ e. Relates relation limit new said others (Err e)) (sym h) tt

-- ---- a table that is refused

module _ (limit : ℕ) (in_all : Option ℕ) (names : List (List ℕ)) (said others : List LineRecord)
    (outside : AreOutside limit names said others) where
  left_in_all : (bound : Option ℕ) (new : List NodeRecord) → line_refusal said others ≡ None →
      PassesInAll limit bound (said_among names said) →
      ComparesBy limit bound new said others (Err (errors.TooManyCasesInAll Left))
  left_in_all None new none h = absurd h
  left_in_all (Some most) new none h = (none, too_many_in_all limit names said outside.few most h)

  right_in_all : (bound : Option ℕ) (new : List NodeRecord) → line_refusal said others ≡ None →
      NoneTooMany limit (said_among names said) → PassesInAll limit bound (said_among names others) →
      ComparesBy limit bound new said others (Err (errors.TooManyCasesInAll Right))
  right_in_all None new none few h = absurd h
  right_in_all (Some most) new none few h =
      (none, none_too_many limit names said outside.few few, too_many_in_all limit names others outside.few_others most h)

  pub left_refused : (nodes new : List NodeRecord) (error : SameError) → line_refusal said others ≡ None →
      TablesSide Left limit in_all nodes (said_among names said) (Err error) →
      ComparesBy limit in_all new said others (Err error)
  left_refused nodes new (errors.Line side number cause) none h = absurd h
  left_refused nodes new (errors.TooManyCases Left name) none h =
      by_bounds limit in_all new said others (Err (errors.TooManyCases Left name))
      (none, first_too_many limit names said outside.few name h.1)
  left_refused nodes new (errors.TooManyCases Right name) none h = let wrong = h.0 in absurd (cc)
  left_refused nodes new (errors.TooManyCasesInAll Left) none h = left_in_all in_all new none h.1
  left_refused nodes new (errors.TooManyCasesInAll Right) none h = let wrong = h.0 in absurd (cc)
  left_refused nodes new errors.Memory none h = by_bounds limit in_all new said others (Err errors.Memory) tt

  pub right_refused : (nodes new : List NodeRecord) (error : SameError) → line_refusal said others ≡ None →
      NoneTooMany limit (said_among names said) → TablesSide Right limit in_all nodes (said_among names others) (Err error) →
      ComparesBy limit in_all new said others (Err error)
  right_refused nodes new (errors.Line side number cause) none few h = absurd h
  right_refused nodes new (errors.TooManyCases Left name) none few h = let wrong = h.0 in absurd (cc)
  right_refused nodes new (errors.TooManyCases Right name) none few h =
      by_bounds limit in_all new said others (Err (errors.TooManyCases Right name)) (
        none,
        none_too_many limit names said outside.few few,
        first_too_many limit names others outside.few_others name h.1,
      )
  right_refused nodes new (errors.TooManyCasesInAll Left) none few h = let wrong = h.0 in absurd (cc)
  right_refused nodes new (errors.TooManyCasesInAll Right) none few h = right_in_all in_all new none few h.1
  right_refused nodes new errors.Memory none few h = by_bounds limit in_all new said others (Err errors.Memory) tt
