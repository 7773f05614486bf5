-- The regions of a list's cases are those of what it requires.
use Rattle.std.proofs.Common.{◌≡◌, ◌≢◌, ◌∙◌, ◌&&◌, ◌||◌, ℕ, Bool, true, false, cond, List, [], ◌∷◌, map}
use Rattle.std.proofs.Common.{Option, Some, None, refl, sym, ap, subst, true≢false, Bor, Vec}
use Rattle.std.specs.BTreeMap.{BTreeMap}
use Rattle.std.specs.List.{list_any, flat_map, AllZip, AllByRecursion}
use Rattle.std.specs.Str.{bytes_eq}
use Rattle.std.proofs.lemmas.Cmp.{nat_list_eq_equiv}
use Rattle.std.proofs.lemmas.List.Folds.{list_any-append}
use Rattle.version_ranges.specs.Point.{Point}
use Rattle.version_ranges.specs.Held.{IsNormal}
use Rattle.version_ranges.proofs.Membership.{all_weaker}
use Rattle.pep440_version.specs.Record.{VersionRecord}
use Rattle.pep440_version.specs.Order.{version_cmp}
use Rattle.pep508_diagram.specs.Question.{Valuation, truth, IsCanonical}
use Rattle.pep508_tree.specs.Tree.{Tree}
use Rattle.pep508_tree.specs.Meaning.{NodeRecord, holds}
use Rattle.pep508_cases.specs.Cases.{Marks, IsCase, same_marks}
use Rattle.pep508_cases.proofs.Marks.{marks_is}
use Rattle.pep508_requirement_text.specs.FrontReading.{Front}
use Rattle.reqtable_answer.specs.Asks.{is_of}
use Rattle.reqtable_answer.specs.Groups.{has_group}
use Rattle.reqtable_answer.proofs.Tests.{same_bytes}
use Rattle.reqtable_requirements.specs.Asks.{lines_of, asks_of}
use Rattle.reqtable_requirements.specs.LineReading.{LineRecord}
use Rattle.reqtable_cases.specs.Lines.{is_named, line_marks, asked_by}
use Rattle.reqtable_cases.specs.Requires.{asked_of}
use Rattle.reqtable_cases.specs.Usable.{is_usable, IsRangeOf}
use Rattle.reqtable_cases.proofs.Marked.{marked_apply}
use Rattle.reqtable_packages.proofs.Standing.{unnamed}
use Rattle.reqtable_compare.specs.Differences.{Listed}
use Rattle.reqtable_compare.specs.Summed.{SummaryRecord, IsSummaryOf, IsOfSet, some_asks}
use Rattle.reqtable_compare.proofs.Finding.{found, itself}
use Rattle.reqtable_compare.proofs.Whole.{SideOf, sums_of}
use Rattle.reqtable_key.specs.Heads.{head_bytes, IsHead}
use Rattle.reqtable_key.specs.Entries.{EntryRecord, entry_by, entry_if, own_entries, HasNormal, IsNormalIf, AreOwn}
use Rattle.reqtable_key.specs.Entries.{AreOfPackages, is_under, trees_under, trees_at, any_holds}
use Rattle.reqtable_key.specs.Entries.{WritesRegions, IsRegionOf}
use Rattle.reqtable_key.specs.Keys.{Region, is_there, Requires, IsToldIn, IsKeyOf}
use Rattle.reqtable_key.proofs.Grouped.{is_at, there_at, any_under}

abbrev Range : Type 0
Range = List (Point VersionRecord)

abbrev Test : Type 0
Test = EntryRecord → Bool

or_left : (a b : Bool) → a ≡ true → (a || b) ≡ true
or_left a b e = ap (λ x. x || b) e

or_right : (a b : Bool) → b ≡ true → (a || b) ≡ true
or_right true b e = refl
or_right false b e = e

both_true : (p q : Bool) → (p && q) ≡ true → (p ≡ true) × (q ≡ true)
both_true true q e = (refl, e)
both_true false q e = absurd (true≢false (sym e))

-- ---- an entry among those of packages

abbrev flat : List (List EntryRecord) → List EntryRecord
flat parts = flat_map (λ part. part) parts

-- the package of an entry that passes a test
pub record OfPackage (side : Listed) (names : List (List ℕ)) (whole : List EntryRecord) (test : Test)
    : Type 0 where
  pub name : List ℕ
  pub there : list_any (bytes_eq name) names ≡ true
  pub own : List EntryRecord
  pub are : AreOwn side name own
  pub passes : list_any test own ≡ true
  pub within : (other : Test) → list_any other own ≡ true → list_any other whole ≡ true

first_in : (p : List EntryRecord) (parts : List (List EntryRecord)) (other : Test) → list_any other p ≡ true →
    list_any other (flat (p ∷ parts)) ≡ true
first_in p parts other h = list_any-append other p (flat parts) ∙ or_left (list_any other p) (list_any other (flat parts)) h

later_in : (p : List EntryRecord) (parts : List (List EntryRecord)) (other : Test) →
    list_any other (flat parts) ≡ true → list_any other (flat (p ∷ parts)) ≡ true
later_in p parts other h =
    list_any-append other p (flat parts) ∙ or_right (list_any other p) (list_any other (flat parts)) h

package_by : (side : Listed) (n : List ℕ) (names : List (List ℕ)) (p : List EntryRecord)
    (parts : List (List EntryRecord)) (test : Test) (b : Bool) → list_any test p ≡ b → AreOwn side n p →
    (b || list_any test (flat parts)) ≡ true →
    (list_any test (flat parts) ≡ true → OfPackage side names (flat parts) test) →
    OfPackage side (n ∷ names) (flat (p ∷ parts)) test
package_by side n names p parts test true e own any below = record {
  name = n;
  there = or_left (bytes_eq n n) (list_any (bytes_eq n) names) (nat_list_eq_equiv.refl n);
  own = p;
  are = own;
  passes = e;
  within = first_in p parts;
}
package_by side n names p parts test false e own any below =
    let far = below any in
    record {
      name = far.name;
      there = or_right (bytes_eq far.name n) (list_any (bytes_eq far.name) names) far.there;
      own = far.own;
      are = far.are;
      passes = far.passes;
      within = λ other h. later_in p parts other (far.within other h);
    }

package_of : (side : Listed) (names : List (List ℕ)) (parts : List (List EntryRecord)) (test : Test) →
    AllZip (AreOwn side) names parts → list_any test (flat parts) ≡ true → OfPackage side names (flat parts) test
package_of side [] [] test each any = absurd (true≢false (sym any))
package_of side [] (p ∷ parts) test each any = absurd each
package_of side (n ∷ names) [] test each any = absurd each
package_of side (n ∷ names) (p ∷ parts) test each any =
    package_by side n names p parts test (list_any test p) refl each.0
    (sym (list_any-append test p (flat parts)) ∙ any) (package_of side names parts test each.1)

-- the entries of a package by its name
pub record Under (side : Listed) (name : List ℕ) (whole : List EntryRecord) : Type 0 where
  pub own : List EntryRecord
  pub are : AreOwn side name own
  pub within : (other : Test) → list_any other own ≡ true → list_any other whole ≡ true

under_by : (side : Listed) (q n : List ℕ) (names : List (List ℕ)) (p : List EntryRecord)
    (parts : List (List EntryRecord)) (b : Bool) → bytes_eq q n ≡ b → AreOwn side n p →
    (b || list_any (bytes_eq q) names) ≡ true → (list_any (bytes_eq q) names ≡ true → Under side q (flat parts)) →
    Under side q (flat (p ∷ parts))
under_by side q n names p parts true e own any below = record {
  own = p;
  are = subst (λ m. AreOwn side m p) (sym (same_bytes q n e)) own;
  within = first_in p parts;
}
under_by side q n names p parts false e own any below =
    let far = below any in
    record { own = far.own; are = far.are; within = λ other h. later_in p parts other (far.within other h) }

under : (side : Listed) (q : List ℕ) (names : List (List ℕ)) (parts : List (List EntryRecord)) →
    AllZip (AreOwn side) names parts → list_any (bytes_eq q) names ≡ true → Under side q (flat parts)
under side q [] [] each any = absurd (true≢false (sym any))
under side q [] (p ∷ parts) each any = absurd each
under side q (n ∷ names) [] each any = absurd each
under side q (n ∷ names) (p ∷ parts) each any =
    under_by side q n names p parts (bytes_eq q n) refl each.0 any (under side q names parts each.1)

-- ---- an entry among those of cases

module _ (nodes : List NodeRecord) (name : List ℕ) (lines : List LineRecord) where
  -- the case of an entry that passes a test
  pub record OfCase (whole : List SummaryRecord) (test : Test) : Type 0 where
    pub summary : SummaryRecord
    pub set : Marks × Tree
    pub of : IsOfSet lines summary set
    pub case : IsCase (line_marks lines) nodes set
    pub normal : HasNormal summary
    pub passes : list_any test (own_entries name summary) ≡ true
    pub within : (other : Test) → list_any other (own_entries name summary) ≡ true →
        list_any other (flat_map (own_entries name) whole) ≡ true

  first_case : (s : SummaryRecord) (ss : List SummaryRecord) (other : Test) → list_any other (own_entries name s) ≡ true →
      list_any other (flat_map (own_entries name) (s ∷ ss)) ≡ true
  first_case s ss other h =
      list_any-append other (own_entries name s) (flat_map (own_entries name) ss)
      ∙ or_left (list_any other (own_entries name s)) (list_any other (flat_map (own_entries name) ss)) h

  later_case : (s : SummaryRecord) (ss : List SummaryRecord) (other : Test) →
      list_any other (flat_map (own_entries name) ss) ≡ true →
      list_any other (flat_map (own_entries name) (s ∷ ss)) ≡ true
  later_case s ss other h =
      list_any-append other (own_entries name s) (flat_map (own_entries name) ss)
      ∙ or_right (list_any other (own_entries name s)) (list_any other (flat_map (own_entries name) ss)) h

  case_by : (s : SummaryRecord) (ss : List SummaryRecord) (set : Marks × Tree) (test : Test) (b : Bool) →
      list_any test (own_entries name s) ≡ b → IsOfSet lines s set → IsCase (line_marks lines) nodes set →
      HasNormal s → (b || list_any test (flat_map (own_entries name) ss)) ≡ true →
      (list_any test (flat_map (own_entries name) ss) ≡ true → OfCase ss test) → OfCase (s ∷ ss) test
  case_by s ss set test true e of case normal any below = record {
    summary = s;
    set = set;
    of = of;
    case = case;
    normal = normal;
    passes = e;
    within = first_case s ss;
  }
  case_by s ss set test false e of case normal any below =
      let far = below any in
      record {
        summary = far.summary;
        set = far.set;
        of = far.of;
        case = far.case;
        normal = far.normal;
        passes = far.passes;
        within = λ other h. later_case s ss other (far.within other h);
      }

  case_of : (ss : List SummaryRecord) (sets : List (Marks × Tree)) (test : Test) → AllZip (IsOfSet lines) ss sets →
      AllByRecursion (IsCase (line_marks lines) nodes) sets → AllByRecursion HasNormal ss →
      list_any test (flat_map (own_entries name) ss) ≡ true → OfCase ss test
  case_of [] [] test each cases normal any = absurd (true≢false (sym any))
  case_of [] (set ∷ sets) test each cases normal any = absurd each
  case_of (s ∷ ss) [] test each cases normal any = absurd each
  case_of (s ∷ ss) (set ∷ sets) test each cases normal any =
      case_by s ss set test (list_any test (own_entries name s)) refl each.0 cases.0 normal.0
      (sym (list_any-append test (own_entries name s) (flat_map (own_entries name) ss)) ∙ any)
      (case_of ss sets test each.1 cases.1 normal.1)

  -- every case's entries are among those of all
  all_within : (ss : List SummaryRecord) (test : Test) → AllByRecursion (λ s. list_any test (own_entries name s) ≡ true →
      list_any test (flat_map (own_entries name) ss) ≡ true) ss
  all_within ss test = within_all ss ss (λ h. h)
    where
      within_all : (some whole : List SummaryRecord) →
          (list_any test (flat_map (own_entries name) some) ≡ true → list_any test (flat_map (own_entries name) whole) ≡ true) →
          AllByRecursion (λ s. list_any test (own_entries name s) ≡ true →
          list_any test (flat_map (own_entries name) whole) ≡ true) some
      within_all [] whole up = tt
      within_all (s ∷ some) whole up =
          (λ h. up (first_case s some test h), within_all some whole (λ h. up (later_case s some test h)))

-- ---- the entry of a case

-- what passes is its bytes with its tree
pub record Passed (name : List ℕ) (s : SummaryRecord) (test : Test) : Type 0 where
  pub some : s.some ≡ true
  pub range : Range
  pub is : s.range ≡ Some range
  pub passes : test (head_bytes name s.extras range s.prerelease, s.tree) ≡ true

passed_by : (name : List ℕ) (s : SummaryRecord) (test : Test) (b : Bool) (o : Option Range) → s.some ≡ b →
    s.range ≡ o → list_any test (cond b (entry_by name s o) []) ≡ true → Passed name s test
passed_by name s test true None e f h = absurd (true≢false (sym h))
passed_by name s test true (Some range) e f h = record { some = e; range = range; is = f; passes = first h }
  where
    first : (test (head_bytes name s.extras range s.prerelease, s.tree) || false) ≡ true →
        test (head_bytes name s.extras range s.prerelease, s.tree) ≡ true
    first h = sym (plain (test (head_bytes name s.extras range s.prerelease, s.tree))) ∙ h
      where
        plain : (a : Bool) → (a || false) ≡ a
        plain true = refl
        plain false = refl
passed_by name s test false o e f h = absurd (true≢false (sym h))

if_is : (name : List ℕ) (s : SummaryRecord) (b : Bool) → cond b (entry_by name s s.range) [] ≡ entry_if name s b
if_is name s true = refl
if_is name s false = refl

passed : (name : List ℕ) (s : SummaryRecord) (test : Test) → list_any test (own_entries name s) ≡ true →
    Passed name s test
passed name s test h =
    passed_by name s test s.some s.range refl refl (ap (list_any test) (if_is name s s.some) ∙ h)

-- and passes where these do
passes : (name : List ℕ) (s : SummaryRecord) (range : Range) (test : Test) → s.some ≡ true → s.range ≡ Some range →
    test (head_bytes name s.extras range s.prerelease, s.tree) ≡ true →
    list_any test (own_entries name s) ≡ true
passes name s range test some is h =
    ap (λ b. list_any test (entry_if name s b)) some ∙ ap (λ o. list_any test (entry_by name s o)) is
    ∙ or_left (test (head_bytes name s.extras range s.prerelease, s.tree)) false h

normal_by : (s : SummaryRecord) (range : Range) → HasNormal s → s.some ≡ true → s.range ≡ Some range →
    IsNormal version_cmp range
normal_by s range normal some is = subst IsNormalIf is (normal some)

head_of : (name : List ℕ) (asks : List Front) (s : SummaryRecord) (range : Range) → IsSummaryOf asks s →
    s.some ≡ true → s.range ≡ Some range → HasNormal s →
    IsHead name asks (head_bytes name s.extras range s.prerelease)
head_of name asks s range of some is normal = record {
  extras = s.extras;
  range = range;
  rising = of.rising;
  has = of.extras;
  normal = normal_by s range normal some is;
  points = (subst (IsRangeOf asks) is (of.range (sym of.some ∙ some))).1;
  is = ap (head_bytes name s.extras range) of.prerelease;
}

some_there : (asks : List Front) → some_asks asks ≡ true → asks ≢ []
some_there [] h e = true≢false (sym h)
some_there (ask ∷ asks) h e = absurd (cc)

there_some : (asks : List Front) → asks ≢ [] → some_asks asks ≡ true
there_some [] h = absurd (h refl)
there_some (ask ∷ asks) h = refl

range_there : (asks : List Front) (o : Option Range) → is_usable asks ≡ true → IsRangeOf asks o →
    (range : Range) × (o ≡ Some range)
range_there asks None usable is = absurd (true≢false (sym usable ∙ is))
range_there asks (Some range) usable is = (range, refl)

-- ---- the whole

module _ {Y : Type 0} (nodes : List NodeRecord) (names : List (List ℕ)) (side : Listed) (said : List LineRecord)
    (ours : SideOf nodes names side said) (named : (q : List ℕ) → list_any (bytes_eq q) names ≡ is_named q said)
    (entries : List EntryRecord) (gathered : AreOfPackages side names entries)
    (groups : BTreeMap (Bor (List ℕ)) (Vec Tree Y)) (key : List ℕ) (written : WritesRegions nodes groups key)
    (trees : (q : List ℕ) → trees_at groups q ≡ trees_under q entries)
    (heads : (q : List ℕ) → has_group groups q ≡ list_any (is_under q) entries) where
  abbrev regions : List Region
  regions = written.regions

  there : (b : List ℕ) (v : Valuation) → is_there regions b v ≡ list_any (is_at nodes b v) entries
  there b v = there_at nodes groups entries regions written.each trees (λ q. written.all q ∙ heads q) b v

  -- the case of an entry of all
  pub record Chosen (test : Test) : Type 0 where
    pub name : List ℕ
    pub summary : SummaryRecord
    pub set : Marks × Tree
    pub of : IsOfSet (lines_of name said) summary set
    pub case : IsCase (line_marks (lines_of name said)) nodes set
    pub normal : HasNormal summary
    pub passed : Passed name summary test
    pub within : (other : Test) → list_any other (own_entries name summary) ≡ true →
        list_any other entries ≡ true

  chosen : (test : Test) → list_any test entries ≡ true → Chosen test
  chosen test any =
      let far = package_of side names gathered.parts test gathered.each (sym (ap (list_any test) gathered.are) ∙ any) in
      let sums = sums_of nodes names side said far.name far.are.summaries ours far.there far.are.sums in
      let case = case_of nodes far.name (lines_of far.name said) far.are.summaries sums.sets test sums.each
      sums.are.each far.are.normal (sym (ap (list_any test) far.are.are) ∙ far.passes) in
      record {
        name = far.name;
        summary = case.summary;
        set = case.set;
        of = case.of;
        case = case.case;
        normal = case.normal;
        passed = passed far.name case.summary test case.passes;
        within = λ other h. ap (list_any other) gathered.are
            ∙ far.within other (ap (list_any other) far.are.are ∙ case.within other h);
      }

  -- what the lines of a case require where it holds
  asked_there : (name : List ℕ) (s : SummaryRecord) (set : Marks × Tree) (v : Valuation) →
      IsOfSet (lines_of name said) s set → IsCase (line_marks (lines_of name said)) nodes set →
      holds nodes s.tree v ≡ true → IsSummaryOf (asked_of name v said) s
  asked_there name s set v of case holding =
      let marks : line_marks (lines_of name said) v ≡ set.0 =
      marks_is (line_marks (lines_of name said) v) set.0
      (sym (case.means v) ∙ ap (λ t. holds nodes t v) (sym of.tree) ∙ holding) in
      subst (λ asks. IsSummaryOf asks s)
      (sym (marked_apply v (lines_of name said) ∙ ap (λ m. asked_by m (lines_of name said)) marks)) of.asks

  required : (b : List ℕ) (v : Valuation) → is_there regions b v ≡ true → Requires said b v
  required b v h =
      let one = chosen (is_at nodes b v) (sym (there b v) ∙ h) in
      let own = one.passed in
      let head : List ℕ = head_bytes one.name one.summary.extras own.range one.summary.prerelease in
      let both = both_true (bytes_eq b head) (holds nodes one.summary.tree v) own.passes in
      let asks = asked_there one.name one.summary one.set v one.of one.case both.1 in
      record {
        name = one.name;
        some = some_there (asked_of one.name v said) (sym asks.some ∙ own.some);
        head = subst (IsHead one.name (asked_of one.name v said)) (sym (same_bytes b head both.0))
            (head_of one.name (asked_of one.name v said) one.summary own.range asks own.some own.is one.normal);
      }

  is_among : (name : List ℕ) (v : Valuation) → asked_of name v said ≢ [] → list_any (bytes_eq name) names ≡ true
  is_among name v some = among (list_any (bytes_eq name) names) refl
    where
      among : (b : Bool) → list_any (bytes_eq name) names ≡ b → list_any (bytes_eq name) names ≡ true
      among true e = e
      among false e = absurd (some (ap (asks_of v) (unnamed (λ line. is_of name line.front) said (sym (named name) ∙ e))))

  told : (name : List ℕ) (v : Valuation) → asked_of name v said ≢ [] → IsToldIn said regions name v
  told name v some =
      let lines = lines_of name said in
      let among = is_among name v some in
      let far = under side name names gathered.parts gathered.each among in
      let sums = sums_of nodes names side said name far.are.summaries ours among far.are.sums in
      let at = found nodes lines far.are.summaries v sums in
      let asks : IsSummaryOf (asked_of name v said) at.summary =
      subst (λ a. IsSummaryOf a at.summary)
      (sym (marked_apply v lines ∙ ap (λ m. asked_by m lines) at.marks)) at.of.asks in
      let is_some : at.summary.some ≡ true = asks.some ∙ there_some (asked_of name v said) some in
      let normal : HasNormal at.summary = at.any HasNormal far.are.normal in
      let ranged = range_there (asked_of name v said) at.summary.range asks.usable
      (asks.range (there_some (asked_of name v said) some)) in
      let head : List ℕ = head_bytes name at.summary.extras ranged.0 at.summary.prerelease in
      let test : Test = is_at nodes head v in
      let itself : test (head, at.summary.tree) ≡ true =
      (λ i. nat_list_eq_equiv.refl head i && at.there i) in
      let own = passes name at.summary ranged.0 test is_some ranged.1 itself in
      let all = at.any (λ s. list_any test (own_entries name s) ≡ true →
      list_any test (flat_map (own_entries name) far.are.summaries) ≡ true)
      (all_within nodes name lines far.are.summaries test) own in
      record {
        bytes = head;
        head = head_of name (asked_of name v said) at.summary ranged.0 asks is_some ranged.1 normal;
        there = there head v ∙ ap (list_any test) gathered.are ∙ far.within test (ap (list_any test) far.are.are ∙ all);
      }

  -- ---- each holds somewhere

  somewhere_by : (r : Region) → IsRegionOf nodes groups r → list_any (is_under r.0) entries ≡ true →
      (v : Valuation) × (truth r.1 v ≡ true)
  somewhere_by r of any =
      let one = chosen (is_under r.0) any in
      let v = one.case.realised.0 in
      let own = one.passed in
      let head : List ℕ = head_bytes one.name one.summary.extras own.range one.summary.prerelease in
      let holding : holds nodes one.summary.tree v ≡ true =
      ap (λ t. holds nodes t v) one.of.tree ∙ one.case.means v
      ∙ ap (λ m. same_marks m one.set.0) one.case.realised.1 ∙ itself one.set.0 in
      let test : Test = is_at nodes r.0 v in
      let at : test (head, one.summary.tree) ≡ true = (λ i. own.passes i && holding i) in (
        v,
        of.1 v ∙ ap (λ ts. any_holds nodes ts v) (trees r.0) ∙ any_under nodes r.0 v entries
            ∙ one.within test (passes one.name one.summary own.range test own.some own.is at),
      )

  somewhere_all : (rs : List Region) → AllByRecursion (IsRegionOf nodes groups) rs →
      ((q : List ℕ) → list_any (bytes_eq q) (map (λ r. r.0) rs) ≡ true → list_any (is_under q) entries ≡ true) →
      AllByRecursion (λ r. (v : Valuation) × (truth r.1 v ≡ true)) rs
  somewhere_all [] each up = tt
  somewhere_all (r ∷ rs) each up = (
    somewhere_by r each.0
        (up r.0 (or_left (bytes_eq r.0 r.0) (list_any (bytes_eq r.0) (map (λ s. s.0) rs)) (nat_list_eq_equiv.refl r.0))),
    somewhere_all rs each.1 (λ q h. up q (or_right (bytes_eq q r.0) (list_any (bytes_eq q) (map (λ s. s.0) rs)) h)),
  )

  pub is_key : IsKeyOf said key
  is_key = record {
    regions = regions;
    are = record {
      rising = written.rising;
      canonical = all_weaker (IsRegionOf nodes groups) (λ r. IsCanonical r.1) (λ r h. h.0) regions written.each;
      somewhere = somewhere_all regions written.each (λ q h. sym (written.all q ∙ heads q) ∙ h);
      required = required;
      all = told;
    };
    is = written.is;
  }
