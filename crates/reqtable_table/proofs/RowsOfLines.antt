-- Rows for the packages of a table are the answer to what applies of the text.
use Rattle.std.proofs.Common.{◌≡◌, ◌∙◌, ℕ, Bool, true, false, cond, not, ◌&&◌, ◌||◌, List, [], ◌∷◌, ◌++◌, map}
use Rattle.std.proofs.Common.{filter, option_map, refl, sym, ap, subst, append-nil, true≢false, Less}
use Rattle.std.proofs.lemmas.Cmp.{nat_list_eq_equiv}
use Rattle.std.proofs.lemmas.List.Folds.{list_any-append}
use Rattle.std.specs.List.{list_any, list_all, AllZip, AllByRecursion}
use Rattle.std.specs.List.Sorted.{IsStrictlySortedBy}
use Rattle.std.specs.Str.{bytes_eq}
use Rattle.pep440_version.specs.Changes.{is_prerelease}
use Rattle.pep440_specifier.specs.Matching as matching
use Rattle.pep440_specifier_list.specs.Lists.{IsInOrder}
use Rattle.pep508_diagram.specs.Question.{Valuation}
use Rattle.pep508_tree.specs.Meaning.{NodeRecord, holds}
use Rattle.pep508_requirement_text.specs.FrontReading.{Source, Front}
use Rattle.pep508_requirement_text.specs.FrontReading.Source.{Any, Specifiers, Url}
use Rattle.pep508_cases.specs.Cases.{Marks}
use Rattle.reqtable_candidates.specs.declared.candidates.Candidate.{Candidate}
use Rattle.reqtable_answer.specs.Admission.{Admits}
use Rattle.reqtable_answer.specs.Asks.{specifiers_of, is_url, is_of, has_extra, has_url, ask_takes}
use Rattle.reqtable_answer.specs.Asks.{has_prerelease}
use Rattle.reqtable_answer.specs.Answer.{RowRecord, IsRowOf, IsRow, IsAnswer, outcome_of, chosen}
use Rattle.reqtable_answer.specs.Answer.{first_greatest, by_version}
use Rattle.reqtable_answer.specs.declared.answer.Outcome.TheVariants.{Direct}
use Rattle.reqtable_answer.proofs.Tests.{any_kept, any_mapped, any_zip, all_any}
use Rattle.reqtable_answer.proofs.InOrder.{same_all, same_any}
use Rattle.reqtable_answer.proofs.Alike.{SayTheSame}
use Rattle.reqtable_requirements.specs.LineReading.{LineRecord}
use Rattle.reqtable_requirements.specs.Asks.{applies, asks_of, lines_of}
use Rattle.pep508_cases.specs.Sets.{marked}
use Rattle.reqtable_table.specs.Kept.{KeptLine, KeptPackage, Keeps, KeepsAll, names_in, kept_under}
use Rattle.reqtable_table.specs.Kept.{kept_source, kept_front}
use Rattle.reqtable_table.specs.Answers.{kept_marks, kept_asked, is_asked, own_candidates, IsRowFor}
use Rattle.reqtable_table.specs.Answers.{AreRowsFor}
use Rattle.reqtable_table.proofs.Rising.{name_cmp, below_other, AllBehind}

-- ---- one line's ask

-- the same of its versions
pub record SourcesAlike (source other : Source) : Type 0 where
  pub url : is_url source ≡ is_url other
  pub all : (test : matching.SpecifierRecord → Bool) → list_all test (specifiers_of source) ≡ list_all test (specifiers_of other)
  pub any : (test : matching.SpecifierRecord → Bool) → list_any test (specifiers_of source) ≡ list_any test (specifiers_of other)

source_kept : (url : Bool) (members : List matching.SpecifierRecord) (source : Source) → url ≡ is_url source →
    IsInOrder (specifiers_of source) members → SourcesAlike (kept_source url members) source
source_kept true members Any e order = absurd (true≢false e)
source_kept true members (Specifiers given) e order = absurd (true≢false e)
source_kept true members (Url text) e order = record { url = refl; all = λ test. refl; any = λ test. refl }
source_kept false members Any e order = record {
  url = refl;
  all = λ test. same_all test [] members order;
  any = λ test. same_any test [] members order;
}
source_kept false members (Specifiers given) e order = record {
  url = refl;
  all = λ test. same_all test given members order;
  any = λ test. same_any test given members order;
}
source_kept false members (Url text) e order = absurd (true≢false (sym e))

-- the same, its package apart
pub record AsksAlike (ask other : Front) : Type 0 where
  pub extras : ask.extras ≡ other.extras
  pub source : SourcesAlike ask.source other.source

pub front_kept : (nodes : List NodeRecord) (kept : KeptLine) (said : LineRecord) → Keeps nodes kept said →
    AsksAlike (kept_front kept) said.front
front_kept nodes kept said h = record {
  extras = h.extras;
  source = source_kept kept.url kept.specifiers.members said.front.source h.url h.specifiers;
}

-- ---- the asks of the lines that apply

one_more : (a b : Bool) → a ≡ b → (kept : KeptLine) (said : LineRecord) (marks : Marks) (lines : List KeptLine)
    (others : List LineRecord) → AsksAlike (kept_front kept) said.front →
    AllZip AsksAlike (map kept_front (marked marks lines)) (map (λ l. l.front) others) →
    AllZip AsksAlike (map kept_front (marked (a ∷ marks) (kept ∷ lines))) (map (λ l. l.front) (cond b (said ∷ others) others))
one_more true true e kept said marks lines others h rest = (h, rest)
one_more true false e kept said marks lines others h rest = absurd (true≢false e)
one_more false true e kept said marks lines others h rest = absurd (true≢false (sym e))
one_more false false e kept said marks lines others h rest = rest

asks_kept : (nodes : List NodeRecord) (v : Valuation) (lines : List KeptLine) (said : List LineRecord) →
    AllZip (Keeps nodes) lines said → AllZip AsksAlike (kept_asked nodes v lines) (asks_of v said)
asks_kept nodes v [] [] h = tt
asks_kept nodes v [] (s ∷ said) h = absurd h
asks_kept nodes v (line ∷ lines) [] h = absurd h
asks_kept nodes v (line ∷ lines) (s ∷ said) h =
    one_more (holds nodes line.marker v) (applies v s) (h.0.marker.truth v) line s (kept_marks nodes v lines) lines
    (filter (applies v) said) (front_kept nodes line s h.0) (asks_kept nodes v lines said h.1)

all_zip : (test : Front → Bool) → ((ask other : Front) → AsksAlike ask other → test ask ≡ test other) → (asks others : List Front) →
    AllZip AsksAlike asks others → list_all test asks ≡ list_all test others
all_zip test same asks others h =
    all_any test asks
    ∙ ap not (any_zip AsksAlike (λ ask. not (test ask)) (λ ask. not (test ask)) (λ ask other r. ap not (same ask other r)) asks others h)
    ∙ sym (all_any test others)

pub say_the_same : (asks others : List Front) → AllZip AsksAlike asks others → SayTheSame asks others
say_the_same asks others h = record {
  extras = λ extra. any_zip AsksAlike (has_extra extra) (has_extra extra) (λ ask other r. ap (list_any (bytes_eq extra)) r.extras) asks others h;
  urls = any_zip AsksAlike has_url has_url (λ ask other r. r.source.url) asks others h;
  takes = λ version. all_zip (ask_takes version) (λ ask other r. r.source.all (matching.takes version)) asks others h;
  prereleases = any_zip AsksAlike has_prerelease has_prerelease (λ ask other r. r.source.any (λ s. is_prerelease s.version)) asks others h;
}

row_alike : (admits : Admits) (asks others : List Front) (own : List (ℕ × Candidate)) (row : RowRecord) → SayTheSame asks others →
    IsRowOf admits asks own row → IsRowOf admits others own row
row_alike admits asks others own row same is =
    let outcome : outcome_of admits asks own ≡ outcome_of admits others own =
    (λ i. cond (same.urls i) Direct (chosen (option_map (λ c. c.0)
    (first_greatest by_version (filter (λ c. same.takes c.1.version i && admits c.1.version (same.prereleases i)) own))))) in
    record {
      extras_rise = is.extras_rise;
      extras_are = λ extra. is.extras_are extra ∙ same.extras extra;
      outcome = is.outcome ∙ outcome;
    }

-- ---- the asks of a package are those of its lines

its_by : (v : Valuation) (name : List ℕ) (line : LineRecord) (lines its : List LineRecord) →
    filter (is_of name) (map (λ l. l.front) lines) ≡ map (λ l. l.front) (filter (applies v) its) →
    (a b : Bool) → is_of name line.front ≡ a → applies v line ≡ b →
    filter (is_of name) (map (λ l. l.front) (cond b (line ∷ lines) lines))
    ≡ map (λ l. l.front) (filter (applies v) (cond a (line ∷ its) its))
its_by v name line lines its h true true e g =
    let X = filter (is_of name) (map (λ l. l.front) lines) in
    let Y = filter (applies v) its in
    ap (λ t. cond t (line.front ∷ X) X) e ∙ ap (λ l. line.front ∷ l) h ∙ sym (ap (λ t. map (λ l. l.front) (cond t (line ∷ Y) Y)) g)
its_by v name line lines its h false true e g =
    let X = filter (is_of name) (map (λ l. l.front) lines) in
    ap (λ t. cond t (line.front ∷ X) X) e ∙ h
its_by v name line lines its h true false e g =
    let Y = filter (applies v) its in
    h ∙ sym (ap (λ t. map (λ l. l.front) (cond t (line ∷ Y) Y)) g)
its_by v name line lines its h false false e g = h

its_asks : (v : Valuation) (name : List ℕ) (lines : List LineRecord) →
    filter (is_of name) (asks_of v lines) ≡ asks_of v (lines_of name lines)
its_asks v name [] = refl
its_asks v name (line ∷ lines) =
    its_by v name line (filter (applies v) lines) (lines_of name lines) (its_asks v name lines) (is_of name line.front)
    (applies v line) refl refl

-- ---- a package of the table has the lines that are kept under its name

none_behind : (name : List ℕ) (table : List KeptPackage) → AllBehind name (names_in table) → kept_under name table ≡ []
none_behind name [] h = refl
none_behind name (p ∷ table) h =
    ap (λ b. cond b p.lines [] ++ kept_under name table) (below_other name p.name h.0) ∙ none_behind name table h.1

behind_one : (p : KeptPackage) (table some : List KeptPackage) → AllBehind p.name (names_in some) →
    AllByRecursion (λ q. kept_under q.name table ≡ q.lines) some →
    AllByRecursion (λ q. kept_under q.name (p ∷ table) ≡ q.lines) some
behind_one p table [] h own = tt
behind_one p table (q ∷ some) h own = (
  ap (λ b. cond b p.lines [] ++ kept_under q.name table) (nat_list_eq_equiv.symm q.name p.name ∙ below_other p.name q.name h.0)
      ∙ own.0,
  behind_one p table some h.1 own.1,
)

pub own_lines : (table : List KeptPackage) → IsStrictlySortedBy name_cmp (names_in table) →
    AllByRecursion (λ p. kept_under p.name table ≡ p.lines) table
unfolding IsStrictlySortedBy
own_lines [] h = tt
own_lines (p ∷ table) h = (
  ap (λ b. cond b p.lines [] ++ kept_under p.name table) (nat_list_eq_equiv.refl p.name)
      ∙ ap (λ l. p.lines ++ l) (none_behind p.name table h.0) ∙ append-nil p.lines,
  behind_one p table table h.0 (own_lines table h.1),
)

abbrev pub IsKept : List NodeRecord → List LineRecord → KeptPackage → Type 0
IsKept nodes said p = AllZip (Keeps nodes) p.lines (lines_of p.name said)

pub each_kept : (nodes : List NodeRecord) (said : List LineRecord) (table some : List KeptPackage) →
    ((name : List ℕ) → AllZip (Keeps nodes) (kept_under name table) (lines_of name said)) →
    AllByRecursion (λ p. kept_under p.name table ≡ p.lines) some → AllByRecursion (IsKept nodes said) some
each_kept nodes said table [] each own = tt
each_kept nodes said table (p ∷ some) each own = (
  subst (λ lines. AllZip (Keeps nodes) lines (lines_of p.name said)) own.0 (each p.name),
  each_kept nodes said table some each own.1,
)

-- ---- some packages of a table

kept_by : (nodes : List NodeRecord) (said : List LineRecord) (b : Bool) (p : KeptPackage) (some : List KeptPackage) →
    IsKept nodes said p → AllByRecursion (IsKept nodes said) some → AllByRecursion (IsKept nodes said) (cond b (p ∷ some) some)
kept_by nodes said true p some h rest = (h, rest)
kept_by nodes said false p some h rest = rest

some_kept : (nodes : List NodeRecord) (said : List LineRecord) (test : KeptPackage → Bool) (table : List KeptPackage) →
    AllByRecursion (IsKept nodes said) table → AllByRecursion (IsKept nodes said) (filter test table)
some_kept nodes said test [] h = tt
some_kept nodes said test (p ∷ table) h =
    kept_by nodes said (test p) p (filter test table) h.0 (some_kept nodes said test table h.1)

behind_by : (name : List ℕ) (b : Bool) (p : KeptPackage) (some : List KeptPackage) → name_cmp name p.name ≡ Less →
    AllBehind name (names_in some) → AllBehind name (names_in (cond b (p ∷ some) some))
behind_by name true p some h rest = (h, rest)
behind_by name false p some h rest = rest

some_behind : (name : List ℕ) (test : KeptPackage → Bool) (table : List KeptPackage) → AllBehind name (names_in table) →
    AllBehind name (names_in (filter test table))
some_behind name test [] h = tt
some_behind name test (p ∷ table) h =
    behind_by name (test p) p (filter test table) h.0 (some_behind name test table h.1)

rising_by : (b : Bool) (p : KeptPackage) (some : List KeptPackage) → AllBehind p.name (names_in some) →
    IsStrictlySortedBy name_cmp (names_in some) → IsStrictlySortedBy name_cmp (names_in (cond b (p ∷ some) some))
unfolding IsStrictlySortedBy
rising_by true p some h rest = (h, rest)
rising_by false p some h rest = rest

some_rising : (test : KeptPackage → Bool) (table : List KeptPackage) → IsStrictlySortedBy name_cmp (names_in table) →
    IsStrictlySortedBy name_cmp (names_in (filter test table))
unfolding IsStrictlySortedBy
some_rising test [] h = tt
some_rising test (p ∷ table) h =
    rising_by (test p) p (filter test table) (some_behind p.name test table h.0) (some_rising test table h.1)

-- ---- which packages are asked for

any_if : (b : Bool) (test : KeptLine → Bool) (lines : List KeptLine) → list_any test (cond b lines []) ≡ (b && list_any test lines)
any_if true test lines = refl
any_if false test lines = refl

any_under : (test : KeptLine → Bool) (name : List ℕ) (table : List KeptPackage) →
    list_any test (kept_under name table) ≡ list_any (λ p. bytes_eq name p.name && list_any test p.lines) table
any_under test name [] = refl
any_under test name (p ∷ table) =
    let here = any_if (bytes_eq name p.name) test p.lines in
    let rest = any_under test name table in
    list_any-append test (cond (bytes_eq name p.name) p.lines []) (kept_under name table) ∙ (λ i. here i || rest i)

turned : (a b : Bool) → (a && b) ≡ (b && a)
turned true true = refl
turned true false = refl
turned false true = refl
turned false false = refl

names_asked : (nodes : List NodeRecord) (v : Valuation) (table : List KeptPackage) (said : List LineRecord) (name : List ℕ) →
    AllZip (Keeps nodes) (kept_under name table) (lines_of name said) →
    list_any (bytes_eq name) (names_in (filter (is_asked nodes v) table)) ≡ list_any (is_of name) (asks_of v said)
names_asked nodes v table said name h =
    let at : KeptPackage → Bool = λ p. bytes_eq name p.name in
    let its : LineRecord → Bool = λ l. is_of name l.front in
    let stands : KeptLine → Bool = λ line. holds nodes line.marker v in
    any_mapped (bytes_eq name) (λ p. p.name) (filter (is_asked nodes v) table)
    ∙ any_kept at (is_asked nodes v) table
    ∙ (λ i. list_any (λ p. turned (is_asked nodes v p) (at p) i) table)
    ∙ sym (any_under stands name table)
    ∙ any_zip (Keeps nodes) stands (applies v) (λ line s keeps. keeps.marker.truth v) (kept_under name table) (lines_of name said) h
    ∙ any_kept (applies v) its said
    ∙ (λ i. list_any (λ l. turned (its l) (applies v l) i) said)
    ∙ sym (any_kept its (applies v) said)
    ∙ sym (any_mapped (is_of name) (λ l. l.front) (filter (applies v) said))

-- ---- rows

module _ (admits : Admits) (nodes : List NodeRecord) (v : Valuation) (candidates : List Candidate) where
  row_names : (table : List KeptPackage) (rows : List RowRecord) → AllZip (IsRowFor admits nodes v candidates) table rows →
      map (λ row. row.name) rows ≡ names_in table
  row_names [] [] are = refl
  row_names [] (row ∷ rows) are = absurd are
  row_names (p ∷ table) [] are = absurd are
  row_names (p ∷ table) (row ∷ rows) are =
      let first = are.0.named in
      let rest = row_names table rows are.1 in
      (λ i. first i ∷ rest i)

  module _ (said : List LineRecord) where
    one_row : (p : KeptPackage) (row : RowRecord) → IsKept nodes said p → IsRowFor admits nodes v candidates p row →
        IsRow admits (asks_of v said) candidates row
    one_row p row kept is =
        let own = own_candidates candidates p.name in
        let its = lines_of p.name said in
        let same = say_the_same (kept_asked nodes v p.lines) (asks_of v its) (asks_kept nodes v p.lines its kept) in
        let here : IsRowOf admits (filter (is_of p.name) (asks_of v said)) own row =
        subst (λ asks. IsRowOf admits asks own row) (sym (its_asks v p.name said))
        (row_alike admits (kept_asked nodes v p.lines) (asks_of v its) own row same is.its) in
        subst (λ name. IsRowOf admits (filter (is_of name) (asks_of v said)) (own_candidates candidates name) row) (sym is.named) here

    each_row : (table : List KeptPackage) (rows : List RowRecord) → AllByRecursion (IsKept nodes said) table →
        AllZip (IsRowFor admits nodes v candidates) table rows → AllByRecursion (IsRow admits (asks_of v said) candidates) rows
    each_row [] [] kept are = tt
    each_row [] (row ∷ rows) kept are = absurd are
    each_row (p ∷ table) [] kept are = absurd are
    each_row (p ∷ table) (row ∷ rows) kept are = (one_row p row kept.0 are.0, each_row table rows kept.1 are.1)

-- rows for the packages of a table are the answer to what applies of the text
pub rows_are_the_answer : (nodes : List NodeRecord) (v : Valuation) (table : List KeptPackage) (said : List LineRecord) →
    KeepsAll nodes table said → (admits : Admits) (candidates : List Candidate) (rows : List RowRecord) →
    AreRowsFor admits nodes v candidates table rows → IsAnswer admits (asks_of v said) candidates rows
rows_are_the_answer nodes v table said keeps admits candidates rows are =
    let some = filter (is_asked nodes v) table in
    let names = row_names admits nodes v candidates some rows are in
    let kept = each_kept nodes said table table keeps.each (own_lines table keeps.rising) in
    record {
      rising = subst (IsStrictlySortedBy name_cmp) (sym names) (some_rising (is_asked nodes v) table keeps.rising);
      asked = λ name. ap (list_any (bytes_eq name)) names ∙ names_asked nodes v table said name (keeps.each name);
      each_row = each_row admits nodes v candidates said some rows (some_kept nodes said (is_asked nodes v) table kept) are;
    }
