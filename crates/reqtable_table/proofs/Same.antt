-- What stays of packages of whose lines more was asked.
use Rattle.std.proofs.Common.{◌≡◌, ◌∙◌, ℕ, Bool, true, false, cond, List, [], ◌∷◌, ◌++◌, map, filter, refl}
use Rattle.std.proofs.Common.{sym, ap, subst}
use Rattle.std.specs.List.{list_any, AllZip, AllByRecursion}
use Rattle.std.specs.List.Sorted.{IsStrictlySortedBy}
use Rattle.std.specs.Ordering.{nat_cmp}
use Rattle.std.specs.Str.{bytes_eq}
use Rattle.pep440_specifier.specs.Building.{IsBuilt}
use Rattle.pep440_specifier.specs.Matching.{SpecifierRecord}
use Rattle.pep440_specifier_list.specs.Lists.{IsInOrder}
use Rattle.pep440_range.specs.Agreement.{IsSaid}
use Rattle.pep508_diagram.specs.Question.{Valuation}
use Rattle.pep508_tree.specs.Tree.{Tree}
use Rattle.pep508_tree.specs.Meaning.{NodeRecord, IsTree, holds}
use Rattle.pep508_marker_parser.specs.MarkerOutcome.{IsTreeOf}
use Rattle.pep508_cases.specs.Cases.{Marks, marks_of, AreCases}
use Rattle.reqtable_candidates.specs.declared.candidates.Candidate.{Candidate}
use Rattle.reqtable_answer.specs.Asks.{specifiers_of, is_candidate, names_prerelease}
use Rattle.reqtable_requirements.specs.Asks.{lines_of}
use Rattle.reqtable_requirements.specs.LineReading.{LineRecord}
use Rattle.pep508_cases.specs.Sets.{marked}
use Rattle.reqtable_table.specs.Answers.{SameLine, SamePackage, kept_marks}
use Rattle.reqtable_table.specs.Cases.{IsCaseOf, HasItsCases}
use Rattle.reqtable_search.specs.Told.{is_bound}
use Rattle.reqtable_table.specs.Kept.{KeptLine, KeptCase, KeptPackage, Keeps, KeepsAll, kept_front}
use Rattle.reqtable_table.specs.Kept.{kept_under, names_in}
use Rattle.reqtable_table.specs.Runs.{RunsRecord, AreRunsOf}
use Rattle.reqtable_table.specs.Standing.{HasItsFlags, IsOfTexts, HasItsLines, IsTable}
use Rattle.reqtable_table.proofs.AskedLines.{same_all, same_fronts, same_on}
use Rattle.reqtable_table.proofs.Marking.{marked_map}

pub same_package : (kept : KeptPackage) → SamePackage kept kept
same_package kept = record { name = refl; cases = refl; lines = same_all kept.lines }

pub all_same : (table : List KeptPackage) → AllZip SamePackage table table
all_same [] = tt
all_same (kept ∷ table) = (same_package kept, all_same table)

pub package_on : (a b c : KeptPackage) → SamePackage a b → SamePackage b c → SamePackage a c
package_on a b c s t = record {
  name = s.name ∙ t.name;
  cases = s.cases ∙ t.cases;
  lines = same_on a.lines b.lines c.lines s.lines t.lines;
}

pub packages_on : (a b c : List KeptPackage) → AllZip SamePackage a b → AllZip SamePackage b c → AllZip SamePackage a c
packages_on [] [] c s t = t
packages_on [] (y ∷ b) c s t = absurd s
packages_on (x ∷ a) [] c s t = absurd s
packages_on (x ∷ a) (y ∷ b) [] s t = absurd t
packages_on (x ∷ a) (y ∷ b) (z ∷ c) s t = (package_on x y z s.0 t.0, packages_on a b c s.1 t.1)

-- ---- lines

mapped_same : {X : Type 0} (f : KeptLine → X) → ((a b : KeptLine) → SameLine a b → f a ≡ f b) → (a b : List KeptLine) →
    AllZip SameLine a b → map f a ≡ map f b
mapped_same f at [] [] s = refl
mapped_same f at [] (y ∷ b) s = absurd s
mapped_same f at (x ∷ a) [] s = absurd s
mapped_same f at (x ∷ a) (y ∷ b) s =
    let here = at x y s.0 in
    let rest = mapped_same f at a b s.1 in
    λ i. here i ∷ rest i

pub numbers_same : (a b : List KeptLine) → AllZip SameLine a b → map (λ (l : KeptLine). l.number) a ≡ map (λ (l : KeptLine). l.number) b
numbers_same = mapped_same (λ l. l.number) (λ x y s. s.number)

markers_same : (a b : List KeptLine) → AllZip SameLine a b → map (λ (l : KeptLine). l.marker) a ≡ map (λ (l : KeptLine). l.marker) b
markers_same = mapped_same (λ l. l.marker) (λ x y s. s.marker)

pub marks_same : (nodes : List NodeRecord) (v : Valuation) (a b : List KeptLine) → AllZip SameLine a b →
    kept_marks nodes v a ≡ kept_marks nodes v b
marks_same nodes v = mapped_same (λ l. holds nodes l.marker v) (λ x y s. ap (λ t. holds nodes t v) s.marker)

all_alike : (P : KeptLine → Type 0) → ((a b : KeptLine) → SameLine a b → P b → P a) → (a b : List KeptLine) →
    AllZip SameLine a b → AllByRecursion P b → AllByRecursion P a
all_alike P at [] [] s h = tt
all_alike P at [] (y ∷ b) s h = absurd s
all_alike P at (x ∷ a) [] s h = absurd s
all_alike P at (x ∷ a) (y ∷ b) s h = (at x y s.0 h.0, all_alike P at a b s.1 h.1)

flags_at : (a b : KeptLine) → SameLine a b → HasItsFlags b → HasItsFlags a
flags_at a b s h = record {
  bounded = s.bounded ∙ h.bounded ∙ sym (ap (list_any (λ (m : SpecifierRecord). is_bound m.operator)) s.members);
  direct = λ e. s.members ∙ h.direct (sym s.url ∙ e);
}

read_at : (a b : KeptLine) → SameLine a b → IsOfTexts b → IsOfTexts a
read_at a b s h = subst (AllByRecursion (λ (m : SpecifierRecord). IsBuilt m × IsSaid m.version)) (sym s.members) h

tree_at : (nodes : List NodeRecord) (a b : KeptLine) → SameLine a b → IsTree nodes b.marker → IsTree nodes a.marker
tree_at nodes a b s h = subst (IsTree nodes) (sym s.marker) h

keeps_at : (nodes : List NodeRecord) (said : LineRecord) (a b : KeptLine) → SameLine a b → Keeps nodes b said → Keeps nodes a said
keeps_at nodes said a b s h = record {
  number = s.number ∙ h.number;
  extras = s.extras ∙ h.extras;
  marker = subst (λ t. IsTreeOf nodes t said.formula) (sym s.marker) h.marker;
  url = s.url ∙ h.url;
  bounded = s.bounded ∙ h.bounded ∙ sym (ap (list_any (λ (m : SpecifierRecord). is_bound m.operator)) s.members);
  specifiers = subst (IsInOrder (specifiers_of said.front.source)) (sym s.members) h.specifiers;
}

keeps_lines : (nodes : List NodeRecord) (a b : List KeptLine) (said : List LineRecord) → AllZip SameLine a b →
    AllZip (Keeps nodes) b said → AllZip (Keeps nodes) a said
keeps_lines nodes [] [] said s h = h
keeps_lines nodes [] (y ∷ b) said s h = absurd s
keeps_lines nodes (x ∷ a) [] said s h = absurd s
keeps_lines nodes (x ∷ a) (y ∷ b) [] s h = absurd h
keeps_lines nodes (x ∷ a) (y ∷ b) (l ∷ said) s h = (keeps_at nodes l x y s.0 h.0, keeps_lines nodes a b said s.1 h.1)

-- ---- packages

all_packages : (P : KeptPackage → Type 0) → ((a b : KeptPackage) → SamePackage a b → P b → P a) → (a b : List KeptPackage) →
    AllZip SamePackage a b → AllByRecursion P b → AllByRecursion P a
all_packages P at [] [] s h = tt
all_packages P at [] (y ∷ b) s h = absurd s
all_packages P at (x ∷ a) [] s h = absurd s
all_packages P at (x ∷ a) (y ∷ b) s h = (at x y s.0 h.0, all_packages P at a b s.1 h.1)

lines_at : (a b : KeptPackage) → SamePackage a b → HasItsLines b → HasItsLines a
lines_at a b s h = record {
  rising = subst (IsStrictlySortedBy nat_cmp) (sym (numbers_same a.lines b.lines s.lines)) h.rising;
  flags = all_alike HasItsFlags flags_at a.lines b.lines s.lines h.flags;
  read = all_alike IsOfTexts read_at a.lines b.lines s.lines h.read;
}

pub have_lines : (a b : List KeptPackage) → AllZip SamePackage a b → AllByRecursion HasItsLines b → AllByRecursion HasItsLines a
have_lines = all_packages HasItsLines lines_at

asks_same : (a b : List KeptLine) → AllZip SameLine a b → (set : Marks) → map kept_front (marked set b) ≡ map kept_front (marked set a)
asks_same a b s set =
    sym (marked_map kept_front set b) ∙ sym (ap (marked set) (same_fronts a b s)) ∙ marked_map kept_front set a

case_at : (a b : List KeptLine) → AllZip SameLine a b → (case : KeptCase) (set : Marks × Tree) → IsCaseOf b case set → IsCaseOf a case set
case_at a b s case set h = record {
  set_is = h.set_is;
  numbers =
      h.numbers ∙ sym (marked_map (λ (l : KeptLine). l.number) set.0 b)
      ∙ sym (ap (marked set.0) (numbers_same a b s)) ∙ marked_map (λ (l : KeptLine). l.number) set.0 a;
  tree = h.tree;
  prerelease = h.prerelease ∙ ap names_prerelease (asks_same a b s set.0);
}

each_case : (a b : List KeptLine) → AllZip SameLine a b → (cases : List KeptCase) (sets : List (Marks × Tree)) →
    AllZip (IsCaseOf b) cases sets → AllZip (IsCaseOf a) cases sets
each_case a b s [] [] h = tt
each_case a b s [] (set ∷ sets) h = absurd h
each_case a b s (case ∷ cases) [] h = absurd h
each_case a b s (case ∷ cases) (set ∷ sets) h = (case_at a b s case set h.0, each_case a b s cases sets h.1)

cases_at : (nodes : List NodeRecord) (a b : KeptPackage) → SamePackage a b → HasItsCases nodes b → HasItsCases nodes a
cases_at nodes a b s h = record {
  trees = all_alike (λ l. IsTree nodes l.marker) (tree_at nodes) a.lines b.lines s.lines h.trees;
  sets = h.sets;
  are = subst (λ ms. AreCases (marks_of nodes ms) nodes h.sets) (sym (markers_same a.lines b.lines s.lines)) h.are;
  each = subst (λ cases. AllZip (IsCaseOf a.lines) cases h.sets) (sym s.cases) (each_case a.lines b.lines s.lines b.cases h.sets h.each);
}

-- the cases are the same
pub has_cases : (nodes : List NodeRecord) (a b : List KeptPackage) → AllZip SamePackage a b → AllByRecursion (HasItsCases nodes) b →
    AllByRecursion (HasItsCases nodes) a
has_cases nodes = all_packages (HasItsCases nodes) (cases_at nodes)

names_same : (a b : List KeptPackage) → AllZip SamePackage a b → names_in a ≡ names_in b
names_same [] [] s = refl
names_same [] (y ∷ b) s = absurd s
names_same (x ∷ a) [] s = absurd s
names_same (x ∷ a) (y ∷ b) s =
    let here = s.0.name in
    let rest = names_same a b s.1 in
    λ i. here i ∷ rest i

joined : (a b c d : List KeptLine) → AllZip SameLine a b → AllZip SameLine c d → AllZip SameLine (a ++ c) (b ++ d)
joined [] [] c d s t = t
joined [] (y ∷ b) c d s t = absurd s
joined (x ∷ a) [] c d s t = absurd s
joined (x ∷ a) (y ∷ b) c d s t = (s.0, joined a b c d s.1 t)

same_if : (test : Bool) (a b : List KeptLine) → AllZip SameLine a b → AllZip SameLine (cond test a []) (cond test b [])
same_if true a b s = s
same_if false a b s = tt

under_same : (q : List ℕ) (a b : List KeptPackage) → AllZip SamePackage a b → AllZip SameLine (kept_under q a) (kept_under q b)
under_same q [] [] s = tt
under_same q [] (y ∷ b) s = absurd s
under_same q (x ∷ a) [] s = absurd s
under_same q (x ∷ a) (y ∷ b) s =
    joined (cond (bytes_eq q x.name) x.lines []) (cond (bytes_eq q y.name) y.lines []) (kept_under q a) (kept_under q b)
    (subst (λ n. AllZip SameLine (cond (bytes_eq q x.name) x.lines []) (cond (bytes_eq q n) y.lines [])) s.0.name
    (same_if (bytes_eq q x.name) x.lines y.lines s.0.lines))
    (under_same q a b s.1)

-- they keep the same lines
pub keeps : (nodes : List NodeRecord) (a b : List KeptPackage) (said : List LineRecord) → AllZip SamePackage a b →
    KeepsAll nodes b said → KeepsAll nodes a said
keeps nodes a b said s h = record {
  rising = subst (IsStrictlySortedBy _) (sym (names_same a b s)) h.rising;
  named = λ q. ap (list_any (bytes_eq q)) (names_same a b s) ∙ h.named q;
  each = λ q. keeps_lines nodes (kept_under q a) (kept_under q b) (lines_of q said) (under_same q a b s) (h.each q);
}

runs_by : (placed : List (ℕ × Candidate)) (a b : List KeptPackage) (runs : List (List (ℕ × Candidate))) → AllZip SamePackage a b →
    AllZip (λ kept run. run ≡ filter (is_candidate kept.name) placed) b runs →
    AllZip (λ kept run. run ≡ filter (is_candidate kept.name) placed) a runs
runs_by placed [] [] runs s h = h
runs_by placed [] (y ∷ b) runs s h = absurd s
runs_by placed (x ∷ a) [] runs s h = absurd s
runs_by placed (x ∷ a) (y ∷ b) [] s h = absurd h
runs_by placed (x ∷ a) (y ∷ b) (run ∷ runs) s h =
    (h.0 ∙ ap (λ n. filter (is_candidate n) placed) (sym s.0.name), runs_by placed a b runs s.1 h.1)

-- and so are the candidates of each
pub runs_on : (all : RunsRecord) (a b : List KeptPackage) → AllZip SamePackage a b → AreRunsOf b all → AreRunsOf a all
runs_on all a b s h = runs_by all.placed a b all.runs s h

pub table_same : (a b : List KeptPackage) → AllZip SamePackage a b → IsTable b → IsTable a
table_same a b s h = record {
  rising = subst (IsStrictlySortedBy _) (sym (names_same a b s)) h.rising;
  lines = have_lines a b s h.lines;
}
