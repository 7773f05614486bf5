-- The package of a group.
use Rattle.std.proofs.Common.{◌≡◌, ◌∙◌, suc, List, [], ◌∷◌, ◌++◌, map, length, refl, sym, ap, subst}
use Rattle.std.specs.List.{AllZip, AllByRecursion}
use Rattle.pep508_diagram.specs.Question.{Valuation}
use Rattle.pep508_tree.specs.Tree.{Tree}
use Rattle.pep508_tree.specs.Meaning.{NodeRecord, IsTree, Extends}
use Rattle.pep508_tree.proofs.Conjoining.{tree_kept}
use Rattle.pep508_tree.proofs.Diagrams.{holds_kept}
use Rattle.pep508_cases.proofs.Keeping.{cases_kept as cases_on}
use Rattle.pep508_cases.specs.Cases.{Marks, marks_of, AreCases}
use Rattle.reqtable_answer.specs.Asks.{names_prerelease}
use Rattle.pep508_cases.specs.Sets.{marked}
use Rattle.reqtable_groups.specs.declared.given.Given.{Given}
use Rattle.reqtable_table.specs.Kept.{KeptLine, KeptCase, KeptPackage, kept_front}
use Rattle.reqtable_table.specs.Cases.{IsCaseOf, HasItsCases}
use Rattle.reqtable_table.specs.Casing.{given_front, IsCaseOfGiven}
use Rattle.reqtable_table.specs.KeptLines.{kept_by}
use Rattle.reqtable_table.proofs.Marking.{marked_map}

-- ---- nodes are added

marks_same : (old new : List NodeRecord) (trees : List Tree) → Extends old new → AllByRecursion (IsTree old) trees → (v : Valuation) →
    marks_of old trees v ≡ marks_of new trees v
marks_same old new [] keeps made v = refl
marks_same old new (tree ∷ trees) keeps made v =
    let first = holds_kept old new keeps tree made.0 v in
    let rest = marks_same old new trees keeps made.1 v in
    (λ i. sym first i ∷ rest i)

-- trees hold as before
pub marks_kept : (old new : List NodeRecord) (trees : List Tree) → Extends old new → AllByRecursion (IsTree old) trees →
    marks_of old trees ≡ marks_of new trees
marks_kept old new trees keeps made = λ i v. marks_same old new trees keeps made v i

-- ---- lines

pub given_trees : (nodes : List NodeRecord) (lines : List Given) → AllByRecursion (λ line. IsTree nodes line.marker) lines →
    AllByRecursion (IsTree nodes) (map (λ (line : Given). line.marker) lines)
given_trees nodes [] h = tt
given_trees nodes (line ∷ lines) h = (h.0, given_trees nodes lines h.1)

kept_trees : (nodes : List NodeRecord) (lines : List KeptLine) → AllByRecursion (λ line. IsTree nodes line.marker) lines →
    AllByRecursion (IsTree nodes) (map (λ (line : KeptLine). line.marker) lines)
kept_trees nodes [] h = tt
kept_trees nodes (line ∷ lines) h = (h.0, kept_trees nodes lines h.1)

pub kept_markers : (lines : List Given) →
    map (λ (line : KeptLine). line.marker) (map kept_by lines) ≡ map (λ (line : Given). line.marker) lines
kept_markers [] = refl
kept_markers (line ∷ lines) = ap (λ l. line.marker ∷ l) (kept_markers lines)

kept_numbers : (lines : List Given) →
    map (λ (line : KeptLine). line.number) (map kept_by lines) ≡ map (λ (line : Given). line.number) lines
kept_numbers [] = refl
kept_numbers (line ∷ lines) = ap (λ l. line.number ∷ l) (kept_numbers lines)

kept_fronts : (lines : List Given) → map kept_front (map kept_by lines) ≡ map given_front lines
kept_fronts [] = refl
kept_fronts (line ∷ lines) = ap (λ l. given_front line ∷ l) (kept_fronts lines)

by_lines : (old new : List NodeRecord) (lines : List Given) → Extends old new → AllByRecursion (λ line. IsTree old line.marker) lines →
    AllByRecursion (λ line. IsTree new line.marker) (map kept_by lines)
by_lines old new [] keeps h = tt
by_lines old new (line ∷ lines) keeps h = (tree_kept old new keeps line.marker h.0, by_lines old new lines keeps h.1)

-- ---- cases

asks_kept : (lines : List Given) (set : Marks) → map kept_front (marked set (map kept_by lines)) ≡ map given_front (marked set lines)
asks_kept lines set = ap (map kept_front) (marked_map kept_by set lines) ∙ kept_fronts (marked set lines)

one_kept : (lines : List Given) (case : KeptCase) (set : Marks × Tree) → IsCaseOfGiven lines case set →
    IsCaseOf (map kept_by lines) case set
one_kept lines case set is = record {
  set_is = is.set_is;
  numbers = is.numbers ∙ sym (ap (map (λ (line : KeptLine). line.number)) (marked_map kept_by set.0 lines)
      ∙ kept_numbers (marked set.0 lines));
  tree = is.tree;
  prerelease = is.prerelease ∙ sym (ap names_prerelease (asks_kept lines set.0));
}

cases_kept : (lines : List Given) (cases : List KeptCase) (sets : List (Marks × Tree)) → AllZip (IsCaseOfGiven lines) cases sets →
    AllZip (IsCaseOf (map kept_by lines)) cases sets
cases_kept lines [] [] h = tt
cases_kept lines [] (set ∷ sets) h = absurd h
cases_kept lines (case ∷ cases) [] h = absurd h
cases_kept lines (case ∷ cases) (set ∷ sets) h = (one_kept lines case set h.0, cases_kept lines cases sets h.1)

pub as_long : {A B : Type 0} (R : A → B → Type 0) (xs : List A) (ys : List B) → AllZip R xs ys → length xs ≡ length ys
as_long R [] [] h = refl
as_long R [] (y ∷ ys) h = absurd h
as_long R (x ∷ xs) [] h = absurd h
as_long R (x ∷ xs) (y ∷ ys) h = ap (λ n. suc n) (as_long R xs ys h.1)

-- the cases of the kept lines
pub has_its_cases : (old new : List NodeRecord) (lines : List Given) (kept : KeptPackage) (sets : List (Marks × Tree)) →
    Extends old new → AllByRecursion (λ line. IsTree old line.marker) lines → kept.lines ≡ map kept_by lines →
    AreCases (marks_of old (map (λ (line : Given). line.marker) lines)) new sets →
    AllZip (IsCaseOfGiven lines) kept.cases sets → HasItsCases new kept
has_its_cases old new lines kept sets keeps made is cases each =
    let trees = map (λ (line : Given). line.marker) lines in
    let same : marks_of old trees ≡ marks_of new (map (λ (line : KeptLine). line.marker) kept.lines) =
    marks_kept old new trees keeps (given_trees old lines made)
    ∙ ap (marks_of new) (sym (ap (map (λ (line : KeptLine). line.marker)) is ∙ kept_markers lines)) in
    record {
      trees = subst (λ (l : List KeptLine). AllByRecursion (λ line. IsTree new line.marker) l) (sym is) (by_lines old new lines keeps made);
      sets = sets;
      are = subst (λ marking. AreCases marking new sets) same cases;
      each = subst (λ (l : List KeptLine). AllZip (IsCaseOf l) kept.cases sets) (sym is) (cases_kept lines kept.cases sets each);
    }

-- ---- nodes are added to those of a package

lines_on : (old new : List NodeRecord) (lines : List KeptLine) → Extends old new → AllByRecursion (λ line. IsTree old line.marker) lines →
    AllByRecursion (λ line. IsTree new line.marker) lines
lines_on old new [] keeps h = tt
lines_on old new (line ∷ lines) keeps h = (tree_kept old new keeps line.marker h.0, lines_on old new lines keeps h.1)

pub has_kept : (old new : List NodeRecord) (kept : KeptPackage) → Extends old new → HasItsCases old kept → HasItsCases new kept
has_kept old new kept keeps has =
    let markers = map (λ (line : KeptLine). line.marker) kept.lines in
    record {
      trees = lines_on old new kept.lines keeps has.trees;
      sets = has.sets;
      are =
          subst (λ marking. AreCases marking new has.sets) (marks_kept old new markers keeps (kept_trees old kept.lines has.trees))
          (cases_on (marks_of old markers) old new has.sets keeps has.are);
      each = has.each;
    }

-- ---- one more of two lists

push_zip : {A B : Type 0} (R : A → B → Type 0) (xs : List A) (ys : List B) (x : A) (y : B) → AllZip R xs ys → R x y →
    AllZip R (xs ++ x ∷ []) (ys ++ y ∷ [])
push_zip R [] [] x y h r = (r, tt)
push_zip R [] (b ∷ ys) x y h r = absurd h
push_zip R (a ∷ xs) [] x y h r = absurd h
push_zip R (a ∷ xs) (b ∷ ys) x y h r = (h.0, push_zip R xs ys x y h.1 r)

pub zip_pushed : {A B : Type 0} (R : A → B → Type 0) (xs more : List A) (ys longer : List B) (x : A) (y : B) →
    more ≡ xs ++ x ∷ [] → longer ≡ ys ++ y ∷ [] → AllZip R xs ys → R x y → AllZip R more longer
zip_pushed R xs more ys longer x y e f h r =
    subst (λ l. AllZip R l longer) (sym e) (subst (λ l. AllZip R (xs ++ x ∷ []) l) (sym f) (push_zip R xs ys x y h r))
