-- The case of a set by the numbers of all lines.
use Rattle.std.proofs.Common.{◌≡◌, ◌∙◌, ◌&&◌, ◌||◌, Bool, true, false, not, List, [], ◌∷◌, map, refl}
use Rattle.pep508_tree.specs.Tree.{Tree}
use Rattle.pep440_specifier.specs.Matching.{SpecifierRecord}
use Rattle.pep440_specifier_list.specs.Lists.{any_prerelease}
use Rattle.pep508_cases.specs.Cases.{Marks}
use Rattle.pep508_cases.specs.Sets.{marked, marks_meet}
use Rattle.reqtable_answer.specs.Asks.{specifiers_of, names_prerelease}
use Rattle.reqtable_groups.specs.declared.given.Given.{Given}
use Rattle.reqtable_table.specs.Kept.{KeptCase, kept_source}
use Rattle.reqtable_table.specs.Casing.{given_front, is_naming, IsCaseBy, IsCaseOfGiven}
use Rattle.reqtable_table.proofs.Marking.{marked_map}

named_by : (b : Bool) (members : List SpecifierRecord) →
    (not b && any_prerelease members) ≡ any_prerelease (specifiers_of (kept_source b members))
named_by true members = refl
named_by false members = refl

-- a line of the set names one
any_naming : (set : Marks) (lines : List Given) →
    marks_meet set (map is_naming lines) ≡ names_prerelease (map given_front (marked set lines))
any_naming [] lines = refl
any_naming (true ∷ set) [] = refl
any_naming (false ∷ set) [] = refl
any_naming (true ∷ set) (line ∷ lines) =
    let here = named_by line.is_url line.specifiers in
    let rest = any_naming set lines in
    (λ i. here i || rest i)
any_naming (false ∷ set) (line ∷ lines) = any_naming set lines

pub of_given : (lines : List Given) (case : KeptCase) (set : Marks × Tree) →
    IsCaseBy (map (λ (line : Given). line.number) lines) (map is_naming lines) case set → IsCaseOfGiven lines case set
of_given lines case set by = record {
  set_is = by.set_is;
  numbers = by.numbers_are ∙ marked_map (λ (line : Given). line.number) set.0 lines;
  tree = by.tree;
  prerelease = by.prerelease ∙ any_naming set.0 lines;
}
