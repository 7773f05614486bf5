-- The cases of lines whose specifiers aren't counted yet.
use Rattle.std.specs.Prelude.{◌≡◌, ◌&&◌, ℕ, Bool, not, List, [], map}
use Rattle.pep508_tree.specs.Tree.{Tree}
use Rattle.pep508_requirement_text.specs.FrontReading.{Front}
use Rattle.pep440_specifier_list.specs.Lists.{any_prerelease}
use Rattle.pep508_cases.specs.Cases.{Marks}
use Rattle.reqtable_answer.specs.Asks.{names_prerelease}
use Rattle.pep508_cases.specs.Sets.{marked, marks_meet}
use Rattle.reqtable_groups.specs.declared.given.Given.{Given}
use Rattle.reqtable_table.specs.declared.table.Case.{Case}
use Rattle.reqtable_table.specs.Kept.{KeptCase, kept_source}

-- what a line requires, without its name
abbrev pub given_front : Given → Front
given_front line =
    record { name = []; extras = line.extras.items; source = kept_source line.is_url line.specifiers }

abbrev pub case_record : Case → KeptCase
case_record case = record {
  set = case.set;
  numbers = marked case.set case.numbers.value.items;
  tree = case.tree;
  prerelease = case.pre;
}

-- a specifier of the line names a pre-release or developmental release
abbrev pub is_naming : Given → Bool
is_naming line = not line.is_url && any_prerelease line.specifiers

-- the case of a set, with the set's tree, by the numbers of all lines and the set of those that name one
pub record IsCaseBy (numbers : List ℕ) (naming : Marks) (case : KeptCase) (set : Marks × Tree) : Type 0 where
  pub set_is : case.set ≡ set.0
  pub numbers_are : case.numbers ≡ marked set.0 numbers
  pub tree : case.tree ≡ set.1
  pub prerelease : case.prerelease ≡ marks_meet set.0 naming

-- the case of a set of lines, with the set's tree
pub record IsCaseOfGiven (lines : List Given) (case : KeptCase) (set : Marks × Tree) : Type 0 where
  pub set_is : case.set ≡ set.0
  pub numbers : case.numbers ≡ map (λ line. line.number) (marked set.0 lines)
  pub tree : case.tree ≡ set.1
  pub prerelease : case.prerelease ≡ names_prerelease (map given_front (marked set.0 lines))
