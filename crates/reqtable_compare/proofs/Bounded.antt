-- What a bound on the cases of all packages adds to comparing two lists.
use Rattle.std.proofs.Common.{ℕ, List, Option, Some, None, Result, Ok, Err, refl}
use Rattle.pep508_tree.specs.Tree.{Tree}
use Rattle.pep508_tree.specs.Meaning.{NodeRecord}
use Rattle.reqtable_cases.specs.Requires.{IsFirstDifference}
use Rattle.reqtable_requirements.specs.LineReading.{LineRecord}
use Rattle.reqtable_table.specs.Building.{BuildsBy}
use Rattle.reqtable_table.specs.Kept.{KeptPackage}
use Rattle.reqtable_table.specs.declared.table.TableError.TheVariants as refused
use Rattle.reqtable_compare.specs.declared.sides.Relation.{Relation}
use Rattle.reqtable_compare.specs.declared.sides.Relation.TheVariants as relations
use Rattle.reqtable_compare.specs.declared.sides.Same.{Same}
use Rattle.reqtable_compare.specs.declared.sides.Same.TheVariants.{Yes, No}
use Rattle.reqtable_compare.specs.declared.sides.SameError.{SameError}
use Rattle.reqtable_compare.specs.declared.sides.SameError.TheVariants as errors
use Rattle.reqtable_compare.specs.declared.sides.Side.{Side}
use Rattle.reqtable_compare.specs.Compared.{Compares, ComparesBy, ComparesWithin, TablesSide}
use Rattle.reqtable_compare.specs.Related.{Relates, RelatesBy}
use Rattle.reqtable_compare.specs.Relations.{IsFirstUnrelated}

pub by_bounds : (limit : ℕ) (in_all : Option ℕ) (nodes : List NodeRecord) (left right : List LineRecord)
    (result : Result Same SameError) → Compares limit nodes left right result →
    ComparesBy limit in_all nodes left right result
by_bounds limit None nodes left right result h = h
by_bounds limit (Some in_all) nodes left right (Ok same) h = h
by_bounds limit (Some in_all) nodes left right (Err (errors.Line side number cause)) h = h
by_bounds limit (Some in_all) nodes left right (Err (errors.TooManyCases side name)) h = h
by_bounds limit (Some in_all) nodes left right (Err (errors.TooManyCasesInAll side)) h = absurd h
by_bounds limit (Some in_all) nodes left right (Err errors.Memory) h = tt

pub related_by : (relation : Relation) (limit : ℕ) (in_all : Option ℕ) (nodes : List NodeRecord)
    (left right : List LineRecord) (result : Result Same SameError) → Relates relation limit nodes left right result →
    RelatesBy relation limit in_all nodes left right result
related_by relation limit in_all nodes left right (Ok same) h = h
related_by relation limit in_all nodes left right (Err error) h = by_bounds limit in_all nodes left right (Err error) h

-- ---- where the relation is that both require the same

differs_first : {left right : List LineRecord} {nodes : List NodeRecord} {name : List ℕ} {tree : Tree} →
    IsFirstUnrelated relations.Alike left right nodes name tree → IsFirstDifference left right nodes name tree
differs_first h = record {
  pair = h.pair;
  made = h.made;
  somewhere = h.somewhere;
  means = h.means;
  differ = h.differ;
  first = h.first;
  before = h.before;
}

module _ (limit : ℕ) (nodes : List NodeRecord) (left right : List LineRecord) where
  pub same_compares : (result : Result Same SameError) → RelatesBy relations.Alike limit None nodes left right result →
      Compares limit nodes left right result
  same_compares (Ok Yes) h = h
  same_compares (Ok (No name tree)) h = (h.0, differs_first h.1)
  same_compares (Err error) h = h

  pub same_compares_within : (in_all : ℕ) (result : Result Same SameError) →
      RelatesBy relations.Alike limit (Some in_all) nodes left right result →
      ComparesWithin limit in_all nodes left right result
  same_compares_within in_all (Ok Yes) h = h
  same_compares_within in_all (Ok (No name tree)) h = (h.0, differs_first h.1)
  same_compares_within in_all (Err error) h = h

module _ (side : Side) (limit : ℕ) (nodes : List NodeRecord) (said : List LineRecord) where
  pub side_made : (in_all : Option ℕ) (table : List KeptPackage) → BuildsBy limit in_all nodes said (Ok table) →
      TablesSide side limit in_all nodes said (Ok table)
  side_made None table h = h
  side_made (Some most) table h = h.0

  pub side_too_many : (in_all : Option ℕ) (name : List ℕ) →
      BuildsBy limit in_all nodes said (Err (refused.TooManyCases name)) →
      TablesSide side limit in_all nodes said (Err (errors.TooManyCases side name))
  side_too_many None name h = (refl, h)
  side_too_many (Some most) name h = (refl, h.0)

  pub side_in_all : (in_all : Option ℕ) → BuildsBy limit in_all nodes said (Err refused.TooManyCasesInAll) →
      TablesSide side limit in_all nodes said (Err (errors.TooManyCasesInAll side))
  side_in_all None h = absurd h
  side_in_all (Some most) h = (refl, h)
