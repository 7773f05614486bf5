-- A table serves after it was asked, and while nodes are added.
use Rattle.std.proofs.Common.{◌∙◌, List, [], ◌∷◌}
use Rattle.std.specs.List.{AllZip, AllByRecursion}
use Rattle.pep508_tree.specs.Meaning.{NodeRecord, Extends}
use Rattle.pep508_tree.proofs.Conjoining.{tree_kept, extends_itself}
use Rattle.pep508_tree.proofs.Diagrams.{holds_kept}
use Rattle.reqtable_requirements.specs.Asks.{lines_of}
use Rattle.reqtable_requirements.specs.LineReading.{LineRecord}
use Rattle.reqtable_table.specs.Answers.{SamePackage}
use Rattle.reqtable_table.specs.Cases.{HasItsCases}
use Rattle.reqtable_table.specs.Kept.{KeptLine, KeptPackage, Keeps, KeepsAll, kept_under}
use Rattle.reqtable_table.specs.Lasting.{StillServes}
use Rattle.reqtable_table.proofs.Packages.{as_long, has_kept}
use Rattle.reqtable_table.proofs.Same.{has_cases, keeps, runs_on, all_same}

module _ (old new : List NodeRecord) (more : Extends old new) where
  pub cases_later : (table : List KeptPackage) → AllByRecursion (HasItsCases old) table → AllByRecursion (HasItsCases new) table
  cases_later [] h = tt
  cases_later (kept ∷ table) h = (has_kept old new kept more h.0, cases_later table h.1)

  line_later : (kept : KeptLine) (said : LineRecord) → Keeps old kept said → Keeps new kept said
  line_later kept said h = record {
    number = h.number;
    extras = h.extras;
    marker = record {
      made = tree_kept old new more kept.marker h.marker.made;
      truth = λ v. holds_kept old new more kept.marker h.marker.made v ∙ h.marker.truth v;
    };
    url = h.url;
    bounded = h.bounded;
    specifiers = h.specifiers;
  }

  all_later : (kept : List KeptLine) (said : List LineRecord) → AllZip (Keeps old) kept said → AllZip (Keeps new) kept said
  all_later [] [] h = h
  all_later [] (one ∷ said) h = absurd h
  all_later (line ∷ kept) [] h = absurd h
  all_later (line ∷ kept) (one ∷ said) h = (line_later line one h.0, all_later kept said h.1)

  pub lines_later : (table : List KeptPackage) (said : List LineRecord) → KeepsAll old table said → KeepsAll new table said
  lines_later table said h = record {
    rising = h.rising;
    named = h.named;
    each = λ q. all_later (kept_under q table) (lines_of q said) (h.each q);
  }

  pub serves_later : (before table : List KeptPackage) → AllZip SamePackage table before → AllByRecursion (HasItsCases old) before →
      StillServes old new before table
  serves_later before table same has = record {
    cases = has_cases new table before same (cases_later before has);
    packages = as_long SamePackage table before same;
    lines = λ said h. keeps new table before said same (lines_later before said h);
    runs = λ all. runs_on all table before same;
  }

-- of a table that wasn't asked
pub serves_unasked : (nodes : List NodeRecord) (table : List KeptPackage) → AllByRecursion (HasItsCases nodes) table →
    StillServes nodes nodes table table
serves_unasked nodes table has = serves_later nodes nodes (extends_itself nodes) table table (all_same table) has
