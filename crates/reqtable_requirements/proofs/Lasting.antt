-- Lines keep their trees, and what they stand for, while nodes are added.
use Rattle.std.proofs.Common.{◌∙◌, List, [], ◌∷◌}
use Rattle.std.specs.List.{AllZip}
use Rattle.pep508_url.specs.Vars.{Variables}
use Rattle.pep508_tree.specs.Meaning.{NodeRecord, Extends}
use Rattle.pep508_tree.proofs.Conjoining.{tree_kept}
use Rattle.pep508_tree.proofs.Diagrams.{holds_kept}
use Rattle.reqtable_candidates.proofs.Lines.{all_zip_map}
use Rattle.reqtable_requirements.specs.Asks.{AreOfNodes}
use Rattle.reqtable_requirements.specs.LineReading.{LineRecord}
use Rattle.reqtable_requirements.specs.Requirements.{StandsFor}
use Rattle.reqtable_requirements.specs.declared.requirements.Line.{Line}

module _ (vars : Variables) (old new : List NodeRecord) (more : Extends old new) where
  line_kept : (line : Line) (said : LineRecord) → StandsFor vars old line said → StandsFor vars new line said
  line_kept line said h = record {
    number = h.number;
    name = h.name;
    extras = h.extras;
    asks = h.asks;
    tree = record {
      made = tree_kept old new more line.requirement.marker h.tree.made;
      truth = λ v. holds_kept old new more line.requirement.marker h.tree.made v ∙ h.tree.truth v;
    };
  }

  pub lines_kept : (lines : List Line) (said : List LineRecord) → AllZip (StandsFor vars old) lines said
      → AllZip (StandsFor vars new) lines said
  lines_kept = all_zip_map (StandsFor vars old) (StandsFor vars new) line_kept

pub nodes_kept : (old new : List NodeRecord) (lines : List Line) → Extends old new → AreOfNodes old lines
    → AreOfNodes new lines
nodes_kept old new [] more h = tt
nodes_kept old new (line ∷ lines) more h =
    (tree_kept old new more line.requirement.marker h.0, nodes_kept old new lines more h.1)
