-- Parsed lines with markers that hold where a condition does too.
use Rattle.std.specs.Prelude.{◌≡◌, ◌&&◌, List}
use Rattle.pep508_diagram.specs.Question.{Valuation}
use Rattle.pep508_tree.specs.Tree.{Tree}
use Rattle.pep508_tree.specs.Meaning.{NodeRecord, IsTree, holds}
use Rattle.reqtable_requirements.specs.declared.requirements.Line.{Line}

-- a line with another marker
abbrev pub marked_with : Tree → Line → Line
marked_with marker line = record {
  number = line.number;
  requirement = record {
    name = line.requirement.name;
    extras = line.requirement.extras;
    version_or_url = line.requirement.version_or_url;
    marker = marker;
    origin = line.requirement.origin;
  };
}

-- a line is another one but for its marker, a tree of new nodes that holds where the other's and the
-- condition do in the old ones
pub record IsRestricted (old new : List NodeRecord) (condition : Tree) (made line : Line) : Type 0 where
  pub same : made ≡ marked_with made.requirement.marker line
  pub is_tree : IsTree new made.requirement.marker
  pub means : (v : Valuation) → holds new made.requirement.marker v
      ≡ (holds old line.requirement.marker v && holds old condition v)
