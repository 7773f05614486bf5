-- Nodes whose children are given anew, in turn.
use Rattle.std.specs.Prelude.{Bool, List, [], ◌∷◌}
use Rattle.pep508_diagram.specs.Joining.{joined_by}
use Rattle.pep508_tree.specs.Meaning.{NodeOf, Versions, Texts, Flagged}

-- the first of a list, or another where it is empty
abbrev pub head_or : {D : Type 0} → List D → D → D
head_or [] other = other
head_or (child ∷ children) other = child

module _ {C D : Type 0} (same : D → D → Bool) where
  -- the node with these children, neighbours that are one joined
  abbrev pub node_joined : NodeOf C → D → List D → NodeOf D
  node_joined (Versions key f later) first children =
      Versions key first (joined_by same first later children)
  node_joined (Texts key f later) first children = Texts key first (joined_by same first later children)
  node_joined (Flagged flag set unset) first children = Flagged flag first (head_or children first)
