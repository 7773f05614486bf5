-- What an interner remembers lasts while nodes are added.
use Rattle.std.proofs.Common.{List, Option, Some, None, IfSome}
use Rattle.std.specs.BTreeMap.{BTreeMap, get}
use Rattle.pep508_tree.specs.declared.tree_pair.TreePair.{TreePair}
use Rattle.pep508_tree.specs.Tree.{Tree}
use Rattle.pep508_tree.specs.Meaning.{NodeRecord, Extends}
use Rattle.pep508_tree.specs.PairOrder.{pair_cmp}
use Rattle.pep508_tree.specs.Known.{IsKnown, AreKnown}
use Rattle.pep508_tree.proofs.Conjoining.{tree_kept, conjunction_later, conjunction_now}

known_later : (old new : List NodeRecord) (pair : TreePair) (tree : Tree) → Extends old new →
    IsKnown old pair tree → IsKnown new pair tree
known_later old new pair tree e k = record {
  first = tree_kept old new e pair.first k.first;
  second = tree_kept old new e pair.second k.second;
  conjunction =
      conjunction_now old new pair.first pair.second tree e k.first k.second
      (conjunction_later old old new pair.first pair.second tree e k.conjunction);
}

each_later : (old new : List NodeRecord) (pair : TreePair) (answer : Option Tree) → Extends old new →
    IfSome answer (λ tree. IsKnown old pair tree) → IfSome answer (λ tree. IsKnown new pair tree)
each_later old new pair None e k = k
each_later old new pair (Some tree) e k = known_later old new pair tree e k

pub known_kept : (old new : List NodeRecord) (known : BTreeMap TreePair Tree) → Extends old new →
    AreKnown old known →
    AreKnown new known
known_kept old new known e all pair = each_later old new pair (get pair_cmp known pair) e (all pair)
