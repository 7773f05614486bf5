use Rattle.std.proofs.Common.{◌∙◌, ap, sym, rules}
use Rattle.pep508_tree.specs.Roots.{root_of, shown}
use Rattle.pep508_simplification.specs.Parts.{record_of}
use Rattle.pep508_simplification.proofs.Rooted.{copy_versions, copy_texts}
use Rattle.pep508_simplification.proofs.root_copy.copy_of_root.Goals.{in-Constant}
use Rattle.pep508_simplification.proofs.root_copy.copy_of_root.Goals.{in-Versions+in_ok-later-in-Versions}
use Rattle.pep508_simplification.proofs.root_copy.copy_of_root.Goals.{in-Texts+in_ok-later-in-Texts}
use Rattle.pep508_simplification.proofs.root_copy.copy_of_root.Goals.{in-Flagged+in_ok-try_clone-in-Flagged}
use Rattle.pep508_simplification.proofs.root_copy.copy_of_root.Goals as goal

pub returns-clause-copy : goal.returns-clause-copy
returns-clause-copy c =
    let root = root_of c.args.interner.now.nodes c.args.tree in
    elim c.match-node.branch [
      | in-Constant w ↦ ap record_of w.result-is ∙ ap shown (sym w.in-Constant.is) ∙ c.node.ensures.shows
      | in-Versions+in_ok-later-in-Versions w ↦
          let n = w.in-Versions.children in
          ap record_of w.result-is
          ∙ copy_versions n.negated w.in-Versions.key n.first w.turned.result n.later.now
          w.in_ok-later-in-Versions.later.items w.turned.ensures w.in_ok-later-in-Versions.ensures root
          (ap shown (sym w.in-Versions.is) ∙ c.node.ensures.shows)
      | in-Texts+in_ok-later-in-Texts w ↦
          let n = w.in-Texts.children in
          ap record_of w.result-is
          ∙ copy_texts n.negated w.in-Texts.key n.first w.turned-in-Texts.result n.later.now
          w.in_ok-later-in-Texts.later.items w.turned-in-Texts.ensures w.in_ok-later-in-Texts.ensures root
          (ap shown (sym w.in-Texts.is) ∙ c.node.ensures.shows)
      | in-Flagged+in_ok-try_clone-in-Flagged w ↦ search rules
    ]
