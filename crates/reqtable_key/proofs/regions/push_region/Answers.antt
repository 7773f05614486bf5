use Rattle.std.proofs.Common.{◌∙◌, ◌++◌, ◌∷◌, [], ap, append_assoc, refl}
use Rattle.std.proofs.lemmas.Result.{on_ok_weaker}
use Rattle.pep440_key.specs.Key.{component_bytes}
use Rattle.pep508_tree.specs.Meaning.{diagram_of}
use Rattle.pep508_marker_key.specs.Key.{diagram_key}
use Rattle.reqtable_key.proofs.regions.push_region.Goals as goal

pub returns-clause-region : goal.returns-clause-region
returns-clause-region c =
    let diagram = diagram_of c.union.new.interner.nodes c.in_ok-tree.tree in
    let old = c.args.key.now.items in
    let head = component_bytes c.args.head.now in
    let bytes = component_bytes (diagram_key diagram) in
    on_ok_weaker c.push_text-2.result
    (λ is. record {
      region = (c.args.head.now, diagram);
      under = refl;
      canonical = c.in_ok-bytes.ensures.canonical;
      means = c.in_ok-tree.ensures.truth;
      appended =
          is
          ∙ ap (λ k. k ++ component_bytes c.as_slice.result.now)
          (c.in_ok-push_text.ensures ∙ ap (λ k. k ++ head) c.in_ok-push.ensures.items)
          ∙ ap (λ k. ((old ++ 1 ∷ []) ++ head) ++ component_bytes k)
          (c.as_slice.ensures.value ∙ c.in_ok-bytes.ensures.key)
          ∙ append_assoc (old ++ 1 ∷ []) head bytes
          ∙ append_assoc old (1 ∷ []) (head ++ bytes);
    })
    c.push_text-2.ensures
