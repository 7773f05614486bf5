use Rattle.std.proofs.Common.{◌≡◌, ◌∙◌, ℕ, length, true≢false, ap, sym, subst}
use Rattle.pep508_tree.specs.Forms.{record_of}
use Rattle.pep508_tree.specs.Nodes.{Made, IsSoundNode, signed, short_node, node_at, node_cmp}
use Rattle.pep508_tree.proofs.Storing.{made_alone, signed_sound, made_at}
use Rattle.pep508_tree.proofs.Shortened.{short_placed}
use Rattle.pep508_tree.proofs.table.NodeTable.store.Goals as goal

pub returns-then-is_alone-clause-made : goal.returns-then-is_alone-clause-made
returns-then-is_alone-clause-made c =
    subst (Made c.args.self.now c.args.self.now (record_of c.args.form)) (sym c.first_of-first.ensures)
    (made_alone c.args.self.now (record_of c.args.form) (c.is_alone.ensures.0 c.if-is_alone.true)
    c.requires.made c.requires.above)

pub place_of-requires : goal.place_of-requires
place_of-requires c =
    subst (IsSoundNode c.args.self.now (length c.args.self.now))
    (sym (c.in_ok-short.ensures ∙ ap short_node (c.signed.ensures ∙ ap (λ s. signed s (record_of c.args.form))
    (c.is_negated-negated.ensures ∙ ap (λ t. t.negated) c.first_of-first.ensures))))
    (signed_sound c.args.self.now (record_of c.args.form) c.requires.made c.requires.above c.requires.rises
    c.requires.joined
    (λ alone. true≢false (sym (c.is_alone.ensures.1 alone) ∙ c.if-is_alone.false)))

pub returns-clause-made : goal.returns-clause-made
returns-clause-made c =
    let placed = c.in_ok-place.ensures.found in
    let node = record_of c.args.form in
    let new = c.place_of.new.self in
    let is : record_of c.in_ok-short.short ≡ short_node (signed c.is_negated-negated.result node) =
    c.in_ok-short.ensures ∙ ap short_node c.signed.ensures in
    let made = made_at c.args.self.now new node placed.index c.is_negated-negated.result
    c.in_ok-place.ensures.keeps placed.sound
    placed.inside
    (short_placed (node_at new placed.index) (signed c.is_negated-negated.result node)
    (ap (node_cmp (node_at new placed.index)) (sym is) ∙ placed.same))
    c.requires.made in
    subst (Made c.args.self.now new node)
    (sym (c.at_place.ensures ∙ ap (λ (p : ℕ). record { place = p; negated = c.is_negated-negated.result })
    placed.place_is)) made
