use Rattle.std.proofs.Common.{◌≡◌, ◌∙◌, Some, None, get_or, sym, ap, subst}
use Rattle.std.proofs.lemmas.List.{get_or-set_same}
use Rattle.version_ranges.specs.Turns.{flips}
use Rattle.pep508_tree.specs.Meaning.{holds}
use Rattle.reqtable_marker_cache.specs.declared.known.Said.{Said}
use Rattle.reqtable_marker_cache.specs.Known.{plain, truth_at, AreKnown}
use Rattle.reqtable_marker_cache.specs.Settings.{nodes_in, valuation_in}
use Rattle.reqtable_marker_cache.proofs.Holding.{by_place, by_marker, known_at, known_there, known_more}
use Rattle.reqtable_marker_cache.proofs.known.Known.holds.Goals as goal

pub returns-in-Some-clause-answer : goal.returns-in-Some-clause-answer
returns-in-Some-clause-answer c =
    let nodes = nodes_in c.args.setting.now in
    let v = valuation_in c.args.setting.now in
    let truth = c.in-Some.truth in
    let is = known_at nodes v c.args.self.now c.args.slot c.place.result truth c.requires.known (sym c.truth_at.ensures ∙ c.in-Some.is) in
    c.turned.ensures ∙ (λ i. flips (c.is_negated.ensures i) ((is ∙ ap (λ p. holds nodes (plain p) v) c.place.ensures) i))
    ∙ sym (by_place nodes c.args.marker v)

pub returns-clause-known : goal.returns-clause-known
returns-clause-known c =
    let nodes = nodes_in c.args.setting.now in
    let v = valuation_in c.args.setting.now in
    let said : Said = record { place = c.place-2.result; holds = c.turned-2.result } in
    let is : said.holds ≡ holds nodes (plain said.place) v =
    c.turned-2.ensures ∙ (λ i. flips (c.is_negated-2.ensures i) (c.holds-truth.ensures i)) ∙ by_marker nodes c.args.marker v
    ∙ sym (ap (λ p. holds nodes (plain p) v) c.place-2.ensures) in
    subst (λ l. AreKnown nodes v l) (sym c.keep.ensures) (known_more nodes v c.args.self.now c.args.slot said c.requires.known is)

pub returns-clause-kept : goal.returns-clause-kept
returns-clause-kept c = λ below.
    let nodes = nodes_in c.args.setting.now in
    let v = valuation_in c.args.setting.now in
    let place = c.args.marker.place in
    let said : Said = record { place = c.place-2.result; holds = c.turned-2.result } in
    ap (λ l. truth_at (get_or l c.args.slot None) place) c.keep.ensures
    ∙ ap (λ s. truth_at s place) (get_or-set_same c.args.self.now c.args.slot (Some said) None below)
    ∙ ap (truth_at (Some said)) (sym c.place-2.ensures) ∙ known_there said.place said.holds
    ∙ ap Some (c.turned-2.ensures ∙ (λ i. flips (c.is_negated-2.ensures i) (c.holds-truth.ensures i)) ∙ by_marker nodes c.args.marker v)
