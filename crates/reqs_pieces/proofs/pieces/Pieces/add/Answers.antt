use Rattle.std.proofs.Common.{◌∙◌, ◌∷◌, ◌++◌, [], map, ap, string_bytes}
use Rattle.std.proofs.lemmas.List.{map-append}
use Rattle.reqs_pieces.specs.Pieces.{text_of}
use Rattle.reqs_pieces.proofs.Joined.{one_kept, seen_within}
use Rattle.reqs_pieces.proofs.pieces.Pieces.add.Goals as goal

pub returns-clause-whole : goal.returns-clause-whole
returns-clause-whole c =
    let texts = c.self.inside.texts.items in
    let order = c.self.inside.order.items ++ c.self.inside.later.items in
    ap (λ l. text_of l order) (ap (map string_bytes) c.in_ok-push.ensures.items ∙ map-append string_bytes texts (c.args.text ∷ []))
    ∙ one_kept (map string_bytes texts) (string_bytes c.args.text) order (seen_within string_bytes texts order c.self.invariant)
    ∙ ap (λ r. r.whole) c.self.view_is
