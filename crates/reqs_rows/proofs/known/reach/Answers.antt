use Rattle.std.proofs.Common.{◌∙◌, ◌++◌, ◌∷◌, [], get_or, ap}
use Rattle.std.proofs.lemmas.List.{map-append}
use Rattle.reqs_rows.specs.declared.known.Known.{Known}
use Rattle.reqs_rows.specs.Seen.{pieces_of}
use Rattle.reqs_rows.proofs.Places.{default_behind}
use Rattle.reqs_rows.proofs.known.reach.Goals as goal

pub loop-alloc-preserved : goal.loop-alloc-preserved
loop-alloc-preserved c = λ at.
    let before = c.loop-alloc.known.items in
    ap (λ l. get_or (pieces_of l) at []) c.in_ok-push.ensures.items
    ∙ ap (λ l. get_or l at []) (map-append (λ (own : Known). own.pieces.items) before _
    ∙ ap (λ own. pieces_of before ++ own ∷ []) c.new-pieces.ensures.items)
    ∙ default_behind (pieces_of before) [] at ∙ c.loop-alloc.invariant at
