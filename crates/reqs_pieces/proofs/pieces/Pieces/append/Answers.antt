use Rattle.std.proofs.Common.{◌<◌, ◌++◌, ◌∷◌, ◌∙◌, [], ℕ, length, All, ap, sym, subst}
use Rattle.std.proofs.Common.{append_assoc, arith, string_bytes}
use Rattle.std.proofs.lemmas.List.{length-map}
use Rattle.std.proofs.lemmas.List.Elements.{All-append}
use Rattle.reqs_pieces.proofs.Joined.{all_of_one}
use Rattle.reqs_pieces.proofs.pieces.Pieces.append.Goals as goal

pub invariant_of-self-3 : goal.invariant_of-self-3
invariant_of-self-3 c =
    let P : ℕ → Type 0 = λ p. p < length c.self.inside.texts.items in
    let order = c.self.inside.order.items in
    let later = c.self.inside.later.items in
    let piece = c.args.piece in
    let within : piece < length c.self.inside.texts.items =
    omega (arith, c.requires, length-map c.self.inside.texts.items string_bytes, ap (λ r. length r.texts) c.self.view_is) in
    let one = All-append P (order ++ later) (piece ∷ []) c.self.invariant (all_of_one P piece within) in
    subst (All P) (append_assoc order later (piece ∷ []) ∙ ap (λ l. order ++ l) (sym c.in_ok-push-2.ensures.items)) one
