use Rattle.std.proofs.Common.{◌++◌, ◌∷◌, List, ℕ, map, append_assoc, sym, ap, ◌∙◌}
use Rattle.std.specs.Prelude.{flat_map}
use Rattle.std.specs.List.{join_with_byte}
use Rattle.std.specs.String.{string_bytes}
use Rattle.std.proofs.lemmas.List.{take_all}
use Rattle.pep508_url.specs.Paths.{root_of}
use Rattle.pep508_url.proofs.PathParts.{joined_is}
use Rattle.pep508_url.proofs.path.join_parts.Goals as goal

pub returns : goal.returns
returns c =
    let first = c.in-Some.first.now in
    let root = c.in_ok-push_str.ensures.bytes ∙ ap (λ (xs : List ℕ). xs ++ c.root.result.now) c.in_ok-text.ensures.bytes ∙ c.root.ensures in
    let begun = c.in_ok-push_str-2.ensures.bytes ∙ ap (λ (xs : List ℕ). xs ++ first.now) root in
    c.loop-part.invariant
    ∙ ap (λ parts. string_bytes c.push_str-2.new.self ++ flat_map (λ part. 47 ∷ part.now) parts) (take_all c.loop-part.part-index c.in-Some.others.now c.loop-part-test.false)
    ∙ ap (λ text. text ++ flat_map (λ part. 47 ∷ part.now) c.in-Some.others.now) begun
    ∙ append_assoc (root_of c.args.path.now) first.now (flat_map (λ part. 47 ∷ part.now) c.in-Some.others.now)
    ∙ ap (λ text. root_of c.args.path.now ++ text) (sym (joined_is first c.in-Some.others.now))
    ∙ ap (λ parts. root_of c.args.path.now ++ join_with_byte 47 (map (λ part. part.now) parts)) (sym c.in-Some.ensures.cases.0)
