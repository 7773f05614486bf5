use Rattle.std.specs.String.{string_bytes}
use Rattle.pep508_error.specs.Cursors.{rest_of}
use Rattle.pep508_requirement_text.proofs.ListPlaces.{start_boundary, span_boundary}
use Rattle.std.proofs.Common.{ℕ, ◌+◌, ◌-◌, refl, ap, ap₂, ◌∙◌}
use Rattle.pep508_requirement_text.proofs.Shown.{place_after}
use Rattle.pep508_requirement_text.proofs.list.refuse_piece.Goals as goal

pub after-requires : goal.after-requires
after-requires c =
    start_boundary (rest_of c.args.start) (string_bytes c.args.piece.now.line) c.requires.rest c.args.piece.now.start
    c.args.piece.now.end c.start.result c.requires.whole c.requires.rest_utf8 c.start.ensures.placed
    c.start.ensures.start

pub refuse-requires : goal.refuse-requires
refuse-requires c =
    span_boundary (rest_of c.args.start) (string_bytes c.args.piece.now.line) c.requires.rest (rest_of c.after.result)
    c.args.piece.now.start c.args.piece.now.end c.start.result c.end.result c.start-2.result c.requires.whole
    c.requires.rest_utf8 c.start.ensures.placed c.after.ensures.rest c.start.ensures.start c.end.ensures.end
    c.start-2.ensures.start

pub returns-clause-shown : goal.returns-clause-shown
returns-clause-shown c =
    let begins =
    start_boundary (rest_of c.args.start) (string_bytes c.args.piece.now.line) c.requires.rest c.args.piece.now.start
    c.args.piece.now.end c.start.result c.requires.whole c.requires.rest_utf8 c.start.ensures.placed
    c.start.ensures.start in
    let at =
    place_after c.args.start c.after.result c.start.result c.after.ensures.behind c.after.ensures.rest begins in
    record {
      kind_is = refl;
      input_is = c.refuse.ensures.input_is ∙ c.after.ensures.behind.input;
      start_is = c.refuse.ensures.start_is
          ∙ (at ∙ ap (λ (n : ℕ). c.args.start.position + n) c.start.ensures.start);
      len_is = c.refuse.ensures.len_is
          ∙ ap₂ (λ (m k : ℕ). m - k) c.end.ensures.end c.start-2.ensures.start;
    }
