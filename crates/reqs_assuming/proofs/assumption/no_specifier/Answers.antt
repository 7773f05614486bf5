use Rattle.std.proofs.Common.{◌≡◌, ◌∙◌, ◌-◌, drop, string_bytes, ap}
use Rattle.pep508_error.specs.Errors.{told_error}
use Rattle.pep508_error.specs.Refusals.{Refuses}
use Rattle.reqs_assuming.proofs.Python.{begins_at, kind_of, no_list}
use Rattle.reqs_assuming.proofs.assumption.no_specifier.Goals as goal

pub returns : goal.returns
returns c text tells =
    let piece = c.args.piece.now in
    let line = string_bytes piece.line in
    let place = c.after-place.result in
    let is_line : place.input.now ≡ line =
    c.after-place.ensures.behind.input ∙ c.new.ensures.input ∙ c.line.ensures in
    let rest : drop place.position place.input.now ≡ drop piece.start line =
    c.after-place.ensures.rest ∙ ap (drop c.start.result) (c.new.ensures.rest ∙ c.line.ensures)
    ∙ ap (λ n. drop n line) c.start.ensures.start in
    let position : place.position ≡ piece.start =
    begins_at line piece.start piece.end place is_line c.start.ensures.placed rest in
    let len : c.end.result - c.start-2.result ≡ piece.end - piece.start =
    λ i. c.end.ensures.end i - c.start-2.ensures.start i in
    let kind = c.string-kind.result in
    let refuses : Refuses c.refuse.result kind line piece.start (piece.end - piece.start) = record {
      kind_is = c.refuse.ensures.kind_is;
      input_is = c.refuse.ensures.input_is ∙ is_line;
      start_is = c.refuse.ensures.start_is ∙ position;
      len_is = c.refuse.ensures.len_is ∙ len;
    } in
    no_list text piece c.refuse.result kind refuses (told_error c.of.result) c.of.ensures
    (kind_of piece.error c.to_string.result kind c.string-kind.ensures
    (rw c.error.ensures.error at c.to_string.ensures.ok))
    c.error.ensures.plain tells
