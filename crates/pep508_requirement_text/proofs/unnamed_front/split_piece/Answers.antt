use Rattle.std.proofs.Common.{rules, ◌++◌, ap, List, ℕ, ◌∙◌, append_assoc}
use Rattle.std.specs.Str.{IsUtf8}
use Rattle.std.proofs.lemmas.Str.{IsUtf8-append}
use Rattle.pep508_requirement_text.proofs.unnamed_front.split_piece.Goals as goal

pub returns-clause-at : goal.returns-clause-at
returns-clause-at c =
    let extras_utf8 : IsUtf8 c.in_ok-text.extras.now = search rules in
    record {
      rest = c.in_ok-text.extras.now ++ c.requires.rest;
      whole =
          c.requires.whole ∙ ap (λ (xs : List ℕ). xs ++ c.requires.rest) c.in_ok-text.ensures.whole
          ∙ append_assoc c.in_ok-text.text.now c.in_ok-text.extras.now c.requires.rest;
      rest_utf8 = IsUtf8-append c.in_ok-text.extras.now c.requires.rest extras_utf8 c.requires.rest_utf8;
    }
