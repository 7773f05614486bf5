use Rattle.std.proofs.Common.{◌≡◌, ◌∷◌, [], drop, chars, IfNone, IfSome, MatchOption, subst, sym, ◌∙◌}
use Rattle.std.specs.Str.{IsUtf8, IsCharBoundary}
use Rattle.std.specs.Char.{len_utf8}
use Rattle.pep508_error.proofs.Places.{first_char, first_boundary, no_char}
use Rattle.pep508_error.proofs.cursor.Cursor.peek.Goals as goal

pub returns-clause-cases : goal.returns-clause-cases
returns-clause-cases c =
    subst (λ text. MatchOption c.next.result (chars text ≡ []) (λ d. chars text ≡ d ∷ chars (drop (len_utf8 d) text)))
    (c.chars.ensures.rest ∙ c.rest.ensures)
    (first_char _ _ _ c.next.result (subst IsUtf8 (sym c.chars.ensures.rest) c.rest.utf8) c.next.ensures.steps.0)

pub returns-clause-boundary : goal.returns-clause-boundary
returns-clause-boundary c =
    subst (λ text. IfSome c.next.result (λ d. IsCharBoundary text (len_utf8 d)))
    (c.chars.ensures.rest ∙ c.rest.ensures)
    (first_boundary _ _ _ c.next.result (subst IsUtf8 (sym c.chars.ensures.rest) c.rest.utf8) c.next.ensures.steps.0)

pub returns-clause-end : goal.returns-clause-end
returns-clause-end c =
    subst (λ text. IfNone c.next.result (text ≡ [])) (c.chars.ensures.rest ∙ c.rest.ensures)
    (no_char _ _ _ c.next.result c.next.ensures.steps.0)
