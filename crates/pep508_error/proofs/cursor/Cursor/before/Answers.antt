use Rattle.std.proofs.Common.{rules, ◌≡◌, ◌++◌, ◌-◌, take, drop, encode_utf8, sym, ap, subst, ◌∙◌, arith}
use Rattle.std.specs.Char.{IsScalar}
use Rattle.std.specs.Str.{IsCharBoundary}
use Rattle.pep508_error.proofs.Places.{before_boundary, before_rest}
use Rattle.pep508_error.proofs.cursor.Cursor.before.Goals as goal

pub invariant_of-result : goal.invariant_of-result
invariant_of-result c =
    let scalar : IsScalar c.in_ok-last.last = search rules in
    let input = c.input-input.result.now in
    let position = c.args.self.position in
    let whole : position - 0 ≡ position = omega arith in
    let cut = c.chars.ensures.rest ∙ c.range.ensures.value ∙ ap (λ n. take n input) whole in
    let between = subst (λ text. IsCharBoundary text position) (sym c.input-input.ensures) c.args.self.between in
    record {
      between =
          subst (λ n. IsCharBoundary input (position - n)) (sym c.len_utf8.ensures.value)
          (before_boundary input _ _ position c.in_ok-last.last cut c.in_ok-last.ensures.steps c.input-input.utf8 between scalar);
    }

pub returns-clause-cases : goal.returns-clause-cases
returns-clause-cases c =
    let input = c.input-input.result.now in
    let position = c.args.self.position in
    let whole : position - 0 ≡ position = omega arith in
    let cut = c.chars.ensures.rest ∙ c.range.ensures.value ∙ ap (λ n. take n input) whole in
    let between = subst (λ text. IsCharBoundary text position) (sym c.input-input.ensures) c.args.self.between in (
      c.in_ok-last.last,
      ap (λ n. drop (position - n) input) c.len_utf8.ensures.value
          ∙ before_rest input _ _ position c.in_ok-last.last cut c.in_ok-last.ensures.steps between.0
          ∙ ap (λ text. encode_utf8 c.in_ok-last.last ++ drop position text) c.input-input.ensures,
    )
