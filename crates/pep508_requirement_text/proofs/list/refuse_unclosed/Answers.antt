use Rattle.std.proofs.Common.{List, ℕ, length, take, subst, ap, ◌∙◌, arith}
use Rattle.std.specs.Str.{IsUtf8}
use Rattle.std.specs.Str.Pattern.{HasCharAt}
use Rattle.pep508_requirement_text.proofs.ListPlaces.{before_comma}
use Rattle.pep508_requirement_text.proofs.list.refuse_unclosed.Goals as goal

pub read_trimmed-requires : goal.read_trimmed-requires
read_trimmed-requires c =
    let s = c.in-Some.ensures.cases in
    let len = ap length c.rest.ensures in
    let all = s.7 in
    before_comma c.args.inner c.in-Some.text.now s.0 s.1 (subst IsUtf8 c.rest.ensures c.rest.utf8)
    (subst (λ (t : List ℕ). HasCharAt 44 t s.0 s.1) c.rest.ensures s.2.1) (omega (arith, len, all))
    (s.3 ∙ ap (take s.0) c.rest.ensures)
