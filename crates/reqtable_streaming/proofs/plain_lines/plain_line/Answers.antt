use Rattle.std.proofs.Common.{◌≡◌, ◌∙◌, ◌<◌, ℕ, List, length, take, get_or, ap, sym, subst, arith}
use Rattle.std.proofs.lemmas.Str.{IsCharBoundary-after_ascii}
use Rattle.pep508_name.specs.Name.{name_of}
use Rattle.reqtable_streaming.proofs.NormalForms.{is_named}
use Rattle.reqtable_streaming.proofs.PlainLines.{split_at_space, plain}
use Rattle.reqtable_streaming.proofs.plain_lines.plain_line.Goals as goal

pub range_from-requires : goal.range_from-requires
range_from-requires c = λ some.
    let line = c.args.line.now in
    let at = c.in_ok-at.at in
    let value = c.as_bytes.ensures.value in
    let within : at < length line = subst (λ (bs : List ℕ). at < length bs) value c.in_ok-at.ensures.within in
    let space : get_or line at 0 ≡ 32 = ap (λ bs. get_or bs at 0) (sym value) ∙ c.in_ok-at.ensures.space in
    IsCharBoundary-after_ascii line at c.utf8.line within (omega (arith, space))

pub returns-clause-parts : goal.returns-clause-parts
returns-clause-parts c =
    let line = c.args.line.now in
    let at = c.in_ok-at.at in
    let rest = c.range_from.result.now in
    let read = c.in_ok-version.ensures in
    let version = c.in_ok-version.version.now in
    let value = c.as_bytes.ensures.value in
    let within : at < length line = subst (λ (bs : List ℕ). at < length bs) value c.in_ok-at.ensures.within in
    let space : get_or line at 0 ≡ 32 = ap (λ bs. get_or bs at 0) (sym value) ∙ c.in_ok-at.ensures.space in
    let name : List ℕ = take at line in
    let form : List ℕ = take c.in_ok-at.name c.read_name.new.normal in
    let named = ap (λ bs. name_of (take at bs)) (sym value) ∙ c.in_ok-at.ensures.name in (
      name,
      plain line name rest version c.utf8.line c.range_from.utf8
          (split_at_space line rest at within space c.range_from.ensures.value) read.version
          (is_named name form named) read.some read.plain,
      named,
    )
