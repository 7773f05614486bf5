use Rattle.std.proofs.Common.{sym, ◌∙◌, rules}
use Rattle.pep440_specifier.specs.Building.{built_of_pattern}
use Rattle.pep440_specifier.proofs.Fronts.{left_behind, none_behind}
use Rattle.pep440_specifier.proofs.reading.build.Goals as goal

pub returns-then-not-is_empty : goal.returns-then-not-is_empty
returns-then-not-is_empty c =
    let e =
    left_behind c.args.left.now c.skip_white-rest.result.now (built_of_pattern c.args.operator c.args.pattern)
    c.in-Ok.specifier (sym c.in-Ok.ensures) c.skip_white-rest.utf8 c.skip_white-rest.ensures
    (sym c.if-not-is_empty.true ∙ c.is_empty.ensures) in
    record { answered = rw e c.trailing.ensures.told; plain = c.trailing.ensures.plain }

pub returns : goal.returns
returns c = record {
  answered =
      none_behind c.args.left.now c.skip_white-rest.result.now (built_of_pattern c.args.operator c.args.pattern)
      c.in-Ok.specifier (sym c.in-Ok.ensures) c.skip_white-rest.ensures
      (sym c.if-not-is_empty.false ∙ c.is_empty.ensures);
  plain = tt;
}
