use Rattle.std.proofs.Common.{◌∙◌, ap}
use Rattle.std.proofs.lemmas.Result.{IfOk-weaker}
use Rattle.pep440_specifier_list.specs.Lists.{matches_all}
use Rattle.reqtable_range.specs.Together.{lent}
use Rattle.reqtable_range.proofs.Telling.{first_told, second_told, third_told}
use Rattle.reqtable_range.proofs.one.OneRange.takes.Goals as goal

pub returns-then-not-simple : goal.returns-then-not-simple
returns-then-not-simple c =
    first_told c.simple_range_tells_what_all_take.ensures c.args.self.now c.args.version.now c.requires c.in_ok-simple.simple c.in_ok-simple.ensures
    c.if-not-simple.true

pub returns-then-not-local : goal.returns-then-not-local
returns-then-not-local c =
    second_told c.simple_range_tells_what_all_take.ensures c.args.self.now c.args.version.now c.requires c.in_ok-simple.simple c.in_ok-simple.ensures
    c.if-not-simple.false c.contains-local.result c.contains-local.ensures c.if-not-local.true

pub returns : goal.returns
returns c =
    IfOk-weaker c.each_takes.result _ _
    (λ taken h. third_told c.simple_range_tells_what_all_take.ensures c.args.self.now c.args.version.now c.requires c.in_ok-simple.simple
    c.in_ok-simple.ensures c.if-not-simple.false c.contains-local.result c.contains-local.ensures c.if-not-local.false taken
    (h ∙ ap (λ members. matches_all (lent members) c.args.version.now) c.deref.ensures.value))
    c.each_takes.ensures
