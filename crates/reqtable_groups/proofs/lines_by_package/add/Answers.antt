use Rattle.std.proofs.Common.{◌∙◌, sym, inl}
use Rattle.std.proofs.lemmas.Result.{on_ok_weaker}
use Rattle.reqtable_answer.proofs.Tests.{same_bytes}
use Rattle.reqtable_groups.proofs.Added.{added_behind}
use Rattle.reqtable_groups.proofs.lines_by_package.add.Goals as goal

pub returns-in_ok-push-2 : goal.returns-in_ok-push-2
returns-in_ok-push-2 c = inl (record {
  front = c.pop.new.self.items;
  last = c.in-Some.last;
  one = record { name = c.in-Some.last.name; lines = c.push-then-eq.new.self };
  was = c.in-Some.ensures.items;
  of_package = same_bytes c.in-Some.last.name c.args.name (sym c.eq.ensures ∙ c.if-eq.true);
  named = same_bytes c.in-Some.last.name c.args.name (sym c.eq.ensures ∙ c.if-eq.true);
  lines = c.in_ok-push.ensures.items;
  grown = c.in_ok-push-2.ensures.items;
})

pub returns-in_ok-push-3 : goal.returns-in_ok-push-3
returns-in_ok-push-3 c =
    let old = c.args.groups.now.items in
    let back = c.push-else-eq.new.self.items in
    let new = c.push-else-eq-2.new.groups.items in
    on_ok_weaker c.push-else-eq-2.result
    (added_behind c.args.name c.args.line c.pop.new.self.items old back new c.in-Some.last c.in-Some.ensures.items
    c.in_ok-push-3.ensures.items (sym c.eq.ensures ∙ c.if-eq.false))
    c.push-else-eq-2.ensures
