use Rattle.std.proofs.Common.{◌∙◌, map, refl, sym, ap}
use Rattle.std.specs.List.{list_any}
use Rattle.std.specs.Str.{bytes_eq}
use Rattle.reqtable_answer.proofs.Tests.{any_mapped}
use Rattle.reqtable_compare.specs.Numbered.{extras_at}
use Rattle.reqtable_compare.specs.Totals.{some_numbers}
use Rattle.reqtable_compare.proofs.summing.summary.Goals as goal

pub returns : goal.returns
returns c =
    let lines = c.args.lines.now in
    let lists = c.in_ok-lists.lists.items in
    let are = c.in_ok-lists.ensures ∙ ap (map (extras_at lines)) (c.deref.ensures.value ∙ c.in_ok-numbers.ensures) in
    record {
      some = c.has_some.ensures ∙ ap some_numbers (c.deref-3.ensures.value ∙ c.in_ok-numbers.ensures);
      rising = c.in_ok-extras.ensures.rise;
      extras = λ e. c.in_ok-extras.ensures.are e
          ∙ ap (list_any (λ l. list_any (bytes_eq e) l.now)) c.deref-2.ensures.value
          ∙ sym (any_mapped (list_any (bytes_eq e)) (λ l. l.now) lists) ∙ ap (list_any (list_any (bytes_eq e))) are;
      range = c.in_ok-range.ensures;
      prerelease = refl;
      tree = refl;
    }
