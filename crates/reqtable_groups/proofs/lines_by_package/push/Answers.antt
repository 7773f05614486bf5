use Rattle.std.proofs.Common.{◌∙◌, ◌++◌, ◌∷◌, [], ap, refl}
use Rattle.reqtable_groups.proofs.lines_by_package.push.Goals as goal

pub returns : goal.returns
returns c = record {
  one = record { name = c.args.name; lines = c.push.new.self };
  named = refl;
  lines = c.in_ok-push.ensures.items ∙ ap (λ l. l ++ c.args.line ∷ []) c.in_ok-lines.ensures.items;
  grown = c.in_ok-push-2.ensures.items;
}
