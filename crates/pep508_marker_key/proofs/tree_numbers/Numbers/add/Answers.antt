use Rattle.std.proofs.Common.{rules}
use Rattle.pep508_marker_key.proofs.Numbered.{numbers_on}
use Rattle.pep508_marker_key.proofs.tree_numbers.Numbers.add.Goals as goal

pub returns-clause-numbers : goal.returns-clause-numbers
returns-clause-numbers c =
    numbers_on c.args.self.now.trees.items c.push.new.self.items c.args.tree c.args.self.now.places
    c.insert.new.self c.len-number.result (search rules) c.in_ok-push.ensures.items c.requires
    (λ name. search rules)
