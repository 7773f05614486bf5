use Rattle.reqtable_candidates.proofs.Comments.{no_comment}
use Rattle.reqtable_candidates.proofs.text_lines.without_comment.Goals as goal

pub returns-then-not-contains : goal.returns-then-not-contains
returns-then-not-contains c = let none = c.if-not-contains.ensures.cases in no_comment c.args.line.now none.0 c.utf8.line none.1 none.2
