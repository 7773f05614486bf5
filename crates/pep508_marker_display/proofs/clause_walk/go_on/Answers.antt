use Rattle.pep508_marker_display.proofs.Adding.{path_on}
use Rattle.pep508_marker_display.proofs.clause_walk.go_on.Goals as goal

pub returns : goal.returns
returns c =
    path_on c.args.depth c.args.path.now.items c.truncate.new.self.items c.args.terms.items
    c.append.new.self.items c.truncate.ensures.items c.in_ok-append.ensures.items
