use Rattle.pep508_tree.specs.Meaning.{diagram_of}
use Rattle.reqs_json.proofs.OneLine.{line_is}
use Rattle.reqs_lists.proofs.Plain.{plain_uncovered}
use Rattle.reqs_lists.proofs.uncovered_lines.uncovered_line.Goals as goal

pub line_of-requires : goal.line_of-requires
line_of-requires c =
    rw c.in_ok-object.ensures
    (plain_uncovered c.args.name.now (diagram_of c.args.interner.now.nodes c.args.tree) c.args.numbers.now)

pub returns : goal.returns
returns c = line_is c.line_of.result _ _ c.in_ok-object.ensures c.line_of.ensures
