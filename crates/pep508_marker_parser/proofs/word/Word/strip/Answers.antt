use Rattle.pep508_error.specs.Cursors.{rest_of}
use Rattle.pep508_marker_parser.specs.TreeReading.{connective}
use Rattle.pep508_marker_parser.proofs.Words.{strips_within, strips, strips_nothing}
use Rattle.pep508_marker_parser.proofs.word.Word.strip.Goals as goal

pub after-requires : goal.after-requires
after-requires c =
    strips_within (connective c.args.self) c.starts_with.result c.text-word.result.now c.rest.result.now
    (rest_of c.args.place) c.text-word.ensures c.rest.ensures c.starts_with.ensures.cases c.if-starts_with.true

pub returns-then-starts_with-clause-found : goal.returns-then-starts_with-clause-found
returns-then-starts_with-clause-found c =
    strips (connective c.args.self) c.starts_with.result c.text-word.result.now c.rest.result.now
    (rest_of c.args.place) c.text-word.ensures c.rest.ensures c.starts_with.ensures.cases
    (rest_of c.after.result) c.if-starts_with.true c.after.ensures.rest

pub returns-else-starts_with-clause-found : goal.returns-else-starts_with-clause-found
returns-else-starts_with-clause-found c =
    strips_nothing (connective c.args.self) c.starts_with.result c.text-word.result.now c.rest.result.now
    (rest_of c.args.place) c.text-word.ensures c.rest.ensures c.starts_with.ensures.cases c.rest.utf8
    c.if-starts_with.false
