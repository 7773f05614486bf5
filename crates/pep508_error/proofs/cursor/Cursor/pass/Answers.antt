use Rattle.std.proofs.lemmas.Str.{IsCharBoundary-at_seam}
use Rattle.pep508_error.specs.Cursors.{rest_of}
use Rattle.pep508_error.proofs.cursor.Cursor.pass.Goals as goal

pub after-requires : goal.after-requires
after-requires c =
    IsCharBoundary-at_seam (rest_of c.args.self) c.args.text.now c.requires.rest c.requires.whole
    c.requires.rest_utf8
