use Rattle.std.proofs.Common.{sym, ap, ◌∙◌, arith}
use Rattle.std.specs.Str.{chars}
use Rattle.pep508_requirement_text.specs.UrlEnds.{ends_behind}
use Rattle.pep508_requirement_text.proofs.UrlLoops.{shorter, ends_next, goes_next}
use Rattle.pep508_requirement_text.proofs.url_end.read_char.Goals as goal

pub depth_behind-later-requires : goal.depth_behind-later-requires
depth_behind-later-requires c =
    let less = shorter c.args.c c.args.text.now c.args.rest.now c.requires.begins in
    let bound = c.requires.bound in
    omega (arith, less, bound)

pub returns-then-ends_behind : goal.returns-then-ends_behind
returns-then-ends_behind c =
    ends_next c.args.brackets c.args.depth c.args.c c.args.text.now c.args.rest.now c.requires.begins c.requires.plain
    (ap (λ d. ends_behind d c.args.c (chars c.args.rest.now)) (sym c.depth_behind-later.ensures)
    ∙ sym c.ends_behind.ensures ∙ c.if-ends_behind.true)

pub returns-else-ends_behind : goal.returns-else-ends_behind
returns-else-ends_behind c =
    rw c.depth_behind-later.ensures
    (goes_next c.args.brackets c.args.depth c.args.c c.args.text.now c.args.rest.now c.requires.begins c.requires.plain
    (ap (λ d. ends_behind d c.args.c (chars c.args.rest.now)) (sym c.depth_behind-later.ensures)
    ∙ sym c.ends_behind.ensures ∙ c.if-ends_behind.false))
