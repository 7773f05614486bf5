use Rattle.std.proofs.Common.{map, subst}
use Rattle.std.specs.List.{AllZip}
use Rattle.reqtable_requirements.specs.Copies.{IsLineCopy, lines_among}
use Rattle.reqtable_requirements.proofs.Among.{among_are_read}
use Rattle.reqtable_requirements.proofs.LineCopies.{copies_are_read}
use Rattle.reqtable_requirements.proofs.requirements.copied_packages.Goals as goal

pub invariant_of-result : goal.invariant_of-result
invariant_of-result c =
    let copies = c.in_ok-lines.lines.items in
    let names = map (λ name. name.now) c.args.names.now in
    copies_are_read copies (lines_among names c.requirements.inside.lines.items)
    (subst (λ l. AllZip IsLineCopy copies (lines_among names l)) c.deref.ensures.value c.in_ok-lines.ensures)
    (among_are_read names c.requirements.inside.lines.items c.requirements.invariant)
