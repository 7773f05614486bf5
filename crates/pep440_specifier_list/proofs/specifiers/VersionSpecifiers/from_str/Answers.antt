use Rattle.std.proofs.lemmas.Result.{err_from_is_err_and}
use Rattle.pep440_specifier_list.specs.ListReading.{told_list}
use Rattle.pep440_specifier_list.proofs.Whole.{empty_is_read, pieces_are_read, fault_is_told}
use Rattle.pep440_specifier_list.proofs.specifiers.VersionSpecifiers.from_str.Goals as goal

pub returns-then-is_empty-clause-answered : goal.returns-then-is_empty-clause-answered
returns-then-is_empty-clause-answered c =
    empty_is_read c.args.text.now c.empty.result (cc) c.empty.ensures

pub returns-in_err-members-clause-answered : goal.returns-in_err-members-clause-answered
returns-in_err-members-clause-answered c =
    let fault =
    fault_is_told c.args.text.now (told_list c.in_err-members.field-0.0) (cc) c.in_err-members.ensures.answered in
    let returned = err_from_is_err_and c.from_residual.result c.from_residual.ensures.1 in rw (returned.1, returned.2) fault

pub returns-in-Ok-clause-answered : goal.returns-in-Ok-clause-answered
returns-in-Ok-clause-answered c =
    pieces_are_read c.args.text.now c.in_ok-members.members.items c.in-Ok.list (cc) c.in_ok-members.ensures.answered
    c.in-Ok.ensures
