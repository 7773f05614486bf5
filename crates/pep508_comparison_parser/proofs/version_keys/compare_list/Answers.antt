use Rattle.std.proofs.Common.{sym, subst}
use Rattle.pep508_marker.specs.declared.warnings.MarkerWarningKind.TheVariants.{Pep440Error}
use Rattle.pep508_comparison_parser.specs.Compared.{of_list, of_specifier, specifier_behind, versions_of}
use Rattle.pep508_comparison_parser.specs.Compared.{runs_of}
use Rattle.pep508_comparison_parser.specs.Outcome.{IsCompared}
use Rattle.pep508_comparison_parser.proofs.Warned.{if_ok_so, warned_then, err_none}
use Rattle.pep508_comparison_parser.proofs.version_keys.compare_list.Goals as goal

pub returns-in_ok-warn-in-Err-clause-said : goal.returns-in_ok-warn-in-Err-clause-said
returns-in_ok-warn-in-Err-clause-said g c =
    let takes = g.R.Reporter.takes in
    let old = c.args.reporter.now in
    let new = c.compare_pattern.new.reporter in
    let otherwise = of_specifier c.args.key (specifier_behind c.args.operator c.args.text.now) in
    let none =
    err_none _ c.in_ok-versions.field-0 c.in-Err.error (versions_of (runs_of c.args.text.now)) c.in_ok-versions.ensures
    c.in-Err.is in
    if_ok_so (λ said. IsCompared takes c.warn.new.reporter new said otherwise)
    (λ said. IsCompared takes old new said
    (of_list c.args.key c.args.negated (versions_of (runs_of c.args.text.now)) otherwise))
    c.compare_pattern.result
    (λ said h. subst (λ found. IsCompared takes old new said (of_list c.args.key c.args.negated found otherwise))
    (sym none) (warned_then takes Pep440Error otherwise old c.warn.new.reporter new said
    c.in_ok-warn-in-Err.ensures.taken h))
    c.compare_pattern.ensures.said
