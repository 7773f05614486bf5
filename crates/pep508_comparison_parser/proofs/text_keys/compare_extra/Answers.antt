use Rattle.std.proofs.Common.{sym, subst, ◌∙◌}
use Rattle.pep508_name.specs.Name.{name_of}
use Rattle.pep508_marker.specs.declared.warnings.MarkerWarningKind.TheVariants.{ExtraInvalidComparison}
use Rattle.pep508_comparison_parser.specs.Compared.{left_out, of_extra, extra_of, extra_compared}
use Rattle.pep508_comparison_parser.specs.Compared.{warned_of_name}
use Rattle.pep508_comparison_parser.specs.Outcome.{IsCompared}
use Rattle.pep508_comparison_parser.proofs.Warned.{if_ok_so, named_then}
use Rattle.pep508_comparison_parser.proofs.text_keys.compare_extra.Goals as goal

pub returns-in-None-clause-said : goal.returns-in-None-clause-said
returns-in-None-clause-said g c =
    let text = c.args.text.now in
    let name = name_of text in
    let takes = g.R.Reporter.takes in
    let old = c.args.reporter.now in
    let new = c.leave_out.new.reporter in
    let none = sym c.from_marker_operator.ensures ∙ c.in-None.is in
    if_ok_so (λ said. IsCompared takes c.name_extra.new.reporter new said (left_out ExtraInvalidComparison))
    (λ said. IsCompared takes old new said (extra_compared c.args.operator text)) c.leave_out.result
    (λ said h. subst (λ found. IsCompared takes old new said (warned_of_name name (of_extra (extra_of name text) found)))
    (sym none) (named_then takes name (left_out ExtraInvalidComparison) old c.name_extra.new.reporter new said
    c.in_ok-name.ensures.named.warned h))
    c.leave_out.ensures.said
