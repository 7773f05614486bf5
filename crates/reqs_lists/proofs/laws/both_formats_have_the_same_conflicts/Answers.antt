use Rattle.std.proofs.Common.{◌∙◌, Ok, ap, subst, sym}
use Rattle.reqtable_conflicts.specs.Contradictions.{FindsConflicts}
use Rattle.reqs_json.specs.Lines.{line_of}
use Rattle.reqs_lists.specs.Contradictions.{conflicts_value}
use Rattle.reqs_lists.specs.Lists.{one_list}
use Rattle.reqs_lists.proofs.Given.{read_once}
use Rattle.reqs_lists.proofs.OneConflicts.{one_list_of_conflicts}
use Rattle.reqs_lists.proofs.laws.both_formats_have_the_same_conflicts.Goals as goal

pub returns : goal.returns
returns c = λ limit vars inputs ended other text object a b.
    let read = read_once (one_list vars inputs) b.0 a.0 b.1 a.1 in
    let one = a.2.1 in
    let also = b.2.1 in
    let found = subst (λ l. FindsConflicts (λ all. all) limit l (Ok also.0)) read also.1 in
    let same = one_list_of_conflicts limit a.0 also.0 one.0 found one.1 in (
      a.2.0 ∙ sym b.2.0,
      (
        a.0,
        a.1,
        (one.0, one.1, one.2, also.2 ∙ ap (λ conflicts. line_of (conflicts_value conflicts)) same),
      ),
    )
