use Rattle.std.proofs.Common.{◌∙◌, ap, subst, sym}
use Rattle.reqtable_normal.specs.Normalized.{IsNormalText}
use Rattle.reqtable_normal.proofs.Alike.{one_text}
use Rattle.reqs_json.specs.Lines.{line_of}
use Rattle.reqs_lists.specs.Lists.{one_list}
use Rattle.reqs_lists.specs.Normal.{normal_value}
use Rattle.reqs_lists.proofs.Given.{read_once}
use Rattle.reqs_lists.proofs.laws.both_formats_have_the_same_normal_text.Goals as goal

pub returns : goal.returns
returns c = λ vars inputs ended other text object a b.
    let read = read_once (one_list vars inputs) b.0 a.0 b.1 a.1 in
    let one = a.2.1 in
    let also = b.2.1 in
    let shown : IsNormalText a.0 text = subst (IsNormalText a.0) (sym one.2) one.1 in
    let same = one_text a.0 also.0 text (subst (λ l. IsNormalText l also.0) read also.1) shown in
    (a.2.0 ∙ sym b.2.0, (a.0, a.1, (shown, also.2 ∙ ap (λ t. line_of (normal_value t)) same)))
