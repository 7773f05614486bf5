use Rattle.std.proofs.Common.{drop, ap, ◌∙◌, rules, tests}
use Rattle.std.specs.Prelude.{reverse}
use Rattle.std.proofs.lemmas.Iterator.{YieldsList-from_slice}
use Rattle.std.proofs.lemmas.Iterator.Adapters.{YieldsList-from_rev_slice}
use Rattle.std.proofs.lemmas.Iterator.Consumers.{count_from_yields_List}
use Rattle.std.proofs.lemmas.Iterator.Search.{YieldsList-from_take_while}
use Rattle.std.proofs.lemmas.List.Folds.{length-prefix_len}
use Rattle.url.specs.Input.{trim_c0_control_and_space, trim_end, is_c0_control_or_space}
use Rattle.pep508_url.proofs.CutTexts.{behind_controls, end_cut}
use Rattle.pep508_url.proofs.scheme.trimmed.Goals as goal

pub range_from-rest-requires : goal.range_from-rest-requires
range_from-rest-requires c =
    let leading = count_from_yields_List c.take_while.result _ c.count-leading.ensures.ran
    (YieldsList-from_take_while _ is_c0_control_or_space (YieldsList-from_slice c.args.text.now (cc))
    c.take_while.ensures.closure c.take_while.ensures.done (λ x b q k. search (rules, tests)))
    ∙ length-prefix_len is_c0_control_or_space c.args.text.now in
    λ some. behind_controls c.args.text.now c.count-leading.result c.utf8.text leading some

pub returns : goal.returns
unfolding trim_c0_control_and_space
returns c =
    let text = c.args.text.now in
    let leading = count_from_yields_List c.take_while.result _ c.count-leading.ensures.ran
    (YieldsList-from_take_while _ is_c0_control_or_space (YieldsList-from_slice text (cc))
    c.take_while.ensures.closure c.take_while.ensures.done (λ x b q k. search (rules, tests)))
    ∙ length-prefix_len is_c0_control_or_space text in
    let rest = drop c.count-leading.result text in
    let trailing = count_from_yields_List c.take_while-2.result _ c.count-trailing.ensures.ran
    (YieldsList-from_take_while _ is_c0_control_or_space (YieldsList-from_rev_slice rest (cc))
    c.take_while-2.ensures.closure c.take_while-2.ensures.done (λ x b q k. search (rules, tests)))
    ∙ length-prefix_len is_c0_control_or_space (reverse rest) in
    c.range.ensures.value
    ∙ end_cut c.range_from-rest.result.now rest c.count-trailing.result _ c.range_from-rest.ensures.value trailing
    ∙ ap (λ n. trim_end is_c0_control_or_space (drop n text)) leading
