use Rattle.std.proofs.Common.{◌≡◌, subst, rules}
use Rattle.std.proofs.lemmas.Result.{on_err_weaker}
use Rattle.pep440_specifier_list.specs.Refusals.{IsRefusal}
use Rattle.pep440_specifier_list.proofs.counted.CountedSpecifiers.contains_counted.Goals as goal

pub returns-clause-refusal : goal.returns-clause-refusal
returns-clause-refusal c =
    let same : c.as_slice.result.now ≡ c.args.self.now.members = cc in
    on_err_weaker c.ask-asking.result.answer
    (λ refusal. (c.ask-asking.result.asked, subst (λ members. IsRefusal members c.args.version.now c.ask-asking.result.asked) same refusal, search rules))
    c.ask-asking.ensures.refusal
