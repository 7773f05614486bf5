use Rattle.std.proofs.lemmas.List.Sums.{AllPass-from_list_all, list_all-from_AllPass}
use Rattle.pep440_specifier.specs.Matching.{takes}
use Rattle.pep440_specifier_list.proofs.laws.a_list_takes_what_each_member_takes.Goals as goal

pub returns : goal.returns
returns c = λ members candidate. (
  λ h. AllPass-from_list_all (takes candidate) members h,
  λ h. list_all-from_AllPass (takes candidate) members h,
)
