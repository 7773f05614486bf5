use Rattle.std.proofs.Common.{rules}
use Rattle.std.proofs.lemmas.List.Sorted.{answers_always, ranks_by}
use Rattle.std.specs.Ordering.{is_lt}
use Rattle.pep440_version.specs.Order.{version_cmp}
use Rattle.pep440_version.specs.OrderLaws.{version_cmp_total}
use Rattle.pep440_specifier.specs.Matching.{SpecifierRecord}
use Rattle.pep440_specifier_list.proofs.specifiers.VersionSpecifiers.from_specifiers.Goals as goal

pub invariant_of-result : goal.invariant_of-result
invariant_of-result c =
    c.in_ok-sort_by.ensures.sorted (λ a b. is_lt (version_cmp a.version b.version)) (ranks_by version_cmp_total (λ (s : SpecifierRecord). s.version)) (answers_always _ _ _ (λ f a r g h. search rules))

pub returns : goal.returns
returns c = record {
  sorted = c.in_ok-sort_by.ensures.sorted (λ a b. is_lt (version_cmp a.version b.version)) (ranks_by version_cmp_total (λ (s : SpecifierRecord). s.version)) (answers_always _ _ _ (λ f a r g h. search rules));
  stable = c.in_ok-sort_by.ensures.stable (λ a b. is_lt (version_cmp a.version b.version)) (ranks_by version_cmp_total (λ (s : SpecifierRecord). s.version)) (answers_always _ _ _ (λ f a r g h. search rules));
}
