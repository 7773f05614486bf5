use Rattle.std.proofs.lemmas.Result.{IfOk-weaker}
use Rattle.pep440_version.specs.OrderLaws.{equal_records}
use Rattle.pep440_version.proofs.range_value.VersionRangeValue.try_clone.Goals as goal

pub returns : goal.returns
returns c = IfOk-weaker c.try_clone.result _ _ (λ copy same. equal_records copy c.args.self.now same) c.try_clone.ensures
