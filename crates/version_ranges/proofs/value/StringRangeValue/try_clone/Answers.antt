use Rattle.std.proofs.Common.{◌∙◌, ap}
use Rattle.std.proofs.lemmas.Result.{IfOk-weaker}
use Rattle.std.specs.Cmp.{tied_itself}
use Rattle.std.specs.Cmp.Lexicographic.{slice_cmp, nat_list_cmp_total}
use Rattle.std.specs.Ordering.{nat_cmp}
use Rattle.std.specs.String.{string_bytes}
use Rattle.version_ranges.proofs.value.StringRangeValue.try_clone.Goals as goal

pub returns : goal.returns
returns c =
    IfOk-weaker c.from_str.result _ _
    (λ copy h. ap (λ bytes. slice_cmp nat_cmp bytes (string_bytes c.args.self.now))
    (h ∙ c.as_str.ensures.value) ∙ tied_itself nat_list_cmp_total (string_bytes c.args.self.now))
    c.from_str.ensures.ok
