-- The order of sets is total.
use Rattle.std.specs.Cmp.{IsTotalOrder, back_total, bool_cmp_total}
use Rattle.std.specs.Cmp.Lexicographic.{lists_total}
use Rattle.pep508_cases.specs.Cases.{marks_cmp}

pub marks_total : IsTotalOrder marks_cmp
marks_total = lists_total (back_total bool_cmp_total)
