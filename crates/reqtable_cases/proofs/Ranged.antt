-- Specifiers whose ranges decide plain versions have ranges.
use Rattle.std.proofs.Common.{◌≡◌, ◌&&◌, true, List, [], ◌∷◌}
use Rattle.std.proofs.Common.{refl}
use Rattle.std.specs.Option.{is_some}
use Rattle.std.specs.List.{list_all}
use Rattle.pep440_specifier.specs.Matching.{SpecifierRecord}
use Rattle.pep440_range.specs.Agreement.{agrees_beside_posts}
use Rattle.pep440_range.specs.Ranges.{range_of}
use Rattle.pep440_range.proofs.Lists.{both_true}
use Rattle.reqtable_range.specs.Together.{HaveRanges}
use Rattle.reqtable_cases.specs.Usable.{is_ranged}

pub ranged_have : (members : List SpecifierRecord) → list_all is_ranged members ≡ true → HaveRanges members
ranged_have [] h = refl
ranged_have (s ∷ members) h =
    let parts = both_true (is_ranged s) (list_all is_ranged members) h in
    let here = both_true (agrees_beside_posts s.operator s.version) (is_some (range_of s)) parts.0 in
    let rest = ranged_have members parts.1 in
    (λ i. here.1 i && rest i)
