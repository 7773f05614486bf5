-- What holds of the lines of any requirements text.
use Rattle.std.specs.Prelude.{List, All, map}
use Rattle.std.specs.List.Sorted.{IsStrictlySortedBy}
use Rattle.std.specs.Ordering.{nat_cmp}
use Rattle.pep440_specifier_list.specs.ListReading.{IsReadFromText}
use Rattle.reqtable_requirements.specs.LineSpecifiers.{specifiers_in}
use Rattle.reqtable_requirements.specs.declared.requirements.Line.{Line}

-- the numbers of the lines rise, and each specifier is one that some text is read as
pub record AreRead (lines : List Line) : Type 0 where
  pub rising : IsStrictlySortedBy nat_cmp (map (λ line. line.number) lines)
  pub read : All (λ line. All IsReadFromText (specifiers_in line)) lines
