-- The prints of the errors of ranges.
use Rattle.std.specs.Prelude.{ℕ, List, codes}
use Rattle.pep440_range.specs.declared.range_error.RangeError.{RangeError}
use Rattle.pep440_range.specs.declared.range_error.RangeError.TheVariants.{NumberAtEnd, Memory}

-- the print of why a specifier has no range
abbrev pub range_error_text : RangeError → List ℕ
range_error_text NumberAtEnd = codes "a version number can't be raised"
range_error_text Memory = codes "out of memory"
