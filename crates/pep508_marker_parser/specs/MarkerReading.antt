-- The reading of a marker's text: a formula and the warnings of its comparisons, or why there is none (PEP
-- 508, "Grammar").
use Rattle.std.specs.Prelude.{ℕ, suc, zero, ◌==◌, Bool, true, if◌then◌else◌, List, [], ◌∷◌, ◌++◌, length}
use Rattle.std.specs.Prelude.{codes}
use Rattle.std.specs.Prelude.{Option, Some, None, Result, Ok, Err, encode_utf8_all}
use Rattle.std.specs.Char.{is_whitespace}
use Rattle.std.specs.Str.{skip_leading_whitespace, bytes_eq}
use Rattle.pep508_marker.specs.declared.warnings.MarkerWarningKind.{MarkerWarningKind}
use Rattle.pep508_marker.specs.Expression.{ExpressionRecord}
use Rattle.pep508_expression.specs.Expressions.{has_points}
use Rattle.pep508_comparison_parser.specs.Compared.{Compared}
use Rattle.pep508_comparison_parser.specs.SideReading.{Refused, Malformed, AtEnd, TooDeep, Reading}
use Rattle.pep508_error.specs.Steps.{◌>>=◌}
use Rattle.pep508_comparison_parser.specs.SideReading.{compared_at, if_end}
use Rattle.pep508_error.specs.Cuts.{cut_before}
use Rattle.pep508_marker_parser.specs.Formula.{Formula, Says, LeftOut, Both, Either}

-- a marker's formula, and the kinds of its warnings, in their order
pub record Marker : Type 0 where
  pub formula : Formula ExpressionRecord
  pub warned : List MarkerWarningKind

-- ---- comparisons

abbrev pub of_said : Option ExpressionRecord → List MarkerWarningKind → List ℕ → Reading Marker
of_said None warned rest = Ok (record { formula = LeftOut; warned = warned }, rest)
of_said (Some expression) warned rest =
    if has_points expression
    then Ok (record { formula = Says expression; warned = warned }, rest)
    else Err AtEnd

abbrev pub of_compared : Compared × List ℕ → Reading Marker
of_compared found = of_said found.0.said found.0.warned found.1

-- two sides and an operator between them, of which no number is too great
unfoldable pub comparison_at : List ℕ → Reading Marker
comparison_at cs = compared_at cs >>= of_compared

-- ---- formulas

-- a word that joins two formulas, and their joined formula
pub data Connective : Type 0 where
  And : Connective
  Or : Connective

abbrev pub word_of : Connective → List ℕ
word_of And = codes "and"
word_of Or = codes "or"

abbrev pub made_of : Connective → Formula ExpressionRecord → Formula ExpressionRecord
    → Formula ExpressionRecord
made_of And f g = Both f g
made_of Or f g = Either f g

abbrev pub join_with : Connective → Marker → Marker → Marker
join_with word first next = record {
  formula = made_of word first.formula next.formula;
  warned = first.warned ++ next.warned;
}

-- the run of characters that are not white space, and those after it
abbrev pub run_at : List ℕ → List ℕ × List ℕ
run_at cs = cut_before is_whitespace cs

-- a run ends before these characters: none is left, or white space is first
abbrev pub run_ends : List ℕ → Bool
run_ends [] = true
run_ends (c ∷ cs) = is_whitespace c

-- whether the next run is the word, and the characters after it
abbrev pub is_next : Connective → List ℕ → Bool
is_next word cs = bytes_eq (encode_utf8_all (run_at (skip_leading_whitespace cs)).0) (word_of word)

abbrev pub behind_run : List ℕ → List ℕ
behind_run cs = (run_at (skip_leading_whitespace cs)).1

-- the further parts that the word joins, at most `count` of them
abbrev pub more_at : Connective → (List ℕ → Reading Marker) → ℕ → Marker × List ℕ → Reading Marker
more_at word read zero found = Ok found
more_at word read (suc count) found =
    if is_next word found.1
    then (read (behind_run found.1)
    >>= λ next. more_at word read count (join_with word found.0 next.0, next.1))
    else Ok (found.0, skip_leading_whitespace found.1)

-- parts with a word between each two
abbrev pub joined_at : Connective → (List ℕ → Reading Marker) → List ℕ → Reading Marker
joined_at word read cs = read cs >>= more_at word read (length cs)

abbrev pub closed : Marker × List ℕ → Reading Marker
closed (marker, []) = Err Malformed
closed (marker, c ∷ cs) = if c == 41 then Ok (marker, cs) else Err Malformed

-- a comparison, or a formula in brackets, which `inner` reads
abbrev pub part_of : (List ℕ → Reading Marker) → List ℕ → Reading Marker
part_of inner [] = Err Malformed
part_of inner (c ∷ cs) = if c == 40 then inner cs >>= closed else comparison_at (c ∷ cs)

abbrev pub part_at : (List ℕ → Reading Marker) → List ℕ → Reading Marker
part_at inner cs = part_of inner (skip_leading_whitespace cs)

abbrev pub either_at : (List ℕ → Reading Marker) → List ℕ → Reading Marker
either_at inner cs = joined_at Or (joined_at And (part_at inner)) cs

-- a formula whose brackets nest at most `depth` deep
abbrev pub formula_at : ℕ → List ℕ → Reading Marker
formula_at zero cs = either_at (λ inside. Err TooDeep) cs
formula_at (suc depth) cs = either_at (formula_at depth) cs

-- the marker that some characters are
unfoldable pub marker_at : List ℕ → Result Marker Refused
marker_at cs = formula_at 256 cs >>= if_end
