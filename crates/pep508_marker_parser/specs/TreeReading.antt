-- The reading of brackets that nest to a depth, and the truth of joined pieces.
use Rattle.std.specs.Prelude.{ℕ, suc, zero, Bool, ◌&&◌, ◌||◌, List, [], ◌∷◌, Option, Some, None, Err}
use Rattle.pep508_comparison_parser.specs.SideReading.{Reading, TooDeep}
use Rattle.pep508_marker_parser.specs.declared.word.Word.{Word}
use Rattle.pep508_marker_parser.specs.declared.word.Word.TheVariants as words
use Rattle.pep508_marker_parser.specs.Formula.{joined}
use Rattle.pep508_marker_parser.specs.MarkerReading.{Marker, Connective, And, Or, part_at, joined_at}
use Rattle.pep508_marker_parser.specs.MarkerReading.{formula_at}

-- ---- readings

-- the text in brackets, where brackets nest at most `depth` deep
abbrev pub inner_at : ℕ → List ℕ → Reading Marker
inner_at zero = λ inside. Err TooDeep
inner_at (suc depth) = formula_at depth

-- the pieces that a word joins
abbrev pub piece_at : Connective → ℕ → List ℕ → Reading Marker
piece_at And depth = part_at (inner_at depth)
piece_at Or depth = joined_at And (part_at (inner_at depth))

-- pieces with the word between each two
abbrev pub chain_at : Connective → ℕ → List ℕ → Reading Marker
chain_at word depth = joined_at word (piece_at word depth)

abbrev pub connective : Word → Connective
connective words.And = And
connective words.Or = Or

-- ---- truths

abbrev pub joins : Connective → Bool → Bool → Bool
joins And = λ a b. a && b
joins Or = λ a b. a || b

-- the truth of pieces with the word between them, if there are any
abbrev pub chain_truth : Connective → List Bool → Option Bool
chain_truth word [] = None
chain_truth word (b ∷ bs) = joined (joins word) (Some b) (chain_truth word bs)

abbrev pub listed : {A : Type 0} → Option A → List A
listed None = []
listed (Some a) = a ∷ []
