-- The text that an error is about, and the error's print.
use Rattle.std.specs.Prelude.{ℕ, ◌-◌, List, [], ◌++◌, take, drop, codes}
use Rattle.std.specs.String.{string_bytes}
use Rattle.underline.specs.Underline.{columns, underlined}
use Rattle.pep440_specifier.specs.SpecifierErrorPrints.{specifier_error_text}
use Rattle.pep440_specifier_list.specs.declared.refused_piece.RefusedPiece.{RefusedPiece}
use Rattle.pep440_specifier_list.specs.declared.error.VersionSpecifiersParseError.{
  VersionSpecifiersParseError,
}
use Rattle.pep440_specifier_list.specs.declared.error.VersionSpecifiersParseError.TheVariants as errors

-- the text that is not a list; empty for lack of memory
abbrev pub line_of : VersionSpecifiersParseError → List ℕ
line_of errors.Memory = []
line_of (errors.Specifier piece) = string_bytes piece.line

-- the columns of a piece of a line
abbrev pub piece_columns : List ℕ → ℕ → ℕ → ℕ
piece_columns line start end = columns (take (end - start) (drop start line))

-- the line, and under the piece a mark for each of its columns
abbrev pub piece_picture : RefusedPiece → List ℕ
piece_picture piece =
    underlined (string_bytes piece.line) (columns (take piece.start (string_bytes piece.line)))
    (piece_columns (string_bytes piece.line) piece.start piece.end)

-- the print of why a text is not a list: that of its first piece that is not a specifier, and that piece
-- underlined
abbrev pub error_text : VersionSpecifiersParseError → List ℕ
error_text errors.Memory = codes "out of memory"
error_text (errors.Specifier piece) =
    codes "Failed to parse version: "
    ++ (specifier_error_text piece.error ++ (codes ":\n" ++ piece_picture piece))
