-- Words of terms, and their bits. A term's word is equal for each equal term, and for its negations; its
-- literal word is equal for each equal term.
use Rattle.std.specs.Prelude.{ℕ, ◌+◌, ◌*◌, ◌/◌, ◌%◌, ◌^◌, List, fold}
use Rattle.std.specs.Int.Bits.{bit_or}
use Rattle.std.specs.Option.{option_map_or}
use Rattle.pep440_operator.specs.declared.operator.Operator.{Operator}
use Rattle.pep440_operator.specs.Operators.{negated}
use Rattle.pep440_specifier.specs.SpecifierOrder.{operator_rank}
use Rattle.pep508_marker.specs.Expression.{ExpressionRecord, Version, VersionIn, String, Extra}
use Rattle.pep508_marker.specs.Keys.{version_key_rank, text_key_rank}
use Rattle.pep508_marker.specs.Operators.{marker_negated, extra_negated}
use Rattle.pep508_marker.specs.Values.{extra_text}
use Rattle.pep508_marker.specs.declared.operators.MarkerOperator.{MarkerOperator}
use Rattle.pep508_marker_text_laws.specs.SameTerms.{marker_operator_rank, extra_operator_rank}

-- the odd number next to 2 ^ 64 over the golden ratio: a product with it changes its highest bits where any
-- bit of the word changes
abbrev pub spread : ℕ → ℕ
spread word = word * 11400714819323198485 % 2 ^ 64

-- a word with a number more
abbrev pub with_number : ℕ → ℕ → ℕ
with_number word number = (spread word + number) % 2 ^ 64

-- the word of a text or of a list of numbers that continues a word
abbrev pub word_behind : ℕ → List ℕ → ℕ
word_behind word numbers = fold with_number word numbers

-- the word of a comparison's key and value
abbrev pub term_word : ExpressionRecord → ℕ
term_word (Version key specifier) = word_behind (version_key_rank key) specifier.version.release
term_word (VersionIn key versions negated) = 0
term_word (String key operator text) = word_behind (text_key_rank key) text
term_word (Extra operator asked) = word_behind 0 (extra_text asked)

-- the word of a whole comparison
abbrev pub term_literal : ExpressionRecord → ℕ
term_literal (Version key specifier) =
    with_number (term_word (Version key specifier)) (operator_rank specifier.operator)
term_literal (VersionIn key versions negated) = 0
term_literal (String key operator text) =
    with_number (term_word (String key operator text)) (marker_operator_rank operator)
term_literal (Extra operator asked) =
    with_number (term_word (Extra operator asked)) (extra_operator_rank operator)

-- a word with the negation of an operator; 0 where it has none
abbrev pub negated_word : ℕ → Operator → ℕ
negated_word word operator =
    option_map_or (λ other. with_number word (operator_rank other)) (negated operator) 0

abbrev pub negated_text_word : ℕ → MarkerOperator → ℕ
negated_text_word word operator =
    option_map_or (λ other. with_number word (marker_operator_rank other)) (marker_negated operator) 0

-- the word of a comparison's negation; 0 where it has none
abbrev pub term_negation : ExpressionRecord → ℕ
term_negation (Version key specifier) = negated_word (term_word (Version key specifier)) specifier.operator
term_negation (VersionIn key versions negated) = 0
term_negation (String key operator text) = negated_text_word (term_word (String key operator text)) operator
term_negation (Extra operator asked) =
    with_number (term_word (Extra operator asked)) (extra_operator_rank (extra_negated operator))

-- ---- bits

-- one of 64 bits, named by six bits of a word
abbrev pub bit : ℕ → ℕ → ℕ
bit word from = 2 ^ (word / 2 ^ from % 64)

-- four bits of a value
unfoldable pub value_bits : ℕ → ℕ → ℕ
value_bits word from =
    bit_or
    (bit_or (bit_or (bit (spread word) from) (bit (spread word) (from + 6))) (bit (spread word) (from + 12)))
    (bit (spread word) (from + 18))

-- one of 64 bits of a term
abbrev pub literal_bit : ℕ → ℕ → ℕ
literal_bit word from = bit (spread word) from
