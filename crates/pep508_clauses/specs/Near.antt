-- Which clauses can matter to a clause: those that have no bits of values but its own, and of terms no more
-- than one other of each kind. Of these can cover it those that have no bits of terms but its own, and spare
-- a term those with no others but the negation's.
use Rattle.std.specs.Prelude.{ℕ, ◌==◌, ◌&&◌, Bool, List, fold, nat_le, count_ones}
use Rattle.std.specs.Int.Bits.{bit_or, bit_xor}
use Rattle.pep508_clauses.specs.declared.bits.Bits.{Bits}
use Rattle.pep508_clauses.specs.declared.bits.Literals.{Literals}
use Rattle.pep508_clauses.specs.Words.{value_bits, literal_bit}

-- the bits of all terms
abbrev pub joined : {T : Type 0} → (T → ℕ) → List T → ℕ
joined bits terms = fold (λ all term. bit_or all (bits term)) 0 terms

-- whether bits have all of others
abbrev pub is_within : ℕ → ℕ → Bool
is_within own other = bit_or other own == own

-- whether bits have all of others, but for one at most
abbrev pub is_within_but_one : ℕ → ℕ → Bool
is_within_but_one own other = nat_le (count_ones (bit_xor (bit_or other own) own)) 1

-- ---- bits of terms

-- whether a clause has all bits of another's terms
abbrev pub have_literals : Literals → Literals → Bool
have_literals own other = is_within own.first other.first && is_within own.second other.second

-- or all but one of each kind
abbrev pub nearly_have_literals : Literals → Literals → Bool
nearly_have_literals own other =
    is_within_but_one own.first other.first && is_within_but_one own.second other.second

-- with those of a word
abbrev pub with_literal : Literals → ℕ → Literals
with_literal own word =
    record {
      first = bit_or own.first (literal_bit word 58);
      second = bit_or own.second (literal_bit word 52);
    }

-- those of all terms
abbrev pub literals_of : {T : Type 0} → (T → ℕ) → List T → Literals
literals_of literal clause =
    record {
      first = joined (λ term. literal_bit (literal term) 58) clause;
      second = joined (λ term. literal_bit (literal term) 52) clause;
    }

-- ---- all bits

-- whether a clause has all bits of another's values
abbrev pub have_values : Bits → Bits → Bool
have_values own other = is_within own.values other.values && is_within own.more_values other.more_values

-- and nearly all of its terms
abbrev pub are_near : Bits → Bits → Bool
are_near own other = have_values own other && nearly_have_literals own.literals other.literals

-- and all of its terms
abbrev pub may_stand_in : Bits → Bits → Bool
may_stand_in own other = have_values own other && have_literals own.literals other.literals

module _ {T : Type 0} (word literal : T → ℕ) where
  -- the bits of a clause
  abbrev pub bits_of : List T → Bits
  bits_of clause =
      record {
        values = joined (λ term. value_bits (word term) 40) clause;
        more_values = joined (λ term. value_bits (word term) 16) clause;
        literals = literals_of literal clause;
      }

  -- whether another clause can make a term of a clause needless, as far as bits show
  abbrev pub is_near : List T → List T → Bool
  is_near clause other = are_near (bits_of clause) (bits_of other)

  -- whether another clause can cover a clause, as far as bits show
  abbrev pub may_cover : List T → List T → Bool
  may_cover clause other = may_stand_in (bits_of clause) (bits_of other)
