-- The texts of operators.
use Rattle.std.proofs.Common.{◌≡◌, ℕ, ◌<◌, Bool, true, false, if◌then◌else◌, List, length, codes, Option}
use Rattle.std.proofs.Common.{Some, None, refl, sym, subst, arith}
use Rattle.std.proofs.lemmas.Bool.Decides.{nat_tests}
use Rattle.std.proofs.lemmas.Slice.Eq.{bytes_eq-Decides}
use Rattle.std.specs.Char.{is_whitespace}
use Rattle.std.specs.List.{AllByRecursion}
use Rattle.std.specs.Str.{bytes_eq}
use Rattle.pep440_operator.specs.declared.operator.Operator.{Operator}
use Rattle.pep440_operator.specs.declared.operator.Operator.TheVariants.{Equal, EqualStar, ExactEqual}
use Rattle.pep440_operator.specs.declared.operator.Operator.TheVariants.{NotEqual, NotEqualStar, TildeEqual}
use Rattle.pep440_operator.specs.declared.operator.Operator.TheVariants.{LessThan, LessThanEqual}
use Rattle.pep440_operator.specs.declared.operator.Operator.TheVariants.{GreaterThan, GreaterThanEqual}
use Rattle.pep440_operator.specs.Operators.{is_star}
use Rattle.pep440_operator.specs.OperatorPrint.{operator_text}
use Rattle.pep440_operator.specs.OperatorReading.{operator_of, ends_operator}

-- a text is the print of an operator without star
abbrev pub Prints : List ℕ → Operator → Type 0
Prints text operator = (is_star operator ≡ false) × (operator_text operator ≡ text)

word_by : (word text : List ℕ) (one operator : Operator) (others : Option Operator) (t : Bool) → bytes_eq text word ≡ t → Prints word one → (others ≡ Some operator → Prints text operator)
    → (if t then Some one else others) ≡ Some operator → Prints text operator
word_by word text one operator others true e h k o =
    let same : text ≡ word = (bytes_eq-Decides text word).0 e in
    let is : one ≡ operator = cc in
    let P : Operator → Type 0 = λ op. Prints text op in
    let Q : List ℕ → Type 0 = λ bs. Prints bs one in
    subst P is (subst Q (sym same) h)
word_by word text one operator others false e h k o = k o

word : (word text : List ℕ) (one operator : Operator) (others : Option Operator) → Prints word one → (others ≡ Some operator → Prints text operator)
    → (if bytes_eq text word then Some one else others) ≡ Some operator → Prints text operator
word w text one operator others h k o = word_by w text one operator others (bytes_eq text w) refl h k o

-- what is read prints as the text
pub operator_found : (text : List ℕ) (operator : Operator) → operator_of text ≡ Some operator → Prints text operator
unfolding operator_of
operator_found text operator h =
    word (codes "==") text Equal operator _ (refl, refl)
    (word (codes "===") text ExactEqual operator _ (refl, refl)
    (word (codes "!=") text NotEqual operator _ (refl, refl)
    (word (codes "~=") text TildeEqual operator _ (refl, refl)
    (word (codes "<") text LessThan operator _ (refl, refl)
    (word (codes "<=") text LessThanEqual operator _ (refl, refl)
    (word (codes ">") text GreaterThan operator _ (refl, refl)
    (word (codes ">=") text GreaterThanEqual operator None (refl, refl) (λ e. absurd (cc))))))))) h

own_text : (operator : Operator) → is_star operator ≡ false → operator_of (operator_text operator) ≡ Some operator
unfolding operator_of
own_text Equal h = refl
own_text EqualStar h = absurd (cc)
own_text ExactEqual h = refl
own_text NotEqual h = refl
own_text NotEqualStar h = absurd (cc)
own_text TildeEqual h = refl
own_text LessThan h = refl
own_text LessThanEqual h = refl
own_text GreaterThan h = refl
own_text GreaterThanEqual h = refl

-- what an operator prints is read
pub operator_again : (text : List ℕ) (operator : Operator) → Prints text operator → operator_of text ≡ Some operator
operator_again text operator h = let P : List ℕ → Type 0 = λ bs. operator_of bs ≡ Some operator in subst P h.1 (own_text operator h.0)

-- the characters of an operator
pub operator_characters : (operator : Operator) → AllByRecursion (λ c. ends_operator c ≡ false) (operator_text operator)
operator_characters Equal = (refl, (refl, tt))
operator_characters EqualStar = (refl, (refl, tt))
operator_characters ExactEqual = (refl, (refl, (refl, tt)))
operator_characters NotEqual = (refl, (refl, tt))
operator_characters NotEqualStar = (refl, (refl, tt))
operator_characters TildeEqual = (refl, (refl, tt))
operator_characters LessThan = (refl, tt)
operator_characters LessThanEqual = (refl, (refl, tt))
operator_characters GreaterThan = (refl, tt)
operator_characters GreaterThanEqual = (refl, (refl, tt))

pub operator_nonempty : (operator : Operator) → 0 < length (operator_text operator)
operator_nonempty Equal = omega arith
operator_nonempty EqualStar = omega arith
operator_nonempty ExactEqual = omega arith
operator_nonempty NotEqual = omega arith
operator_nonempty NotEqualStar = omega arith
operator_nonempty TildeEqual = omega arith
operator_nonempty LessThan = omega arith
operator_nonempty LessThanEqual = omega arith
operator_nonempty GreaterThan = omega arith
operator_nonempty GreaterThanEqual = omega arith

-- a character of an operator is ASCII and no white space
pub operator_ascii : (c : ℕ) → ends_operator c ≡ false → c < 128
operator_ascii c h = grind (arith, nat_tests)

pub operator_unspaced : (c : ℕ) → ends_operator c ≡ false → is_whitespace c ≡ false
operator_unspaced c h = grind (arith, nat_tests)
