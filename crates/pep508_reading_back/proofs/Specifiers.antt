-- Printed specifiers with bare commas between them are the text of those specifiers.
use Rattle.std.proofs.Common.{◌≡◌, ℕ, ◌<◌, ◌==◌, ◌||◌, Bool, true, false, length, List, [], ◌∷◌, ◌++◌, Ok}
use Rattle.std.proofs.Common.{refl, ap, sym, subst, ◌∙◌, arith, append_assoc}
use Rattle.std.proofs.lemmas.Bool.Decides.{nat_tests}
use Rattle.std.proofs.lemmas.List.{append-nil}
use Rattle.std.specs.Char.{is_whitespace}
use Rattle.std.specs.List.{AllByRecursion, AllZip, join_with_byte, list_all}
use Rattle.std.specs.Prelude.{codes}
use Rattle.std.specs.Str.{IsAscii}
use Rattle.std.proofs.lemmas.Str.Ascii.{IsAscii-nil, IsAscii-cons}
use Rattle.version_ranges.proofs.Membership.{all_append, all_weaker}
use Rattle.pep440_text.specs.Print.{version_text}
use Rattle.pep440_text.specs.Printable.{IsPrintable}
use Rattle.pep440_text.specs.Record.{VersionRecord, PatternRecord}
use Rattle.pep440_text.specs.Reading.{pattern_of}
use Rattle.pep440_text.specs.Text.{IsPatternText}
use Rattle.pep440_text.proofs.Whole.{pattern_read}
use Rattle.pep440_operator.specs.declared.operator.Operator.{Operator}
use Rattle.pep440_operator.specs.declared.operator.Operator.TheVariants.{Equal, EqualStar, ExactEqual}
use Rattle.pep440_operator.specs.declared.operator.Operator.TheVariants.{NotEqual, NotEqualStar, TildeEqual}
use Rattle.pep440_operator.specs.declared.operator.Operator.TheVariants.{LessThan, LessThanEqual, GreaterThan}
use Rattle.pep440_operator.specs.declared.operator.Operator.TheVariants.{GreaterThanEqual}
use Rattle.pep440_operator.specs.Operators.{is_star}
use Rattle.pep440_operator.specs.OperatorPrint.{operator_text, star_text}
use Rattle.pep440_specifier.specs.Building.{IsBuilt, built, built_of_pattern}
use Rattle.pep440_specifier.specs.Matching.{SpecifierRecord}
use Rattle.pep440_specifier.specs.SpecifierPrint.{specifier_text}
use Rattle.pep440_specifier.specs.SpecifierText.{AreSpaces, IsSpecifierText}
use Rattle.pep440_specifier_list.specs.ListText.{AreSpecifierTexts, list_value_text}
use Rattle.pep508_reading_back.specs.Readable.{IsPrintableSpecifier}
use Rattle.pep508_reading_back.proofs.Plain.{is_plain, Plain, all_from, ascii_chars}
use Rattle.pep508_reading_back.proofs.Patterns.{plain_append, plain_version, version_pattern, star_pattern}
use Rattle.pep508_reading_back.proofs.Comparisons.{built_is, pattern_says, plain_star}

-- ---- one specifier

-- the operator without its star, and the pattern behind it
record IsSaidBy (specifier : SpecifierRecord) (written : List ℕ) : Type 0 where
  operator : Operator
  pattern : PatternRecord
  same : operator_text specifier.operator ≡ operator_text operator
  starless : is_star operator ≡ false
  is_pattern : IsPatternText written pattern
  builds : built_of_pattern operator pattern ≡ Ok specifier

module _ (version : VersionRecord) (i : IsPrintable version) where
  abbrev made : Operator → SpecifierRecord
  made operator = record { operator = operator; version = version }

  plain_said : (operator : Operator) → is_star operator ≡ false → IsBuilt (made operator) →
      IsSaidBy (made operator) (version_text version ++ [])
  plain_said operator star b = record {
    operator = operator;
    pattern = record { version = version; wildcard = false };
    same = refl;
    starless = star;
    is_pattern = (pattern_read (version_text version ++ []) (record { version = version; wildcard = false })).0
        (ap pattern_of (append-nil (version_text version)) ∙ version_pattern version i);
    builds = built_is operator version b;
  }

  star_said : (operator starred : Operator) → operator_text starred ≡ operator_text operator →
      is_star operator ≡ false → is_star starred ≡ true →
      built_of_pattern operator (record { version = version; wildcard = true }) ≡ built starred version →
      IsBuilt (made starred) → IsSaidBy (made starred) (version_text version ++ codes ".*")
  star_said operator starred same none star builds b = record {
    operator = operator;
    pattern = record { version = version; wildcard = true };
    same = same;
    starless = none;
    is_pattern = (pattern_read (version_text version ++ codes ".*") (record { version = version; wildcard = true })).0
        (star_pattern version i (b.star star));
    builds = builds ∙ built_is starred version b;
  }

  said_by : (operator : Operator) → IsBuilt (made operator) →
      IsSaidBy (made operator) (pattern_says operator version)
  said_by Equal b = plain_said Equal refl b
  said_by EqualStar b = star_said Equal EqualStar refl refl refl refl b
  said_by ExactEqual b = plain_said ExactEqual refl b
  said_by NotEqual b = plain_said NotEqual refl b
  said_by NotEqualStar b = star_said NotEqual NotEqualStar refl refl refl refl b
  said_by TildeEqual b = plain_said TildeEqual refl b
  said_by LessThan b = plain_said LessThan refl b
  said_by LessThanEqual b = plain_said LessThanEqual refl b
  said_by GreaterThan b = plain_said GreaterThan refl b
  said_by GreaterThanEqual b = plain_said GreaterThanEqual refl b

-- ---- characters

-- what stands in lists of specifiers: letters, digits, signs, commas and blanks
abbrev pub is_listed : ℕ → Bool
is_listed b =
    is_plain b || (b == 60 || (b == 61 || (b == 62 || (b == 126 || (b == 44 || b == 32)))))

abbrev pub Listed : List ℕ → Type 0
Listed = AllByRecursion (λ b. is_listed b ≡ true)

plain_listed : (b : ℕ) → is_plain b ≡ true → is_listed b ≡ true
plain_listed b h = ap (λ t. t || (b == 60 || (b == 61 || (b == 62 || (b == 126 || (b == 44 || b == 32)))))) h

listed_below : (b : ℕ) → is_listed b ≡ true → b < 128
listed_below b h = grind (arith, nat_tests)

listed_unended : (b : ℕ) → is_listed b ≡ true → (b == 59) ≡ false
listed_unended b h = grind (arith, nat_tests)

pub plain_are_listed : (bs : List ℕ) → Plain bs → Listed bs
plain_are_listed = all_weaker (λ b. is_plain b ≡ true) (λ b. is_listed b ≡ true) plain_listed

pub listed_ascii : (bs : List ℕ) → Listed bs → IsAscii bs
listed_ascii [] h = IsAscii-nil
listed_ascii (b ∷ bs) h = IsAscii-cons b bs (listed_below b h.0) (listed_ascii bs h.1)

pub listed_no_end : (bs : List ℕ) → Listed bs → AllByRecursion (λ b. (b == 59) ≡ false) bs
listed_no_end = all_weaker (λ b. is_listed b ≡ true) (λ b. (b == 59) ≡ false) listed_unended

pub listed_append : (xs ys : List ℕ) → Listed xs → Listed ys → Listed (xs ++ ys)
listed_append xs ys h k = all_append (λ b. is_listed b ≡ true) xs ys h k

listed_from : (bs : List ℕ) → list_all is_listed bs ≡ true → Listed bs
listed_from = all_from is_listed

signs_listed : (operator : Operator) → Listed (operator_text operator)
signs_listed Equal = listed_from (codes "==") refl
signs_listed EqualStar = listed_from (codes "==") refl
signs_listed ExactEqual = listed_from (codes "===") refl
signs_listed NotEqual = listed_from (codes "!=") refl
signs_listed NotEqualStar = listed_from (codes "!=") refl
signs_listed TildeEqual = listed_from (codes "~=") refl
signs_listed LessThan = listed_from (codes "<") refl
signs_listed LessThanEqual = listed_from (codes "<=") refl
signs_listed GreaterThan = listed_from (codes ">") refl
signs_listed GreaterThanEqual = listed_from (codes ">=") refl

pub pattern_plain : (specifier : SpecifierRecord) → IsPrintableSpecifier specifier →
    Plain (pattern_says specifier.operator specifier.version)
pattern_plain specifier h =
    plain_append (version_text specifier.version) (star_text specifier.operator)
    (plain_version specifier.version h.printable) (plain_star specifier.operator)

in_order : (signs version star : List ℕ) → signs ++ version ++ star ≡ signs ++ (version ++ star)
in_order signs version star = simp append_assoc

specifier_listed : (specifier : SpecifierRecord) → IsPrintableSpecifier specifier →
    Listed (specifier_text specifier)
specifier_listed specifier h =
    subst Listed
    (sym (in_order (operator_text specifier.operator) (version_text specifier.version) (star_text specifier.operator)))
    (listed_append (operator_text specifier.operator) (pattern_says specifier.operator specifier.version)
    (signs_listed specifier.operator)
    (plain_are_listed (pattern_says specifier.operator specifier.version) (pattern_plain specifier h)))

plain_unspaced : (b : ℕ) → is_plain b ≡ true → is_whitespace b ≡ false
plain_unspaced b h = grind (arith, nat_tests)

-- ---- a specifier with blanks behind it

-- blanks alone, none of another script
pub record AreBlanks (blanks : List ℕ) : Type 0 where
  pub spaces : AreSpaces blanks
  pub listed : Listed blanks

spread : (signs version star blanks : List ℕ) →
    (signs ++ version ++ star) ++ blanks ≡ signs ++ ((version ++ star) ++ blanks)
spread signs version star blanks = simp append_assoc

specifier_is : (specifier : SpecifierRecord) (blanks : List ℕ) → IsPrintableSpecifier specifier → AreBlanks blanks →
    IsSpecifierText (specifier_text specifier ++ blanks) specifier
specifier_is specifier blanks h b =
    let written = pattern_says specifier.operator specifier.version in
    let said : IsSaidBy specifier written =
    said_by specifier.version h.printable specifier.operator h.built in
    let ascii : IsAscii (specifier_text specifier ++ blanks) =
    listed_ascii (specifier_text specifier ++ blanks)
    (listed_append (specifier_text specifier) blanks (specifier_listed specifier h) b.listed) in
    record {
      before = [];
      operator = said.operator;
      between = [];
      written = written;
      pattern = said.pattern;
      after = blanks;
      split = ascii_chars (specifier_text specifier ++ blanks) ascii
          ∙ spread (operator_text specifier.operator) (version_text specifier.version)
          (star_text specifier.operator) blanks
          ∙ ap (λ signs. signs ++ (written ++ blanks)) said.same;
      spaces_before = tt;
      starless = said.starless;
      spaces_between = tt;
      is_pattern = said.is_pattern;
      unspaced = all_weaker (λ c. is_plain c ≡ true) (λ c. is_whitespace c ≡ false) plain_unspaced written
          (pattern_plain specifier h);
      spaces_after = b.spaces;
      builds = said.builds;
    }

-- ---- lists

-- the pieces, with blanks behind the last
abbrev pieces_before : List ℕ → List SpecifierRecord → List (List ℕ)
pieces_before blanks [] = []
pieces_before blanks (specifier ∷ []) = (specifier_text specifier ++ blanks) ∷ []
pieces_before blanks (specifier ∷ next ∷ given) = specifier_text specifier ∷ pieces_before blanks (next ∷ given)

pieces_joined : (blanks : List ℕ) (specifier : SpecifierRecord) (given : List SpecifierRecord) →
    list_value_text (specifier ∷ given) ++ blanks ≡ join_with_byte 44 (pieces_before blanks (specifier ∷ given))
pieces_joined blanks specifier [] = refl
pieces_joined blanks specifier (next ∷ []) =
    append_assoc (specifier_text specifier) (44 ∷ specifier_text next) blanks
pieces_joined blanks specifier (next ∷ other ∷ given) =
    append_assoc (specifier_text specifier) (44 ∷ list_value_text (next ∷ other ∷ given)) blanks
    ∙ ap (λ text. specifier_text specifier ++ (44 ∷ text)) (pieces_joined blanks next (other ∷ given))

no_blanks : AreBlanks []
no_blanks = record { spaces = tt; listed = tt }

pieces_are : (blanks : List ℕ) (given : List SpecifierRecord) → AllByRecursion IsPrintableSpecifier given →
    AreBlanks blanks → AllZip IsSpecifierText (pieces_before blanks given) given
pieces_are blanks [] h b = tt
pieces_are blanks (specifier ∷ []) h b = (specifier_is specifier blanks h.0 b, tt)
pieces_are blanks (specifier ∷ next ∷ given) h b = (
  subst (λ text. IsSpecifierText text specifier) (append-nil (specifier_text specifier))
      (specifier_is specifier [] h.0 no_blanks),
  pieces_are blanks (next ∷ given) h.1 b,
)

pieces_some : (blanks : List ℕ) (given : List SpecifierRecord) → 0 < length given →
    0 < length (pieces_before blanks given)
pieces_some blanks [] h = absurd (omega arith)
pieces_some blanks (specifier ∷ []) h = omega arith
pieces_some blanks (specifier ∷ next ∷ given) h = omega arith

pub list_is : (blanks : List ℕ) (given : List SpecifierRecord) → 0 < length given →
    AllByRecursion IsPrintableSpecifier given → AreBlanks blanks →
    AreSpecifierTexts (list_value_text given ++ blanks) given
list_is blanks [] some h b = absurd (omega arith)
list_is blanks (specifier ∷ given) some h b = record {
  pieces = pieces_before blanks (specifier ∷ given);
  joined = pieces_joined blanks specifier given;
  are_specifiers = pieces_are blanks (specifier ∷ given) h b;
  nonempty = pieces_some blanks (specifier ∷ given) some;
}

pub list_listed : (given : List SpecifierRecord) → AllByRecursion IsPrintableSpecifier given →
    Listed (list_value_text given)
list_listed [] h = tt
list_listed (specifier ∷ []) h = specifier_listed specifier h.0
list_listed (specifier ∷ next ∷ given) h =
    listed_append (specifier_text specifier) (44 ∷ list_value_text (next ∷ given)) (specifier_listed specifier h.0)
    (refl, list_listed (next ∷ given) h.1)
