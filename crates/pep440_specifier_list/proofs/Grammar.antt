-- What is read is the text of a list, and the text of a list is read.
use Rattle.std.proofs.Common.{◌≡◌, ◌≢◌, ℕ, ◌<◌, ◌==◌, ◌↔◌, ◌&&◌, not, cond, Bool, true, false}
use Rattle.std.proofs.Common.{List, [], ◌∷◌, ◌++◌, length, get_or, All, Some, inl, inr, refl, ap}
use Rattle.std.proofs.Common.{sym, subst, ◌∙◌, length-append, arith, lit<}
use Rattle.std.proofs.lemmas.Bool.Decides.{nat_tests}
use Rattle.std.proofs.lemmas.List.{get_or_default}
use Rattle.std.proofs.lemmas.List.Splits.{slice_split_none, slice_split_at, join_with_byte-slice_split}
use Rattle.std.proofs.lemmas.Str.{encodes-chars, IsUtf8-take}
use Rattle.std.proofs.lemmas.Str.Pattern.{NoCharPasses-char}
use Rattle.std.specs.Cmp.{tied_itself}
use Rattle.std.specs.Ordering.{is_lt}
use Rattle.std.specs.List.{AllZip, AllByRecursion, join_with_byte, filter}
use Rattle.std.specs.List.Sorted.{ties}
use Rattle.std.specs.Str.{IsUtf8, chars}
use Rattle.pep440_version.specs.Order.{version_cmp}
use Rattle.pep440_version.specs.OrderLaws.{version_cmp_total}
use Rattle.pep440_operator.specs.declared.operator.Operator.{Operator}
use Rattle.pep440_operator.specs.declared.operator.Operator.TheVariants as operators
use Rattle.pep440_specifier.specs.Matching.{SpecifierRecord}
use Rattle.pep440_operator.specs.OperatorPrint.{operator_text}
use Rattle.pep440_specifier.specs.SpecifierText.{IsSpecifierText}
use Rattle.pep440_specifier.specs.SpecifierReading.{specifier_of}
use Rattle.pep440_specifier_list.specs.Lists.{IsInOrder}
use Rattle.pep440_specifier_list.specs.ListText.{IsSpecifierListText}
use Rattle.pep440_specifier_list.specs.ListReading.{pieces_of, specifiers_of}
use Rattle.pep440_specifier_list.proofs.Commas.{NoComma, specifier}
use Rattle.pep440_specifier_list.proofs.Pieces.{all_read, first_and_others, with_both, some_piece}
use Rattle.pep440_specifier_list.proofs.Places.{front_of, before_comma, behind_comma}
use Rattle.pep440_specifier_list.proofs.Whole.{nil_when, whole, nothing_read, nothing_in_order}

-- a text is read as a specifier exactly where it is the text of that specifier
abbrev pub SpecifierLaw : Type 0
SpecifierLaw = (text : List ℕ) (specifier : SpecifierRecord) → IsUtf8 text → (specifier_of text ≡ Some specifier) ↔ IsSpecifierText text specifier

-- ---- pieces of a text

-- pieces of a text are texts
pub utf8_pieces : (pieces : List (List ℕ)) → IsUtf8 (join_with_byte 44 pieces) → AllByRecursion IsUtf8 pieces
utf8_pieces [] u = tt
utf8_pieces (p ∷ []) u = (u, tt)
utf8_pieces (p ∷ q ∷ ps) u =
    let rest = join_with_byte 44 (q ∷ ps) in (
      subst IsUtf8 (front_of p (44 ∷ rest)) (IsUtf8-take (p ++ 44 ∷ rest) (length p) u (before_comma p rest)),
      utf8_pieces (q ∷ ps) (behind_comma p rest u),
    )

other : (c : ℕ) → c ≢ 44 → (c == 44) ≡ false
other c h = grind (arith, nat_tests)

-- characters without a comma are written in bytes without one
no_comma_bytes : (text : List ℕ) → IsUtf8 text → NoComma (chars text) → All (λ b. (b == 44) ≡ false) text
no_comma_bytes text u n k d within =
    subst (λ b. (b == 44) ≡ false) (get_or_default text k 0 d within) (other (get_or text k 0) (NoCharPasses-char 44 text k (chars text, encodes-chars text u, n) (lit< tt) within))

-- so cutting at commas gives the pieces back
split_joined : (pieces : List (List ℕ)) (members : List SpecifierRecord) → 0 < length pieces → AllByRecursion IsUtf8 pieces → AllZip IsSpecifierText pieces members → pieces_of (join_with_byte 44 pieces) ≡ pieces
split_joined [] members some u h = absurd (omega arith)
split_joined (p ∷ ps) [] some u h = absurd h
split_joined (p ∷ []) (m ∷ ms) some u h = slice_split_none (λ b. b == 44) p (no_comma_bytes p u.0 (specifier p m h.0))
split_joined (p ∷ q ∷ ps) (m ∷ ms) some u h =
    slice_split_at (λ b. b == 44) p 44 (join_with_byte 44 (q ∷ ps)) (no_comma_bytes p u.0 (specifier p m h.0)) refl
    ∙ ap (λ pieces. p ∷ pieces) (split_joined (q ∷ ps) ms (omega arith) u.1 h.1)

-- ---- members

module _ (law : SpecifierLaw) where
  found_pieces : (pieces : List (List ℕ)) (given : List SpecifierRecord) → AllByRecursion IsUtf8 pieces → all_read pieces ≡ Some given → AllZip IsSpecifierText pieces given
  found_pieces [] [] u h = tt
  found_pieces [] (m ∷ ms) u h = absurd (cc)
  found_pieces (p ∷ ps) given u h =
      let are = first_and_others (specifier_of p) (all_read ps) given h in
      subst (AllZip IsSpecifierText (p ∷ ps)) (sym are.members_are) ((law p are.member u.0).0 are.first_is, found_pieces ps are.more u.1 are.others_are)

  again_pieces : (pieces : List (List ℕ)) (given : List SpecifierRecord) → AllByRecursion IsUtf8 pieces → AllZip IsSpecifierText pieces given → all_read pieces ≡ Some given
  again_pieces [] [] u h = refl
  again_pieces [] (m ∷ ms) u h = absurd h
  again_pieces (p ∷ ps) [] u h = absurd h
  again_pieces (p ∷ ps) (m ∷ ms) u h = with_both (specifier_of p) (all_read ps) m ms ((law p m u.0).1 h.0) (again_pieces ps ms u.1 h.1)

-- ---- no text is empty

some_operator : (o : Operator) → 0 < length (operator_text o)
some_operator operators.Equal = omega arith
some_operator operators.EqualStar = omega arith
some_operator operators.ExactEqual = omega arith
some_operator operators.NotEqual = omega arith
some_operator operators.NotEqualStar = omega arith
some_operator operators.TildeEqual = omega arith
some_operator operators.LessThan = omega arith
some_operator operators.LessThanEqual = omega arith
some_operator operators.GreaterThan = omega arith
some_operator operators.GreaterThanEqual = omega arith

no_chars : chars [] ≡ []
unfolding chars
no_chars = refl

some_text : (text : List ℕ) (value : SpecifierRecord) → IsSpecifierText text value → 0 < length text
some_text [] value h =
    let rest = h.between ++ (h.written ++ h.after) in
    let long = length-append h.before (operator_text h.operator ++ rest) in
    let longer = length-append (operator_text h.operator) rest in
    let none = ap length (sym no_chars ∙ h.split) in
    let some = some_operator h.operator in
    absurd (omega (arith, long, longer, none, some))
some_text (b ∷ bs) value h = omega arith

some_joined : (pieces : List (List ℕ)) (members : List SpecifierRecord) → 0 < length pieces → AllZip IsSpecifierText pieces members → (length (join_with_byte 44 pieces) == 0) ≡ false
some_joined [] members some h = absurd (omega arith)
some_joined (p ∷ ps) [] some h = absurd h
some_joined (p ∷ []) (m ∷ ms) some h = let long = some_text p m h.0 in grind (arith, nat_tests)
some_joined (p ∷ q ∷ ps) (m ∷ ms) some h =
    let long = length-append p (44 ∷ join_with_byte 44 (q ∷ ps)) in
    let positive : 0 < length (p ++ 44 ∷ join_with_byte 44 (q ∷ ps)) = omega (arith, long) in
    grind (arith, nat_tests)

-- ---- order

tied : (m : SpecifierRecord) → ties (λ x y. is_lt (version_cmp x.version y.version)) m m ≡ true
tied m = ap (λ o. not (is_lt o) && not (is_lt o)) (tied_itself version_cmp_total m.version)

-- nothing in order is nothing
same_list : (a b : List SpecifierRecord) → Some a ≡ Some b → a ≡ b
same_list a b h = cc

only_nothing : (members : List SpecifierRecord) → IsInOrder [] members → members ≡ []
only_nothing [] order = refl
only_nothing (m ∷ ms) order =
    let same : SpecifierRecord → Bool = ties (λ x y. is_lt (version_cmp x.version y.version)) m in
    let kept : filter same (m ∷ ms) ≡ m ∷ filter same ms = ap (λ b. cond b (m ∷ filter same ms) (filter same ms)) (tied m) in
    let none : filter same (m ∷ ms) ≡ [] = order.stable m in
    absurd (cc)

-- ---- the law

found_by : (law : SpecifierLaw) (text : List ℕ) (members given : List SpecifierRecord) → IsUtf8 text → (t : Bool) → (length text == 0) ≡ t → specifiers_of text ≡ Some given → IsInOrder given members → IsSpecifierListText text members
found_by law text members given u true t e order =
    let nothing = nil_when text t in
    let none : given ≡ [] = same_list given [] (sym e ∙ ap specifiers_of nothing ∙ nothing_read) in
    inl (nothing, only_nothing members (subst (λ ms. IsInOrder ms members) none order))
found_by law text members given u false t e order =
    let joined = join_with_byte-slice_split 44 text in
    let texts = utf8_pieces (pieces_of text) (subst IsUtf8 (sym joined) u) in
    inr (
      given,
      record {
        pieces = pieces_of text;
        joined = sym joined;
        are_specifiers = found_pieces law (pieces_of text) given texts (sym (whole text t) ∙ e);
        nonempty = some_piece text;
      },
      order,
    )

again_by : (law : SpecifierLaw) (text : List ℕ) (members : List SpecifierRecord) → IsUtf8 text → IsSpecifierListText text members → (given : List SpecifierRecord) × (specifiers_of text ≡ Some given) × IsInOrder given members
again_by law text members u (inl h) = ([], ap specifiers_of h.0 ∙ nothing_read, subst (IsInOrder []) (sym h.1) nothing_in_order)
again_by law text members u (inr h) =
    let are = h.1 in
    let texts = utf8_pieces are.pieces (subst IsUtf8 are.joined u) in
    let cut : pieces_of text ≡ are.pieces = ap pieces_of are.joined ∙ split_joined are.pieces h.0 are.nonempty texts are.are_specifiers in
    let some : (length text == 0) ≡ false = ap (λ t. length t == 0) are.joined ∙ some_joined are.pieces h.0 are.nonempty are.are_specifiers in
    (h.0, whole text some ∙ ap all_read cut ∙ again_pieces law are.pieces h.0 texts are.are_specifiers, h.2)

pub list_law : (law : SpecifierLaw) (text : List ℕ) (members : List SpecifierRecord) → IsUtf8 text
    → ((given : List SpecifierRecord) × (specifiers_of text ≡ Some given) × IsInOrder given members) ↔ IsSpecifierListText text members
list_law law text members u = (λ h. found_by law text members h.0 u (length text == 0) refl h.1 h.2, again_by law text members u)
