-- One token more.
use Rattle.std.proofs.Common.{◌≡◌, ◌∙◌, suc, List, [], ◌∷◌, ◌++◌, length, refl, ap, sym}
use Rattle.std.specs.Global.{Box}
use Rattle.pep508_marker.specs.declared.expression.MarkerExpression.{MarkerExpression}
use Rattle.pep508_marker.specs.Expression.{ExpressionRecord, expression_of}
use Rattle.pep508_formula.specs.declared.formula.Token.{Token}
use Rattle.pep508_formula.specs.declared.formula.Token.TheVariants as tokens
use Rattle.pep508_formula.specs.Postfix.{Part, Compared, Passed, ByAnd, ByOr, parts_of, count_said, said_of}

-- a comparison behind those that the tokens take
one_said : (ts : List Token) (said : List ExpressionRecord) (e : ExpressionRecord) →
    count_said ts ≡ length said → parts_of (ts ++ tokens.Says ∷ []) (said ++ e ∷ []) ≡ parts_of ts said ++ Compared e ∷ []
one_said [] [] e h = refl
one_said [] (d ∷ said) e h = absurd (cc)
one_said (tokens.Says ∷ ts) [] e h = absurd (cc)
one_said (tokens.Says ∷ ts) (d ∷ said) e h = ap (λ ps. Compared d ∷ ps) (one_said ts said e (cc))
one_said (tokens.LeftOut ∷ ts) said e h = ap (λ ps. Passed ∷ ps) (one_said ts said e h)
one_said (tokens.And ∷ ts) said e h = ap (λ ps. ByAnd ∷ ps) (one_said ts said e h)
one_said (tokens.Or ∷ ts) said e h = ap (λ ps. ByOr ∷ ps) (one_said ts said e h)

-- a token that takes none
one_token : (ts : List Token) (t : Token) (part : Part ExpressionRecord) →
    ((said : List ExpressionRecord) → parts_of (t ∷ []) said ≡ part ∷ []) → (said : List ExpressionRecord) →
    parts_of (ts ++ t ∷ []) said ≡ parts_of ts said ++ part ∷ []
one_token [] t part is said = is said
one_token (tokens.Says ∷ ts) t part is [] = ap (λ ps. Passed ∷ ps) (one_token ts t part is [])
one_token (tokens.Says ∷ ts) t part is (d ∷ said) = ap (λ ps. Compared d ∷ ps) (one_token ts t part is said)
one_token (tokens.LeftOut ∷ ts) t part is said = ap (λ ps. Passed ∷ ps) (one_token ts t part is said)
one_token (tokens.And ∷ ts) t part is said = ap (λ ps. ByAnd ∷ ps) (one_token ts t part is said)
one_token (tokens.Or ∷ ts) t part is said = ap (λ ps. ByOr ∷ ps) (one_token ts t part is said)

-- ---- what tokens count

more_counted : (ts : List Token) → count_said (ts ++ tokens.Says ∷ []) ≡ suc (count_said ts)
more_counted [] = refl
more_counted (tokens.Says ∷ ts) = ap suc (more_counted ts)
more_counted (tokens.LeftOut ∷ ts) = more_counted ts
more_counted (tokens.And ∷ ts) = more_counted ts
more_counted (tokens.Or ∷ ts) = more_counted ts

same_counted : (ts : List Token) (t : Token) → count_said (t ∷ []) ≡ 0 → count_said (ts ++ t ∷ []) ≡ count_said ts
same_counted [] t none = none
same_counted (tokens.Says ∷ ts) t none = ap suc (same_counted ts t none)
same_counted (tokens.LeftOut ∷ ts) t none = same_counted ts t none
same_counted (tokens.And ∷ ts) t none = same_counted ts t none
same_counted (tokens.Or ∷ ts) t none = same_counted ts t none

more_length : {A : Type 0} (xs : List A) (x : A) → length (xs ++ x ∷ []) ≡ suc (length xs)
more_length [] x = refl
more_length (y ∷ xs) x = ap suc (more_length xs x)

more_said : (kept : List (Box MarkerExpression)) (more : Box MarkerExpression) →
    said_of (kept ++ more ∷ []) ≡ said_of kept ++ expression_of more.value ∷ []
more_said [] more = refl
more_said (k ∷ kept) more = ap (λ es. expression_of k.value ∷ es) (more_said kept more)

all_said : (kept : List (Box MarkerExpression)) → length (said_of kept) ≡ length kept
all_said [] = refl
all_said (k ∷ kept) = ap suc (all_said kept)

-- ---- a formula with one token more

module _ (ts now : List Token) (kept : List (Box MarkerExpression)) (counted : count_said ts ≡ length kept) where
  module _ (t : Token) (pushed : now ≡ ts ++ t ∷ []) where
    pub still_counted : count_said (t ∷ []) ≡ 0 → count_said now ≡ length kept
    still_counted none = ap count_said pushed ∙ same_counted ts t none ∙ counted

    pub part_on : (part : Part ExpressionRecord) →
        ((said : List ExpressionRecord) → parts_of (t ∷ []) said ≡ part ∷ []) →
        parts_of now (said_of kept) ≡ parts_of ts (said_of kept) ++ part ∷ []
    part_on part is = ap (λ us. parts_of us (said_of kept)) pushed ∙ one_token ts t part is (said_of kept)

  module _ (more : List (Box MarkerExpression)) (last : Box MarkerExpression) (pushed : now ≡ ts ++ tokens.Says ∷ [])
      (stored : more ≡ kept ++ last ∷ []) where
    pub counted_on : count_said now ≡ length more
    counted_on =
        ap count_said pushed ∙ more_counted ts ∙ ap suc counted ∙ sym (ap length stored ∙ more_length kept last)

    pub said_on : (e : ExpressionRecord) → expression_of last.value ≡ e →
        parts_of now (said_of more) ≡ parts_of ts (said_of kept) ++ Compared e ∷ []
    said_on e is =
        ap (λ us. parts_of us (said_of more)) pushed
        ∙ ap (λ es. parts_of (ts ++ tokens.Says ∷ []) es) (ap said_of stored ∙ more_said kept last)
        ∙ one_said ts (said_of kept) (expression_of last.value) (counted ∙ sym (all_said kept))
        ∙ ap (λ d. parts_of ts (said_of kept) ++ Compared d ∷ []) is
