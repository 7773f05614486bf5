-- Which lines apply where a tree holds, line by line.
use Rattle.std.proofs.Common.{◌≡◌, ◌∙◌, ◌&&◌, ◌<◌, ◌+◌, ◌++◌, ◌↔◌, IsTrue, ℕ, zero, suc, Bool, true, false, cond}
use Rattle.std.proofs.Common.{not, List, [], ◌∷◌, map, filter, take, get_or, length, refl, sym, ap, subst, arith}
use Rattle.std.proofs.Common.{true≢false}
use Rattle.std.proofs.lemmas.List.{take_more}
use Rattle.std.specs.List.{AllByRecursion}
use Rattle.pep508_diagram.specs.Question.{Valuation}
use Rattle.pep508_tree.specs.Tree.{Tree}
use Rattle.pep508_tree.specs.Meaning.{NodeRecord, holds}
use Rattle.pep508_tree.specs.Disjoint.{AreDisjoint}
use Rattle.reqtable_requirements.specs.declared.requirements.Line.{Line}
use Rattle.reqtable_table.specs.Given.{is_under}
use Rattle.reqtable_covers.specs.Applying.{IsFixed, AppliesWhere}

-- ---- one line

module _ (nodes : List NodeRecord) (name : List ℕ) (tree : Tree) (line : Line) where
  abbrev marker : Tree
  marker = line.requirement.marker

  pub other_package : is_under name line ≡ false → AppliesWhere nodes name tree line false
  other_package not fixed v there = sym (ap (λ b. b && holds nodes marker v) not)

  nowhere : is_under name line ≡ true → IsFixed nodes name tree line → (v : Valuation) → holds nodes tree v ≡ true →
      holds nodes marker v ≡ false → (w : Valuation) (b : Bool) → holds nodes tree w ≡ b →
      (b && holds nodes marker w) ≡ false
  nowhere under fixed v there off w true e = fixed under w v e there ∙ off
  nowhere under fixed v there off w false e = refl

  somewhere_by : (b : Bool) → is_under name line ≡ true → (AreDisjoint nodes tree marker → ⊥) →
      IsFixed nodes name tree line → (v : Valuation) → holds nodes tree v ≡ true → holds nodes marker v ≡ b →
      true ≡ (is_under name line && holds nodes marker v)
  somewhere_by true under meet fixed v there e = sym (λ i. under i && e i)
  somewhere_by false under meet fixed v there e =
      absurd (meet (λ w. nowhere under fixed v there e w (holds nodes tree w) refl))

  pub by_apart : (apart : Bool) → is_under name line ≡ true → (IsTrue apart ↔ AreDisjoint nodes tree marker) →
      AppliesWhere nodes name tree line (not apart)
  by_apart true under equal fixed v there =
      let off : holds nodes marker v ≡ false =
      sym (ap (λ b. b && holds nodes marker v) there) ∙ equal.0 refl v in
      sym (λ i. under i && off i)
  by_apart false under equal fixed v there =
      somewhere_by (holds nodes marker v) under (λ apart. true≢false (sym (equal.1 apart))) fixed v there refl

-- ---- one line more

pub all_at : (P : Line → Type 0) (lines : List Line) (i : ℕ) (line : Line) → i < length lines →
    line ≡ get_or lines i line → AllByRecursion P lines → P line
all_at P [] i line less is all = absurd (omega (arith, less))
all_at P (l ∷ lines) zero line less is all = subst P (sym is) all.0
all_at P (l ∷ lines) (suc i) line less is all = all_at P lines i line (omega (arith, less)) is all.1

abbrev numbers : List Line → List ℕ
numbers lines = map (λ line. line.number) lines

module _ (p : Line → Bool) where
  kept_by : (b : Bool) (y x : Line) (xs ys : List Line) → numbers xs ≡ numbers ys ++ x.number ∷ [] →
      numbers (cond b (y ∷ xs) xs) ≡ numbers (cond b (y ∷ ys) ys) ++ x.number ∷ []
  kept_by true y x xs ys h = ap (λ l. y.number ∷ l) h
  kept_by false y x xs ys h = h

  kept_last : (xs : List Line) (x : Line) → p x ≡ true →
      numbers (filter p (xs ++ x ∷ [])) ≡ numbers (filter p xs) ++ x.number ∷ []
  kept_last [] x e = ap (λ b. numbers (cond b (x ∷ []) [])) e
  kept_last (y ∷ xs) x e = kept_by (p y) y x (filter p (xs ++ x ∷ [])) (filter p xs) (kept_last xs x e)

  left_by : (b : Bool) (y : Line) (xs ys : List Line) → numbers xs ≡ numbers ys →
      numbers (cond b (y ∷ xs) xs) ≡ numbers (cond b (y ∷ ys) ys)
  left_by true y xs ys h = ap (λ l. y.number ∷ l) h
  left_by false y xs ys h = h

  left_last : (xs : List Line) (x : Line) → p x ≡ false →
      numbers (filter p (xs ++ x ∷ [])) ≡ numbers (filter p xs)
  left_last [] x e = ap (λ b. numbers (cond b (x ∷ []) [])) e
  left_last (y ∷ xs) x e = left_by (p y) y (filter p (xs ++ x ∷ [])) (filter p xs) (left_last xs x e)

  module _ (lines : List Line) (i : ℕ) (line : Line) (less : i < length lines) (is : line ≡ get_or lines i line) where
    one_more : take (i + 1) lines ≡ take i lines ++ line ∷ []
    one_more = take_more lines i line less ∙ ap (λ l. take i lines ++ l ∷ []) (sym is)

    pub pushed : (found : List ℕ) → found ≡ numbers (filter p (take i lines)) → p line ≡ true →
        found ++ line.number ∷ [] ≡ numbers (filter p (take (i + 1) lines))
    pushed found h e =
        ap (λ l. l ++ line.number ∷ []) h ∙ sym (kept_last (take i lines) line e)
        ∙ ap (λ l. numbers (filter p l)) (sym one_more)

    pub passed : (found : List ℕ) → found ≡ numbers (filter p (take i lines)) → p line ≡ false →
        found ≡ numbers (filter p (take (i + 1) lines))
    passed found h e =
        h ∙ sym (left_last (take i lines) line e) ∙ ap (λ l. numbers (filter p l)) (sym one_more)
