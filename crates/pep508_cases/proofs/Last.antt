-- Cases that are kept for trees that may be asked for again.
use Rattle.std.proofs.Common.{◌≡◌, ◌∙◌, ◌==◌, ◌&&◌, ◌<◌, inl, inr, Bool, true, false, List, [], ◌∷◌, length, refl, sym, ap, subst}
use Rattle.std.proofs.Common.{true≢false, arith}
use Rattle.std.specs.Bool.{beq}
use Rattle.std.specs.Cmp.Lexicographic.{pointwise}
use Rattle.std.specs.List.{AllByRecursion}
use Rattle.pep508_tree.specs.Tree.{Tree}
use Rattle.pep508_tree.specs.Meaning.{NodeRecord, IsTree, Extends}
use Rattle.pep508_tree.proofs.Same.{same_trees}
use Rattle.pep508_cases.specs.declared.last_cases.LastCases.{LastCases}
use Rattle.pep508_cases.specs.Cases.{marks_of, AreCases}
use Rattle.pep508_cases.specs.Seen.{cases_seen}
use Rattle.pep508_cases.specs.Last.{IsLast, HasCases}
use Rattle.pep508_cases.proofs.Keeping.{cases_kept}
use Rattle.pep508_cases.proofs.Marking.{all_made, marking_kept}

-- ---- equal trees

both_hold : (a b : Bool) → (a && b) ≡ true → (a ≡ true) × (b ≡ true)
both_hold true b e = (refl, e)
both_hold false b e = absurd (true≢false (sym e))

pub trees_are : (xs ys : List Tree) → pointwise (λ a b. (a.place == b.place) && beq a.negated b.negated) xs ys ≡ true → xs ≡ ys
trees_are [] [] h = refl
trees_are [] (y ∷ ys) h = absurd (true≢false (sym h))
trees_are (x ∷ xs) [] h = absurd (true≢false (sym h))
trees_are (x ∷ xs) (y ∷ ys) h =
    let parts = both_hold ((x.place == y.place) && beq x.negated y.negated) _ h in
    let first : x ≡ y = (same_trees x y).0 parts.0 in
    let rest = trees_are xs ys parts.1 in
    λ i. first i ∷ rest i

-- ---- nodes are added, and cases are found

pub last_kept : (old new : List NodeRecord) (last : LastCases) → Extends old new → IsLast old last → IsLast new last
last_kept old new last x (inl none) = inl none
last_kept old new last x (inr has) =
    let trees = last.trees.items in
    let cases = cases_seen last.cases.items in
    inr (record {
      made = all_made old new x trees has.made;
      are = subst (λ m. AreCases m new cases) (sym (marking_kept old new x trees has.made))
          (cases_kept (marks_of old trees) old new cases x has.are);
    })

pub last_found : (old new : List NodeRecord) (last : LastCases) (trees : List Tree) → Extends old new →
    AllByRecursion (IsTree old) trees → last.trees.items ≡ trees →
    AreCases (marks_of old trees) new (cases_seen last.cases.items) → IsLast new last
last_found old new last trees x made same are = inr (record {
  made = subst (AllByRecursion (IsTree new)) (sym same) (all_made old new x trees made);
  are = subst (λ m. AreCases m new (cases_seen last.cases.items))
      (sym (marking_kept old new x trees made) ∙ ap (marks_of new) (sym same)) are;
})

pub has_cases : (nodes : List NodeRecord) (last : LastCases) → 0 < length last.cases.items → IsLast nodes last →
    HasCases nodes last
has_cases nodes last some (inl none) = absurd (omega (arith, some, ap length none))
has_cases nodes last some (inr has) = has
