-- The clauses of edges hold where those of what stands at the variable's point do.
use Rattle.std.proofs.Common.{◌≡◌, Bool, true, false, ◌&&◌, ◌||◌, List, [], ◌∷◌, ◌++◌, map, inl, inr, refl}
use Rattle.std.proofs.Common.{sym, ap, ◌∙◌}
use Rattle.std.proofs.lemmas.Bool.{cases_Bool}
use Rattle.std.specs.List.{AllByRecursion, list_all, list_any, flat_map}
use Rattle.std.proofs.lemmas.List.Folds.{list_all-append, list_any-append}
use Rattle.version_ranges.specs.Point.{Point}
use Rattle.pep508_marker.specs.Expression.{ExpressionRecord}
use Rattle.pep508_diagram.specs.declared.branch.Branch.{Branch}
use Rattle.pep508_diagram.specs.Branches.{RisingBranches, branch_at, AllBranches}
use Rattle.pep508_diagram.specs.Question.{Valuation, truth}
use Rattle.pep508_diagram.proofs.Branching.{branch_at_child}
use Rattle.pep508_marker_text_laws.specs.Clauses.{Part, followed_by, same_part, group_clauses, grouped_clauses}
use Rattle.pep508_marker_text_laws.specs.Groups.{firsts, standing, points_where}
use Rattle.pep508_marker_text_laws.specs.Saying.{Clause, Saying, set_clauses}
use Rattle.pep508_marker_text_laws.specs.Truth.{one_holds}
use Rattle.pep508_marker_text_laws.proofs.Said.{Says, set_means}
use Rattle.pep508_marker_text_laws.proofs.SameDiagrams.{same_itself, same_on, same_truth}
use Rattle.pep508_marker_text_laws.proofs.Where.{GoodBranches, where_held, where_rises, where_good, child_in}
use Rattle.pep508_marker_text_laws.proofs.Where.{standing_all, firsts_all, firsts_have}

-- ---- truths

and_false : (a : Bool) → (a && false) ≡ false
and_false true = refl
and_false false = refl

common : (a b c : Bool) → ((a && b) || (a && c)) ≡ (a && (b || c))
common true b c = refl
common false b c = refl

common_last : (a b c : Bool) → ((a && c) || (b && c)) ≡ ((a || b) && c)
common_last true true true = refl
common_last true true false = refl
common_last true false true = refl
common_last true false false = refl
common_last false b c = refl

module _ (holds : ExpressionRecord → Bool) where
  behind_one : (one : Clause) (others : List Clause) →
      one_holds holds (map (λ other. one ++ other) others) ≡ (list_all holds one && one_holds holds others)
  behind_one one [] = sym (and_false (list_all holds one))
  behind_one one (other ∷ others) =
      (λ i. list_all-append holds one other i || behind_one one others i)
      ∙ common (list_all holds one) (list_all holds other) (one_holds holds others)

  -- clauses followed by others hold where both do
  followed_means : (others ones : List Clause) →
      one_holds holds (followed_by others ones) ≡ (one_holds holds ones && one_holds holds others)
  followed_means others [] = refl
  followed_means others (one ∷ ones) =
      list_any-append (list_all holds) (map (λ other. one ++ other) others) (followed_by others ones)
      ∙ (λ i. behind_one one others i || followed_means others ones i)
      ∙ common_last (list_all holds one) (one_holds holds ones) (one_holds holds others)

  module _ (v : Valuation) where
    -- the clauses of a part mean its diagram
    abbrev pub IsSound : Part → Type 0
    IsSound part = one_holds holds part.clauses ≡ truth part.diagram v

    beside : (part c : Part) → IsSound part →
        (same_part part c && one_holds holds part.clauses) ≡ (same_part part c && truth c.diagram v)
    beside part c sound = elim (cases_Bool (same_part part c)) [
      | inl here ↦ rw here (sound ∙ same_truth part.diagram c.diagram v here)
      | inr not_here ↦ rw not_here refl
    ]

    module _ {T : Type 0} {good : T → Type 0} {p : Point T} {say : Saying T} (s : Says good holds p say)
        (first : Part) (later : List (Branch T Part)) (rising : RisingBranches say.cmp later)
        (are_good : GoodBranches good later) where
      group_means : (part : Part) → IsSound part →
          one_holds holds (group_clauses say first later part)
          ≡ (same_part part (branch_at say.cmp first later p)
          && truth (branch_at say.cmp first later p).diagram v)
      group_means part sound =
          followed_means part.clauses (set_clauses say (points_where (same_part part) first later))
          ∙ ap (λ b. b && one_holds holds part.clauses)
          (set_means s (points_where (same_part part) first later)
          (where_rises (same_part part) say.cmp first later rising)
          (where_good good (same_part part) first later are_good)
          ∙ where_held (same_part part) s.total p first later rising)
          ∙ beside part (branch_at say.cmp first later p) sound

      groups_mean : (parts : List Part) → AllByRecursion IsSound parts →
          one_holds holds (flat_map (group_clauses say first later) parts)
          ≡ (list_any (λ part. same_part part (branch_at say.cmp first later p)) parts
          && truth (branch_at say.cmp first later p).diagram v)
      groups_mean [] sound = refl
      groups_mean (part ∷ parts) sound =
          list_any-append (list_all holds) (group_clauses say first later part)
          (flat_map (group_clauses say first later) parts)
          ∙ (λ i. group_means part sound.0 i || groups_mean parts sound.1 i)
          ∙ common_last (same_part part (branch_at say.cmp first later p))
          (list_any (λ other. same_part other (branch_at say.cmp first later p)) parts)
          (truth (branch_at say.cmp first later p).diagram v)

      -- the clauses of edges mean what stands at the point
      pub grouped_means : AllBranches IsSound first later →
          one_holds holds (grouped_clauses say first later)
          ≡ truth (branch_at say.cmp first later p).diagram v
      grouped_means sound =
          let c = branch_at say.cmp first later p in
          groups_mean (firsts same_part (standing first later))
          (firsts_all IsSound same_part (standing first later) (standing_all IsSound first later sound))
          ∙ ap (λ b. b && truth c.diagram v)
          (firsts_have same_part (λ part. same_itself part.diagram)
          (λ a b d h k. same_on a.diagram b.diagram d.diagram h k) (standing first later) c
          (child_in c first later (branch_at_child say.cmp first later p)))
