-- What is added in turn: terms to a clause, clauses to others, steps to others.
use Rattle.std.proofs.Common.{◌≡◌, ℕ, ◌+◌, ◌<◌, Bool, cond, List, [], ◌∷◌, ◌++◌, map, take, drop, get_or}
use Rattle.std.proofs.Common.{length, Option, Some, None, refl, sym, ap, ◌∙◌, append_assoc}
use Rattle.std.proofs.lemmas.List.{map-append, take-map, drop_more}
use Rattle.std.proofs.lemmas.List.Elements.{filter-append}
use Rattle.std.specs.Prelude.{option_map}
use Rattle.std.specs.List.{filter, flat_map}
use Rattle.std.specs.declared.ops.Bound.{Bound}
use Rattle.pep508_marker.specs.declared.expression.MarkerExpression.{MarkerExpression}
use Rattle.pep508_marker.specs.Expression.{ExpressionRecord, expression_of}
use Rattle.pep508_clauses.specs.Terms.{clause_of}
use Rattle.pep508_marker_text_laws.specs.Saying.{Clause, Saying, set_clauses}
use Rattle.pep508_marker_text_laws.specs.Groups.{points_where}
use Rattle.pep508_marker_text_laws.specs.Simplified.{has_some}
use Rattle.pep508_diagram.specs.declared.branch.Branch.{Branch}
use Rattle.pep508_tree.specs.Tree.{Tree}
use Rattle.pep508_tree.specs.Nodes.{turned}
use Rattle.pep508_marker_display.specs.Spans.{value_between, differs_before, differs_from}
use Rattle.pep508_marker_display.specs.Steps.{StepRecord, steps_to, turned_step, group_steps, behind}
use Rattle.pep508_marker_display.specs.Trees.{same_tree}
use Rattle.pep508_marker_display.proofs.Stepping.{map_map}

abbrev pub with_front : Clause → Option Clause → Option Clause
with_front front later = option_map (λ terms. front ++ terms) later

pub front_more : (front : Clause) (terms : Clause) (later : Option Clause) →
    with_front front (with_front terms later) ≡ with_front (front ++ terms) later
front_more front terms None = refl
front_more front terms (Some more) = ap Some (sym (append_assoc front terms more))

-- a path in two parts
pub behind_both : (path terms : Clause) (clauses : List Clause) →
    behind (path ++ terms) clauses ≡ behind path (map (λ clause. terms ++ clause) clauses)
behind_both path terms [] = refl
behind_both path terms (clause ∷ clauses) = λ i.
    cond (has_some (append_assoc path terms clause i))
    (append_assoc path terms clause i ∷ behind_both path terms clauses i) (behind_both path terms clauses i)

pub behind_append : (path : Clause) (xs ys : List Clause) →
    behind path (xs ++ ys) ≡ behind path xs ++ behind path ys
behind_append path xs ys =
    ap (filter has_some) (map-append (λ clause. path ++ clause) xs ys)
    ∙ filter-append has_some (map (λ clause. path ++ clause) xs) (map (λ clause. path ++ clause) ys)

pub behind_nothing : (clauses : List Clause) → behind [] clauses ≡ filter has_some clauses
behind_nothing clauses = ap (filter has_some) (same clauses)
  where
    same : (xs : List Clause) → map (λ clause. [] ++ clause) xs ≡ xs
    same [] = refl
    same (x ∷ xs) = ap (λ ys. x ∷ ys) (same xs)

module _ {T : Type 0} (say : Saying T) where
  before_more : (v : T) (front : Clause) (later : Option Clause) →
      with_front front (differs_before say (Some v) later) ≡ with_front (front ++ say.differs v ∷ []) later
  before_more v front later = front_more front (say.differs v ∷ []) later

  -- one more value that is left out
  pub differs_more : (front now : Clause) (left rest : List (Bound T × Bound T)) (bounds : Bound T × Bound T) (v : T)
      (all : Option Clause) → with_front front (differs_from say left) ≡ all → left ≡ bounds ∷ rest →
      Some v ≡ value_between say.cmp bounds.0 bounds.1 → now ≡ front ++ say.differs v ∷ [] →
      with_front now (differs_from say rest) ≡ all
  differs_more front now left rest bounds v all before is value added =
      ap (λ clause. with_front clause (differs_from say rest)) added
      ∙ sym (before_more v front (differs_from say rest))
      ∙ ap (λ found. with_front front (differs_before say found (differs_from say rest))) value
      ∙ ap (λ left. with_front front (differs_from say left)) (sym is) ∙ before

-- the steps of one more tree
pub group_added : {T : Type 0} (say : Saying T) (first : Tree) (later : List (Branch T Tree)) (turns : Bool)
    (tree : Tree) (trees : List Tree) (old now whole : List StepRecord) (clauses : List Clause) →
    old ++ map (turned_step turns) (flat_map (group_steps say first later) (tree ∷ trees)) ≡ whole →
    clauses ≡ set_clauses say (points_where (same_tree tree) first later) →
    now ≡ old ++ steps_to (turned turns tree) clauses →
    now ++ map (turned_step turns) (flat_map (group_steps say first later) trees) ≡ whole
group_added say first later turns tree trees old now whole clauses before is added =
    let more = map (turned_step turns) (flat_map (group_steps say first later) trees) in
    let group = group_steps say first later tree in
    ap (λ front. front ++ more)
    (added
    ∙ ap (λ steps. old ++ steps) (ap (steps_to (turned turns tree)) is ∙ sym (map_map (turned_step turns) _ _)))
    ∙ append_assoc old (map (turned_step turns) group) more
    ∙ ap (λ steps. old ++ steps)
    (sym (map-append (turned_step turns) group (flat_map (group_steps say first later) trees)))
    ∙ before

-- ---- lists of the program, as records

pub pushed : (terms now : List MarkerExpression) (term : MarkerExpression) (said : ExpressionRecord) →
    now ≡ terms ++ term ∷ [] → expression_of term ≡ said → clause_of now ≡ clause_of terms ++ said ∷ []
pushed terms now term said is e =
    ap clause_of is ∙ map-append expression_of terms (term ∷ []) ∙ ap (λ one. clause_of terms ++ one ∷ []) e

-- a path that goes on from its first terms
pub path_on : (depth : ℕ) (before cut terms after : List MarkerExpression) → cut ≡ take depth before →
    after ≡ cut ++ terms → clause_of after ≡ take depth (clause_of before) ++ clause_of terms
path_on depth before cut terms after is added =
    ap clause_of added ∙ map-append expression_of cut terms
    ∙ ap (λ front. front ++ clause_of terms)
    (ap clause_of is ∙ sym (take-map expression_of depth before))

pub group_at : {T : Type 0} (say : Saying T) (first : Tree) (later : List (Branch T Tree)) (turns : Bool)
    (trees : List Tree) (i : ℕ) (tree : Tree) (old now whole : List StepRecord) (clauses : List Clause) →
    i < length trees → tree ≡ get_or trees i tree →
    old ++ map (turned_step turns) (flat_map (group_steps say first later) (drop i trees)) ≡ whole →
    clauses ≡ set_clauses say (points_where (same_tree tree) first later) →
    now ≡ old ++ steps_to (turned turns tree) clauses →
    now ++ map (turned_step turns) (flat_map (group_steps say first later) (drop (i + 1) trees)) ≡ whole
group_at say first later turns trees i tree old now whole clauses inside at before is added =
    let next : drop i trees ≡ tree ∷ drop (i + 1) trees =
    drop_more trees i tree inside ∙ ap (λ t. t ∷ drop (i + 1) trees) (sym at) in
    group_added say first later turns tree (drop (i + 1) trees) old now whole clauses
    (ap (λ ts. old ++ map (turned_step turns) (flat_map (group_steps say first later) ts)) (sym next) ∙ before) is added
