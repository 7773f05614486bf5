-- A walk over ends of paths, of which the clauses are counted.
use Rattle.std.proofs.Common.{◌≡◌, ◌↔◌, ◌⊎◌, IsTrue, inl, inr, ℕ, suc, ◌+◌, ◌<◌, ◌≤◌, Bool, true, false, ◌||◌, List, [], ◌∷◌, ◌++◌}
use Rattle.std.proofs.Common.{map, length, length-append, refl, sym, ap, ap₂, subst, ◌∙◌, true≢false, arith}
use Rattle.std.proofs.Common.{append_assoc, Option, Some}
use Rattle.std.proofs.lemmas.List.{length-map}
use Rattle.std.proofs.lemmas.List.Elements.{filter-append}
use Rattle.std.specs.List.{AllByRecursion, filter}
use Rattle.pep508_marker_text_laws.specs.Clauses.{clauses_of}
use Rattle.pep508_marker_text_laws.specs.Saying.{Clause}
use Rattle.pep508_marker_text_laws.specs.Simplified.{has_some}
use Rattle.pep508_tree.specs.Tree.{Tree, always, never}
use Rattle.pep508_diagram.specs.declared.variable.Flag.{Flag}
use Rattle.pep508_tree.specs.Meaning.{NodeRecord, Flagged, diagram_of, IsTree}
use Rattle.pep508_tree.specs.Nodes.{AreSound}
use Rattle.pep508_tree.specs.Roots.{root_of}
use Rattle.pep508_tree.proofs.Diagrams.{diagram_top}
use Rattle.pep508_tree.proofs.OneTree.{top_or_node, tree_is}
use Rattle.pep508_marker_display.specs.declared.clause_count.End.{End}
use Rattle.pep508_marker_display.specs.Counted.{clause_count}
use Rattle.pep508_marker_display.specs.Ends.{end_by, ends_by}
use Rattle.pep508_marker_display.specs.Steps.{StepRecord, root_steps, clauses_by}
use Rattle.pep508_marker_display.proofs.Stepping.{AllLead, steps_fall, steps_lead}
use Rattle.pep508_marker_display.proofs.Walking.{all_append, all_before, all_weaker, total, weight, steps_weigh}
use Rattle.pep508_marker_display.proofs.Walking.{size_some}

-- ---- the number of clauses behind a path, of which one without terms is none

abbrev pub number : Bool → List Clause → ℕ
number true clauses = length clauses
number false clauses = length (filter has_some clauses)

number_none : (some : Bool) → number some [] ≡ 0
number_none true = refl
number_none false = refl

number_append : (some : Bool) (xs ys : List Clause) → number some (xs ++ ys) ≡ number some xs + number some ys
number_append true xs ys = length-append xs ys
number_append false xs ys =
    ap length (filter-append has_some xs ys) ∙ length-append (filter has_some xs) (filter has_some ys)

same_clauses : (clauses : List Clause) → map (λ clause. [] ++ clause) clauses ≡ clauses
same_clauses [] = refl
same_clauses (clause ∷ clauses) = ap (λ cs. clause ∷ cs) (same_clauses clauses)

number_behind : (some : Bool) (terms : Clause) (clauses : List Clause) →
    number some (map (λ clause. terms ++ clause) clauses) ≡ number (some || has_some terms) clauses
number_behind true terms clauses = length-map clauses (λ clause. terms ++ clause)
number_behind false [] clauses = ap (λ cs. length (filter has_some cs)) (same_clauses clauses)
number_behind false (term ∷ terms) [] = refl
number_behind false (term ∷ terms) (clause ∷ clauses) =
    ap suc (number_behind false (term ∷ terms) clauses)

or_true : (b : Bool) → b || true ≡ true
or_true true = refl
or_true false = refl

-- both steps of a flag have terms
pub flagged_ends : (some : Bool) (flag : Flag) (set unset : Tree) (root : Option NodeRecord)
    (old first new : List End) → Some (Flagged flag set unset) ≡ root →
    first ≡ old ++ record { tree = set; has_terms = true } ∷ [] →
    new ≡ first ++ record { tree = unset; has_terms = true } ∷ [] → new ≡ old ++ ends_by some (root_steps root)
flagged_ends some flag set unset root old first new is put other_put =
    let low : End = record { tree = set; has_terms = true } in
    let high : End = record { tree = unset; has_terms = true } in
    other_put ∙ ap (λ es. es ++ high ∷ []) put ∙ append_assoc old (low ∷ []) (high ∷ [])
    ∙ ap (λ (b : Bool). old ++ record { tree = set; has_terms = b } ∷ record { tree = unset; has_terms = b } ∷ [])
    (sym (or_true some))
    ∙ ap (λ r. old ++ ends_by some (root_steps r)) is

always_or_not : (tree : Tree) → (tree ≡ always) ⊎ (tree ≡ always → ⊥)
always_or_not tree = elim (top_or_node tree.place) [
  | inl place ↦ by_sign tree.negated refl place
  | inr node ↦
      inr (λ is. let zero : tree.place ≡ 0 = ap (λ (t : Tree). t.place) is in absurd (omega (arith, node.1)))
]
  where
    by_sign : (negated : Bool) → tree.negated ≡ negated → tree.place ≡ 0 → (tree ≡ always) ⊎ (tree ≡ always → ⊥)
    by_sign true sign place = inr (λ is. true≢false (sym sign ∙ ap (λ (t : Tree). t.negated) is))
    by_sign false sign place = inl (tree_is tree always place sign)

module _ (nodes : List NodeRecord) where
  abbrev clauses_at : Tree → List Clause
  clauses_at tree = clauses_of (diagram_of nodes tree)

  abbrev number_at : End → ℕ
  number_at end = number end.has_terms (clauses_at end.tree)

  -- the number of clauses that ends lead to
  abbrev pub awaited : List End → ℕ
  awaited [] = 0
  awaited (end ∷ ends) = number_at end + awaited ends

  awaited_append : (ends more : List End) → awaited (ends ++ more) ≡ awaited ends + awaited more
  awaited_append [] more = omega arith
  awaited_append (end ∷ ends) more = omega (arith, awaited_append ends more)

  awaited_steps : (some : Bool) (steps : List StepRecord) →
      number some (clauses_by clauses_at steps) ≡ awaited (ends_by some steps)
  awaited_steps some [] = number_none some
  awaited_steps some (step ∷ steps) =
      number_append some (map (λ clause. step.clause ++ clause) (clauses_at step.tree)) (clauses_by clauses_at steps)
      ∙ ap₂ (λ m n. m + n) (number_behind some step.clause (clauses_at step.tree)) (awaited_steps some steps)

  always_clauses : (tree : Tree) → tree ≡ always → clauses_at tree ≡ [] ∷ []
  always_clauses tree is = ap clauses_of (ap (diagram_of nodes) is ∙ diagram_top nodes always refl)

  never_clauses : (tree : Tree) → tree ≡ never → clauses_at tree ≡ []
  never_clauses tree is = ap clauses_of (ap (diagram_of nodes) is ∙ diagram_top nodes never refl)

  -- a constant has no clause with terms
  constant_count : (tree : Tree) → (tree ≡ always) ⊎ (tree ≡ never) → clause_count (diagram_of nodes tree) ≡ 0
  constant_count tree (inl is) = ap (number false) (always_clauses tree is)
  constant_count tree (inr is) = ap (number false) (never_clauses tree is)

  pub none_more : (tree : Tree) (most : ℕ) → (tree ≡ always) ⊎ (tree ≡ never) →
      IsTrue false ↔ (most < clause_count (diagram_of nodes tree))
  none_more tree most is =
      (λ e. absurd (true≢false (sym e)), λ less. absurd (omega (arith, less, constant_count tree is)))

  one_clause : (end : End) → end.tree ≡ always → end.has_terms ≡ true → number_at end ≡ 1
  one_clause end is some = ap₂ number some (always_clauses end.tree is)

  -- ---- the work that is left

  pub weigh : List End → ℕ
  weigh [] = 0
  weigh (end ∷ ends) = weight nodes end.tree + weigh ends

  weigh_append : (ends more : List End) → weigh (ends ++ more) ≡ weigh ends + weigh more
  unfolding weigh
  weigh_append [] more = omega arith
  weigh_append (end ∷ ends) more = omega (arith, weigh_append ends more)

  weigh_steps : (some : Bool) (steps : List StepRecord) → weigh (ends_by some steps) ≡ total nodes (weight nodes) steps
  unfolding weigh
  weigh_steps some [] = refl
  weigh_steps some (step ∷ steps) = ap (λ n. weight nodes step.tree + n) (weigh_steps some steps)

  -- ---- where the walk stands

  pub record IsCount (whole most : ℕ) (waiting : List End) (found : ℕ) : Type 0 where
    pub made : AllByRecursion (λ end. IsTree nodes end.tree) waiting
    pub within : found ≤ most
    pub counts_are : found + awaited waiting ≡ whole

  pub count_begins : (tree : Tree) (most : ℕ) → IsTree nodes tree →
      IsCount (clause_count (diagram_of nodes tree)) most (record { tree = tree; has_terms = false } ∷ []) 0
  count_begins tree most made = record { made = (made, tt); within = omega arith; counts_are = omega arith }

  pub count_ended : (whole most : ℕ) (waiting : List End) (found : ℕ) → IsCount whole most waiting found →
      waiting ≡ [] → whole ≤ most
  count_ended whole most waiting found count none =
      omega (arith, count.within, count.counts_are, ap awaited none)

  module _ (whole most : ℕ) (waiting rest : List End) (end : End) (found : ℕ)
      (count : IsCount whole most waiting found) (taken : waiting ≡ rest ++ end ∷ []) where
    made_rest : AllByRecursion (λ e. IsTree nodes e.tree) rest × IsTree nodes end.tree
    made_rest = all_before (λ e. IsTree nodes e.tree) rest end
        (subst (AllByRecursion (λ e. IsTree nodes e.tree)) taken count.made)

    pub end_made : IsTree nodes end.tree
    end_made = made_rest.1

    counts_split : found + (awaited rest + number_at end) ≡ whole
    counts_split = omega (arith, count.counts_are, ap awaited taken, awaited_append rest (end ∷ []))

    pub less_found : weigh rest < weigh waiting
    unfolding weigh
    less_found =
        omega (arith, ap weigh taken, weigh_append rest (end ∷ []), size_some nodes end.tree.place end.tree)

    -- an end that is a clause
    module _ (is : end.tree ≡ always) (some : end.has_terms ≡ true) where
      pub one_too_many : found ≡ most → IsTrue true ↔ (most < whole)
      one_too_many full = (λ e. omega (arith, counts_split, one_clause end is some, full), λ less. refl)

      pub count_found : (found ≡ most → ⊥) → IsCount whole most rest (found + 1)
      count_found other = record {
        made = made_rest.0;
        within = omega (arith, count.within, other);
        counts_are = omega (arith, counts_split, one_clause end is some);
      }

    -- one that is none
    module _ (sound : AreSound nodes) (steps : List StepRecord)
        (are : steps ≡ root_steps (root_of nodes end.tree)) (new : List End)
        (put : new ≡ rest ++ ends_by end.has_terms steps) where
      fall : AllLead (λ t. IsTree nodes t × (t.place < end.tree.place)) steps
      fall = steps_fall nodes sound end.tree end_made steps are

      pub less_on : weigh new < weigh waiting
      unfolding weigh
      less_on =
          let less = steps_weigh nodes end.tree.place end.tree steps
          (all_weaker (λ s. IsTree nodes s.tree × (s.tree.place < end.tree.place))
          (λ s. s.tree.place < end.tree.place) (λ s h. h.1) steps fall) are in
          omega (
            arith,
            less,
            ap weigh put,
            weigh_append rest (ends_by end.has_terms steps),
            weigh_steps end.has_terms steps,
            ap weigh taken,
            weigh_append rest (end ∷ []),
          )

      ends_made : (some : Bool) (ss : List StepRecord) → AllByRecursion (λ s. IsTree nodes s.tree) ss →
          AllByRecursion (λ e. IsTree nodes e.tree) (ends_by some ss)
      ends_made some [] all = tt
      ends_made some (s ∷ ss) all = (all.0, ends_made some ss all.1)

      same_number : (end.tree ≡ always × (end.has_terms ≡ true) → ⊥) →
          awaited (ends_by end.has_terms steps) ≡ number_at end
      same_number other = elim (always_or_not end.tree) [
        | inl is ↦ nothing end.has_terms refl is
        | inr differ ↦
            sym (awaited_steps end.has_terms steps)
            ∙ ap (number end.has_terms) (steps_lead nodes sound end.tree end_made steps are differ)
      ]
        where
          nothing : (some : Bool) → end.has_terms ≡ some → end.tree ≡ always →
              awaited (ends_by end.has_terms steps) ≡ number_at end
          nothing true some is = absurd (other (is, some))
          nothing false some is =
              ap (λ ss. awaited (ends_by end.has_terms ss))
              (are ∙ ap (λ (t : Tree). root_steps (root_of nodes t)) is)
              ∙ sym (ap₂ number some (always_clauses end.tree is))

      pub count_on : (end.tree ≡ always × (end.has_terms ≡ true) → ⊥) → IsCount whole most new found
      count_on other = record {
        made = subst (AllByRecursion (λ e. IsTree nodes e.tree)) (sym put)
            (all_append (λ e. IsTree nodes e.tree) rest (ends_by end.has_terms steps) made_rest.0
            (ends_made end.has_terms steps
            (all_weaker (λ s. IsTree nodes s.tree × (s.tree.place < end.tree.place)) (λ s. IsTree nodes s.tree)
            (λ s h. h.0) steps fall)));
        within = count.within;
        counts_are = omega (
          arith,
          counts_split,
          ap awaited put,
          awaited_append rest (ends_by end.has_terms steps),
          same_number other,
        );
      }
