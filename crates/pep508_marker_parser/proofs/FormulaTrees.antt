-- The chains of trees that wait, step by step, and the tree of a formula.
use Rattle.std.proofs.Common.{◌≡◌, ◌∙◌, zero-le, Bool, true, List, [], ◌∷◌, ◌++◌, reverse, Some, None, refl, ap}
use Rattle.std.proofs.Common.{sym, subst}
use Rattle.std.proofs.lemmas.List.{reverse-append}
use Rattle.std.specs.Prelude.{Option, option_map, IfSome, unwrap_or, map}
use Rattle.std.specs.List.{AllByRecursion}
use Rattle.pep508_marker.specs.Expression.{ExpressionRecord}
use Rattle.pep508_diagram.specs.Question.{Valuation}
use Rattle.pep508_tree.specs.Tree.{Tree, always}
use Rattle.pep508_tree.specs.Meaning.{NodeRecord, IsTree, Extends, holds}
use Rattle.pep508_tree.specs.Truths as trees
use Rattle.pep508_tree.proofs.Disjoint.{always_holds}
use Rattle.pep508_formula.specs.Postfix.{Part, Compared, joined_last, last_or, rest_of, told, told_by}
use Rattle.pep508_formula.specs.Postfix.{formula_of}
use Rattle.pep508_formula.proofs.Building.{formula_told}
use Rattle.pep508_expression.specs.Expressions.{expression_holds}
use Rattle.pep508_marker_parser.specs.declared.word.Word.{Word}
use Rattle.pep508_marker_parser.specs.declared.formula_tree.TreeChain.{TreeChain}
use Rattle.pep508_marker_parser.specs.Formula.{joined, truth_in}
use Rattle.pep508_marker_parser.specs.TreeReading.{connective, joins, chain_truth}
use Rattle.pep508_marker_parser.specs.FormulaTrees.{IsChain, truth_of, truths_of, TakesOff, Puts, Steps}
use Rattle.pep508_marker_parser.specs.MarkerOutcome.{IsTreeOf}
use Rattle.pep508_marker_parser.proofs.ChainTrees.{one_made, one_truth, chain_kept, truth_kept}

abbrev AreChains : List NodeRecord → List TreeChain → Type 0
AreChains nodes = AllByRecursion (IsChain nodes)

pub chains_kept : (old new : List NodeRecord) → Extends old new → (chains : List TreeChain) → AreChains old chains
    → AreChains new chains
chains_kept old new more [] h = tt
chains_kept old new more (c ∷ cs) h = (chain_kept old new more c h.0, chains_kept old new more cs h.1)

all_truths_kept : (old new : List NodeRecord) → Extends old new → (chains : List TreeChain) → AreChains old chains
    → (v : Valuation) → truths_of new chains v ≡ truths_of old chains v
all_truths_kept old new more [] h v = refl
all_truths_kept old new more (c ∷ cs) h v =
    ap (λ t. t ∷ truths_of new cs v) (truth_kept old new more c h.0 v)
    ∙ ap (λ ts. truth_of old c v ∷ ts) (all_truths_kept old new more cs h.1 v)

-- ---- the last chain is taken off

module _ (nodes : List NodeRecord) where
  pub last_made : (chains : List TreeChain) (chain : TreeChain) (others : List TreeChain) → AreChains nodes chains
      → TakesOff chains chain others → IsChain nodes chain
  last_made [] chain others h (none, e) = subst (AllByRecursion (IsTree nodes)) (sym none) tt
  last_made (c ∷ cs) chain others h (is, e) = subst (IsChain nodes) (sym is) h.0

  pub others_made : (chains : List TreeChain) (chain : TreeChain) (others : List TreeChain) → AreChains nodes chains
      → TakesOff chains chain others → AreChains nodes others
  others_made [] chain others h (none, e) = subst (AreChains nodes) (sym e) tt
  others_made (c ∷ cs) chain others h (is, e) = subst (AreChains nodes) (sym e) h.1

  pub last_truth : (chains : List TreeChain) (chain : TreeChain) (others : List TreeChain)
      → TakesOff chains chain others → (v : Valuation) → truth_of nodes chain v ≡ last_or None (truths_of nodes chains v)
  last_truth [] chain others (none, e) v =
      ap (λ ts. chain_truth (connective chain.word) (map (λ t. holds nodes t v) ts)) none
  last_truth (c ∷ cs) chain others (is, e) v = ap (λ d. truth_of nodes d v) is

  others_truth : (chains : List TreeChain) (chain : TreeChain) (others : List TreeChain)
      → TakesOff chains chain others → (v : Valuation) → truths_of nodes others v ≡ rest_of (truths_of nodes chains v)
  others_truth [] chain others (none, e) v = ap (λ cs. truths_of nodes cs v) e
  others_truth (c ∷ cs) chain others (is, e) v = ap (λ ds. truths_of nodes ds v) e

-- ---- steps

pub pushed_last : (chains new : List TreeChain) (chain : TreeChain) → new ≡ chains ++ chain ∷ []
    → reverse new ≡ chain ∷ reverse chains
pushed_last chains new chain e = ap reverse e ∙ reverse-append chains (chain ∷ [])

joined_two : {A : Type 0} (none : A) (join : A → A → A) (stack : List A)
    → join (last_or none (rest_of stack)) (last_or none stack) ∷ rest_of (rest_of stack)
    ≡ joined_last none join stack
joined_two none join [] = refl
joined_two none join (b ∷ []) = refl
joined_two none join (b ∷ a ∷ stack) = refl

module _ (old now : List NodeRecord) (more : Extends old now) (chains : List TreeChain) (made : AreChains old chains)
  where
    -- the last two are joined
    pub two_joined : (word : Word) (next first chain : TreeChain) (others rest pushed : List TreeChain)
        → TakesOff chains next (reverse others) → TakesOff (reverse others) first (reverse rest)
        → IsChain now chain
        → ((v : Valuation) → truth_of now chain v
        ≡ joined (joins (connective word)) (truth_of old first v) (truth_of old next v))
        → pushed ≡ rest ++ chain ∷ []
        → Steps old now (λ v. joined_last None (joined (joins (connective word)))) chains (reverse pushed)
    two_joined word next first chain others rest pushed takes takes_first chain_made truth e =
        let others_are = others_made old chains next (reverse others) made takes in
        let rest_are = others_made old (reverse others) first (reverse rest) others_are takes_first in
        let join : Option Bool → Option Bool → Option Bool = joined (joins (connective word)) in
        let is = pushed_last rest pushed chain e in
        record {
          made = subst (AreChains now) (sym is) (chain_made, chains_kept old now more (reverse rest) rest_are);
          truths = λ v.
              let left = others_truth old chains next (reverse others) takes v in
              ap (λ cs. truths_of now cs v) is
              ∙ ap (λ ts. truth_of now chain v ∷ ts)
              (all_truths_kept old now more (reverse rest) rest_are v
              ∙ others_truth old (reverse others) first (reverse rest) takes_first v ∙ ap rest_of left)
              ∙ ap (λ t. t ∷ rest_of (rest_of (truths_of old chains v)))
              (truth v
              ∙ ap (λ t. join t (truth_of old next v))
              (last_truth old (reverse others) first (reverse rest) takes_first v ∙ ap (last_or None) left)
              ∙ ap (join (last_or None (rest_of (truths_of old chains v))))
              (last_truth old chains next (reverse others) takes v))
              ∙ joined_two None join (truths_of old chains v);
        }

    -- a tree is put behind the others, where there is one
    pub one_put : (tree : Option Tree) (said : Valuation → Option Bool) (new : List TreeChain) → Puts tree chains new
        → IfSome tree (IsTree now) → ((v : Valuation) → option_map (λ t. holds now t v) tree ≡ said v)
        → Steps old now (λ v stack. said v ∷ stack) chains new
    one_put tree said new (chain, trees, e) tree_made truth = record {
      made = subst (AreChains now) (sym e)
          (one_made now chain tree trees tree_made, chains_kept old now more chains made);
      truths = λ v.
          ap (λ cs. truths_of now cs v) e
          ∙ ap (λ t. t ∷ truths_of now chains v) (one_truth now chain tree said trees truth v)
          ∙ ap (λ ts. said v ∷ ts) (all_truths_kept old now more chains made v);
    }

    -- the tree of a comparison is
    pub says_put : (part : Part ExpressionRecord) (e : ExpressionRecord) → part ≡ Compared e → (tree : Tree)
        → trees.IsTreeOf now (expression_holds e) tree → (new : List TreeChain) → Puts (Some tree) chains new
        → Steps old now (λ v. told_by (λ x. expression_holds x v) part) chains new
    says_put part e is tree h new puts =
        subst (λ (p : Part ExpressionRecord). Steps old now (λ v. told_by (λ x. expression_holds x v) p) chains new) (sym is)
        (one_put (Some tree) (λ v. Some (expression_holds e v)) new puts h.made (λ v. ap Some (h.truth v)))

-- ---- all steps

-- some parts are left, and the chains are of those before them
pub record IsMaking (nodes : List NodeRecord) (whole left : List (Part ExpressionRecord)) (chains : List TreeChain)
    : Type 0 where
  pub made : AreChains nodes chains
  pub goes_on : (v : Valuation)
      → told (λ e. expression_holds e v) (truths_of nodes chains v) left ≡ told (λ e. expression_holds e v) [] whole

pub making_on : (nodes now : List NodeRecord) (whole left behind : List (Part ExpressionRecord))
    (part : Part ExpressionRecord) (chains new : List TreeChain) → left ≡ part ∷ behind
    → IsMaking nodes whole left chains
    → Steps nodes now (λ v. told_by (λ e. expression_holds e v) part) chains new
    → IsMaking now whole behind new
making_on nodes now whole left behind part chains new e h step = record {
  made = step.made;
  goes_on = λ v.
      ap (λ s. told (λ x. expression_holds x v) s behind) (step.truths v)
      ∙ sym (ap (told (λ x. expression_holds x v) (truths_of nodes chains v)) e) ∙ h.goes_on v;
}

rooted : (now : List NodeRecord) (whole : List (Part ExpressionRecord)) (tree : Option Tree) → IfSome tree (IsTree now)
    → ((v : Valuation) → option_map (λ t. holds now t v) tree
    ≡ truth_in (λ e. expression_holds e v) (formula_of whole))
    → (root : Tree) → root ≡ unwrap_or tree always → IsTreeOf now root (formula_of whole)
rooted now whole None made truth root e =
    subst (λ t. IsTreeOf now t (formula_of whole)) (sym e) (record {
      made = zero-le;
      truth = λ v. always_holds now v ∙ ap (λ o. unwrap_or o true) (truth v);
    })
rooted now whole (Some tree) made truth root e =
    subst (λ t. IsTreeOf now t (formula_of whole)) (sym e) (record {
      made = made;
      truth = λ v. ap (λ o. unwrap_or o true) (truth v);
    })

-- the tree of all
pub whole_made : (nodes now : List NodeRecord) (whole left : List (Part ExpressionRecord)) (chains : List TreeChain)
    → left ≡ [] → IsMaking nodes whole left chains → (chain : TreeChain) (others : List TreeChain)
    → TakesOff chains chain others → (tree : Option Tree) → IfSome tree (IsTree now)
    → ((v : Valuation) → option_map (λ t. holds now t v) tree ≡ truth_of nodes chain v)
    → (root : Tree) → root ≡ unwrap_or tree always → IsTreeOf now root (formula_of whole)
whole_made nodes now whole left chains e h chain others takes tree made truth root is =
    rooted now whole tree made (λ v.
    truth v ∙ last_truth nodes chains chain others takes v
    ∙ ap (last_or None)
    (sym (ap (told (λ x. expression_holds x v) (truths_of nodes chains v)) e) ∙ h.goes_on v)
    ∙ sym (formula_told (λ x. expression_holds x v) whole)) root is
