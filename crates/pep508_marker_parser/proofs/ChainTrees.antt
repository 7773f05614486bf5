-- The trees of chains, and how they are joined.
use Rattle.std.proofs.Common.{◌≡◌, ◌==◌, length, true≢false, Bool, true, false, not, ◌&&◌, ◌||◌, List, []}
use Rattle.std.proofs.Common.{◌∷◌}
use Rattle.std.proofs.Common.{◌++◌, map, Some, None, refl, ap, sym, subst, ◌∙◌}
use Rattle.std.specs.Prelude.{Option, option_map, IfSome}
use Rattle.std.specs.List.{AllByRecursion}
use Rattle.pep508_diagram.specs.Question.{Valuation}
use Rattle.pep508_tree.specs.Tree.{Tree}
use Rattle.pep508_tree.specs.Meaning.{NodeRecord, IsTree, Extends, holds}
use Rattle.pep508_tree.proofs.Conjoining.{tree_kept}
use Rattle.pep508_tree.proofs.Diagrams.{holds_kept}
use Rattle.pep508_conjunctions.specs.Meets.{all_true}
use Rattle.pep508_conjunctions.specs.Sources.{all_hold}
use Rattle.pep508_conjunctions.proofs.Meets.{and_true}
use Rattle.pep508_marker_parser.specs.declared.word.Word.{Word}
use Rattle.pep508_marker_parser.specs.declared.formula_tree.TreeChain.{TreeChain}
use Rattle.pep508_marker_parser.specs.Formula.{joined}
use Rattle.pep508_marker_parser.specs.MarkerReading.{Connective, And, Or}
use Rattle.pep508_marker_parser.specs.TreeReading.{connective, joins, chain_truth, listed}
use Rattle.pep508_marker_parser.specs.FormulaTrees.{IsChain, truth_of}

-- ---- truths

joined_assoc : (join : Bool → Bool → Bool) → ((a b c : Bool) → join a (join b c) ≡ join (join a b) c)
    → (a b c : Option Bool) → joined join a (joined join b c) ≡ joined join (joined join a b) c
joined_assoc join assoc None b c = refl
joined_assoc join assoc (Some a) None c = refl
joined_assoc join assoc (Some a) (Some b) None = refl
joined_assoc join assoc (Some a) (Some b) (Some c) = ap Some (assoc a b c)

joins_assoc : (word : Connective) (a b c : Bool) → joins word a (joins word b c) ≡ joins word (joins word a b) c
joins_assoc And true b c = refl
joins_assoc And false b c = refl
joins_assoc Or true b c = refl
joins_assoc Or false b c = refl

chain_append : (word : Connective) (xs ys : List Bool)
    → chain_truth word (xs ++ ys) ≡ joined (joins word) (chain_truth word xs) (chain_truth word ys)
chain_append word [] ys = refl
chain_append word (x ∷ xs) ys =
    ap (joined (joins word) (Some x)) (chain_append word xs ys)
    ∙ joined_assoc (joins word) (joins_assoc word) (Some x) (chain_truth word xs) (chain_truth word ys)

mapped : {A B : Type 0} (f : A → B) (xs ys : List A) → map f (xs ++ ys) ≡ map f xs ++ map f ys
mapped f [] ys = refl
mapped f (x ∷ xs) ys = ap (λ zs. f x ∷ zs) (mapped f xs ys)

part_truth : (word : Connective) (f : Tree → Bool) (tree : Option Tree)
    → chain_truth word (map f (listed tree)) ≡ option_map f tree
part_truth word f None = refl
part_truth word f (Some tree) = refl

-- ---- trees that are kept

all_kept : (old new : List NodeRecord) → Extends old new → (trees : List Tree) → AllByRecursion (IsTree old) trees
    → AllByRecursion (IsTree new) trees
all_kept old new more [] h = tt
all_kept old new more (t ∷ ts) h = (tree_kept old new more t h.0, all_kept old new more ts h.1)

truths_kept : (old new : List NodeRecord) → Extends old new → (trees : List Tree) → AllByRecursion (IsTree old) trees
    → (v : Valuation) → map (λ t. holds new t v) trees ≡ map (λ t. holds old t v) trees
truths_kept old new more [] h v = refl
truths_kept old new more (t ∷ ts) h v =
    ap (λ b. b ∷ map (λ t. holds new t v) ts) (holds_kept old new more t h.0 v)
    ∙ ap (λ bs. holds old t v ∷ bs) (truths_kept old new more ts h.1 v)

all_append : (P : Tree → Type 0) (xs ys : List Tree) → AllByRecursion P xs → AllByRecursion P ys
    → AllByRecursion P (xs ++ ys)
all_append P [] ys h k = k
all_append P (x ∷ xs) ys h k = (h.0, all_append P xs ys h.1 k)

all_listed : (P : Tree → Type 0) (tree : Option Tree) → IfSome tree P → AllByRecursion P (listed tree)
all_listed P None h = tt
all_listed P (Some t) h = (h, tt)

-- ---- all trees of a chain

and_chain : (b : Bool) (bs : List Bool) → Some (all_true (b ∷ bs)) ≡ chain_truth And (b ∷ bs)
and_chain b [] = ap Some (and_true b)
and_chain b (c ∷ bs) = ap (joined (joins And) (Some b)) (and_chain c bs)

not_both : (a b : Bool) → not (not a && b) ≡ (a || not b)
not_both true b = refl
not_both false b = refl

or_chain : (b : Bool) (bs : List Bool) → Some (not (all_true (map not (b ∷ bs)))) ≡ chain_truth Or (b ∷ bs)
or_chain true [] = refl
or_chain false [] = refl
or_chain b (c ∷ bs) =
    ap Some (not_both b (all_true (map not (c ∷ bs)))) ∙ ap (joined (joins Or) (Some b)) (or_chain c bs)

negations : (f : Tree → Bool) (trees : List Tree) → map (λ t. not (f t)) trees ≡ map not (map f trees)
negations f [] = refl
negations f (t ∷ trees) = ap (λ bs. not (f t) ∷ bs) (negations f trees)

-- all hold
pub all_and : (nodes : List NodeRecord) (trees : List Tree) (v : Valuation) → (length trees == 0) ≡ false
    → Some (all_hold nodes false trees v) ≡ chain_truth And (map (λ t. holds nodes t v) trees)
all_and nodes [] v some = absurd (true≢false some)
all_and nodes (t ∷ trees) v some = and_chain (holds nodes t v) (map (λ t. holds nodes t v) trees)

-- one of all holds, if not all negations do
pub one_or : (nodes : List NodeRecord) (trees : List Tree) (v : Valuation) → (length trees == 0) ≡ false
    → Some (not (all_hold nodes true trees v)) ≡ chain_truth Or (map (λ t. holds nodes t v) trees)
one_or nodes [] v some = absurd (true≢false some)
one_or nodes (t ∷ trees) v some =
    ap (λ bs. Some (not (all_true bs))) (negations (λ t. holds nodes t v) (t ∷ trees))
    ∙ or_chain (holds nodes t v) (map (λ t. holds nodes t v) trees)

-- ---- chains

-- the trees of a chain that were joined to one
pub one_made : (now : List NodeRecord) (chain : TreeChain) (tree : Option Tree) → chain.trees.items ≡ listed tree
    → IfSome tree (IsTree now) → IsChain now chain
one_made now chain tree e h = subst (AllByRecursion (IsTree now)) (sym e) (all_listed (IsTree now) tree h)

pub one_truth : (now : List NodeRecord) (chain : TreeChain) (tree : Option Tree) (said : Valuation → Option Bool)
    → chain.trees.items ≡ listed tree → ((v : Valuation) → option_map (λ t. holds now t v) tree ≡ said v)
    → (v : Valuation) → truth_of now chain v ≡ said v
one_truth now chain tree said e h v =
    ap (λ ts. chain_truth (connective chain.word) (map (λ t. holds now t v) ts)) e
    ∙ part_truth (connective chain.word) (λ t. holds now t v) tree ∙ h v

pub chain_kept : (old new : List NodeRecord) → Extends old new → (chain : TreeChain) → IsChain old chain
    → IsChain new chain
chain_kept old new more chain h = all_kept old new more chain.trees.items h

pub truth_kept : (old new : List NodeRecord) → Extends old new → (chain : TreeChain) → IsChain old chain
    → (v : Valuation) → truth_of new chain v ≡ truth_of old chain v
truth_kept old new more chain h v =
    ap (chain_truth (connective chain.word)) (truths_kept old new more chain.trees.items h v)

-- a chain with one tree more
module _ (old mid now : List NodeRecord) (kept : Extends old mid) (more : Extends mid now) (chain whole : TreeChain)
    (next : TreeChain) (tree : Option Tree) (same : whole.word ≡ chain.word)
    (pushed : whole.trees.items ≡ chain.trees.items ++ listed tree) (chain_made : IsChain mid chain)
    (made : IfSome tree (IsTree now)) where
  pub more_made : IsChain now whole
  more_made =
      subst (AllByRecursion (IsTree now)) (sym pushed)
      (all_append (IsTree now) chain.trees.items (listed tree) (all_kept mid now more chain.trees.items chain_made)
      (all_listed (IsTree now) tree made))

  pub more_truth : (word : Word) → chain.word ≡ word → (first : TreeChain)
      → ((v : Valuation) → truth_of mid chain v ≡ truth_of old first v) → IsChain old next
      → ((v : Valuation) → option_map (λ t. holds now t v) tree ≡ truth_of mid next v) → (v : Valuation)
      → truth_of now whole v ≡ joined (joins (connective word)) (truth_of old first v) (truth_of old next v)
  more_truth word is first first_truth next_made next_truth v =
      let w = connective word in
      let hold : Tree → Bool = λ t. holds now t v in
      ap (λ u. chain_truth (connective u) (map hold whole.trees.items)) (same ∙ is)
      ∙ ap (λ ts. chain_truth w (map hold ts)) pushed
      ∙ ap (chain_truth w) (mapped hold chain.trees.items (listed tree))
      ∙ chain_append w (map hold chain.trees.items) (map hold (listed tree))
      ∙ ap (λ x. joined (joins w) x (chain_truth w (map hold (listed tree))))
      (ap (λ u. chain_truth (connective u) (map hold chain.trees.items)) (sym is)
      ∙ truth_kept mid now more chain chain_made v ∙ first_truth v)
      ∙ ap (joined (joins w) (truth_of old first v))
      (part_truth w hold tree ∙ next_truth v ∙ truth_kept old mid kept next next_made v)
