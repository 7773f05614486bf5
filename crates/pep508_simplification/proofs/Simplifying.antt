-- Trees that are simplified to a range of versions of Python: how they are found from a tree's root, how they last
-- while nodes are added, and how they are put together from those that stand in a node.
use Rattle.std.proofs.Common.{◌≡◌, ◌∙◌, inl, inr, ℕ, ◌+◌, ◌-◌, ◌<◌, ◌≤◌, Bool, true, false, cond, List, []}
use Rattle.std.proofs.Common.{◌∷◌, ◌++◌, length, get_or, take, refl, ap, sym, subst, arith, Option, Some}
use Rattle.std.proofs.Common.{None, IfSome, Less, Equal, true≢false}
use Rattle.std.specs.Prelude.{◌==◌, if◌then◌else◌, MatchOption}
use Rattle.std.specs.BTreeMap.{BTreeMap, get}
use Rattle.std.specs.Cmp.{nat_cmp_is, unsigned_Decides}
use Rattle.std.proofs.lemmas.Bool.{cases_Bool}
use Rattle.std.specs.Ordering.{ordering_then, is_eq}
use Rattle.std.specs.List.{AllByRecursion}
use Rattle.std.specs.declared.ops.Bound.{Bound}
use Rattle.std.proofs.lemmas.List.{take_more, take_all}
use Rattle.version_ranges.specs.Point.{Point}
use Rattle.version_ranges.specs.Bounds.{goes_on_to}
use Rattle.version_ranges.specs.Order.{start_point}
use Rattle.pep440_text.specs.Record.{VersionRecord}
use Rattle.pep440_version.specs.Order.{version_cmp}
use Rattle.pep440_range.specs.Ranges.{PointTest}
use Rattle.pep508_marker.specs.Keys.{text_key_rank}
use Rattle.pep508_diagram.specs.declared.branch.Branch.{Branch}
use Rattle.pep508_diagram.specs.declared.variable.VersionVariable.TheVariants.{ImplementationVersion}
use Rattle.pep508_diagram.specs.declared.variable.VersionVariable.TheVariants.{PythonFullVersion}
use Rattle.pep508_diagram.specs.Branches.{RisingBranches, AllBranches, NeighboursDiffer, branch_at}
use Rattle.pep508_diagram.specs.Question.{Valuation, flag_rank, flag_text}
use Rattle.pep508_diagram.specs.Text.{text_cmp}
use Rattle.pep508_diagram.proofs.Places.{equal_from, flag_rank_from}
use Rattle.pep508_tree.specs.Tree.{Tree, never}
use Rattle.pep508_tree.specs.Meaning.{NodeRecord, Versions, Texts, Flagged, holds, IsTree, Extends}
use Rattle.pep508_tree.specs.Nodes.{AllChildren, AreSound, Above, Made, chosen, node_at, node_place}
use Rattle.pep508_tree.specs.Nodes.{first_child, signed}
use Rattle.pep508_tree.specs.Joining.{children, node_joined}
use Rattle.pep508_tree.specs.Conjunctions.{Meet}
use Rattle.pep508_tree.specs.Roots.{root_of, IsRoot}
use Rattle.pep508_tree.proofs.Diagrams.{holds_kept}
use Rattle.pep508_tree.proofs.NodeChildren.{first_of_children}
use Rattle.pep508_tree.proofs.Storing.{above_kept, trees_same}
use Rattle.pep508_tree.proofs.OneTree.{top_or_node, tree_is}
use Rattle.pep508_tree.proofs.Roots.{root_is}
use Rattle.pep508_tree.proofs.Conjoining.{extends_on, tree_kept, meet_push, meet_weaker, meet_with}
use Rattle.pep508_tree.proofs.Conjoining.{children_list, children_joined, chosen_joined}
use Rattle.pep508_simplification.specs.Simplified.{between, with_python, IsNarrowed, IsEmptied, IsFree}
use Rattle.pep508_simplification.specs.Simplified.{IsSimplified}
use Rattle.pep508_simplification.specs.Parts.{children_of, IsRejoined}
use Rattle.pep508_simplification.specs.Narrowed.{python_of, asks_python, asks_implementation, cut}
use Rattle.pep508_simplification.specs.Narrowed.{implementation_place, python_place, named_by, name_cmp}
use Rattle.pep508_simplification.specs.Narrowed.{IsSimpler, IsRecalled, AreRecalled}
use Rattle.pep508_simplification.proofs.Naming.{above_back, above_none, above_first}
use Rattle.pep508_simplification.proofs.Narrowing.{unchanged, cut_made, cut_above, cut_rises, cut_differs}
use Rattle.pep508_simplification.proofs.Narrowing.{simplified_some, simplified_none}

-- ---- roots

pub known_root : (nodes : List NodeRecord) → AreSound nodes → (t : Tree) → IsTree nodes t →
    MatchOption (root_of nodes t) (t.place ≡ 0) (IsRoot nodes t)
known_root nodes sound t made = elim (cases_Bool (t.place == 0)) [
  | inl top ↦
      subst (λ o. MatchOption o (t.place ≡ 0) (IsRoot nodes t)) (sym (is true top))
      ((unsigned_Decides t.place 0).0 top)
  | inr other ↦
      subst (λ o. MatchOption o (t.place ≡ 0) (IsRoot nodes t)) (sym (is false other))
      (root_is nodes sound t (some other) made)
]
  where
    node : Option NodeRecord
    node = Some (signed t.negated (node_at nodes (t.place - 1)))

    is : (b : Bool) → (t.place == 0) ≡ b → root_of nodes t ≡ (if b then None else node)
    is b e = ap (λ c. if c then None else node) e

    some : (t.place == 0) ≡ false → 0 < t.place
    some other = elim (top_or_node t.place) [
      | inl e ↦ absurd (true≢false (sym ((unsigned_Decides t.place 0).1 e) ∙ other))
      | inr e ↦ omega (arith, e.1)
    ]

root_some : (nodes : List NodeRecord) (t : Tree) (n : NodeRecord) → IsRoot nodes t n → 0 < t.place
root_some nodes t n root =
    let first : (first_child n).place < t.place = first_of_children (λ (c : Tree). c.place < t.place) n root.falls in
    omega (arith, first)

above_by : (nodes : List NodeRecord) (place : List ℕ) (t : Tree) (o : Option NodeRecord) →
    MatchOption o (t.place ≡ 0) (IsRoot nodes t) → IfSome o (λ n. text_cmp place (node_place n) ≡ Less) →
    Above nodes place t
unfolding Above
above_by nodes place t None known less = above_none nodes place t known
above_by nodes place t (Some n) root less = λ k e.
    let here : t.place - 1 ≡ k = omega (arith, e) in
    subst (λ j. text_cmp place (node_place (node_at nodes j)) ≡ Less) here
    (subst (λ p. text_cmp place p ≡ Less) root.place_is less)

text_behind : (n r : ℕ) (rest : List ℕ) → n < r → text_cmp (n ∷ []) (r ∷ rest) ≡ Less
text_behind n r rest less = ap (λ c. ordering_then c (text_cmp [] rest)) (sym (nat_cmp_is n r Less less))

behind_implementation : (o : Option NodeRecord) → asks_implementation o ≡ false →
    IfSome o (λ n. text_cmp implementation_place (node_place n) ≡ Less)
behind_implementation None e = tt
behind_implementation (Some (Versions ImplementationVersion f l)) e = absurd (true≢false e)
behind_implementation (Some (Versions PythonFullVersion f l)) e = text_behind 0 1 [] (omega arith)
behind_implementation (Some (Texts key f l)) e = text_behind 0 (2 + text_key_rank key) [] (omega arith)
behind_implementation (Some (Flagged flag s u)) e =
    text_behind 0 (flag_rank flag) (flag_text flag) (omega (arith, flag_rank_from flag))

-- a tree that doesn't begin with `implementation_version` asks nothing of it
pub above_implementation : (nodes : List NodeRecord) → AreSound nodes → (t : Tree) → IsTree nodes t →
    asks_implementation (root_of nodes t) ≡ false → Above nodes implementation_place t
above_implementation nodes sound t made e =
    above_by nodes implementation_place t (root_of nodes t) (known_root nodes sound t made)
    (behind_implementation (root_of nodes t) e)

not_itself : text_cmp implementation_place implementation_place ≡ Less → ⊥
not_itself e = let l : Equal ≡ Less = e in absurd (cc)

behind_python : (nodes : List NodeRecord) (t : Tree) (o : Option NodeRecord) →
    MatchOption o (t.place ≡ 0) (IsRoot nodes t) → Above nodes implementation_place t → asks_python o ≡ false →
    IfSome o (λ n. text_cmp python_place (node_place n) ≡ Less)
behind_python nodes t None known above e = tt
behind_python nodes t (Some (Versions ImplementationVersion f l)) root above e =
    absurd (not_itself (subst (λ p. text_cmp implementation_place p ≡ Less) (sym root.place_is)
    (above_first nodes implementation_place t (root_some nodes t (Versions ImplementationVersion f l) root) above)))
behind_python nodes t (Some (Versions PythonFullVersion f l)) root above e = absurd (true≢false e)
behind_python nodes t (Some (Texts key f l)) root above e = text_behind 1 (2 + text_key_rank key) [] (omega arith)
behind_python nodes t (Some (Flagged flag s u)) root above e =
    text_behind 1 (flag_rank flag) (flag_text flag) (omega (arith, flag_rank_from flag))

-- ---- trees without `implementation_version`

module _ (nodes : List NodeRecord) (sound : AreSound nodes) (lower upper : Bound VersionRecord) (t : Tree)
    (made : IsTree nodes t) (above : Above nodes implementation_place t) where
  abbrev range : PointTest
  range = between lower upper

  alone_above : (o : Option NodeRecord) → MatchOption o (t.place ≡ 0) (IsRoot nodes t) → asks_python o ≡ false →
      Above nodes python_place t
  alone_above o known e = above_by nodes python_place t o known (behind_python nodes t o known above e)

  -- what is cut of a node of `python_full_version`, or the tree alone
  on : (P : Tree × List (Branch VersionRecord Tree) → Type 0) →
      ((f : Tree) (l : List (Branch VersionRecord Tree)) → IsRoot nodes t (Versions PythonFullVersion f l) →
      P (cut lower upper (f, l))) → (Above nodes python_place t → P (t, [])) → (o : Option NodeRecord) →
      MatchOption o (t.place ≡ 0) (IsRoot nodes t) → P (cut lower upper (python_of t o))
  on P all alone None known = alone (alone_above None known refl)
  on P all alone (Some (Versions ImplementationVersion f l)) root =
      alone (alone_above (Some (Versions ImplementationVersion f l)) root refl)
  on P all alone (Some (Versions PythonFullVersion f l)) root = all f l root
  on P all alone (Some (Texts key f l)) root = alone (alone_above (Some (Texts key f l)) root refl)
  on P all alone (Some (Flagged flag s u)) root = alone (alone_above (Some (Flagged flag s u)) root refl)

  module _ (first : Tree) (later : List (Branch VersionRecord Tree))
      (found : (first, later) ≡ cut lower upper (python_of t (root_of nodes t))) where
    of_root : (P : Tree × List (Branch VersionRecord Tree) → Type 0) →
        ((f : Tree) (l : List (Branch VersionRecord Tree)) → IsRoot nodes t (Versions PythonFullVersion f l) →
        P (cut lower upper (f, l))) → (Above nodes python_place t → P (t, [])) → P (first, later)
    of_root P all alone = subst P (sym found) (on P all alone (root_of nodes t) (known_root nodes sound t made))

    pub found_made : AllBranches (IsTree nodes) first later
    found_made =
        of_root (λ n. AllBranches (IsTree nodes) n.0 n.1) (λ f l root. cut_made nodes sound lower upper t f l root)
        (λ over. made)

    pub found_above : AllBranches (Above nodes python_place) first later
    found_above =
        of_root (λ n. AllBranches (Above nodes python_place) n.0 n.1)
        (λ f l root. cut_above nodes sound lower upper t f l root) (λ over. over)

    pub found_rises : RisingBranches version_cmp later
    found_rises =
        of_root (λ n. RisingBranches version_cmp n.1) (λ f l root. cut_rises nodes sound lower upper t f l root)
        (λ over. tt)

    pub found_differ : NeighboursDiffer first later
    found_differ =
        of_root (λ n. NeighboursDiffer n.0 n.1) (λ f l root. cut_differs nodes sound lower upper t f l root)
        (λ over. tt)

    pub found_simpler : (new : List NodeRecord) (s : Tree) →
        goes_on_to version_cmp upper (start_point lower) ≡ true →
        Made nodes new (Versions PythonFullVersion first later) s → IsSimpler range nodes new t s
    found_simpler new s goes is = record {
      made = is.made;
      truth_is =
          of_root
          (λ n. Made nodes new (Versions PythonFullVersion n.0 n.1) s →
          IsSimplified range (holds nodes t) (holds new s))
          (λ f l root m. simplified_some nodes sound lower upper t f l root new s m goes)
          (λ over m.
          subst (IsSimplified range (holds nodes t)) (λ i v. sym (m.truth_is v) i)
          (unchanged nodes sound lower upper t made over)) is;
      above = λ p. is.above implementation_place refl;
    }

  -- ---- an empty range

  pub kept_simpler : (b : Bool) → b ≡ asks_python (root_of nodes t) → b ≡ false → IsSimpler range nodes nodes t t
  kept_simpler b asks unset = record {
    made = made;
    truth_is =
        unchanged nodes sound lower upper t made
        (alone_above (root_of nodes t) (known_root nodes sound t made) (sym asks ∙ unset));
    above = λ p. p;
  }

  emptied : (o : Option NodeRecord) → MatchOption o (t.place ≡ 0) (IsRoot nodes t) → asks_python o ≡ true →
      goes_on_to version_cmp upper (start_point lower) ≡ false →
      IsSimplified range (holds nodes t) (holds nodes never)
  emptied None known e off = absurd (true≢false (sym e))
  emptied (Some (Versions ImplementationVersion f l)) root e off = absurd (true≢false (sym e))
  emptied (Some (Versions PythonFullVersion f l)) root e off =
      simplified_none nodes sound lower upper t f l root off
  emptied (Some (Texts key f l)) root e off = absurd (true≢false (sym e))
  emptied (Some (Flagged flag s u)) root e off = absurd (true≢false (sym e))

  pub empty_simpler : (b : Bool) → b ≡ asks_python (root_of nodes t) → b ≡ true →
      goes_on_to version_cmp upper (start_point lower) ≡ false → IsSimpler range nodes nodes t never
  empty_simpler b asks set off = record {
    made = omega arith;
    truth_is = emptied (root_of nodes t) (known_root nodes sound t made) (sym asks ∙ set) off;
    above = λ p. above_none nodes implementation_place never refl;
  }

-- ---- nodes that are added

module _ (range : PointTest) where
  pub simpler_later : (old now new : List NodeRecord) (t s : Tree) → Extends now new → IsSimpler range old now t s →
      IsSimpler range old new t s
  simpler_later old now new t s e n = record {
    made = tree_kept now new e s n.made;
    truth_is =
        subst (IsSimplified range (holds old t)) (λ i v. sym (holds_kept now new e s n.made v) i) n.truth_is;
    above = λ p. above_kept now new e implementation_place s n.made (n.above p);
  }

  pub simpler_earlier : (old now new : List NodeRecord) (t s : Tree) → Extends old now → IsTree old t →
      IsSimpler range now new t s → IsSimpler range old new t s
  simpler_earlier old now new t s e made n = record {
    made = n.made;
    truth_is =
        subst (λ f. IsSimplified range f (holds new s)) (λ i v. holds_kept old now e t made v i) n.truth_is;
    above = λ p. n.above (above_kept old now e implementation_place t made p);
  }

  pub simpler_now : (old new : List NodeRecord) (t s : Tree) → Extends old new → IsTree old t →
      IsSimpler range old new t s → IsSimpler range new new t s
  simpler_now old new t s e made n = record {
    made = n.made;
    truth_is =
        subst (λ f. IsSimplified range f (holds new s)) (λ i v. sym (holds_kept old new e t made v) i) n.truth_is;
    above = λ p. n.above (above_back old new e implementation_place t made p);
  }

  pub recalled_kept : (old new : List NodeRecord) (known : BTreeMap (ℕ × Bool) Tree) → Extends old new →
      AreRecalled range old known → AreRecalled range new known
  recalled_kept old new known e all name = at (get name_cmp known name) (all name)
    where
      at : (found : Option Tree) → IfSome found (IsRecalled range old (named_by name)) →
          IfSome found (IsRecalled range new (named_by name))
      at None k = k
      at (Some s) k = record {
        made = tree_kept old new e (named_by name) k.made;
        simpler =
            simpler_now old new (named_by name) s e k.made
            (simpler_later old old new (named_by name) s e k.simpler);
      }

  -- ---- trees in turn

  pub record AreSimpler (old now : List NodeRecord) (trees : List Tree) (i : ℕ) (simple : List Tree)
      (known : BTreeMap (ℕ × Bool) Tree) : Type 0 where
    pub keeps : Extends old now
    pub met : Meet (IsSimpler range old now) (take i trees) simple
    pub kept : AreRecalled range now known

  pub simpler_more : (old now new : List NodeRecord) (trees simple more : List Tree)
      (known later : BTreeMap (ℕ × Bool) Tree) (i : ℕ) (t s : Tree) → AreSimpler old now trees i simple known →
      i < length trees → t ≡ get_or trees i t → IsTree old t → Extends now new → IsSimpler range now new t s →
      AreRecalled range new later → more ≡ simple ++ s ∷ [] → AreSimpler old new trees (i + 1) more later
  simpler_more old now new trees simple more known later i t s f inside e made keeps n kept pushed = record {
    keeps = extends_on old now new f.keeps keeps;
    met =
        let before : Meet (IsSimpler range old new) (take i trees) simple =
        meet_weaker (IsSimpler range old now) (IsSimpler range old new)
        (λ u w d. simpler_later old now new u w keeps d) (take i trees) simple f.met in
        let here : IsSimpler range old new t s = simpler_earlier old now new t s f.keeps made n in
        let longer : take (i + 1) trees ≡ take i trees ++ t ∷ [] =
        take_more trees i t inside ∙ ap (λ u. take i trees ++ u ∷ []) (sym e) in
        subst (λ xs. Meet (IsSimpler range old new) xs more) (sym longer)
        (subst (Meet (IsSimpler range old new) (take i trees ++ t ∷ [])) (sym pushed)
        (meet_push (IsSimpler range old new) (take i trees) simple t s before here));
    kept = kept;
  }

  pub simpler_all : (old now : List NodeRecord) (trees simple : List Tree) (i : ℕ)
      (known : BTreeMap (ℕ × Bool) Tree) → AreSimpler old now trees i simple known → length trees ≤ i →
      Meet (IsSimpler range old now) trees simple
  simpler_all old now trees simple i known f all =
      subst (λ xs. Meet (IsSimpler range old now) xs simple) (take_all i trees all) f.met

  -- ---- nodes of `implementation_version`

  module _ (old now : List NodeRecord) (t : Tree) (trees : List Tree) (f : Tree)
      (l : List (Branch VersionRecord Tree)) (root : IsRoot old t (Versions ImplementationVersion f l))
      (met : Meet (IsSimpler range old now) (children (Versions ImplementationVersion f l)) trees) where
    abbrev n : NodeRecord
    n = Versions ImplementationVersion f l

    pub simpler_made : AllChildren (IsTree now) (node_joined n trees)
    simpler_made = children_joined (IsSimpler range old now) (IsTree now) (λ c s m. m.made) n trees met

    pub simpler_above : AllChildren (Above now implementation_place) (node_joined n trees)
    simpler_above =
        let behind = Above old implementation_place in
        children_joined (λ c s. behind c × IsSimpler range old now c s) (Above now implementation_place)
        (λ c s m. m.1.above m.0) n trees
        (meet_with behind (IsSimpler range old now) (children n) trees (children_list behind n root.above) met)

    module _ (new : List NodeRecord) (s : Tree) (is : Made now new (node_joined n trees) s) where
      at : (v : Valuation) → IsSimpler range old now (chosen n v) (chosen (node_joined n trees) v)
      at v = chosen_joined (IsSimpler range old now) n trees met root.rises v

      narrowed_at : (q : Point VersionRecord) → range q ≡ true → (v : Valuation) →
          IsNarrowed range (λ p. holds old t (with_python v p)) (λ p. holds new s (with_python v p))
      narrowed_at q here v =
          subst (λ before. IsNarrowed range before (λ p. holds new s (with_python v p)))
          (λ i p. sym (root.holds_is (with_python v p)) i)
          (subst (IsNarrowed range (λ p. holds old (chosen n v) (with_python v p)))
          (λ i p. sym (is.truth_is (with_python v p)) i) ((at v).truth_is.somewhere q here v))

      -- where `implementation_version` is fixed the tree is one of its children
      child_is : (v w : Valuation) → w.version ImplementationVersion ≡ v.version ImplementationVersion →
          holds old t w ≡ holds old (chosen n v) w
      child_is v w e =
          root.holds_is w ∙ ap (λ i. holds old (branch_at version_cmp f l i) w) e

      free_child : (v : Valuation) → IsFree (holds old t) (v.version ImplementationVersion) →
          IsFree (holds old (chosen n v)) (v.version ImplementationVersion)
      free_child v free w e p = sym (child_is v (with_python w p) e) ∙ free w e p ∙ child_is v w e

      free_tree : (v : Valuation) → IsFree (holds old (chosen n v)) (v.version ImplementationVersion) →
          IsFree (holds old t) (v.version ImplementationVersion)
      free_tree v free w e p = child_is v (with_python w p) e ∙ free w e p ∙ sym (child_is v w e)

      emptied_at : ((q : Point VersionRecord) → range q ≡ false) → (v : Valuation) →
          IsEmptied (holds old t) v (holds new s v)
      emptied_at none v =
          let child = (at v).truth_is.nowhere none v in
          record {
            free = λ free. is.truth_is v ∙ child.free (free_child v free) ∙ sym (root.holds_is v);
            bound = λ bound. is.truth_is v ∙ child.bound (λ free. bound (free_tree v free));
          }

      pub simplified_joined : IsSimplified range (holds old t) (holds new s)
      simplified_joined = record { somewhere = narrowed_at; nowhere = emptied_at }

-- ---- what is remembered

module _ (range : PointTest) where
  pub recalled_at : (nodes : List NodeRecord) (known : BTreeMap (ℕ × Bool) Tree) (name : ℕ × Bool) (t s : Tree) →
      AreRecalled range nodes known → name.0 ≡ t.place → name.1 ≡ t.negated → Some s ≡ get name_cmp known name →
      IsSimpler range nodes nodes t s
  recalled_at nodes known name t s all place negated there =
      let here : IsRecalled range nodes (named_by name) s =
      subst (λ o. IfSome o (IsRecalled range nodes (named_by name))) (sym there) (all name) in
      subst (λ u. IsSimpler range nodes nodes u s) (tree_is (named_by name) t place negated) here.simpler

  pub recalled_more : (old new : List NodeRecord) (known later : BTreeMap (ℕ × Bool) Tree) (name : ℕ × Bool)
      (t s : Tree) → Extends old new → IsTree old t → name.0 ≡ t.place → name.1 ≡ t.negated →
      AreRecalled range old known → IsSimpler range old new t s →
      ((other : ℕ × Bool) → get name_cmp later other
      ≡ cond (is_eq (name_cmp name other)) (Some s) (get name_cmp known other)) → AreRecalled range new later
  recalled_more old new known later name t s e made place negated all simpler updates other =
      elim (cases_Bool (is_eq (name_cmp name other))) [
        | inl same ↦
            let here : IsRecalled range new t s = record {
              made = tree_kept old new e t made;
              simpler = simpler_now range old new t s e made simpler;
            } in
            let one : t ≡ named_by other =
            sym (tree_is (named_by name) t place negated)
            ∙ trees_same (named_by name) (named_by other) (equal_from (name_cmp name other) same) in
            subst (λ o. IfSome o (IsRecalled range new (named_by other)))
            (sym (updates other ∙ ap (λ b. cond b (Some s) (get name_cmp known other)) same))
            (subst (λ u. IsRecalled range new u s) one here)
        | inr apart ↦
            subst (λ o. IfSome o (IsRecalled range new (named_by other)))
            (sym (updates other ∙ ap (λ b. cond b (Some s) (get name_cmp known other)) apart))
            (recalled_kept range old new known e all other)
      ]

-- ---- roots that ask of `implementation_version`

pub made_list : (nodes : List NodeRecord) (t : Tree) (o : Option NodeRecord) →
    MatchOption o (t.place ≡ 0) (IsRoot nodes t) → AllByRecursion (IsTree nodes) (children_of o)
made_list nodes t None known = tt
made_list nodes t (Some n) root = children_list (IsTree nodes) n root.made

module _ (old : List NodeRecord) (t : Tree) where
  by_node : (P : Option NodeRecord → Type 0) →
      ((f : Tree) (l : List (Branch VersionRecord Tree)) → IsRoot old t (Versions ImplementationVersion f l) →
      P (Some (Versions ImplementationVersion f l))) → (o : Option NodeRecord) →
      MatchOption o (t.place ≡ 0) (IsRoot old t) → asks_implementation o ≡ true → P o
  by_node P all None known e = absurd (true≢false (sym e))
  by_node P all (Some (Versions ImplementationVersion f l)) root e = all f l root
  by_node P all (Some (Versions PythonFullVersion f l)) root e = absurd (true≢false (sym e))
  by_node P all (Some (Texts key f l)) root e = absurd (true≢false (sym e))
  by_node P all (Some (Flagged flag s u)) root e = absurd (true≢false (sym e))

  pub above_list : (o : Option NodeRecord) → MatchOption o (t.place ≡ 0) (IsRoot old t) →
      asks_implementation o ≡ true → AllByRecursion (Above old implementation_place) (children_of o)
  above_list =
      by_node (λ o. AllByRecursion (Above old implementation_place) (children_of o))
      (λ f l root. children_list (Above old implementation_place) (Versions ImplementationVersion f l) root.above)

  module _ (range : PointTest) (now : List NodeRecord) (trees : List Tree) where
    abbrev IsMet : Option NodeRecord → Type 0
    IsMet o = Meet (IsSimpler range old now) (children_of o) trees

    pub rejoined_made : (o : Option NodeRecord) → MatchOption o (t.place ≡ 0) (IsRoot old t) →
        asks_implementation o ≡ true → IsMet o → IfSome o (λ n. AllChildren (IsTree now) (node_joined n trees))
    rejoined_made =
        by_node (λ o. IsMet o → IfSome o (λ n. AllChildren (IsTree now) (node_joined n trees)))
        (λ f l root met. simpler_made range old now t trees f l root met)

    pub rejoined_above : (o : Option NodeRecord) → MatchOption o (t.place ≡ 0) (IsRoot old t) →
        asks_implementation o ≡ true → IsMet o →
        IfSome o (λ n. AllChildren (Above now (node_place n)) (node_joined n trees))
    rejoined_above =
        by_node (λ o. IsMet o → IfSome o (λ n. AllChildren (Above now (node_place n)) (node_joined n trees)))
        (λ f l root met. simpler_above range old now t trees f l root met)

    pub rejoined_simplified : (o : Option NodeRecord) → MatchOption o (t.place ≡ 0) (IsRoot old t) →
        asks_implementation o ≡ true → IsMet o → (new : List NodeRecord) (s : Tree) →
        IsRejoined now new t o trees s → IsSimplified range (holds old t) (holds new s)
    rejoined_simplified =
        by_node
        (λ o. IsMet o → (new : List NodeRecord) (s : Tree) → IsRejoined now new t o trees s →
        IsSimplified range (holds old t) (holds new s))
        (λ f l root met new s is. simplified_joined range old now t trees f l root met new s is)
