-- One more node in the table.
use Rattle.std.proofs.Common.{◌≡◌, ℕ, ◌+◌, ◌<◌, Bool, true, false, cond, List, [], ◌∷◌, ◌++◌, Option, Some}
use Rattle.std.proofs.Common.{None, length, MatchOption, refl, ap, sym, subst, ◌∙◌, inl, inr, arith}
use Rattle.std.proofs.Common.{length-append, Equal, is_eq, true≢false}
use Rattle.std.specs.Cmp.{tied_itself}
use Rattle.std.specs.BTreeMap.{BTreeMap, get, is_at}
use Rattle.std.specs.Map.{lookup}
use Rattle.std.specs.declared.rc.Rc.{Rc}
use Rattle.pep508_diagram.proofs.Places.{equal_from}
use Rattle.pep508_tree.specs.Meaning.{NodeRecord}
use Rattle.pep508_tree.specs.Nodes.{AreSound, IsSoundNode, IsPlaced, node_at, node_cmp}
use Rattle.pep508_tree.specs.NodeLaws.{nodes_total}
use Rattle.pep508_tree.specs.Places.{nodes_of, StandAt}
use Rattle.pep508_tree.specs.Tags.{tagged_cmp}
use Rattle.pep508_tree.proofs.Storing.{at_end, in_front, in_or_last, sound_pushed}
use Rattle.pep508_tree.proofs.Splitting.{length_nodes}
use Rattle.pep508_tree.proofs.Tags.{tagged_ties}

-- what an answer of the map says
abbrev pub StandsAs : List NodeRecord → NodeRecord → Option ℕ → Type 0
StandsAs nodes node answer =
    MatchOption answer ((k : ℕ) → k < length nodes → node_cmp (node_at nodes k) node ≡ Equal → ⊥)
    (λ k. (k < length nodes) × (node_cmp (node_at nodes k) node ≡ Equal))

module _ (nodes : List NodeRecord) (n : NodeRecord) (k : ℕ) (here : k ≡ length nodes) where
  stands_by : (q : NodeRecord) (t : Bool) (answer : Option ℕ) → is_eq (node_cmp n q) ≡ t →
      StandsAs nodes q answer → StandsAs (nodes ++ n ∷ []) q (cond t (Some k) answer)
  stands_by q true answer t stands = (
    omega (arith, length-append nodes (n ∷ [])),
    ap (λ m. node_cmp m q) (ap (node_at (nodes ++ n ∷ [])) here ∙ at_end nodes n)
        ∙ equal_from (node_cmp n q) t,
  )
  stands_by q false None t stands = λ j inside same. elim (in_or_last nodes n j inside) [
    | inl a ↦ stands j a (ap (λ m. node_cmp m q) (sym (in_front nodes n j a)) ∙ same)
    | inr a ↦
        let last : node_at (nodes ++ n ∷ []) j ≡ n = ap (node_at (nodes ++ n ∷ [])) a ∙ at_end nodes n in
        true≢false (sym (ap is_eq (sym (ap (λ m. node_cmp m q) last) ∙ same)) ∙ t)
  ]
  stands_by q false (Some j) t stands = (
    omega (arith, length-append nodes (n ∷ []), stands.0),
    ap (λ m. node_cmp m q) (in_front nodes n j stands.0) ∙ stands.1,
  )

abbrev pub place_in : BTreeMap NodeRecord ℕ → NodeRecord → Option ℕ
place_in places node = get tagged_cmp places node

pub stand_answer : (nodes : List NodeRecord) (places : BTreeMap NodeRecord ℕ) (node : NodeRecord) (answer : Option ℕ) →
    StandAt nodes places → answer ≡ place_in places node → StandsAs nodes node answer
stand_answer nodes places node answer stand e = subst (StandsAs nodes node) (sym e) (stand node)

pub stand_same : (nodes : List NodeRecord) (old new : BTreeMap NodeRecord ℕ) → new.entries ≡ old.entries →
    StandAt nodes old → StandAt nodes new
stand_same nodes old new e stand node =
    subst (StandsAs nodes node) (ap (lookup (is_at (tagged_cmp node))) (sym e)) (stand node)

module _ (nodes : List NodeRecord) (n : NodeRecord) (k : ℕ) (here : k ≡ length nodes) where
  pub stand_pushed : (key : NodeRecord) (old new : BTreeMap NodeRecord ℕ) → key ≡ n →
      ((q : NodeRecord) → place_in new q ≡ cond (is_eq (tagged_cmp key q)) (Some k) (place_in old q)) →
      StandAt nodes old → StandAt (nodes ++ n ∷ []) new
  stand_pushed key old new e updates stand q =
      subst (StandsAs (nodes ++ n ∷ []) q)
      (sym (updates q ∙ ap (λ m. cond (is_eq (tagged_cmp m q)) (Some k) (place_in old q)) e
      ∙ ap (λ t. cond t (Some k) (place_in old q)) (tagged_ties n q)))
      (stands_by nodes n k here q (is_eq (node_cmp n q)) (place_in old q) refl (stand q))

module _ {A : Type 0} where
  pub nodes_push : (owners : List (Rc NodeRecord A)) (owner : Rc NodeRecord A) →
      nodes_of (owners ++ owner ∷ []) ≡ nodes_of owners ++ owner.value ∷ []
  nodes_push [] owner = refl
  nodes_push (o ∷ owners) owner = ap (λ ns. o.value ∷ ns) (nodes_push owners owner)

  -- a node put in
  pub record IsPut (items new : List (Rc NodeRecord A)) (new_places : BTreeMap NodeRecord ℕ) (n : NodeRecord)
      (k : ℕ) : Type 0 where
    pub nodes_are : nodes_of new ≡ nodes_of items ++ n ∷ []
    pub right : AreSound (nodes_of new) × StandAt (nodes_of new) new_places
    pub placed : IsPlaced (nodes_of new) n (k + 1)

  pub put_in : (items new : List (Rc NodeRecord A)) (places new_places : BTreeMap NodeRecord ℕ)
      (node : Rc NodeRecord A) (key n : NodeRecord) (k : ℕ) → new ≡ items ++ node ∷ [] → node.value ≡ n →
      key ≡ node.value → k ≡ length items →
      AreSound (nodes_of items) × StandAt (nodes_of items) places →
      IsSoundNode (nodes_of items) (length (nodes_of items)) n → None ≡ place_in places key →
      ((q : NodeRecord) → place_in new_places q ≡ cond (is_eq (tagged_cmp key q)) (Some k) (place_in places q)) →
      IsPut items new new_places n k
  put_in items new places new_places node key n k pushed is copy here right fits absent updates =
      let nodes = nodes_of items in
      let all : nodes_of new ≡ nodes ++ n ∷ [] =
      ap nodes_of pushed ∙ nodes_push items node ∙ ap (λ m. nodes ++ m ∷ []) is in
      let none : (j : ℕ) → j < length nodes → node_cmp (node_at nodes j) n ≡ Equal → ⊥ =
      subst (λ m. StandsAs nodes m None) (copy ∙ is) (stand_answer nodes places key None right.1 absent) in
      let sound = sound_pushed nodes n right.0 fits none in
      let place : k ≡ length nodes = here ∙ sym (length_nodes items) in
      record {
        nodes_are = all;
        right = subst (λ ns. AreSound ns × StandAt ns new_places) (sym all)
            (sound, stand_pushed nodes n k place key places new_places (copy ∙ is) updates right.1);
        placed = subst (λ ns. IsPlaced ns n (k + 1)) (sym all) (record {
          index = k;
          place_is = refl;
          inside = omega (arith, length-append nodes (n ∷ []), place);
          same = ap (λ m. node_cmp m n) (ap (node_at (nodes ++ n ∷ [])) place ∙ at_end nodes n)
              ∙ tied_itself nodes_total n;
          sound = sound;
        });
      }
