-- When some valuation with just some extras makes a tree hold: a constant that holds, and a tree of which some
-- child can hold, unless the tree asks first for an extra.
use Rattle.std.proofs.Common.{◌≡◌, ◌↔◌, inl, inr, ℕ, zero, suc, ◌<◌, ◌≤◌, Bool, true, false, List, []}
use Rattle.std.proofs.Common.{◌∷◌, map, length, refl, sym, ap, subst, ◌∙◌, true≢false, arith, IsTrue, Option}
use Rattle.std.proofs.Common.{Some, None}
use Rattle.std.specs.Prelude.{IfSome, MatchOption, not, if◌then◌else◌, ◌-◌, ◌==◌}
use Rattle.std.specs.Cmp.{unsigned_Decides}
use Rattle.std.proofs.lemmas.Bool.{cases_Bool}
use Rattle.std.specs.List.{slice_get}
use Rattle.version_ranges.specs.Point.{BelowAll}
use Rattle.pep508_diagram.specs.declared.branch.Branch.{Branch}
use Rattle.pep508_diagram.specs.declared.variable.Flag.{Flag}
use Rattle.pep508_diagram.specs.declared.variable.Flag.TheVariants.{In, Contains, Extra, Arbitrary}
use Rattle.pep508_diagram.specs.Chains.{IsChild}
use Rattle.pep508_diagram.specs.Question.{Valuation}
use Rattle.pep508_diagram.specs.Question.{flag_rank}
use Rattle.pep508_diagram.proofs.Places.{rank_below}
use Rattle.pep508_tree.specs.Tree.{Tree, always}
use Rattle.pep508_tree.specs.Meaning.{NodeRecord, Versions, Texts, Flagged, holds, IsTree}
use Rattle.pep508_tree.specs.Nodes.{IsChildIn, Above, AreSound, chosen, node_at, node_place, signed}
use Rattle.pep508_tree.specs.Joining.{children}
use Rattle.pep508_tree.proofs.Meanings.{chosen_all, chosen_child, each_child}
use Rattle.pep508_tree.proofs.OneTree.{top_or_node, tree_is}
use Rattle.pep508_tree.proofs.Roots.{root_is, constant_is}
use Rattle.pep508_tree.proofs.Moving.{IsLaterFlag, StandsAt, moved_to}
use Rattle.pep508_tree.specs.Roots.{root_of, IsConstant, IsRoot}
use Rattle.pep508_evaluation.specs.Steps.{AsksNoExtra, GoesPast, children_of}
use Rattle.pep508_evaluation.specs.Valuations.{is_listed, HasJust, CanHold}

-- ---- constants

-- a valuation with just some extras
abbrev just_flags : List (List ℕ) → Flag → Bool
just_flags extras (In key text) = false
just_flags extras (Contains key text) = false
just_flags extras (Extra name) = is_listed extras name
just_flags extras (Arbitrary text) = false

abbrev just : List (List ℕ) → Valuation
just extras = record { version = λ key. BelowAll; text = λ key. BelowAll; flag = just_flags extras }

has_just : (extras : List (List ℕ)) → HasJust extras (just extras)
has_just extras = record { listed = λ name. refl; no_other = λ text. refl }

pub constant_holds : (nodes : List NodeRecord) (extras : List (List ℕ)) (tree : Tree) (truth : Bool) →
    IsConstant nodes tree truth → IsTrue truth ↔ CanHold nodes tree extras
constant_holds nodes extras tree truth is = (
  λ yes. (just extras, has_just extras, is.holds_is (just extras) ∙ yes),
  λ can. sym (is.holds_is can.0) ∙ can.2,
)

-- ---- a valuation that is moved to a child

-- extras come behind all that a node asks for that asks for none
extras_later : (n : NodeRecord) → AsksNoExtra n → (other : Flag) → 44 ≤ flag_rank other → IsLaterFlag n other
extras_later (Versions key first later) free other low = tt
extras_later (Texts key first later) free other low = tt
extras_later (Flagged (In key text) set unset) free other low = omega (arith, rank_below key, low)
extras_later (Flagged (Contains key text) set unset) free other low = omega (arith, rank_below key, low)
extras_later (Flagged (Extra name) set unset) free other low = absurd free
extras_later (Flagged (Arbitrary text) set unset) free other low = absurd free

module _ (nodes : List NodeRecord) (sound : AreSound nodes) (extras : List (List ℕ)) where
  kept_extras : (v : Valuation) → HasJust extras v → (n : NodeRecord) → AsksNoExtra n → (c : Tree)
      (w : Valuation) → StandsAt nodes sound v n c w → HasJust extras w
  kept_extras v has n free c w moved = record {
    listed = λ name.
        moved.flags (Extra name) (extras_later n free (Extra name) (omega arith)) ∙ has.listed name;
    no_other = λ text.
        moved.flags (Arbitrary text) (extras_later n free (Arbitrary text) (omega arith)) ∙ has.no_other text;
  }

  -- ---- a tree and its children

  pub holds_by_child : (tree : Tree) (n : NodeRecord) → IsRoot nodes tree n → AsksNoExtra n → (c : Tree) →
      IsChildIn c n → CanHold nodes c extras → CanHold nodes tree extras
  holds_by_child tree n root free c is can =
      let moved = moved_to nodes sound can.0 n root.rises c is in
      let w = moved.0 in
      let made = each_child (IsTree nodes) n c root.made is in
      let above = each_child (Above nodes (node_place n)) n c root.above is in (
        w,
        kept_extras can.0 can.1 n free c w moved.1,
        root.holds_is w ∙ ap (λ t. holds nodes t w) moved.1.stands ∙ moved.1.still c made above ∙ can.2,
      )

  pub child_holds : (tree : Tree) (n : NodeRecord) → IsRoot nodes tree n → CanHold nodes tree extras →
      (c : Tree) × IsChildIn c n × CanHold nodes c extras
  child_holds tree n root can =
      (chosen n can.0, chosen_child n can.0, (can.0, can.1, sym (root.holds_is can.0) ∙ can.2))

-- ---- children by their places

some_same : {A : Type 0} (x y : A) → Some x ≡ Some y → x ≡ y
some_same x y e = cc

between_at : {T : Type 0} (first : Tree) (later : List (Branch T Tree)) (i : ℕ) (c : Tree) →
    slice_get (first ∷ map (λ branch. branch.child) later) i ≡ Some c → IsChild c first later
between_at first [] zero c e = sym (some_same first c e)
between_at first [] (suc i) c e = absurd (cc)
between_at first (branch ∷ later) zero c e = inl (sym (some_same first c e))
between_at first (branch ∷ later) (suc i) c e = inr (between_at branch.child later i c e)

pub child_of_place : (n : NodeRecord) (i : ℕ) (c : Tree) → slice_get (children n) i ≡ Some c → IsChildIn c n
child_of_place (Versions key first later) i c e = between_at first later i c e
child_of_place (Texts key first later) i c e = between_at first later i c e
child_of_place (Flagged flag set unset) zero c e = inl (sym (some_same set c e))
child_of_place (Flagged flag set unset) (suc zero) c e = inr (sym (some_same unset c e))
child_of_place (Flagged flag set unset) (suc (suc i)) c e = absurd (cc)

-- where nothing stands, all stand before
none_behind : (cs : List Tree) (i : ℕ) → None ≡ slice_get cs i → length cs ≤ i
none_behind [] i e = omega arith
none_behind (c ∷ cs) zero e = absurd (cc)
none_behind (c ∷ cs) (suc i) e = omega (arith, none_behind cs i e)

-- a child stands at some place
abbrev pub StandsIn : List Tree → Tree → Type 0
StandsIn cs c = (i : ℕ) × (i < length cs) × (slice_get cs i ≡ Some c)

between_has : {T : Type 0} (first : Tree) (later : List (Branch T Tree)) (c : Tree) → IsChild c first later →
    StandsIn (first ∷ map (λ branch. branch.child) later) c
between_has first [] c is = (0, omega arith, ap Some (sym is))
between_has first (branch ∷ later) c (inl is) = (0, omega arith, ap Some (sym is))
between_has first (branch ∷ later) c (inr is) =
    let found = between_has branch.child later c is in (suc found.0, omega (arith, found.1), found.2)

pub place_of_child : (n : NodeRecord) (c : Tree) → IsChildIn c n → StandsIn (children n) c
place_of_child (Versions key first later) c is = between_has first later c is
place_of_child (Texts key first later) c is = between_has first later c is
place_of_child (Flagged flag set unset) c (inl is) = (0, omega arith, ap Some (sym is))
place_of_child (Flagged flag set unset) c (inr is) = (1, omega arith, ap Some (sym is))

-- ---- what is known of roots

not_true : (b : Bool) → not b ≡ true → b ≡ false
not_true true f = absurd (true≢false (sym f))
not_true false f = refl

none_some : (n : NodeRecord) → None ≡ Some n → ⊥
none_some n f = absurd (cc)

module _ (nodes : List NodeRecord) (sound : AreSound nodes) (tree : Tree) (made : IsTree nodes tree) where
  abbrev root_where : Bool → Option NodeRecord
  root_where constant =
      if constant then None else Some (signed tree.negated (node_at nodes (tree.place - 1)))

  not_zero : (tree.place == 0) ≡ false → 0 < tree.place
  not_zero node = elim (top_or_node tree.place) [
    | inl e ↦ absurd (true≢false (sym ((unsigned_Decides tree.place 0).1 e) ∙ node))
    | inr e ↦ omega (arith, e.1)
  ]

  pub known_root : IfSome (root_of nodes tree) (IsRoot nodes tree)
  known_root = elim (cases_Bool (tree.place == 0)) [
    | inl top ↦ subst (λ o. IfSome o (IsRoot nodes tree)) (sym (ap root_where top)) tt
    | inr node ↦
        subst (λ o. IfSome o (IsRoot nodes tree)) (sym (ap root_where node))
        (root_is nodes sound tree (not_zero node) made)
  ]

  pub known_constant : root_of nodes tree ≡ None → IsConstant nodes tree (not tree.negated)
  known_constant e = elim (cases_Bool (tree.place == 0)) [
    | inl top ↦ constant_is nodes tree ((unsigned_Decides tree.place 0).0 top)
    | inr node ↦ absurd (some_none (signed tree.negated (node_at nodes (tree.place - 1)))
        (sym (ap root_where node) ∙ e))
  ]
    where
      some_none : (n : NodeRecord) → Some n ≡ None → ⊥
      some_none n f = absurd (cc)

  -- a child by its place
  pub child_falls : (c : Option Tree) (i : ℕ) → c ≡ slice_get (children_of (root_of nodes tree)) i →
      MatchOption c (length (children_of (root_of nodes tree)) ≤ i)
      (λ child. IsTree nodes child × (child.place < tree.place))
  child_falls None i e = none_behind (children_of (root_of nodes tree)) i e
  child_falls (Some c) i e = at (root_of nodes tree) known_root e
    where
      at : (root : Option NodeRecord) → IfSome root (IsRoot nodes tree) →
          Some c ≡ slice_get (children_of root) i → IsTree nodes c × (c.place < tree.place)
      at None known f = absurd (cc)
      at (Some n) known f =
          let is = child_of_place n i c (sym f) in
          (each_child (IsTree nodes) n c known.made is, each_child (λ (x : Tree). x.place < tree.place) n c known.falls is)

  module _ (extras : List (List ℕ)) (free : IfSome (root_of nodes tree) AsksNoExtra) where
    -- a child that can hold
    pub some_holds : (i : ℕ) (c : Tree) → slice_get (children_of (root_of nodes tree)) i ≡ Some c →
        CanHold nodes c extras → CanHold nodes tree extras
    some_holds i c e can = at (root_of nodes tree) known_root free e
      where
        at : (root : Option NodeRecord) → IfSome root (IsRoot nodes tree) → IfSome root AsksNoExtra →
            slice_get (children_of root) i ≡ Some c → CanHold nodes tree extras
        at None known free f = absurd (cc)
        at (Some n) known free f =
            holds_by_child nodes sound extras tree n known free c (child_of_place n i c f) can

    -- a tree that can hold and doesn't always has a child that can
    pub some_child : CanHold nodes tree extras → (tree ≡ always → ⊥) →
        (c : Tree) × StandsIn (children_of (root_of nodes tree)) c × CanHold nodes c extras
    some_child can other = at (root_of nodes tree) refl known_root
      where
        at : (root : Option NodeRecord) → root_of nodes tree ≡ root → IfSome root (IsRoot nodes tree) →
            (c : Tree) × StandsIn (children_of root) c × CanHold nodes c extras
        at None e known =
            let constant = known_constant e in
            let holding = constant_holds nodes extras tree (not tree.negated) constant in
            absurd (other (tree_is tree always constant.place_is (not_true tree.negated (holding.1 can))))
        at (Some n) e known =
            let child = child_holds nodes sound extras tree n known can in
            (child.0, place_of_child n child.0 child.1, child.2)

-- the tree that always holds can
pub always_can : (nodes : List NodeRecord) (extras : List (List ℕ)) (tree : Tree) → tree ≡ always →
    CanHold nodes tree extras
always_can nodes extras tree is =
    subst (λ t. CanHold nodes t extras) (sym is)
    ((constant_holds nodes extras always true (constant_is nodes always refl)).0 refl)

-- ---- trees that ask first for an extra

module _ (nodes : List NodeRecord) (extras : List (List ℕ)) (tree : Tree) where
  pub goes_past : (flag : Flag) (set unset : Tree) (side : Option Tree) →
      root_of nodes tree ≡ Some (Flagged flag set unset) → IsRoot nodes tree (Flagged flag set unset) →
      MatchOption side (AsksNoExtra (Flagged flag set unset))
      (λ child. (v : Valuation) → HasJust extras v → chosen (Flagged flag set unset) v ≡ child) →
      MatchOption side (IfSome (root_of nodes tree) AsksNoExtra) (GoesPast nodes extras tree)
  goes_past flag set unset None e root free = subst (λ o. IfSome o AsksNoExtra) (sym e) free
  goes_past flag set unset (Some child) e root stands =
      let n : NodeRecord = Flagged flag set unset in
      let v = just extras in
      let at = stands v (has_just extras) in
      record {
        made = subst (IsTree nodes) at (chosen_all (IsTree nodes) n v root.made);
        falls = subst (λ (x : Tree). x.place < tree.place) at
            (chosen_all (λ (x : Tree). x.place < tree.place) n v root.falls);
        same = λ w has. root.holds_is w ∙ ap (λ c. holds nodes c w) (stands w has);
      }
