-- Trees in which the named extras are present: how they last while nodes are added, and how they are put together
-- from those that stand in a node.
use Rattle.std.proofs.Common.{◌≡◌, ◌∙◌, ℕ, ◌-◌, ◌<◌, Bool, true, false, cond, List}
use Rattle.std.proofs.Common.{refl, ap, sym, subst, arith, Option, Some, None, IfSome}
use Rattle.std.proofs.Common.{Less, true≢false}
use Rattle.std.specs.Prelude.{◌||◌, MatchOption}
use Rattle.std.specs.Borrow.{Bor}
use Rattle.std.specs.BTreeMap.{BTreeMap, get}
use Rattle.std.specs.Ordering.{nat_cmp}
use Rattle.std.specs.List.{AllByRecursion}
use Rattle.std.proofs.lemmas.List.{get_or_append_left}
use Rattle.version_ranges.specs.Point.{BelowAll}
use Rattle.version_ranges.specs.Turns.{flips}
use Rattle.pep508_diagram.specs.Text.{text_cmp}
use Rattle.pep508_diagram.specs.Question.{Valuation}
use Rattle.pep508_tree.specs.Tree.{Tree}
use Rattle.pep508_tree.specs.Meaning.{NodeRecord, Versions, Texts, Flagged, holds, IsTree, Extends}
use Rattle.pep508_tree.specs.Nodes.{AllChildren, IsRising, Above, chosen, no_node, node_at, node_place}
use Rattle.pep508_tree.specs.Nodes.{first_place, turned}
use Rattle.pep508_tree.specs.Joining.{children, node_joined}
use Rattle.pep508_tree.specs.Conjunctions.{Meet}
use Rattle.pep508_tree.specs.Roots.{IsRoot}
use Rattle.pep508_tree.proofs.Diagrams.{holds_kept}
use Rattle.pep508_tree.proofs.Storing.{above_kept}
use Rattle.pep508_tree.proofs.Meanings.{chosen_all, holds_turned}
use Rattle.pep508_tree.proofs.Roots.{constant_is}
use Rattle.pep508_tree.proofs.Conjoining.{tree_kept}
use Rattle.pep508_tree.proofs.Conjoining.{meet_with, children_list, children_joined, chosen_joined}
use Rattle.pep508_tree.proofs.Conjoining.{place_joined}
use Rattle.pep508_simplification.specs.Simplified.{with_named, is_named}
use Rattle.pep508_simplification.specs.Parts.{children_of, with_set, is_root_named, IsRejoined}
use Rattle.pep508_simplification.specs.Named.{AnswersBy, IsNamed, IsKnown, AreKnown, IsAsked, plain}

pub above_back : (old new : List NodeRecord) → Extends old new → (place : List ℕ) (t : Tree) → IsTree old t →
    Above new place t → Above old place t
unfolding Above
above_back old new e place t made above k f =
    let same : node_at new k ≡ node_at old k =
    ap (λ ns. node_at ns k) e.1 ∙ get_or_append_left old e.0 no_node k (omega arith) in
    subst (λ n. text_cmp place (node_place n) ≡ Less) same (above k f)

above_turned : (nodes : List NodeRecord) (place : List ℕ) (turns : Bool) (t : Tree) → Above nodes place t →
    Above nodes place (turned turns t)
unfolding Above
above_turned nodes place turns t above = above

above_plain : (nodes : List NodeRecord) (place : List ℕ) (turns : Bool) (t : Tree) →
    Above nodes place (turned turns t) → Above nodes place t
unfolding Above
above_plain nodes place turns t above = above

pub above_none : (nodes : List NodeRecord) (place : List ℕ) (t : Tree) → t.place ≡ 0 → Above nodes place t
unfolding Above
above_none nodes place t e k f = absurd (omega (arith, e, f))

pub above_first : (nodes : List NodeRecord) (place : List ℕ) (t : Tree) → 0 < t.place → Above nodes place t →
    text_cmp place (first_place nodes t) ≡ Less
unfolding Above
above_first nodes place t some above = above (t.place - 1) (omega (arith, some))

-- ---- signs

flips_itself : (b : Bool) → flips b b ≡ false
flips_itself true = refl
flips_itself false = refl

flips_false : (b : Bool) → flips b false ≡ b
flips_false true = refl
flips_false false = refl

pub plain_is : (t : Tree) → turned t.negated t ≡ plain t.place
plain_is t i = record { place = t.place; negated = flips_itself t.negated i }

pub plain_turned : (t : Tree) → turned t.negated (plain t.place) ≡ t
plain_turned t i = record { place = t.place; negated = flips_false t.negated i }

pub nowhere : Valuation
nowhere = record { version = λ key. BelowAll; text = λ key. BelowAll; flag = λ flag. false }

module _ (returns : Bor (List ℕ) → Bool → Type 0) where
  -- ---- nodes that are added

  pub named_later : (old now new : List NodeRecord) (t s : Tree) → Extends now new → IsNamed returns old now t s →
      IsNamed returns old new t s
  named_later old now new t s e n = record {
    made = tree_kept now new e s n.made;
    truth_is = λ says by v. holds_kept now new e s n.made v ∙ n.truth_is says by v;
    above = λ place p. above_kept now new e place s n.made (n.above place p);
  }

  pub named_earlier : (old now new : List NodeRecord) (t s : Tree) → Extends old now → IsTree old t →
      IsNamed returns now new t s → IsNamed returns old new t s
  named_earlier old now new t s e made n = record {
    made = n.made;
    truth_is = λ says by v. n.truth_is says by v ∙ holds_kept old now e t made (with_named says v);
    above = λ place p. n.above place (above_kept old now e place t made p);
  }

  pub named_now : (old new : List NodeRecord) (t s : Tree) → Extends old new → IsTree old t →
      IsNamed returns old new t s → IsNamed returns new new t s
  named_now old new t s e made n = record {
    made = n.made;
    truth_is = λ says by v. n.truth_is says by v ∙ sym (holds_kept old new e t made (with_named says v));
    above = λ place p. n.above place (above_back old new e place t made p);
  }

  named_turned : (old new : List NodeRecord) (turns : Bool) (t s : Tree) → IsNamed returns old new t s →
      IsNamed returns old new (turned turns t) (turned turns s)
  named_turned old new turns t s n = record {
    made = n.made;
    truth_is = λ says by v.
        holds_turned new turns s v ∙ ap (flips turns) (n.truth_is says by v)
        ∙ sym (holds_turned old turns t (with_named says v));
    above = λ place p. above_turned new place turns s (n.above place (above_plain old place turns t p));
  }

  -- what is found for the plain tree is found for both
  pub named_signed : (old new : List NodeRecord) (t s : Tree) → IsNamed returns old new (plain t.place) s →
      IsNamed returns old new t (turned t.negated s)
  named_signed old new t s n =
      subst (λ u. IsNamed returns old new u (turned t.negated s)) (plain_turned t)
      (named_turned old new t.negated (plain t.place) s n)

  pub known_kept : (old new : List NodeRecord) (known : BTreeMap ℕ Tree) → Extends old new →
      AreKnown returns old known → AreKnown returns new known
  known_kept old new known e all place = at (get nat_cmp known place) (all place)
    where
      at : (found : Option Tree) → IfSome found (IsKnown returns old place) → IfSome found (IsKnown returns new place)
      at None k = k
      at (Some s) k = record {
        made = tree_kept old new e (plain place) k.made;
        named = named_now old new (plain place) s e k.made (named_later old old new (plain place) s e k.named);
      }

  -- ---- roots

  pick : (P : Tree → Type 0) (b : Bool) (set unset : Tree) → P set → P unset → P (cond b set unset)
  pick P true set unset p q = p
  pick P false set unset p q = q

  side : (b n f : Bool) (set unset : Tree) → b ≡ n → cond (n || f) set unset ≡ cond f set (cond b set unset)
  side true true true set unset e = refl
  side true true false set unset e = refl
  side false false f set unset e = refl
  side true false f set unset e = absurd (true≢false e)
  side false true f set unset e = absurd (true≢false (sym e))

  pub asked : (nodes : List NodeRecord) (t : Tree) (o : Option NodeRecord) (b : Bool) →
      MatchOption o (t.place ≡ 0) (IsRoot nodes t) →
      ((says : List ℕ → Bool) → AnswersBy returns says → b ≡ is_root_named says o) →
      MatchOption (with_set b o) (t.place ≡ 0) (IsAsked returns nodes t)
  asked nodes t None b known named = known
  asked nodes t (Some (Versions key first later)) b root named = record {
    made = root.made;
    falls = root.falls;
    above = root.above;
    place_is = root.place_is;
    rises = root.rises;
    holds_is = λ says by v. root.holds_is (with_named says v);
  }
  asked nodes t (Some (Texts key first later)) b root named = record {
    made = root.made;
    falls = root.falls;
    above = root.above;
    place_is = root.place_is;
    rises = root.rises;
    holds_is = λ says by v. root.holds_is (with_named says v);
  }
  asked nodes t (Some (Flagged flag set unset)) b root named = record {
    made = (root.made.0, pick (IsTree nodes) b set unset root.made.0 root.made.1);
    falls = (root.falls.0, pick (λ child. child.place < t.place) b set unset root.falls.0 root.falls.1);
    above = (
      root.above.0,
      pick (Above nodes (node_place (Flagged flag set unset))) b set unset root.above.0
          root.above.1,
    );
    place_is = root.place_is;
    rises = tt;
    holds_is = λ says by v.
        root.holds_is (with_named says v)
        ∙ ap (λ c. holds nodes c (with_named says v))
        (side b (is_named says flag) (v.flag flag) set unset (named says by));
  }

  module _ (old now : List NodeRecord) (t : Tree) (trees : List Tree) where
    met_made : (n : NodeRecord) → Meet (IsNamed returns old now) (children n) trees →
        AllChildren (IsTree now) (node_joined n trees)
    met_made n met = children_joined (IsNamed returns old now) (IsTree now) (λ c s m. m.made) n trees met

    met_above : (n : NodeRecord) → AllChildren (Above old (node_place n)) n →
        Meet (IsNamed returns old now) (children n) trees →
        AllChildren (Above now (node_place n)) (node_joined n trees)
    met_above n above met =
        let behind = Above old (node_place n) in
        children_joined (λ c s. behind c × IsNamed returns old now c s) (Above now (node_place n))
        (λ c s m. m.1.above (node_place n) m.0) n trees
        (meet_with behind (IsNamed returns old now) (children n) trees (children_list behind n above) met)

    pub joined_made : (o : Option NodeRecord) → Meet (IsNamed returns old now) (children_of o) trees →
        IfSome o (λ n. AllChildren (IsTree now) (node_joined n trees))
    joined_made None met = tt
    joined_made (Some n) met = met_made n met

    pub joined_above : (o : Option NodeRecord) → MatchOption o (t.place ≡ 0) (IsAsked returns old t) →
        Meet (IsNamed returns old now) (children_of o) trees →
        IfSome o (λ n. AllChildren (Above now (node_place n)) (node_joined n trees))
    joined_above None asked met = tt
    joined_above (Some n) asked met = met_above n asked.above met

    pub joined_rising : (o : Option NodeRecord) → MatchOption o (t.place ≡ 0) (IsAsked returns old t) → IfSome o IsRising
    joined_rising None asked = tt
    joined_rising (Some n) asked = asked.rises

    pub joined_named : (new : List NodeRecord) (s : Tree) (o : Option NodeRecord) →
        MatchOption o (t.place ≡ 0) (IsAsked returns old t) → Extends old new → IsTree old t →
        Meet (IsNamed returns old now) (children_of o) trees → IsRejoined now new t o trees s →
        IsNamed returns old new t s
    joined_named new s None zero keeps made met is = subst (IsNamed returns old new t) (sym is) (record {
      made = tree_kept old new keeps t made;
      truth_is = λ says by v.
          (constant_is new t zero).holds_is v ∙ sym ((constant_is old t zero).holds_is (with_named says v));
      above = λ place p. above_none new place t zero;
    })
    joined_named new s (Some n) asked keeps made met is = record {
      made = is.made;
      truth_is = λ says by v.
          is.truth_is v
          ∙ (chosen_joined (IsNamed returns old now) n trees met asked.rises v).truth_is says by v
          ∙ sym (asked.holds_is says by v);
      above = λ place p.
          let below : (chosen n nowhere).place < t.place =
          chosen_all (λ (child : Tree). child.place < t.place) n nowhere asked.falls in
          is.above place
          (ap (λ other. text_cmp place other) (place_joined n trees ∙ asked.place_is)
          ∙ above_first old place t (omega (arith, below)) p);
    }

  -- ---- what stands in a root

  pub asked_made : (nodes : List NodeRecord) (t : Tree) (o : Option NodeRecord) →
      MatchOption o (t.place ≡ 0) (IsAsked returns nodes t) → AllByRecursion (IsTree nodes) (children_of o)
  asked_made nodes t None asked = tt
  asked_made nodes t (Some n) asked = children_list (IsTree nodes) n asked.made

  pub asked_falls : (nodes : List NodeRecord) (t : Tree) (o : Option NodeRecord) →
      MatchOption o (t.place ≡ 0) (IsAsked returns nodes t) → AllByRecursion (λ child. child.place < t.place) (children_of o)
  asked_falls nodes t None asked = tt
  asked_falls nodes t (Some n) asked = children_list (λ (child : Tree). child.place < t.place) n asked.falls
