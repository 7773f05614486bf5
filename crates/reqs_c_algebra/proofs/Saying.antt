-- What is said of markers by their trees.
use Rattle.std.proofs.Common.{◌≡◌, ◌↔◌, ℕ, Bool, true, false, IsTrue, List, Result, Ok, Err, IfOk, MatchResult}
use Rattle.std.proofs.Common.{inl, inr, refl, sym, subst}
use Rattle.pep508_tree.specs.Tree.{Tree}
use Rattle.pep508_tree.specs.Meaning.{NodeRecord, holds}
use Rattle.reqs_c_reply.specs.declared.place.Place.{Place}
use Rattle.reqs_c_reply.specs.Endings.{Ending, Answered, Different, Refused, OutOfMemory, EndsIn}
use Rattle.reqs_c_reply.specs.Endings.{NoRefusal, yes_or_no}
use Rattle.reqs_c_markers.specs.Markers.{marker_holds, IsMarkerTree, AreFew, RefusesTree}
use Rattle.reqs_c_algebra.specs.Relations.{Values, SaysOf, IsYesOrNo, SaysOfTwo, EndsOnTwo, RefusesEither}

-- ---- endings

-- a call that answers so answers what follows from it
pub answers_more : (Answers More : List ℕ → Type 0) (Refuses : Place → List ℕ → Type 0)
    → ((text : List ℕ) → Answers text → More text) → (ending : Ending) → EndsIn Answers NoRefusal ending
    → EndsIn More Refuses ending
answers_more Answers More Refuses each (Answered text) h = each text h
answers_more Answers More Refuses each (Different text) h = absurd h
answers_more Answers More Refuses each (Refused place message) h = absurd h
answers_more Answers More Refuses each OutOfMemory h = tt

yes_said : (Holds : Type 0) (answer : Bool) (text : List ℕ) → (IsTrue answer) ↔ Holds → text ≡ yes_or_no answer
    → IsYesOrNo Holds text
yes_said Holds true text h is = inl (is, h.0 refl)
yes_said Holds false text h is = inr (is, λ holds. differ (h.1 holds))
  where
    differ : false ≡ true → ⊥
    differ e = absurd (cc)

-- an answer that a test gives
pub whether : {E : Type 0} (Holds : Type 0) (answer : Result Bool E) (ending : Ending)
    → IfOk answer (λ b. (IsTrue b) ↔ Holds)
    → MatchResult answer (λ b. EndsIn (λ text. text ≡ yes_or_no b) NoRefusal ending) (λ error. ending ≡ OutOfMemory)
    → EndsIn (IsYesOrNo Holds) NoRefusal ending
whether Holds (Ok answer) ending h said =
    answers_more (λ text. text ≡ yes_or_no answer) (IsYesOrNo Holds) NoRefusal
    (λ text is. yes_said Holds answer text h is) ending said
whether Holds (Err error) ending h none = subst (EndsIn (IsYesOrNo Holds) NoRefusal) (sym none) tt

-- ---- markers by their trees

-- a tree has the values of its marker
pub tree_values : (nodes : List NodeRecord) (bytes : List ℕ) (tree : Tree) (is : IsMarkerTree nodes bytes tree)
    → holds nodes tree ≡ marker_holds is.marker
tree_values nodes bytes tree is = λ i v. is.is_tree.truth v i

-- what is said of the tree is said of the marker
pub says_so : (most : ℕ) (nodes : List NodeRecord) (bytes : List ℕ) (tree : Tree) (Says : Values → List ℕ → Type 0)
    (said : List ℕ) → AreFew most nodes → IsMarkerTree nodes bytes tree → Says (holds nodes tree) said
    → SaysOf most bytes Says said
says_so most nodes bytes tree Says said few is h = record {
  marker = is.marker;
  is_marker = is.is_marker;
  has_tree = record { nodes = nodes; tree = tree; are_few = few; is_tree = is };
  says = subst (λ (value : Values). Says value said) (tree_values nodes bytes tree is) h;
}

pub says_of : (most : ℕ) (nodes : List NodeRecord) (bytes : List ℕ) (tree : Tree) (Says : Values → List ℕ → Type 0)
    (said : List ℕ) (ending : Ending) → AreFew most nodes → IsMarkerTree nodes bytes tree
    → Says (holds nodes tree) said → EndsIn (λ text. text ≡ said) NoRefusal ending
    → EndsIn (SaysOf most bytes Says) (RefusesTree 1 most bytes) ending
says_of most nodes bytes tree Says said ending few is h ends =
    answers_more (λ text. text ≡ said) (SaysOf most bytes Says) (RefusesTree 1 most bytes)
    (λ text e. subst (SaysOf most bytes Says) (sym e) (says_so most nodes bytes tree Says said few is h)) ending ends

module _ (most : ℕ) (nodes : List NodeRecord) (left right : List ℕ) (first second : Tree)
    (StandSo : Values → Values → Type 0) where
  -- and of two
  pub says_of_two : (ending : Ending) → AreFew most nodes → IsMarkerTree nodes left first
      → IsMarkerTree nodes right second
      → EndsIn (IsYesOrNo (StandSo (holds nodes first) (holds nodes second))) NoRefusal ending
      → EndsOnTwo StandSo most left right ending
  says_of_two ending few a b ends =
      answers_more (IsYesOrNo (StandSo (holds nodes first) (holds nodes second)))
      (SaysOfTwo most left right StandSo) (RefusesEither most left right)
      (λ text h. record {
        first = a.marker;
        second = b.marker;
        is_first = a.is_marker;
        is_second = b.is_marker;
        have_trees =
            record { nodes = nodes; first = first; second = second; are_few = few; is_first = a; is_second = b };
        says =
            subst (λ (value : Values). IsYesOrNo (StandSo (marker_holds a.marker) value) text)
            (tree_values nodes right second b)
            (subst (λ (value : Values). IsYesOrNo (StandSo value (holds nodes second)) text)
            (tree_values nodes left first a) h);
      }) ending ends
