-- What the diagram of a marker that was read of a text asks is about pieces of that text.
use Rattle.std.proofs.Common.{◌≡◌, ◌∙◌, ℕ, List, [], ◌∷◌, ◌++◌, inl, inr, refl, ap, sym, subst}
use Rattle.std.specs.List.{AllByRecursion}
use Rattle.std.specs.Str.{chars, IsUtf8}
use Rattle.version_ranges.specs.declared.boundary.Boundary.TheVariants.{At, JustAbove}
use Rattle.pep508_diagram.specs.declared.variable.Flag.TheVariants.{In, Contains, Extra, Arbitrary}
use Rattle.pep508_diagram.specs.Diagram.{Diagram, Leaf, Test}
use Rattle.pep508_diagram.specs.Question.{Question, VersionBelow, TextBelow, IsSet, Valuation, truth}
use Rattle.pep508_diagram.specs.Question.{IsCanonical}
use Rattle.pep508_diagram.specs.Shortened.{HasShortVersions}
use Rattle.pep508_marker.specs.Expression.{ExpressionRecord}
use Rattle.pep508_expression.specs.Expressions.{expression_holds}
use Rattle.pep508_marker_parser.specs.Formula.{Formula, formula_holds}
use Rattle.pep508_marker_parser.specs.MarkerOutcome.{IsTreeOf}
use Rattle.pep508_marker_parser.specs.MarkerReading.{Marker}
use Rattle.pep508_requirement.specs.RequirementText.{IsBehindText, IsMarkedText}
use Rattle.pep508_requirement_text.specs.FrontReading.{Front}
use Rattle.pep508_requirement_text.specs.FrontText.{IsFrontText}
use Rattle.pep508_tree.proofs.Diagrams.{holds_kept}
use Rattle.pep508_tree.specs.Meaning.{NodeRecord, Extends}
use Rattle.pep508_tree.specs.Tree.{Tree}
use Rattle.pep508_tree_ref.specs.TreeIn.{TreeIn, diagram_in}
use Rattle.pep508_reading_back.specs.Lines.{IsPieceOf}
use Rattle.pep508_diagram.specs.Questions.{AllQuestions}
use Rattle.pep508_reading_back.specs.Told.{questions_of, AsksOf, IsTold}
use Rattle.pep508_reading_back.proofs.Matters.{asks_these_alone, all_hold}
use Rattle.pep508_reading_back.proofs.ToldAnswers.{formula_alike}
use Rattle.pep508_reading_back.proofs.ToldMarkers.{IsEnd, behind_front, IsToldMarker, written_told}
use Rattle.pep508_reading_back.proofs.ToldQuestions.{equal_told}

-- ---- the marker behind a front

module _ (whole : List ℕ) (utf8 : IsUtf8 whole) where
  behind_told : (rest : List ℕ) (marker : Marker) → IsBehindText rest marker → IsEnd whole utf8 rest →
      IsToldMarker whole utf8 marker
  behind_told rest marker (inl is) ends = subst (IsToldMarker whole utf8) (sym is.1) tt
  behind_told rest marker (inr is) ends =
      written_told whole utf8 is.1 marker is.4 (behind_front whole utf8 (59 ∷ is.1) (59 ∷ []) is.1 refl
      (behind_front whole utf8 rest is.0 (59 ∷ is.1) is.2 ends))

  rest_ends : (front : Front) (rest : List ℕ) → IsFrontText whole front rest → IsEnd whole utf8 rest
  rest_ends front rest is =
      let sourced : List ℕ = is.asked ++ rest in
      let extras : List ℕ = is.behind_extras ++ sourced in
      let bracketed : List ℕ = is.brackets ++ extras in
      let named : List ℕ = is.behind_name ++ bracketed in
      let written : List ℕ = is.written ++ named in
      let a = behind_front whole utf8 (chars whole) is.before written is.split ([], refl) in
      let b = behind_front whole utf8 written is.written named refl a in
      let c = behind_front whole utf8 named is.behind_name bracketed refl b in
      let d = behind_front whole utf8 bracketed is.brackets extras refl c in
      let e = behind_front whole utf8 extras is.behind_extras sourced refl d in
      behind_front whole utf8 sourced is.asked rest refl e

  -- what the marker of a text asks
  pub marked_told : (front : Front) (marker : Marker) → IsMarkedText whole front marker →
      AllByRecursion (AsksOf (IsPieceOf whole)) (questions_of marker.formula)
  marked_told front marker is = behind_told is.0 marker is.2 (rest_ends front is.0 is.1)

-- ---- its diagram

-- a diagram that means the formula asks of good texts where the formula does
pub diagram_told : (good : List ℕ → Type 0) (formula : Formula ExpressionRecord) (d : Diagram Question) →
    IsCanonical d → HasShortVersions d →
    ((v : Valuation) → truth d v ≡ formula_holds (λ t. expression_holds t v) formula) →
    AllByRecursion (AsksOf good) (questions_of formula) → AllQuestions (AsksOf good) d
diagram_told good formula d canonical short means told =
    all_hold (AsksOf good) (equal_told good) (questions_of formula) d short told
    (asks_these_alone (questions_of formula) d canonical
    (λ v w alike. means v ∙ formula_alike v w formula alike ∙ sym (means w)))

-- so does the tree that was made of the marker of a text, also when its interner has taken in other nodes
pub tree_told : (old now : List NodeRecord) (tree : Tree) (shown : TreeIn) (text : List ℕ) (front : Front)
    (marker : Marker) → IsUtf8 text → IsMarkedText text front marker → IsTreeOf old tree marker.formula →
    Extends old now → shown ≡ record { nodes = now; tree = tree } → IsCanonical (diagram_in shown) →
    HasShortVersions (diagram_in shown) → AllQuestions (AsksOf (IsPieceOf text)) (diagram_in shown)
tree_told old now tree shown text front marker utf8 is made keeps view canonical short =
    diagram_told (IsPieceOf text) marker.formula (diagram_in shown) canonical short
    (λ v. ap (λ (t : TreeIn). truth (diagram_in t) v) view ∙ holds_kept old now keeps tree made.made v
    ∙ made.truth v)
    (marked_told text utf8 front marker is)

-- ---- weaker conditions

module _ (good fair : List ℕ → Type 0) (weaker : (text : List ℕ) → good text → fair text) where
  asks_weaker : (q : Question) → AsksOf good q → AsksOf fair q
  asks_weaker (VersionBelow key b) h = h
  asks_weaker (TextBelow key (At text)) h = weaker text h
  asks_weaker (TextBelow key (JustAbove text)) h = weaker text h
  asks_weaker (IsSet (In key text)) h = weaker text h
  asks_weaker (IsSet (Contains key text)) h = weaker text h
  asks_weaker (IsSet (Extra name)) h = h
  asks_weaker (IsSet (Arbitrary text)) h = (weaker text h.0, h.1)

  pub all_weaker_asks : (d : Diagram Question) → AllQuestions (AsksOf good) d → AllQuestions (AsksOf fair) d
  all_weaker_asks (Leaf b) h = tt
  all_weaker_asks (Test q low high) h =
      (asks_weaker q h.0, all_weaker_asks low h.1, all_weaker_asks high h.2)

-- pieces are UTF-8
pub pieces_told : (text : List ℕ) (d : Diagram Question) → AllQuestions (AsksOf (IsPieceOf text)) d →
    AllQuestions IsTold d
pieces_told text = all_weaker_asks (IsPieceOf text) IsUtf8 (λ piece is. is.encoded)
