-- The lines that apply where a package isn't covered.
use Rattle.std.proofs.Common.{◌≡◌, ◌∙◌, ◌&&◌, ℕ, Bool, true, false, cond, List, [], ◌∷◌, map, filter, refl, sym, ap}
use Rattle.std.proofs.Common.{true≢false}
use Rattle.std.specs.List.{AllZip, AllByRecursion}
use Rattle.std.specs.Str.{bytes_eq}
use Rattle.pep508_diagram.specs.Question.{Valuation}
use Rattle.pep508_tree.specs.Tree.{Tree}
use Rattle.pep508_tree.specs.Meaning.{NodeRecord, holds}
use Rattle.pep508_url.specs.Vars.{Variables}
use Rattle.pep508_cases.specs.Cases.{Marks, same_marks}
use Rattle.pep508_cases.proofs.Marks.{marks_is}
use Rattle.reqtable_answer.specs.Asks.{is_of}
use Rattle.reqtable_requirements.specs.Asks.{applies, lines_of}
use Rattle.reqtable_requirements.specs.LineReading.{LineRecord}
use Rattle.reqtable_requirements.specs.Requirements.{StandsFor}
use Rattle.reqtable_requirements.specs.declared.requirements.Line.{Line}
use Rattle.reqtable_cases.specs.Lines.{line_marks, numbers_of}
use Rattle.reqtable_compare.specs.declared.sides.Relation.TheVariants as relations
use Rattle.reqtable_compare.specs.Relations.{IsFirstUnrelated}
use Rattle.reqtable_covers.specs.Applying.{applies_to, IsFixed, numbers_to, AreNumbersWhere}
use Rattle.reqtable_covers.specs.Covering.{IsFirstUncovered}

-- ---- lines that apply together in two valuations

abbrev first_mark : Marks → Bool
first_mark [] = false
first_mark (b ∷ marks) = b

abbrev later_marks : Marks → Marks
later_marks [] = []
later_marks (b ∷ marks) = marks

module _ (v w : Valuation) where
  same_first : (b : Bool) (r : LineRecord) (rs : List LineRecord) → b ≡ true →
      line_marks (cond b (r ∷ rs) rs) v ≡ line_marks (cond b (r ∷ rs) rs) w → applies v r ≡ applies w r
  same_first true r rs e h = ap first_mark h
  same_first false r rs e h = absurd (true≢false (sym e))

  same_later : (b : Bool) (r : LineRecord) (rs : List LineRecord) →
      line_marks (cond b (r ∷ rs) rs) v ≡ line_marks (cond b (r ∷ rs) rs) w → line_marks rs v ≡ line_marks rs w
  same_later true r rs h = ap later_marks h
  same_later false r rs h = h

module _ (vars : Variables) (nodes : List NodeRecord) (name : List ℕ) (tree : Tree) where
  -- where the tree holds the same lines apply
  abbrev AreSame : List LineRecord → Type 0
  AreSame said = (v w : Valuation) → holds nodes tree v ≡ true → holds nodes tree w ≡ true →
      line_marks (lines_of name said) v ≡ line_marks (lines_of name said) w

  all_fixed : (lines : List Line) (said : List LineRecord) → AllZip (StandsFor vars nodes) lines said →
      AreSame said → AllByRecursion (IsFixed nodes name tree) lines
  all_fixed [] said h same = tt
  all_fixed (line ∷ lines) [] h same = absurd h
  all_fixed (line ∷ lines) (r ∷ said) h same = (
    λ under v w there there'.
        h.0.tree.truth v
        ∙ same_first v w (is_of name r.front) r (lines_of name said) (sym (ap (bytes_eq name) h.0.name) ∙ under)
        (same v w there there')
        ∙ sym (h.0.tree.truth w),
    all_fixed lines said h.1 (λ v w there there'.
        same_later v w (is_of name r.front) r (lines_of name said) (same v w there there')),
  )

  -- ---- their numbers

  module _ (v : Valuation) where
    two_numbers : (line : Line) (r : LineRecord) (kept : List Line) (rs : List LineRecord) (b : Bool) →
        line.number ≡ r.number → map (λ l. l.number) kept ≡ numbers_of (line_marks rs v) rs →
        map (λ l. l.number) (cond b (line ∷ kept) kept) ≡ numbers_of (b ∷ line_marks rs v) (r ∷ rs)
    two_numbers line r kept rs true here rest = (λ i. here i ∷ rest i)
    two_numbers line r kept rs false here rest = rest

    one_number : (line : Line) (r : LineRecord) (kept : List Line) (rs : List LineRecord) (a m : Bool) →
        m ≡ applies v r → line.number ≡ r.number → map (λ l. l.number) kept ≡ numbers_of (line_marks rs v) rs →
        map (λ l. l.number) (cond (a && m) (line ∷ kept) kept)
        ≡ numbers_of (line_marks (cond a (r ∷ rs) rs) v) (cond a (r ∷ rs) rs)
    one_number line r kept rs true m same here rest =
        ap (λ b. map (λ l. l.number) (cond b (line ∷ kept) kept)) same
        ∙ two_numbers line r kept rs (applies v r) here rest
    one_number line r kept rs false m same here rest = rest

    same_numbers : (lines : List Line) (said : List LineRecord) → AllZip (StandsFor vars nodes) lines said →
        numbers_to nodes name v lines ≡ numbers_of (line_marks (lines_of name said) v) (lines_of name said)
    same_numbers [] [] h = refl
    same_numbers [] (r ∷ said) h = absurd h
    same_numbers (line ∷ lines) [] h = absurd h
    same_numbers (line ∷ lines) (r ∷ said) h =
        let kept = filter (applies_to nodes name v) lines in
        let m = holds nodes line.requirement.marker v in
        ap (λ a. map (λ l. l.number) (cond (a && m) (line ∷ kept) kept)) (ap (bytes_eq name) h.0.name)
        ∙ one_number line r kept (lines_of name said) (is_of name r.front) m (h.0.tree.truth v) h.0.number
        (same_numbers lines said h.1)

-- ---- the first package that isn't covered

second_of : (a b : Bool) → (a && b) ≡ true → b ≡ true
second_of true b h = h
second_of false b h = absurd (true≢false (sym h))

module _ (vars : Variables) (nodes : List NodeRecord) (lines : List Line) (lock said : List LineRecord)
    (name : List ℕ) (tree : Tree) (first : IsFirstUnrelated relations.Covering lock said nodes name tree) where
  set_there : (v : Valuation) → holds nodes tree v ≡ true → line_marks (lines_of name said) v ≡ first.pair.1
  set_there v there =
      marks_is (line_marks (lines_of name said) v) first.pair.1
      (second_of (same_marks (line_marks (lines_of name lock) v) first.pair.0)
      (same_marks (line_marks (lines_of name said) v) first.pair.1) (sym (first.means v) ∙ there))

  pub uncovered : (numbers : List ℕ) → AllZip (StandsFor vars nodes) lines said →
      AreNumbersWhere nodes name tree lines numbers → IsFirstUncovered lock said nodes name tree numbers
  uncovered numbers h are = record {
    pair = first.pair;
    made = first.made;
    somewhere = first.somewhere;
    means = first.means;
    uncovered = first.differ;
    first = first.first;
    before = first.before;
    told = are (all_fixed vars nodes name tree lines said h (λ v w there there'.
        set_there v there ∙ sym (set_there w there'))) first.somewhere.0 first.somewhere.1
        ∙ same_numbers vars nodes name tree first.somewhere.0 lines said h
        ∙ ap (λ marks. numbers_of marks (lines_of name said)) (set_there first.somewhere.0 first.somewhere.1);
  }
