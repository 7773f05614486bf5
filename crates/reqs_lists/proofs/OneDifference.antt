-- Lists have one first place where they aren't as a relation has it, and none where they are throughout: so they
-- have one first difference, and one first place where one doesn't cover the other.
use Rattle.std.proofs.Common.{◌≡◌, ◌∙◌, ◌&&◌, ℕ, List, refl, sym, ap, subst, inl, inr, Less, Equal, Greater}
use Rattle.std.specs.Cmp.{IsTotalOrder, first_so, second_so}
use Rattle.std.specs.Cmp.Lexicographic.{slice_cmp}
use Rattle.std.specs.Ordering.{nat_cmp, ordering_reverse}
use Rattle.std.specs.declared.cmp.Ordering.{Ordering}
use Rattle.std.proofs.lemmas.Cmp.{nat_list_cmp_total}
use Rattle.std.proofs.lemmas.Map.Lookups.{CmpEqualImpliesEq, exact_bytes}
use Rattle.pep508_diagram.specs.Diagram.{Diagram}
use Rattle.pep508_diagram.specs.Question.{Question, Valuation}
use Rattle.pep508_tree.specs.Tree.{Tree}
use Rattle.pep508_tree.specs.Meaning.{NodeRecord, holds}
use Rattle.pep508_marker_text_laws.proofs.Spelled.{one_spelling}
use Rattle.pep508_cases.specs.Cases.{Marks, same_marks, marks_cmp}
use Rattle.pep508_cases.proofs.Counting.{marks_total}
use Rattle.pep508_cases.proofs.Marks.{marks_is}
use Rattle.reqtable_requirements.specs.Asks.{lines_of}
use Rattle.reqtable_requirements.specs.LineReading.{LineRecord}
use Rattle.reqtable_cases.specs.Lines.{line_marks, asked_by}
use Rattle.reqtable_cases.specs.Lines.{numbers_of}
use Rattle.reqtable_cases.specs.Requires.{RequireTheSame, ComesBefore, IsFirstDifference, asked_of}
use Rattle.reqtable_cases.proofs.Marked.{marked_apply}
use Rattle.reqtable_compare.specs.declared.sides.Relation.{Relation}
use Rattle.reqtable_compare.specs.declared.sides.Relation.TheVariants.{Alike, Covering}
use Rattle.reqtable_compare.specs.Relations.{Relate, RelateThroughout, IsFirstUnrelated}
use Rattle.reqtable_covers.specs.Covering.{CoversLines, IsFirstUncovered}
use Rattle.reqs_lists.specs.Comparison.{Lists, IsToldDifference}
use Rattle.reqs_lists.specs.Covered.{IsToldUncovered}
use Rattle.reqs_lists.proofs.RisingSets.{exact_marks}

-- of two things that can't come before one another
tie_by : {K : Type 0} (R : K → K → Ordering) → IsTotalOrder R → CmpEqualImpliesEq R → (a b : K)
    → (R a b ≡ Less → ⊥) → (R b a ≡ Less → ⊥) → (order : Ordering) → R a b ≡ order → a ≡ b
tie_by R total exact a b never never_back Less e = absurd (never e)
tie_by R total exact a b never never_back Equal e = exact a b e
tie_by R total exact a b never never_back Greater e =
    absurd (never_back (total.antisymm b a ∙ ap ordering_reverse e))

module _ (relation : Relation) (left right : List LineRecord) where
  -- somewhere both sets of its pair apply
  record Meets (name : List ℕ) (pair : Marks × Marks) : Type 0 where
    v : Valuation
    ours : line_marks (lines_of name left) v ≡ pair.0
    theirs : line_marks (lines_of name right) v ≡ pair.1

  module _ (nodes : List NodeRecord) (name : List ℕ) (tree : Tree)
      (first : IsFirstUnrelated relation left right nodes name tree) where
    meets : Meets name first.pair
    meets =
        let v = first.somewhere.0 in
        let one = same_marks (line_marks (lines_of name left) v) first.pair.0 in
        let other = same_marks (line_marks (lines_of name right) v) first.pair.1 in
        let both = sym (first.means v) ∙ first.somewhere.1 in
        record {
          v = v;
          ours = marks_is (line_marks (lines_of name left) v) first.pair.0 (first_so one other both);
          theirs = marks_is (line_marks (lines_of name right) v) first.pair.1 (second_so one other both);
        }

    -- there both aren't as the relation has it
    differs : (m : Meets name first.pair)
        → Relate relation (asked_of name m.v left) (asked_of name m.v right) → ⊥
    differs m alike =
        let mine = lines_of name left in
        let yours = lines_of name right in
        let ours = marked_apply m.v mine ∙ ap (λ s. asked_by s mine) m.ours in
        let theirs = marked_apply m.v yours ∙ ap (λ s. asked_by s yours) m.theirs in
        first.differ
        (subst (λ asks. Relate relation asks (asked_by first.pair.1 yours)) ours
        (subst (Relate relation (asked_of name m.v left)) theirs alike))

    not_throughout : RelateThroughout relation left right → ⊥
    not_throughout all = differs meets (all name meets.v)

  -- no package comes before that of such a place
  no_name_before : (nodes others : List NodeRecord) (name other : List ℕ) (tree also : Tree)
      → IsFirstUnrelated relation left right nodes name tree → IsFirstUnrelated relation left right others other also
      → slice_cmp nat_cmp name other ≡ Less → ⊥
  no_name_before nodes others name other tree also a b less =
      let m = meets nodes name tree a in differs nodes name tree a m (b.before name m.v less)

  first_name : (nodes others : List NodeRecord) (name other : List ℕ) (tree also : Tree)
      → IsFirstUnrelated relation left right nodes name tree → IsFirstUnrelated relation left right others other also
      → name ≡ other
  first_name nodes others name other tree also a b =
      tie_by (slice_cmp nat_cmp) nat_list_cmp_total exact_bytes name other
      (no_name_before nodes others name other tree also a b) (no_name_before others nodes other name also tree b a)
      (slice_cmp nat_cmp name other) refl

  module _ (name : List ℕ) where
    -- and no pair before its pair
    no_pair_before : (nodes others : List NodeRecord) (tree also : Tree)
        (a : IsFirstUnrelated relation left right nodes name tree) (b : IsFirstUnrelated relation left right others name also)
        → ComesBefore a.pair b.pair → ⊥
    no_pair_before nodes others tree also a b before =
        let m = meets nodes name tree a in
        let at : a.pair ≡ (line_marks (lines_of name left) m.v, line_marks (lines_of name right) m.v) =
        (λ i. (sym m.ours i, sym m.theirs i)) in
        differs nodes name tree a m (b.first m.v (subst (λ p. ComesBefore p b.pair) at before))

    one_pair : (nodes others : List NodeRecord) (tree also : Tree)
        (a : IsFirstUnrelated relation left right nodes name tree) (b : IsFirstUnrelated relation left right others name also)
        → a.pair ≡ b.pair
    one_pair nodes others tree also a b =
        let never = no_pair_before nodes others tree also a b in
        let never_back = no_pair_before others nodes also tree b a in
        let ours : a.pair.0 ≡ b.pair.0 =
        tie_by marks_cmp marks_total exact_marks a.pair.0 b.pair.0 (λ less. never (inl less))
        (λ less. never_back (inl less)) (marks_cmp a.pair.0 b.pair.0) refl in
        let theirs : a.pair.1 ≡ b.pair.1 =
        tie_by marks_cmp marks_total exact_marks a.pair.1 b.pair.1 (λ less. never (inr (ours, less)))
        (λ less. never_back (inr (sym ours, less))) (marks_cmp a.pair.1 b.pair.1) refl in
        λ i. (ours i, theirs i)

    one_place : (nodes others : List NodeRecord) (tree also : Tree)
        → IsFirstUnrelated relation left right nodes name tree → IsFirstUnrelated relation left right others name also
        → (v : Valuation) → holds nodes tree v ≡ holds others also v
    one_place nodes others tree also a b v =
        let pair = one_pair nodes others tree also a b in
        let ours = line_marks (lines_of name left) v in
        let theirs = line_marks (lines_of name right) v in
        a.means v ∙ (λ i. same_marks ours (pair i).0 && same_marks theirs (pair i).1) ∙ sym (b.means v)

-- ---- as a difference is told

of_difference : (left right : List LineRecord) (nodes : List NodeRecord) (name : List ℕ) (tree : Tree)
    → IsFirstDifference left right nodes name tree → IsFirstUnrelated Alike left right nodes name tree
of_difference left right nodes name tree d = record {
  pair = d.pair;
  made = d.made;
  somewhere = d.somewhere;
  means = d.means;
  differ = d.differ;
  first = d.first;
  before = d.before;
}

module _ (lists : Lists) where
  difference_of : (name : List ℕ) (diagram : Diagram Question) (told : IsToldDifference lists name diagram)
      → IsFirstUnrelated Alike lists.0 lists.1 told.nodes name told.tree
  difference_of name diagram told = of_difference lists.0 lists.1 told.nodes name told.tree told.difference

  pub never_told : (name : List ℕ) (diagram : Diagram Question) → RequireTheSame lists.0 lists.1
      → IsToldDifference lists name diagram → ⊥
  never_told name diagram same told =
      not_throughout Alike lists.0 lists.1 told.nodes name told.tree (difference_of name diagram told) same

  pub one_name : (name other : List ℕ) (diagram also : Diagram Question) → IsToldDifference lists name diagram
      → IsToldDifference lists other also → name ≡ other
  one_name name other diagram also a b =
      first_name Alike lists.0 lists.1 a.nodes b.nodes name other a.tree b.tree (difference_of name diagram a)
      (difference_of other also b)

  pub one_diagram : (name : List ℕ) (diagram also : Diagram Question) → IsToldDifference lists name diagram
      → IsToldDifference lists name also → diagram ≡ also
  one_diagram name diagram also a b =
      one_spelling diagram also a.canonical b.canonical a.short b.short
      (λ v. a.means v
      ∙ one_place Alike lists.0 lists.1 name a.nodes b.nodes a.tree b.tree (difference_of name diagram a)
      (difference_of name also b) v
      ∙ sym (b.means v))

-- ---- and a place that isn't covered

of_uncovered : (left right : List LineRecord) (nodes : List NodeRecord) (name : List ℕ) (tree : Tree)
    (numbers : List ℕ) → IsFirstUncovered left right nodes name tree numbers
    → IsFirstUnrelated Covering left right nodes name tree
of_uncovered left right nodes name tree numbers d = record {
  pair = d.pair;
  made = d.made;
  somewhere = d.somewhere;
  means = d.means;
  differ = d.uncovered;
  first = d.first;
  before = d.before;
}

module _ (lists : Lists) where
  uncovered_of : (name : List ℕ) (diagram : Diagram Question) (numbers : List ℕ)
      (told : IsToldUncovered lists name diagram numbers)
      → IsFirstUnrelated Covering lists.0 lists.1 told.nodes name told.tree
  uncovered_of name diagram numbers told =
      of_uncovered lists.0 lists.1 told.nodes name told.tree numbers told.uncovered

  pub never_uncovered : (name : List ℕ) (diagram : Diagram Question) (numbers : List ℕ)
      → CoversLines lists.0 lists.1 → IsToldUncovered lists name diagram numbers → ⊥
  never_uncovered name diagram numbers covers told =
      not_throughout Covering lists.0 lists.1 told.nodes name told.tree (uncovered_of name diagram numbers told) covers

  pub one_uncovered_name : (name other : List ℕ) (diagram also : Diagram Question) (numbers more : List ℕ)
      → IsToldUncovered lists name diagram numbers → IsToldUncovered lists other also more → name ≡ other
  one_uncovered_name name other diagram also numbers more a b =
      first_name Covering lists.0 lists.1 a.nodes b.nodes name other a.tree b.tree
      (uncovered_of name diagram numbers a) (uncovered_of other also more b)

  module _ (name : List ℕ) (diagram also : Diagram Question) (numbers more : List ℕ)
      (a : IsToldUncovered lists name diagram numbers) (b : IsToldUncovered lists name also more) where
    pub one_uncovered_diagram : diagram ≡ also
    one_uncovered_diagram =
        one_spelling diagram also a.canonical b.canonical a.short b.short
        (λ v. a.means v
        ∙ one_place Covering lists.0 lists.1 name a.nodes b.nodes a.tree b.tree
        (uncovered_of name diagram numbers a) (uncovered_of name also more b) v
        ∙ sym (b.means v))

    pub one_uncovered_numbers : numbers ≡ more
    unfolding uncovered_of of_uncovered
    one_uncovered_numbers =
        let pair : a.uncovered.pair ≡ b.uncovered.pair =
        one_pair Covering lists.0 lists.1 name a.nodes b.nodes a.tree b.tree (uncovered_of name diagram numbers a)
        (uncovered_of name also more b) in
        a.uncovered.told ∙ ap (λ p. numbers_of p.1 (lines_of name lists.1)) pair ∙ sym b.uncovered.told
