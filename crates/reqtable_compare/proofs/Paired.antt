-- What pairs of cases say of the lines of two sides.
use Rattle.std.proofs.Common.{◌≡◌, ◌∙◌, ◌&&◌, true, List, [], ◌∷◌, sym, ap, subst, inl, inr, true≢false}
use Rattle.std.specs.List.{AllByRecursion}
use Rattle.pep508_diagram.specs.Question.{Valuation}
use Rattle.pep508_tree.specs.Tree.{Tree}
use Rattle.pep508_tree.specs.Meaning.{NodeRecord, IsTree, holds}
use Rattle.pep508_cases.specs.Cases.{Marks, same_marks}
use Rattle.reqtable_requirements.specs.LineReading.{LineRecord}
use Rattle.reqtable_requirements.specs.Asks.{asks_of}
use Rattle.reqtable_cases.specs.Lines.{line_marks, asked_by}
use Rattle.reqtable_cases.specs.Requires.{ComesBefore}
use Rattle.reqtable_cases.proofs.Marked.{marked_apply}
use Rattle.reqtable_compare.specs.declared.sides.Relation.{Relation}
use Rattle.reqtable_compare.specs.Relations.{Relate}
use Rattle.reqtable_compare.specs.Summed.{SummaryRecord, AreSummaries}
use Rattle.reqtable_compare.specs.Pairs.{Passes, PassesAll, IsFirstPair}
use Rattle.reqtable_compare.specs.Differences.{IsBoth}
use Rattle.reqtable_compare.proofs.Likeness.{to_relate, from_relate}
use Rattle.reqtable_compare.proofs.Finding.{Found, here, found, parted}

pass_at : (relation : Relation) (nodes : List NodeRecord) (lines others : List LineRecord) (ls rs : List SummaryRecord) (v : Valuation) →
    (l : Found nodes lines ls v) → (r : Found nodes others rs v) → Passes relation nodes l.summary r.summary →
    Relate relation (asks_of v lines) (asks_of v others)
pass_at relation nodes lines others ls rs v l r (inl alike) =
    let left : asks_of v lines ≡ asked_by l.set.0 lines = marked_apply v lines ∙ ap (λ m. asked_by m lines) l.marks in
    let right : asks_of v others ≡ asked_by r.set.0 others =
    marked_apply v others ∙ ap (λ m. asked_by m others) r.marks in
    subst (λ a. Relate relation a (asks_of v others)) (sym left)
    (subst (λ b. Relate relation (asked_by l.set.0 lines) b) (sym right)
    (to_relate relation (asked_by l.set.0 lines) (asked_by r.set.0 others) l.summary r.summary l.of.asks r.of.asks alike))
pass_at relation nodes lines others ls rs v l r (inr apart) =
    let both : (holds nodes l.summary.tree v && holds nodes r.summary.tree v) ≡ true =
    (λ i. l.there i && r.there i) in
    absurd (true≢false (sym both ∙ apart v))

-- where all pass both sides require what the relation has
pub all_pass : (relation : Relation) (nodes : List NodeRecord) (lines others : List LineRecord) (ls rs : List SummaryRecord) →
    AreSummaries nodes lines ls → AreSummaries nodes others rs → AllByRecursion (PassesAll relation nodes rs) ls →
    (v : Valuation) → Relate relation (asks_of v lines) (asks_of v others)
all_pass relation nodes lines others ls rs ours theirs all v =
    let l = found nodes lines ls v ours in
    let r = found nodes others rs v theirs in
    pass_at relation nodes lines others ls rs v l r (r.any (Passes relation nodes l.summary) (l.any (PassesAll relation nodes rs) all))

-- and where one doesn't that is the first place where they don't
pub record Differs (relation : Relation) (nodes : List NodeRecord) (lines others : List LineRecord) (tree : Tree) : Type 0 where
  pub pair : Marks × Marks
  pub made : IsTree nodes tree
  pub somewhere : (v : Valuation) × (holds nodes tree v ≡ true)
  pub means : (v : Valuation) → holds nodes tree v
      ≡ (same_marks (line_marks lines v) pair.0 && same_marks (line_marks others v) pair.1)
  pub differ : Relate relation (asked_by pair.0 lines) (asked_by pair.1 others) → ⊥
  pub first : (v : Valuation) → ComesBefore (line_marks lines v, line_marks others v) pair →
      Relate relation (asks_of v lines) (asks_of v others)

pub differs : (relation : Relation) (old new : List NodeRecord) (lines others : List LineRecord) (ls rs : List SummaryRecord)
    (one other tree : Tree) → AreSummaries old lines ls → AreSummaries old others rs →
    IsFirstPair relation old ls rs one other → IsBoth old new one other tree → Differs relation new lines others tree
differs relation old new lines others ls rs one other tree ours theirs p both =
    let b = p.beside in
    let pl = parted old lines ls p.front p.first p.back ours p.split in
    let pr = parted old others rs b.front b.other b.back theirs b.split in
    let left : (v : Valuation) → holds old one v ≡ same_marks (line_marks lines v) pl.set.0 =
    (λ v. ap (λ t. holds old t v) (p.is ∙ pl.of.tree) ∙ pl.case.means v) in
    let right : (v : Valuation) → holds old other v ≡ same_marks (line_marks others v) pr.set.0 =
    (λ v. ap (λ t. holds old t v) (b.is ∙ pr.of.tree) ∙ pr.case.means v) in
    record {
      pair = (pl.set.0, pr.set.0);
      made = both.made;
      somewhere = both.somewhere;
      means = λ v. both.means v ∙ (λ i. left v i && right v i);
      differ = λ h. b.fails.differ (from_relate relation (asked_by pl.set.0 lines) (asked_by pr.set.0 others) p.first b.other
          pl.of.asks pr.of.asks h);
      first = λ v before. elim before [
        | inl less ↦
            let l = pl.before v (ours.are.all v) less in
            let r = found old others rs v theirs in
            pass_at relation old lines others p.front rs v l r (r.any (Passes relation old l.summary) (l.any (PassesAll relation old rs) p.before))
        | inr same ↦
            let l = here old lines p.first [] pl.set v pl.of pl.case same.0 in
            let r = pr.before v (theirs.are.all v) same.1 in
            pass_at relation old lines others (p.first ∷ []) b.front v l r (r.any (Passes relation old p.first) b.before)
      ];
    }
