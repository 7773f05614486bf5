use Rattle.std.proofs.Common.{Ok, subst, sym}
use Rattle.reqtable_requirements.specs.Asks.{AreOfNodes}
use Rattle.reqtable_requirements.proofs.Lasting.{lines_kept, nodes_kept}
use Rattle.reqtable_compare.specs.declared.sides.Relation.TheVariants as relations
use Rattle.reqtable_compare.specs.declared.sides.Same.{Same}
use Rattle.reqtable_compare.specs.Related.{RelatesBy, HasTree}
use Rattle.reqtable_covers.specs.Applying.{AreNumbersWhere}
use Rattle.reqtable_covers.proofs.Uncovered.{uncovered}
use Rattle.reqtable_covers.proofs.covering.found.Goals as goal

pub numbers_where-requires-clause-made : goal.numbers_where-requires-clause-made
numbers_where-requires-clause-made c =
    subst (λ (s : Same). HasTree c.related.new.interner.nodes s) c.in-Ok-No.field-0-is c.in-Ok-No.ensures.tree

pub numbers_where-requires-clause-markers : goal.numbers_where-requires-clause-markers
numbers_where-requires-clause-markers c =
    subst (AreOfNodes c.related.new.interner.nodes) (sym c.lines.ensures)
    (nodes_kept c.args.interner.now.nodes c.related.new.interner.nodes c.args.requirements.now c.in-Ok-No.ensures.keeps
    c.requires.requirements)

pub returns-in-Ok-Yes-clause-covered : goal.returns-in-Ok-Yes-clause-covered
returns-in-Ok-Yes-clause-covered c vars said others h h' =
    subst (λ (s : Same). RelatesBy relations.Covering c.args.limit c.args.in_all c.related.new.interner.nodes said others
    (Ok s)) c.in-Ok-Yes.field-0-is (c.in-Ok-Yes.ensures.related vars said others h h')

pub returns-in_ok-lines-in-Ok-No-clause-covered : goal.returns-in_ok-lines-in-Ok-No-clause-covered
returns-in_ok-lines-in-Ok-No-clause-covered c vars said others h h' =
    let new = c.related.new.interner.nodes in
    let name = c.in-Ok-No.package in
    let tree = c.in-Ok-No.tree in
    let both = subst (λ (s : Same). RelatesBy relations.Covering c.args.limit c.args.in_all new said others (Ok s))
    c.in-Ok-No.field-0-is (c.in-Ok-No.ensures.related vars said others h h') in (
      both.0,
      uncovered vars new c.args.requirements.now said others name tree both.1 c.in_ok-lines-in-Ok-No.lines.items
          (lines_kept vars c.args.interner.now.nodes new c.in-Ok-No.ensures.keeps c.args.requirements.now others h')
          (subst (λ l. AreNumbersWhere new name tree l c.in_ok-lines-in-Ok-No.lines.items) c.lines.ensures
          c.in_ok-lines-in-Ok-No.ensures),
    )
