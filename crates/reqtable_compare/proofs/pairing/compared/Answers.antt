use Rattle.std.proofs.Common.{◌∙◌, map, take, refl, sym, true≢false}
use Rattle.pep508_tree.specs.Meaning.{IsTree}
use Rattle.reqtable_compare.specs.Seen.{summary_record}
use Rattle.reqtable_compare.proofs.Steps.{all_at, split_at}
use Rattle.reqtable_compare.proofs.pairing.compared.Goals as goal

pub is_disjoint-requires-clause-other_made : goal.is_disjoint-requires-clause-other_made
is_disjoint-requires-clause-other_made c =
    all_at summary_record (λ s. IsTree c.args.interner.now.nodes s.tree) c.args.right.now c.loop-other.other-index
    c.other-item.result c.loop-other-test.true c.other-item.is c.requires.right

pub returns-then-not-branch : goal.returns-then-not-branch
returns-then-not-branch c =
    let parts = split_at summary_record c.args.right.now c.loop-other.other-index c.other-item.result
    c.loop-other-test.true c.other-item.is in
    record {
      front = map summary_record (take c.loop-other.other-index c.args.right.now);
      other = summary_record c.other-item.result;
      back = parts.0;
      split = parts.1;
      before = c.loop-other.invariant.0;
      fails = record {
        differ = λ fit. true≢false (sym (c.in_ok-fits.ensures.1 fit) ∙ c.if-fits.false);
        meet = λ apart. true≢false (sym (c.in_ok-is_disjoint.ensures.1 apart) ∙ c.if-not-branch.true);
      };
      is = refl;
    }
