use Rattle.std.proofs.Common.{◌≡◌, sym, subst}
use Rattle.std.specs.Prelude.{MatchOption}
use Rattle.pep508_simplification.specs.Parts.{record_of}
use Rattle.pep508_simplification.specs.Named.{IsAsked}
use Rattle.pep508_simplification.proofs.Naming.{asked}
use Rattle.pep508_simplification.proofs.named.named_root.Given as given
use Rattle.pep508_simplification.proofs.named.named_root.Goals as goal

pub returns : goal.returns
returns g c =
    let R = given.F-post g c.args.predicate.now in
    let nodes = c.args.interner.now.nodes in
    let tree = c.args.tree in
    subst (λ n. MatchOption n (tree.place ≡ 0) (IsAsked R nodes tree)) (sym c.with_set.ensures)
    (asked R nodes tree (record_of c.in_ok-root.root) c.is_root_named-is_named.result c.in_ok-root.ensures.known
    c.is_root_named-is_named.ensures)
