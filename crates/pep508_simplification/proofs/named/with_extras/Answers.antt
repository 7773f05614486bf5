use Rattle.std.proofs.Common.{◌≡◌, ◌∙◌, ap, sym, subst}
use Rattle.pep508_tree.specs.Nodes.{turned}
use Rattle.pep508_simplification.specs.Named.{IsNamed, plain}
use Rattle.pep508_simplification.proofs.Naming.{plain_is, named_signed}
use Rattle.pep508_simplification.proofs.named.with_extras.Given as given
use Rattle.pep508_simplification.proofs.named.with_extras.Goals as goal

pub returns-clause-named : goal.returns-clause-named
returns-clause-named g c =
    let R = given.F-post g c.args.predicate.now in
    let old = c.args.interner.now.nodes in
    let new = c.walked.new.interner.nodes in
    let tree = c.args.tree in
    let simple = c.in_ok-simple.simple in
    let same : c.turned-plain.result ≡ plain tree.place =
    c.turned-plain.ensures ∙ ap (λ b. turned b tree) c.is_negated-negated.ensures ∙ plain_is tree in
    subst (IsNamed R old new tree)
    (sym (c.turned-signed.ensures ∙ ap (λ b. turned b simple) c.is_negated-negated.ensures))
    (named_signed R old new tree simple
    (subst (λ u. IsNamed R old new u simple) same c.in_ok-simple.ensures.named))
