use Rattle.std.proofs.Common.{◌∙◌, ap, sym, Some}
use Rattle.pep440_specifier.specs.Bounds.{lent_bound}
use Rattle.pep508_tree.specs.Meaning.{Versions}
use Rattle.pep508_tree.specs.Nodes.{signed}
use Rattle.pep508_tree.specs.Roots.{root_of}
use Rattle.pep508_simplification.proofs.Signing.{cut_signed}
use Rattle.pep508_simplification.proofs.narrowed.cut.Goals as goal

pub returns-in_ok-later-in-Versions-PythonFullVersion-default :
    goal.returns-in_ok-later-in-Versions-PythonFullVersion-default
returns-in_ok-later-in-Versions-PythonFullVersion-default c =
    let n = c.in-Versions-PythonFullVersion-default.children in
    cut_signed n.negated n.first n.later.now (lent_bound c.args.lower) (lent_bound c.args.upper)
    c.behind-first.result.0 c.behind-first.result.1.now c.turned.result
    c.in_ok-later-in-Versions-PythonFullVersion-default.later.items c.behind-first.ensures.first
    c.behind-first.ensures.later c.turned.ensures
    c.in_ok-later-in-Versions-PythonFullVersion-default.ensures c.args.tree
    (root_of c.args.interner.now.nodes c.args.tree)
    (ap (λ key. Some (signed n.negated (Versions key n.first n.later.now)))
    (sym c.in-Versions-PythonFullVersion-default.field-0-is)
    ∙ c.in-Versions-PythonFullVersion-default.ensures.shows)
