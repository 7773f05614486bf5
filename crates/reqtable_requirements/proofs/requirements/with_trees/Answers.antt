use Rattle.std.proofs.Common.{◌≡◌, ◌∙◌, ◌++◌, ◌∷◌, [], List, length, refl, sym, ap, subst, append-nil}
use Rattle.std.proofs.Common.{append_assoc, arith, rules}
use Rattle.std.proofs.lemmas.List.{nil_from_length}
use Rattle.std.proofs.lemmas.Result.{err_from_is_err_and}
use Rattle.std.specs.List.{AllZip}
use Rattle.std.specs.Vec.Iter.{into_iter_items}
use Rattle.pep508_url.specs.UrlTexts.{Verbatim}
use Rattle.pep508_url.specs.declared.url_error.VerbatimUrlError.{VerbatimUrlError}
use Rattle.pep508_tree.proofs.Conjoining.{extends_on}
use Rattle.pep508_requirement.specs.declared.requirement.Requirement.{Requirement}
use Rattle.reqtable_requirements.specs.declared.requirements.Line.{Line}
use Rattle.reqtable_requirements.specs.declared.marked.MarkedLine.{MarkedLine}
use Rattle.reqtable_requirements.specs.Requirements.{SaysLine}
use Rattle.reqtable_requirements.proofs.Lines.{HasTree, tree_more, lines_stand}
use Rattle.reqtable_requirements.proofs.WithinBound.{stopped}
use Rattle.reqtable_requirements.proofs.requirements.with_trees.Goals as goal

pub loop-line-preserved : goal.loop-line-preserved
loop-line-preserved c =
    let done = c.loop-line.yielded in
    let line = c.in-Some.line in
    let old = c.loop-line.interner.nodes in
    let new = c.with_tree.new.interner.nodes in
    let made = c.in_ok-requirement.requirement in
    let same = c.in_ok-requirement.ensures.same in
    let taken : into_iter_items c.loop-line.line-iterator ≡ line ∷ into_iter_items c.next.new.self = search rules in
    let P : List Line → Type 0 = λ lines. AllZip (HasTree new) lines (done ++ line ∷ []) in
    record {
      split =
          append_assoc done (line ∷ []) (into_iter_items c.next.new.self)
          ∙ ap (λ rest. done ++ rest) (sym taken) ∙ c.loop-line.invariant.split;
      counted = omega (arith, c.loop-line.invariant.counted, c.in-Some.ensures.steps.1, ap length taken);
      keeps =
          extends_on c.args.interner.now.nodes old new c.loop-line.invariant.keeps c.in_ok-requirement.ensures.keeps;
      counts = c.in_ok-requirement.ensures.counts ∙ c.loop-line.invariant.counts;
      fits = c.in_ok-requirement.ensures.bound;
      made =
          subst P (sym c.in_ok-push.ensures.items)
          (tree_more old new c.in_ok-requirement.ensures.keeps c.loop-line.made.items done c.loop-line.invariant.made
          (record { number = line.number; requirement = made }) line (record {
            number = refl;
            name = ap (λ (r : Requirement Verbatim VerbatimUrlError). r.name) same;
            extras = ap (λ (r : Requirement Verbatim VerbatimUrlError). r.extras.items) same;
            asks = ap (λ (r : Requirement Verbatim VerbatimUrlError). r.version_or_url) same;
            tree = c.in_ok-requirement.ensures.tree;
          }));
    }

pub returns-clause-made : goal.returns-clause-made
returns-clause-made c =
    let done = c.loop-line.yielded in
    let left = into_iter_items c.loop-line.line-iterator in
    let none : left ≡ [] =
    nil_from_length left (omega (arith, c.loop-line.invariant.counted, c.in-None.ensures.steps.0)) in
    let all : done ≡ c.args.lines.items =
    sym (append-nil done) ∙ ap (λ rest. done ++ rest) (sym none) ∙ c.loop-line.invariant.split in
    let P : List MarkedLine → Type 0 = AllZip (HasTree c.loop-line.interner.nodes) c.loop-line.made.items in
    λ vars said says.
    lines_stand vars c.loop-line.interner.nodes c.loop-line.made.items c.args.lines.items said
    (subst P all c.loop-line.invariant.made) says

pub returns-clause-bound : goal.returns-clause-bound
returns-clause-bound c = λ vars said says. c.loop-line.invariant.fits

pub returns-in_err-requirement-clause-bound : goal.returns-in_err-requirement-clause-bound
returns-in_err-requirement-clause-bound c = λ vars said says.
    let left_by = c.from_residual in
    let p = err_from_is_err_and left_by.result left_by.ensures.1 in
    let done = c.loop-line.yielded in
    let line = c.in-Some.line in
    let rest = into_iter_items c.next.new.self in
    let taken : into_iter_items c.loop-line.line-iterator ≡ line ∷ rest = search rules in
    let whole : done ++ line ∷ rest ≡ c.args.lines.items =
    ap (λ rest. done ++ rest) (sym taken) ∙ c.loop-line.invariant.split in
    let P : List MarkedLine → Type 0 = λ lines. AllZip (SaysLine vars) lines said in
    rw (p.1, p.2)
    (stopped vars c.args.most c.loop-line.interner.nodes c.with_tree.new.interner.nodes c.loop-line.made.items done rest line
    c.in_err-requirement.field-0.0 c.loop-line.invariant.made c.loop-line.invariant.fits c.in_err-requirement.ensures.keeps
    c.in_err-requirement.ensures.bound said (subst P (sym whole) says))
