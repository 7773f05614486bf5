use Rattle.std.proofs.Common.{List, sym, subst}
use Rattle.reqtable_streaming.specs.declared.fronts.Fronted.{Fronted}
use Rattle.reqtable_streaming.specs.declared.required.Package.{Package}
use Rattle.reqtable_streaming.specs.Packages.{AreNamesOf}
use Rattle.reqtable_streaming.proofs.streaming.offer_all.Goals as goal

pub read_candidates-requires-clause-named : goal.read_candidates-requires-clause-named
read_candidates-requires-clause-named g c =
    let P : List Package → Type 0 = λ packages. AreNamesOf packages c.in_ok-names.names.items in
    let Q : List Fronted → Type 0 = AreNamesOf c.args.packages.now.items in
    subst Q (sym c.deref-3.ensures.value) (subst P c.deref.ensures.value c.in_ok-names.ensures.names)
