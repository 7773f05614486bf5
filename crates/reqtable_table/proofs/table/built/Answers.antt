use Rattle.std.proofs.Common.{subst, map}
use Rattle.reqtable_requirements.specs.ReadLines.{AreRead}
use Rattle.reqtable_groups.specs.Given.{AreGrouped}
use Rattle.reqtable_table.specs.KeptLines.{package_record}
use Rattle.reqtable_table.proofs.Built.{groups_of_trees, all_cases, none_asked}
use Rattle.reqtable_table.proofs.InAll.{built_by, refused_by}
use Rattle.reqtable_table.proofs.StandingLines.{is_table}
use Rattle.reqtable_table.proofs.table.built.Goals as goal

pub packages_of-requires : goal.packages_of-requires
packages_of-requires c =
    let groups = c.in_ok-groups.groups.items in
    let are : AreGrouped c.args.requirements groups = subst (λ lines. AreGrouped lines groups) c.into_lines.ensures.lines c.in_ok-groups.ensures in
    groups_of_trees c.args.interner.now.nodes c.args.requirements groups c.requires.trees are

pub invariant_of-result : goal.invariant_of-result
invariant_of-result c =
    let lines = c.args.requirements in
    let groups = c.in_ok-groups.groups.items in
    let are : AreGrouped lines groups = subst (λ l. AreGrouped l groups) c.into_lines.ensures.lines c.in_ok-groups.ensures in
    is_table c.a_read_specifier_is_built.ensures.built c.a_read_specifier_is_built.ensures.ends c.args.limits.limit
    c.packages_of.new.interner.nodes lines (subst AreRead c.into_lines.ensures.lines c.into_lines.ensures.read) groups are
    (map package_record c.in-Ok.packages.items) c.in-Ok.ensures.made

pub returns-in-Ok-clause-built : goal.returns-in-Ok-clause-built
returns-in-Ok-clause-built c = λ vars said stand.
    let groups = c.in_ok-groups.groups.items in
    let are : AreGrouped c.args.requirements groups = subst (λ lines. AreGrouped lines groups) c.into_lines.ensures.lines c.in_ok-groups.ensures in
    built_by vars c.args.interner.now.nodes c.packages_of.new.interner.nodes c.in-Ok.ensures.keeps c.args.requirements groups are said stand
    c.args.limits.limit c.args.limits.left (map package_record c.in-Ok.packages.items) c.in-Ok.ensures.made c.in-Ok.ensures.within

pub returns-clause-built : goal.returns-clause-built
returns-clause-built c = λ vars said stand.
    let groups = c.in_ok-groups.groups.items in
    let are : AreGrouped c.args.requirements groups = subst (λ lines. AreGrouped lines groups) c.into_lines.ensures.lines c.in_ok-groups.ensures in
    refused_by vars c.args.interner.now.nodes c.packages_of.new.interner.nodes c.in-Err.ensures.keeps c.args.requirements groups are said stand
    c.args.limits.limit c.args.limits.left c.in-Err.error c.in-Err.ensures.refused

pub returns-in-Ok-clause-cases : goal.returns-in-Ok-clause-cases
returns-in-Ok-clause-cases c =
    all_cases c.args.limits.limit c.packages_of.new.interner.nodes c.in_ok-groups.groups.items
    (map package_record c.in-Ok.packages.items) c.in-Ok.ensures.made

pub returns-in-Ok-clause-unasked : goal.returns-in-Ok-clause-unasked
returns-in-Ok-clause-unasked c =
    none_asked c.args.limits.limit c.packages_of.new.interner.nodes c.in_ok-groups.groups.items
    (map package_record c.in-Ok.packages.items) c.in-Ok.ensures.made
