use Rattle.std.proofs.Common.{◌≡◌, ◌∙◌, ◌<◌, false, length, sym, ap, subst, rules, arith}
use Rattle.std.specs.List.Sorted.{IsStrictlySortedBy}
use Rattle.std.specs.Ordering.{nat_cmp, is_eq}
use Rattle.std.specs.Cmp.Lexicographic.{slice_cmp}
use Rattle.std.specs.Str.{bytes_eq}
use Rattle.std.proofs.lemmas.Fn.{always_returns_same}
use Rattle.reqtable_streaming.specs.declared.fronts.Fronted.{Fronted}
use Rattle.reqtable_streaming.specs.declared.required.Package.{Package}
use Rattle.reqtable_streaming.proofs.Lists.{searchable, none_named, told_same, same_name, as_many, same_at, all_as}
use Rattle.reqtable_streaming.proofs.required.place_of.Goals as goal

pub returns-then-is_eq : goal.returns-then-is_eq
returns-then-is_eq c =
    let q = c.args.name.now.name.now in
    let found = c.index-names-before.result in
    let equal = sym (c.is_eq.ensures ∙ ap is_eq c.compare.ensures) ∙ c.if-is_eq.true in (
      c.if-before-packages.true,
      λ d.
          same_at (λ (p : Package). p.name.now) (λ (n : Fronted). n.name.now) c.args.packages.now c.args.names.now (sym c.requires.named) c.args.before d found c.if-before-packages.true
          ∙ ap (λ (n : Fronted). n.name.now) (sym c.index-names-before.is) ∙ told_same found.name.now q equal,
    )

pub returns-in-Ok : goal.returns-in-Ok
returns-in-Ok c =
    let q = c.args.name.now.name.now in
    let wanted = c.args.name.now in
    let at = c.in-Ok.ensures.position (λ (n : Fronted). slice_cmp nat_cmp n.name.now q)
    (always_returns_same _ _ _ (λ a r f k. search rules)) in
    let within : c.in-Ok.place < length c.args.packages.now =
    omega (arith, c.in-Ok.ensures.bound, as_many (λ (n : Fronted). n.name.now) (λ (p : Package). p.name.now) c.args.names.now c.args.packages.now c.requires.named) in (
      within,
      λ d.
          same_at (λ (p : Package). p.name.now) (λ (n : Fronted). n.name.now) c.args.packages.now c.args.names.now (sym c.requires.named) c.in-Ok.place d wanted within
          ∙ same_name _ q (at wanted),
    )

pub returns-in-Err : goal.returns-in-Err
returns-in-Err c =
    let q = c.args.name.now.name.now in
    let names = c.args.names.now in
    let parted = c.in-Err.ensures.position (λ (n : Fronted). slice_cmp nat_cmp n.name.now q)
    (always_returns_same _ _ _ (λ a r f k. search rules)) in
    let rise = subst (IsStrictlySortedBy (slice_cmp nat_cmp)) (sym c.requires.named) c.requires.rising in
    all_as (λ (p : Package). p.name.now) (λ (n : Fronted). n.name.now) (λ name. bytes_eq name q ≡ false) c.args.packages.now names (sym c.requires.named)
    (none_named (λ (n : Fronted). n.name.now) names c.in-Err.field-0 q (parted (searchable (λ (n : Fronted). n.name.now) names q rise)))
