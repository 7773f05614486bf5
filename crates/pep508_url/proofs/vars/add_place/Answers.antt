use Rattle.std.proofs.Common.{Some, sym, ◌∙◌}
use Rattle.std.specs.Prelude.{string_bytes}
use Rattle.std.proofs.lemmas.Map.Text.{btree_map_updates_text}
use Rattle.pep508_url.specs.Vars.{value_at, value_by_place}
use Rattle.pep508_url.proofs.Places.{name_kept, place_added}
use Rattle.pep508_url.proofs.vars.add_place.Goals as goal

pub returns-then-is_some : goal.returns-then-is_some
returns-then-is_some c =
    name_kept (value_by_place c.args.pairs.now c.args.places.now) c.args.name.now c.find.result c.find.ensures
    (sym c.is_some.ensures ∙ c.if-is_some.true) (value_at c.args.pairs.now c.args.place)

pub returns : goal.returns
returns c =
    place_added c.args.pairs.now c.args.places.now c.insert.new.self c.args.place c.args.name.now
    c.find.result (string_bytes c.in_ok-from_str.field-0) c.find.ensures
    (sym c.is_some.ensures ∙ c.if-is_some.false) c.in_ok-from_str.ensures.ok
    (btree_map_updates_text (string_bytes c.in_ok-from_str.field-0) c.args.places.now c.insert.new.self
    (Some c.args.place) c.in_ok-insert.ensures.updates)
