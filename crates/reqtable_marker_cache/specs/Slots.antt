-- Numbers for the places of markers.
use Rattle.std.specs.Prelude.{◌≡◌, ℕ, Option, Some, None}
use Rattle.std.specs.BTreeMap.{btree_map_len, get, Updates}
use Rattle.std.specs.Ordering.{nat_cmp}
use Rattle.reqtable_marker_cache.specs.declared.slots.Slots.{Slots}

abbrev pub count : Slots → ℕ
count slots = btree_map_len slots.places

-- a place that has a number keeps it, and a new one gets the next
abbrev pub IsSlotBy : Option ℕ → ℕ → Slots → Slots → ℕ → Type 0
IsSlotBy (Some was) place old new slot = (slot ≡ was) × (new ≡ old)
IsSlotBy None place old new slot =
    (slot ≡ count old) × Updates nat_cmp old.places new.places place (Some slot)

abbrev pub IsSlotOf : ℕ → Slots → Slots → ℕ → Type 0
IsSlotOf place old new slot = IsSlotBy (get nat_cmp old.places place) place old new slot
