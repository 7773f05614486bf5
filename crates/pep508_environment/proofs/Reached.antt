-- Members that are looked at one after another.
use Rattle.std.proofs.Common.{◌≡◌, ◌∷◌, ◌++◌, [], List, None, IsTrue, is_some, false, ap, refl, ◌∙◌}
use Rattle.std.specs.List.{filter_map, cons_option}
use Rattle.serde_json.specs.Data.{Data}
use Rattle.serde_json.specs.Find.{as_object}
use Rattle.serde_json.specs.Written.{has_float}
use Rattle.pep508_environment.specs.declared.EnvironmentMember.{EnvironmentMember}
use Rattle.pep508_environment.specs.Environment.{member_fault, member_text, members, IsReached}

-- none of the members is wrong
abbrev pub AreRight : Data → List EnvironmentMember → Type 0
AreRight value [] = Unit {0}
AreRight value (member ∷ others) = (member_fault value member ≡ None) × AreRight value others

pub all_right : (value : Data) (some : List EnvironmentMember) → AreRight value some
    → filter_map (member_fault value) some ≡ []
all_right value [] h = refl
all_right value (member ∷ others) h =
    ap (λ fault. cons_option fault (filter_map (member_fault value) others)) h.0 ∙ all_right value others h.1

-- a member behind others that are right
pub reached : (value : Data) (before : List EnvironmentMember) (member : EnvironmentMember) (after : List EnvironmentMember)
    → has_float value ≡ false → IsTrue (is_some (as_object value)) → members ≡ before ++ member ∷ after
    → AreRight value before → IsTrue (is_some (member_text value member))
    → (one : EnvironmentMember) × IsReached value one
reached value before member after no_float is_object in_order right is_text = (
  member,
  record {
    no_float = no_float;
    is_object = is_object;
    before = before;
    after = after;
    in_order = in_order;
    are_right = all_right value before right;
    is_text = is_text;
  },
)
