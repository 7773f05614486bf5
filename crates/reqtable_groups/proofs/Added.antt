-- One more line of another package than the last group's.
use Rattle.std.proofs.Common.{◌≡◌, ◌∙◌, ◌++◌, ◌∷◌, [], List, ℕ, ap, sym, subst, false, inr}
use Rattle.std.proofs.lemmas.Cmp.{nat_list_eq_equiv}
use Rattle.std.specs.Str.{bytes_eq}
use Rattle.reqtable_groups.specs.declared.given.Given.{Given}
use Rattle.reqtable_groups.specs.declared.lines_by_package.Group.{Group}
use Rattle.reqtable_groups.specs.Given.{IsOfOther, IsNewGroup, IsAdded}
use Rattle.reqtable_groups.proofs.Names.{same_last}

last_is_other : (name : List ℕ) (front : List Group) (last : Group) → bytes_eq last.name name ≡ false →
    IsOfOther name (front ++ last ∷ [])
last_is_other name front last e others other same =
    nat_list_eq_equiv.symm name other.name
    ∙ ap (λ (g : Group). bytes_eq g.name name) (sym (same_last front others last other same)) ∙ e

pub added_behind : (name : List ℕ) (line : Given) (front old back new : List Group) (last : Group) → old ≡ front ++ last ∷ [] →
    back ≡ front ++ last ∷ [] → bytes_eq last.name name ≡ false → IsNewGroup name line back new → IsAdded name line old new
added_behind name line front old back new last was put e is =
    inr (
      subst (IsOfOther name) (sym was) (last_is_other name front last e),
      subst (λ groups. IsNewGroup name line groups new) (put ∙ sym was) is,
    )
