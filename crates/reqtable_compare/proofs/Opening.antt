-- The names that are left are those of the open packages.
use Rattle.std.proofs.Common.{◌≡◌, ◌∙◌, ◌||◌, ℕ, true, false, List, ap, subst}
use Rattle.std.specs.List.{list_any}
use Rattle.std.specs.Str.{bytes_eq}
use Rattle.reqtable_requirements.specs.declared.requirements.Line.{Line}
use Rattle.reqtable_table.specs.Given.{is_under}
use Rattle.reqtable_packages.specs.Packages.{lines_under}
use Rattle.reqtable_packages.proofs.Passing.{Rise}
use Rattle.reqtable_compare.specs.Settled.{AreOpen, AreSettled}

pub are_open : (limit : ℕ) (left right : List Line) (names names' some : List (List ℕ)) (ours theirs : List ℕ → List Line) →
    ((q : List ℕ) → ours q ≡ lines_under q left) → ((q : List ℕ) → theirs q ≡ lines_under q right) → names' ≡ names →
    ((q : List ℕ) → list_any (bytes_eq q) names
    ≡ (list_any (is_under q) left || (list_any (is_under q) right || false))) → Rise some →
    ((q : List ℕ) → list_any (bytes_eq q) names' ≡ true → list_any (bytes_eq q) some ≡ false →
    AreSettled limit (ours q) (theirs q)) → AreOpen limit left right some
are_open limit left right names names' some ours theirs mine others same are rise settled = record {
  rising = rise;
  settled = λ q not there.
      subst (λ l. AreSettled limit l (lines_under q right)) (mine q)
      (subst (λ l. AreSettled limit (ours q) l) (others q)
      (settled q (ap (list_any (bytes_eq q)) same ∙ are q ∙ there) not));
}
