-- What is passed over.
use Rattle.std.proofs.Common.{◌≡◌, ◌∙◌, ◌<◌, ◌≤◌, ◌+◌, ℕ, Bool, true, false, List, length, get_or, Some, refl}
use Rattle.std.proofs.Common.{sym, ap, arith}
use Rattle.std.specs.List.{AllWithin, AllByRecursion}
use Rattle.version_ranges.specs.Held.{holds_at}
use Rattle.version_ranges.specs.Point.{Point, At}
use Rattle.pep440_version.specs.Order.{version_cmp}
use Rattle.pep440_version.specs.Record.{VersionRecord}
use Rattle.reqtable_candidates.specs.declared.ordered.Placed.{Placed}
use Rattle.reqtable_search.specs.Told.{is_told, IsPassed}
use Rattle.reqtable_search.specs.InRun.{version_of, untold_from}
use Rattle.reqtable_search.proofs.Places.{same_there, untold_there}

told_by : (b : Bool) → (b ≡ false → ⊥) → b ≡ true
told_by true h = refl
told_by false h = absurd (h refl)

pub passed_over : (placed : List Placed) (at result end : ℕ) (bounded : Bool) (set : List (Point VersionRecord)) →
    result ≤ end → end ≤ length placed →
    AllWithin (λ x. holds_at version_cmp set (At (version_of x)) ≡ false) placed at end →
    AllByRecursion (λ place. at < place → result ≤ place) (untold_from bounded 0 placed) →
    AllWithin (λ x. IsPassed bounded (Some set) (version_of x)) placed (at + 1) result
passed_over placed at result end bounded set before within held next k d l m = (
  told_by (is_told bounded (version_of (get_or placed k d))) (λ e.
      let far : at < 0 + k → result ≤ 0 + k =
      untold_there (λ place. at < place → result ≤ place) bounded 0 placed k d (omega arith) e next in
      let too_far = far (omega arith) in
      absurd (omega arith)),
  held k d (omega arith) (omega arith),
)

-- what lies beside one that isn't held
pub held_alike_none : (placed : List Placed) (at end : ℕ) (turns set : List (Point VersionRecord)) (first : Placed) →
    turns ≡ set → at < length placed → first ≡ get_or placed at first →
    AllWithin (λ x. holds_at version_cmp turns (At (version_of x)) ≡ holds_at version_cmp turns (At (version_of (get_or placed at x)))) placed at end →
    holds_at version_cmp set (At (version_of first)) ≡ false →
    AllWithin (λ x. holds_at version_cmp set (At (version_of x)) ≡ false) placed at end
held_alike_none placed at end turns set first same within is alike none k d l m =
    let x = get_or placed k d in
    let at_x : get_or placed at x ≡ first = same_there placed at x first within ∙ sym is in
    ap (λ t. holds_at version_cmp t (At (version_of x))) (sym same) ∙ alike k d l m
    ∙ ap (λ y. holds_at version_cmp turns (At (version_of y))) at_x
    ∙ ap (λ t. holds_at version_cmp t (At (version_of first))) same ∙ none
