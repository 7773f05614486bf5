use Rattle.std.proofs.Common.{◌≡◌, ◌∙◌, ◌<◌, Less, Equal, Greater, length, get_or, sym, subst, rules}
use Rattle.std.proofs.lemmas.Fn.{always_returns_same}
use Rattle.std.specs.List.Sorted.{IsNonDecreasingBy, IsPartitionPoint}
use Rattle.std.specs.Ordering.{ordering_index}
use Rattle.pep508_cases.specs.Cases.{Marks, marks_cmp}
use Rattle.reqtable_table.specs.declared.table.Case.{Case}
use Rattle.reqtable_table.proofs.Searching.{searchable, found_case, found_numbers, is_there}
use Rattle.reqtable_table.proofs.active_case.place_of.Goals as goal

pub unreachable-requires : goal.unreachable-requires
unreachable-requires c =
    let kept = c.args.kept.now in
    let marks = c.args.marks.now in
    let lines = c.requires.lines in
    let applying = c.requires.applying in
    let set = c.mark.new.self in
    let e : set ≡ marks = c.in_ok-mark.ensures in
    let same = c.deref.ensures.value in
    let order : Marks → Case → _ = λ m case. marks_cmp case.set m in
    let cases = c.deref.result.now in
    let rises =
    subst (λ m. IsNonDecreasingBy (λ (case : Case). ordering_index (order m case)) cases) (sym e)
    (subst (λ l. IsNonDecreasingBy (λ (case : Case). ordering_index (order marks case)) l) (sym same)
    (searchable kept marks lines applying)) in
    let parted = c.in-Err.ensures.position (order set) (always_returns_same _ _ _ (λ a r f k. search rules)) rises in
    is_there kept marks lines applying c.in-Err.field-0
    (subst (λ m. IsPartitionPoint (λ (case : Case). order m case ≡ Less) (λ case. order m case ≡ Greater)
    kept.cases.items c.in-Err.field-0) e
    (subst (λ l. IsPartitionPoint (λ (case : Case). order set case ≡ Less) (λ case. order set case ≡ Greater) l
    c.in-Err.field-0) same parted))

pub returns-clause-asked : goal.returns-clause-asked
returns-clause-asked c = λ other.
    let kept = c.args.kept.now in
    let marks = c.args.marks.now in
    let lines = c.requires.lines in
    let applying = c.requires.applying in
    let set = c.mark.new.self in
    let e : set ≡ marks = c.in_ok-mark.ensures in
    let same = c.deref.ensures.value in
    let order : Marks → Case → _ = λ m case. marks_cmp case.set m in
    let place = c.in-Ok.place in
    let at = c.in-Ok.ensures.position (order set) (always_returns_same _ _ _ (λ a r f k. search rules)) in
    let equal : (d : Case) → order marks (get_or kept.cases.items place d) ≡ Equal =
    (λ d. sym (λ i. order (e i) (get_or (same i) place d)) ∙ at d) in
    found_case kept marks lines applying place (subst (λ l. place < length l) same c.in-Ok.ensures.bound) equal other

pub returns-clause-numbers : goal.returns-clause-numbers
returns-clause-numbers c =
    let kept = c.args.kept.now in
    let marks = c.args.marks.now in
    let lines = c.requires.lines in
    let applying = c.requires.applying in
    let set = c.mark.new.self in
    let e : set ≡ marks = c.in_ok-mark.ensures in
    let same = c.deref.ensures.value in
    let order : Marks → Case → _ = λ m case. marks_cmp case.set m in
    let place = c.in-Ok.place in
    let at = c.in-Ok.ensures.position (order set) (always_returns_same _ _ _ (λ a r f k. search rules)) in
    let equal : (d : Case) → order marks (get_or kept.cases.items place d) ≡ Equal =
    (λ d. sym (λ i. order (e i) (get_or (same i) place d)) ∙ at d) in
    found_numbers kept marks lines applying place (subst (λ l. place < length l) same c.in-Ok.ensures.bound) equal
