-- Counting the members of lists.
use Rattle.std.proofs.Common.{◌≡◌, ◌∙◌, ◌<◌, ◌≤◌, ◌+◌, ℕ, List, [], ◌∷◌, ◌++◌, map, length, take, drop, ap}
use Rattle.std.proofs.Common.{sym, arith, get_or, length-append, append-nil}
use Rattle.std.proofs.lemmas.List.{map-append, map_more, take-append-drop}
use Rattle.std.proofs.lemmas.List.Concat.{flat_map-append}
use Rattle.std.specs.Borrow.{Bor}
use Rattle.pep440_specifier.specs.Matching.{SpecifierRecord}
use Rattle.reqtable_range.specs.Together.{members_of}

abbrev Lists : Type 0
Lists = List (Bor (List SpecifierRecord))

abbrev pub listed : Lists → List SpecifierRecord
listed lists = members_of (map (λ list. list.now) lists)

listed_both : (front back : Lists) → listed (front ++ back) ≡ listed front ++ listed back
listed_both front back =
    ap members_of (map-append (λ list. list.now) front back)
    ∙ flat_map-append (λ list. list) (map (λ list. list.now) front) (map (λ list. list.now) back)

-- with one list more there are its members more
pub one_more : (lists : Lists) (i : ℕ) (list : Bor (List SpecifierRecord)) → i < length lists → list ≡ get_or lists i list
    → length (listed (take (i + 1) lists)) ≡ length (listed (take i lists)) + length list.now
one_more lists i list below at =
    let before = listed (take i lists) in
    ap (λ xs. length (members_of xs)) (map_more (λ (l : Bor (List SpecifierRecord)). l.now) lists i list below)
    ∙ ap length (flat_map-append (λ l. l) (map (λ l. l.now) (take i lists)) ((get_or lists i list).now ∷ []))
    ∙ ap (λ x. length (before ++ x)) (append-nil (get_or lists i list).now ∙ ap (λ l. l.now) (sym at))
    ∙ length-append before list.now

-- some lists of them have no more members than all
pub front_is_less : (lists : Lists) (i : ℕ) → length (listed (take i lists)) ≤ length (listed lists)
front_is_less lists i =
    let all : length (listed lists) ≡ length (listed (take i lists)) + length (listed (drop i lists)) = ap (λ xs. length (listed xs)) (sym (take-append-drop i lists))
    ∙ ap length (listed_both (take i lists) (drop i lists)) ∙ length-append (listed (take i lists)) (listed (drop i lists)) in
    omega arith
