-- Cases without any point, picked one after another.
use Rattle.std.proofs.Common.{◌≡◌, ◌∙◌, ◌<◌, ◌+◌, ◌↔◌, ℕ, Bool, false, IsTrue, List, [], ◌∷◌, ◌++◌, map}
use Rattle.std.proofs.Common.{length}
use Rattle.std.proofs.Common.{take, get_or, Bor}
use Rattle.std.proofs.Common.{Some, None, refl, sym, ap, subst, inl, inr, arith, true≢false}
use Rattle.std.proofs.lemmas.List.{map-append, append_assoc, append-nil, take_more}
use Rattle.version_ranges.specs.Point.{Point, BelowAll}
use Rattle.version_ranges.specs.Held.{holds_at}
use Rattle.pep440_version.specs.Record.{VersionRecord}
use Rattle.pep440_version.specs.Order.{version_cmp}
use Rattle.reqtable_cases.specs.Usable.{IsRangeOf}
use Rattle.reqtable_table.specs.Casing.{case_record}
use Rattle.reqtable_table.specs.declared.table.Case.{Case}
use Rattle.reqtable_table.specs.Kept.{KeptLine, KeptCase, KeptPackage}
use Rattle.reqtable_table.specs.Numbered.{asks_at}
use Rattle.reqtable_conflicts.specs.Contradictions.{ConflictRecord, HasNoPoint}
use Rattle.reqtable_conflicts.specs.Picking.{Picks, PicksUnder, AddsPicked, FoundFor, told, named}

abbrev Set : Type 0
Set = List (Point VersionRecord)

-- without lines each point is in the range
some_lines : (numbers : List ℕ) (lines : List KeptLine) (set : Set) → IsRangeOf (asks_at numbers lines) (Some set) →
    holds_at version_cmp set BelowAll ≡ false → 0 < length numbers
some_lines [] lines set is none = absurd (true≢false (sym (is.1 BelowAll) ∙ none))
some_lines (number ∷ numbers) lines set is none = omega arith

pub has_none : (lines : List KeptLine) (case : KeptCase) (set : Set) (r : Bool) →
    IsRangeOf (asks_at case.numbers lines) (Some set) →
    (IsTrue r ↔ ((p : Point VersionRecord) → holds_at version_cmp set p ≡ false)) → IsTrue r ↔ HasNoPoint lines case
has_none lines case set r is tells = (
  λ t. record {
    some = some_lines case.numbers lines set is (tells.0 t BelowAll);
    usable = is.0;
    none = λ p. sym (is.1 p) ∙ tells.0 t p;
  },
  λ h. tells.1 (λ p. is.1 p ∙ h.none p),
)

pub none_usable : (lines : List KeptLine) (case : KeptCase) → IsRangeOf (asks_at case.numbers lines) None →
    HasNoPoint lines case → ⊥
none_usable lines case is h = true≢false (sym h.usable ∙ is)

pub picked_more : (lines : List KeptLine) (cases : List KeptCase) (picked : List (List ℕ × Bool)) (case : KeptCase) → Picks lines cases picked →
    HasNoPoint lines case → Picks lines (cases ++ case ∷ []) (picked ++ told case ∷ [])
picked_more lines [] picked case h none = inl (none, ([], ap (λ l. l ++ told case ∷ []) h, refl))
picked_more lines (c ∷ cases) picked case (inl (one, (rest, is, below))) none =
    inl (
      one,
      (
        rest ++ told case ∷ [],
        ap (λ l. l ++ told case ∷ []) is,
        picked_more lines cases rest case below none,
      ),
    )
picked_more lines (c ∷ cases) picked case (inr (never, below)) none = inr (never, picked_more lines cases picked case below none)

pub passed_more : (lines : List KeptLine) (cases : List KeptCase) (picked : List (List ℕ × Bool)) (case : KeptCase) → Picks lines cases picked →
    (HasNoPoint lines case → ⊥) → Picks lines (cases ++ case ∷ []) picked
passed_more lines [] picked case h some = inr (some, h)
passed_more lines (c ∷ cases) picked case (inl (one, (rest, is, below))) some =
    inl (one, (rest, is, passed_more lines cases rest case below some))
passed_more lines (c ∷ cases) picked case (inr (never, below)) some = inr (never, passed_more lines cases picked case below some)

-- a case that was added, or passed over
pub added_more : (lines : List KeptLine) (name : List ℕ) (cases : List KeptCase) (case : KeptCase) (old new more : List ConflictRecord) →
    AddsPicked lines name cases old new → HasNoPoint lines case → more ≡ new ++ named name (told case) ∷ [] →
    AddsPicked lines name (cases ++ case ∷ []) old more
added_more lines name cases case old new more (picked, picks, is) none grown = (
  picked ++ told case ∷ [],
  picked_more lines cases picked case picks none,
  grown
      ∙ ap (λ l. l ++ named name (told case) ∷ []) is
      ∙ append_assoc old (map (named name) picked) (named name (told case) ∷ [])
      ∙ ap (λ l. old ++ l) (sym (map-append (named name) picked (told case ∷ []))),
)

pub added_same : (lines : List KeptLine) (name : List ℕ) (cases : List KeptCase) (case : KeptCase) (old new : List ConflictRecord) →
    AddsPicked lines name cases old new → (HasNoPoint lines case → ⊥) → AddsPicked lines name (cases ++ case ∷ []) old new
added_same lines name cases case old new (picked, picks, is) some =
    (picked, passed_more lines cases picked case picks some, is)

-- one package after another
pub found_more : (table : List KeptPackage) (names : List (List ℕ)) (name : List ℕ)
    (found more : List ConflictRecord) (picked : List (List ℕ × Bool)) → FoundFor table names found →
    PicksUnder table name picked → more ≡ found ++ map (named name) picked →
    FoundFor table (names ++ name ∷ []) more
found_more table [] name found more picked h picks grown =
    (picked, [], picks, grown ∙ ap (λ l. l ++ map (named name) picked) h ∙ sym (append-nil _), refl)
found_more table (n ∷ names) name found more picked (first, rest, firsts, is, below) picks grown = (
  first,
  rest ++ map (named name) picked,
  firsts,
  grown ∙ ap (λ l. l ++ map (named name) picked) is
      ∙ append_assoc (map (named n) first) rest (map (named name) picked),
  found_more table names name rest (rest ++ map (named name) picked) picked below picks refl,
)

-- ---- while the loops go

abbrev next_case : (cases : List Case) (i : ℕ) (case : Case) → i < length cases → case ≡ get_or cases i case →
    map case_record (take i cases) ++ case_record case ∷ [] ≡ map case_record (take (i + 1) cases)
next_case cases i case lt is =
    sym (map-append case_record (take i cases) (case ∷ []))
    ∙ ap (map case_record) (ap (λ c. take i cases ++ c ∷ []) is ∙ sym (take_more cases i case lt))

pub picks_next : (lines : List KeptLine) (name : List ℕ) (cases : List Case) (i : ℕ) (case : Case) (old new more : List ConflictRecord) →
    i < length cases → case ≡ get_or cases i case → AddsPicked lines name (map case_record (take i cases)) old new →
    HasNoPoint lines (case_record case) → more ≡ new ++ named name (told (case_record case)) ∷ [] →
    AddsPicked lines name (map case_record (take (i + 1) cases)) old more
picks_next lines name cases i case old new more lt is h none grown =
    subst (λ cs. AddsPicked lines name cs old more) (next_case cases i case lt is)
    (added_more lines name (map case_record (take i cases)) (case_record case) old new more h none grown)

pub passes_next : (lines : List KeptLine) (name : List ℕ) (cases : List Case) (i : ℕ) (case : Case) (old new : List ConflictRecord) →
    i < length cases → case ≡ get_or cases i case → AddsPicked lines name (map case_record (take i cases)) old new →
    (HasNoPoint lines (case_record case) → ⊥) → AddsPicked lines name (map case_record (take (i + 1) cases)) old new
passes_next lines name cases i case old new lt is h some =
    subst (λ cs. AddsPicked lines name cs old new) (next_case cases i case lt is)
    (added_same lines name (map case_record (take i cases)) (case_record case) old new h some)

pub found_next : (table : List KeptPackage) (names : List (Bor (List ℕ))) (i : ℕ) (name : Bor (List ℕ))
    (found more : List ConflictRecord) (picked : List (List ℕ × Bool)) → i < length names → name ≡ get_or names i name →
    FoundFor table (map (λ n. n.now) (take i names)) found → PicksUnder table name.now picked →
    more ≡ found ++ map (named name.now) picked → FoundFor table (map (λ n. n.now) (take (i + 1) names)) more
found_next table names i name found more picked lt is h picks grown =
    subst (λ ns. FoundFor table ns more)
    (sym (map-append (λ n. n.now) (take i names) (name ∷ []))
    ∙ ap (map (λ n. n.now)) (ap (λ n. take i names ++ n ∷ []) is ∙ sym (take_more names i name lt)))
    (found_more table (map (λ n. n.now) (take i names)) name.now found more picked h picks grown)
