-- Lines have one list of conflicts.
use Rattle.std.proofs.Common.{◌≡◌, ◌∙◌, ◌||◌, ℕ, Bool, true, false, List, [], ◌∷◌, map, Ok}
use Rattle.std.proofs.Common.{refl, sym, ap, subst, inl, inr, true≢false, Less, Equal, Greater}
use Rattle.std.specs.List.{list_any, AllByRecursion}
use Rattle.std.specs.Ordering.{nat_cmp, is_eq, ordering_reverse}
use Rattle.std.specs.declared.cmp.Ordering.{Ordering}
use Rattle.std.specs.Cmp.Lexicographic.{slice_cmp}
use Rattle.std.specs.Str.{bytes_eq}
use Rattle.std.proofs.lemmas.Bool.{cases_Bool}
use Rattle.std.proofs.lemmas.Cmp.{nat_list_cmp_total, tied_itself}
use Rattle.std.proofs.lemmas.Map.Lookups.{exact_bytes}
use Rattle.std.proofs.lemmas.Map.Text.{is_eq-slice_cmp}
use Rattle.std.proofs.lemmas.Slice.Eq.{bytes_eq-Decides}
use Rattle.pep508_cases.specs.Cases.{Marks, same_marks, IsRealised}
use Rattle.pep508_cases.proofs.Marks.{marks_is}
use Rattle.reqtable_requirements.specs.Asks.{lines_of}
use Rattle.reqtable_requirements.specs.LineReading.{LineRecord}
use Rattle.reqtable_cases.specs.Conflicts.{IsConflict, told_of, AreConflicts}
use Rattle.reqtable_cases.specs.Lines.{line_marks, asked_by}
use Rattle.reqtable_conflicts.specs.Contradictions.{ConflictRecord, FindsConflicts, StandByName, told_under}
use Rattle.reqtable_conflicts.proofs.Conflicting.{told_by}
use Rattle.reqs_lists.proofs.RisingSets.{Within, one_rising}

-- ---- of one package

-- what holds of each of some sets
each_is : (P : Marks → Type 0) (set : Marks) (sets : List Marks) → AllByRecursion P sets
    → list_any (same_marks set) sets ≡ true → P set
each_is P set [] all there = absurd (true≢false (sym there))
each_is P set (s ∷ sets) all there = elim (cases_Bool (same_marks set s)) [
  | inl e ↦ subst P (sym (marks_is set s e)) all.0
  | inr e ↦ each_is P set sets all.1 (sym (ap (λ b. b || list_any (same_marks set) sets) e) ∙ there)
]

module _ (lines : List LineRecord) where
  within : (found others : List (List ℕ × Bool)) (a : AreConflicts lines found)
      (b : AreConflicts lines others) → Within a.sets b.sets
  within found others a b set there =
      let real = each_is (IsRealised (line_marks lines)) set a.sets a.realised there in
      let conflict = each_is (λ s. IsConflict (asked_by s lines)) set a.sets a.conflicts there in
      subst (λ s. list_any (same_marks s) b.sets ≡ true) real.1
      (b.all real.0 (subst (λ s. IsConflict (asked_by s lines)) (sym real.1) conflict))

  one_told : (found others : List (List ℕ × Bool)) → AreConflicts lines found → AreConflicts lines others
      → found ≡ others
  one_told found others a b =
      let there = within found others a b in
      let back = within others found b a in
      let sets = one_rising a.sets b.sets a.rising b.rising there back in
      a.told ∙ ap (map (λ set. told_of set lines)) sets ∙ sym b.told

-- ---- of one package after another

abbrev before : List ℕ → List ℕ → Ordering
before = slice_cmp nat_cmp

first_under : (name : List ℕ) (c : ConflictRecord) (cs : List ConflictRecord) → bytes_eq name c.name ≡ true
    → told_under name (c ∷ cs) ≡ told_by c ∷ told_under name cs
first_under name c cs e = rw e refl

passed_under : (name : List ℕ) (c : ConflictRecord) (cs : List ConflictRecord) → bytes_eq name c.name ≡ false
    → told_under name (c ∷ cs) ≡ told_under name cs
passed_under name c cs e = rw e refl

tied_names : (one other : List ℕ) → before one other ≡ Equal → bytes_eq one other ≡ true
tied_names one other e = sym (is_eq-slice_cmp one other) ∙ ap is_eq e

own : (name : List ℕ) → bytes_eq name name ≡ true
own name = tied_names name name (tied_itself nat_list_cmp_total name)

some_told : (c : ConflictRecord) (cs : List ConflictRecord) → told_under c.name (c ∷ cs) ≡ [] → ⊥
some_told c cs none =
    let wrong : told_by c ∷ told_under c.name cs ≡ [] =
    sym (first_under c.name c cs (own c.name)) ∙ none in
    cc

-- none has a name that comes before one which none is before
none_under : (name least : List ℕ) (cs : List ConflictRecord) → before name least ≡ Less
    → AllByRecursion (λ c. before c.name least ≡ Less → ⊥) cs → told_under name cs ≡ []
none_under name least [] less all = refl
none_under name least (c ∷ cs) less all = elim (cases_Bool (bytes_eq name c.name)) [
  | inl e ↦
      let same : name ≡ c.name = (bytes_eq-Decides name c.name).0 e in
      absurd (all.0 (subst (λ n. before n least ≡ Less) same less))
  | inr e ↦ passed_under name c cs e ∙ none_under name least cs less all.1
]

not_before_itself : (name : List ℕ) → before name name ≡ Less → ⊥
not_before_itself name less = let tied = tied_itself nat_list_cmp_total name in absurd (cc)

abbrev Alike : List ConflictRecord → List ConflictRecord → Type 0
Alike found others = (name : List ℕ) → told_under name found ≡ told_under name others

not_first : (c d : ConflictRecord) (cs ds : List ConflictRecord) → StandByName (d ∷ ds)
    → Alike (c ∷ cs) (d ∷ ds) → before c.name d.name ≡ Less → ⊥
not_first c d cs ds stand alike less =
    some_told c cs
    (alike c.name ∙ none_under c.name d.name (d ∷ ds) less (not_before_itself d.name, stand.0))

tied_by : (c d : ConflictRecord) (cs ds : List ConflictRecord) → StandByName (c ∷ cs) → StandByName (d ∷ ds)
    → Alike (c ∷ cs) (d ∷ ds) → (order : Ordering) → before c.name d.name ≡ order → order ≡ Equal
tied_by c d cs ds a b alike Less e = absurd (not_first c d cs ds b alike e)
tied_by c d cs ds a b alike Equal e = refl
tied_by c d cs ds a b alike Greater e =
    absurd
    (not_first d c ds cs a (λ name. sym (alike name))
    (nat_list_cmp_total.antisymm d.name c.name ∙ ap ordering_reverse e))

rest_by : (name : List ℕ) (c d : ConflictRecord) (cs ds : List ConflictRecord) (b : Bool)
    → bytes_eq name c.name ≡ b → bytes_eq name d.name ≡ b
    → told_under name (c ∷ cs) ≡ told_under name (d ∷ ds) → told_under name cs ≡ told_under name ds
rest_by name c d cs ds true e f same =
    let all : told_by c ∷ told_under name cs ≡ told_by d ∷ told_under name ds =
    sym (first_under name c cs e) ∙ same ∙ first_under name d ds f in
    cc
rest_by name c d cs ds false e f same =
    sym (passed_under name c cs e) ∙ same ∙ passed_under name d ds f

same_found : (found others : List ConflictRecord) → StandByName found → StandByName others
    → Alike found others → found ≡ others
same_found [] [] a b alike = refl
same_found [] (d ∷ ds) a b alike = absurd (some_told d ds (sym (alike d.name)))
same_found (c ∷ cs) [] a b alike = absurd (some_told c cs (alike c.name))
same_found (c ∷ cs) (d ∷ ds) a b alike =
    let tied : before c.name d.name ≡ Equal = tied_by c d cs ds a b alike (before c.name d.name) refl in
    let name : c.name ≡ d.name = exact_bytes c.name d.name tied in
    let all : told_by c ∷ told_under c.name cs ≡ told_by d ∷ told_under c.name ds =
    sym (first_under c.name c cs (own c.name)) ∙ alike c.name
    ∙ first_under c.name d ds (tied_names c.name d.name tied) in
    let told : told_by c ≡ told_by d = cc in
    let rest : cs ≡ ds =
    same_found cs ds a.1 b.1
    (λ n. rest_by n c d cs ds (bytes_eq n c.name) refl (ap (bytes_eq n) (sym name)) (alike n)) in
    λ i. record { name = name i; numbers = (told i).0; prerelease = (told i).1 } ∷ rest i

pub one_list_of_conflicts : (limit : ℕ) (lines : List LineRecord) (found others : List ConflictRecord)
    → FindsConflicts (λ all. all) limit lines (Ok found) → FindsConflicts (λ all. all) limit lines (Ok others)
    → found ≡ others
one_list_of_conflicts limit lines found others a b =
    same_found found others a.1 b.1
    (λ name. one_told (lines_of name lines) (told_under name found) (told_under name others) (a.2 name)
    (b.2 name))
