-- Members by their kinds, one more at a time.
use Rattle.std.proofs.Common.{◌≡◌, ◌∙◌, ◌<◌, ◌+◌, ℕ, Bool, ◌&&◌, List, [], ◌∷◌, ◌++◌, map, length, take, All}
use Rattle.std.proofs.Common.{ap, sym, subst, append-nil, append_assoc, get_or}
use Rattle.std.proofs.Math.Bool.{and_assoc, and_comm}
use Rattle.std.proofs.lemmas.List.{map-append, map_more, take_more}
use Rattle.std.proofs.lemmas.List.Concat.{flat_map-append}
use Rattle.std.proofs.lemmas.List.Elements.{All-nil, All-push}
use Rattle.std.proofs.lemmas.List.Folds.{list_all-append}
use Rattle.std.specs.Borrow.{Bor}
use Rattle.pep440_specifier.specs.Matching.{SpecifierRecord, takes}
use Rattle.pep440_specifier_list.specs.Lists.{matches_all}
use Rattle.reqtable_range.specs.declared.specifier_sets.Kind.TheVariants.{Simple, Local, Single}
use Rattle.reqtable_range.specs.declared.specifier_sets.Sorted.{Sorted}
use Rattle.reqtable_range.specs.Sorting.{IsOfKind, TakeAs, SortsInto}
use Rattle.reqtable_range.specs.Together.{members_of, lent}

abbrev Members : Type 0
Members = List SpecifierRecord

-- ---- one more asks one question more

and_first : (a b c more : Bool) → ((a && (b && c)) && more) ≡ ((a && more) && (b && c))
and_first a b c more =
    and_assoc a (b && c) more ∙ ap (λ x. a && x) (and_comm (b && c) more) ∙ sym (and_assoc a more (b && c))

and_second : (a b c more : Bool) → ((a && (b && c)) && more) ≡ (a && ((b && more) && c))
and_second a b c more =
    and_assoc a (b && c) more
    ∙ ap (λ x. a && x) (and_assoc b c more ∙ ap (λ x. b && x) (and_comm c more) ∙ sym (and_assoc b more c))

and_third : (a b c more : Bool) → ((a && (b && c)) && more) ≡ (a && (b && (c && more)))
and_third a b c more = and_assoc a (b && c) more ∙ ap (λ x. a && x) (and_assoc b c more)

simple_take : (members a b c : Members) (member : SpecifierRecord) → TakeAs members a b c
    → TakeAs (members ++ member ∷ []) (a ++ member ∷ []) b c
simple_take members a b c member h v =
    let more = matches_all (member ∷ []) v in
    list_all-append (takes v) members (member ∷ []) ∙ ap (λ x. x && more) (h v)
    ∙ and_first (matches_all a v) (matches_all b v) (matches_all c v) more
    ∙ ap (λ x. x && (matches_all b v && matches_all c v)) (sym (list_all-append (takes v) a (member ∷ [])))

local_take : (members a b c : Members) (member : SpecifierRecord) → TakeAs members a b c
    → TakeAs (members ++ member ∷ []) a (b ++ member ∷ []) c
local_take members a b c member h v =
    let more = matches_all (member ∷ []) v in
    list_all-append (takes v) members (member ∷ []) ∙ ap (λ x. x && more) (h v)
    ∙ and_second (matches_all a v) (matches_all b v) (matches_all c v) more
    ∙ ap (λ x. matches_all a v && (x && matches_all c v)) (sym (list_all-append (takes v) b (member ∷ [])))

single_take : (members a b c : Members) (member : SpecifierRecord) → TakeAs members a b c
    → TakeAs (members ++ member ∷ []) a b (c ++ member ∷ [])
single_take members a b c member h v =
    let more = matches_all (member ∷ []) v in
    list_all-append (takes v) members (member ∷ []) ∙ ap (λ x. x && more) (h v)
    ∙ and_third (matches_all a v) (matches_all b v) (matches_all c v) more
    ∙ ap (λ x. matches_all a v && (matches_all b v && x)) (sym (list_all-append (takes v) c (member ∷ [])))

-- ---- one more in one of the three lists

abbrev pub Lent : Type 0
Lent = List (Bor SpecifierRecord)

lent_more : (members : Lent) (member : Bor SpecifierRecord) → lent (members ++ member ∷ []) ≡ lent members ++ member.now ∷ []
lent_more members member = map-append (λ m. m.now) members (member ∷ [])

pub none_sorted : (sorted : Sorted) → sorted.simple.items ≡ [] → sorted.local.items ≡ [] → sorted.single.items ≡ []
    → SortsInto [] sorted
none_sorted sorted a b c = record {
  simple = subst (λ xs. All (IsOfKind Simple) (lent xs)) (sym a) (All-nil (IsOfKind Simple));
  local = subst (λ xs. All (IsOfKind Local) (lent xs)) (sym b) (All-nil (IsOfKind Local));
  single = subst (λ xs. All (IsOfKind Single) (lent xs)) (sym c) (All-nil (IsOfKind Single));
  take = λ v i. matches_all (lent (sym a i)) v && (matches_all (lent (sym b i)) v && matches_all (lent (sym c i)) v);
}

pub simple_sorted : (old new : Sorted) (member : Bor SpecifierRecord) → new.simple.items ≡ old.simple.items ++ member ∷ []
    → new.local.items ≡ old.local.items → new.single.items ≡ old.single.items → IsOfKind Simple member.now
    → (members : Members) → SortsInto members old → SortsInto (members ++ member.now ∷ []) new
simple_sorted old new member a b c kind members h =
    let grown : lent new.simple.items ≡ lent old.simple.items ++ member.now ∷ [] = ap lent a ∙ lent_more old.simple.items member in
    record {
      simple = subst (All (IsOfKind Simple)) (sym grown) (All-push (IsOfKind Simple) (lent old.simple.items) member.now h.simple kind);
      local = subst (λ xs. All (IsOfKind Local) (lent xs)) (sym b) h.local;
      single = subst (λ xs. All (IsOfKind Single) (lent xs)) (sym c) h.single;
      take = λ v.
          simple_take members (lent old.simple.items) (lent old.local.items) (lent old.single.items) member.now h.take v
          ∙ (λ i. matches_all (sym grown i) v && (matches_all (lent (sym b i)) v && matches_all (lent (sym c i)) v));
    }

pub local_sorted : (old new : Sorted) (member : Bor SpecifierRecord) → new.simple.items ≡ old.simple.items
    → new.local.items ≡ old.local.items ++ member ∷ [] → new.single.items ≡ old.single.items → IsOfKind Local member.now
    → (members : Members) → SortsInto members old → SortsInto (members ++ member.now ∷ []) new
local_sorted old new member a b c kind members h =
    let grown : lent new.local.items ≡ lent old.local.items ++ member.now ∷ [] = ap lent b ∙ lent_more old.local.items member in
    record {
      simple = subst (λ xs. All (IsOfKind Simple) (lent xs)) (sym a) h.simple;
      local = subst (All (IsOfKind Local)) (sym grown) (All-push (IsOfKind Local) (lent old.local.items) member.now h.local kind);
      single = subst (λ xs. All (IsOfKind Single) (lent xs)) (sym c) h.single;
      take = λ v.
          local_take members (lent old.simple.items) (lent old.local.items) (lent old.single.items) member.now h.take v
          ∙ (λ i. matches_all (lent (sym a i)) v && (matches_all (sym grown i) v && matches_all (lent (sym c i)) v));
    }

pub single_sorted : (old new : Sorted) (member : Bor SpecifierRecord) → new.simple.items ≡ old.simple.items
    → new.local.items ≡ old.local.items → new.single.items ≡ old.single.items ++ member ∷ [] → IsOfKind Single member.now
    → (members : Members) → SortsInto members old → SortsInto (members ++ member.now ∷ []) new
single_sorted old new member a b c kind members h =
    let grown : lent new.single.items ≡ lent old.single.items ++ member.now ∷ [] = ap lent c ∙ lent_more old.single.items member in
    record {
      simple = subst (λ xs. All (IsOfKind Simple) (lent xs)) (sym a) h.simple;
      local = subst (λ xs. All (IsOfKind Local) (lent xs)) (sym b) h.local;
      single = subst (All (IsOfKind Single)) (sym grown) (All-push (IsOfKind Single) (lent old.single.items) member.now h.single kind);
      take = λ v.
          single_take members (lent old.simple.items) (lent old.local.items) (lent old.single.items) member.now h.take v
          ∙ (λ i. matches_all (lent (sym a i)) v && (matches_all (lent (sym b i)) v && matches_all (sym grown i) v));
    }

-- ---- list by list

abbrev pub listed : List (Bor Members) → Members
listed lists = members_of (map (λ list. list.now) lists)

-- the members of one list more
pub listed_more : (lists : List (Bor Members)) (i : ℕ) (list : Bor Members) → i < length lists → list ≡ get_or lists i list
    → listed (take i lists) ++ list.now ≡ listed (take (i + 1) lists)
listed_more lists i list below at =
    let before = listed (take i lists) in
    sym (ap members_of (map_more (λ (l : Bor Members). l.now) lists i list below)
    ∙ flat_map-append (λ l. l) (map (λ l. l.now) (take i lists)) ((get_or lists i list).now ∷ [])
    ∙ ap (λ x. before ++ x) (append-nil (get_or lists i list).now ∙ ap (λ l. l.now) (sym at)))

-- the members of a list one after another
pub one_added : (members : Members) (i : ℕ) (member : SpecifierRecord) → i < length members → member ≡ get_or members i member
    → (before : Members) → (before ++ take i members) ++ member ∷ [] ≡ before ++ take (i + 1) members
one_added members i member below at before =
    append_assoc before (take i members) (member ∷ [])
    ∙ ap (λ x. before ++ x) (ap (λ m. take i members ++ m ∷ []) at ∙ sym (take_more members i member below))
