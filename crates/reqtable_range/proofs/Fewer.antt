-- Fewer specifiers in place of others: one more, and one that another implies.
use Rattle.std.proofs.Common.{◌≡◌, ◌∙◌, ◌<◌, ℕ, Bool, true, false, ◌&&◌, List, [], ◌∷◌, ◌++◌, length, All, refl, ap, sym}
use Rattle.std.proofs.Common.{◌+◌, append_assoc, get_or, take, subst}
use Rattle.std.proofs.Math.Bool.{and_assoc, and_comm}
use Rattle.std.proofs.lemmas.Bool.{and_parts}
use Rattle.std.proofs.lemmas.List.{map-append, take_more}
use Rattle.std.proofs.lemmas.List.Elements.{All-nil, All-cons, All-head, All-tail, All-append}
use Rattle.std.proofs.lemmas.List.Folds.{list_all-append, list_all-map, list_all_at}
use Rattle.std.specs.Borrow.{Bor}
use Rattle.pep440_version.specs.Record.{VersionRecord}
use Rattle.pep440_specifier.specs.Matching.{SpecifierRecord, takes}
use Rattle.pep440_specifier_list.specs.Lists.{matches_all}
use Rattle.reqtable_range.specs.declared.specifier_sets.Kind.TheVariants.{Single}
use Rattle.reqtable_range.specs.Sorting.{IsOfKind, Implies, StandFor}
use Rattle.reqtable_range.specs.Together.{lent}

abbrev Members : Type 0
Members = List SpecifierRecord

abbrev Singles : Members → Type 0
Singles = All (IsOfKind Single)

parts : (xs ys : Members) → Singles (xs ++ ys) → Singles xs × Singles ys
parts [] ys h = (All-nil (IsOfKind Single), h)
parts (x ∷ xs) ys h =
    let rest = parts xs ys (All-tail (IsOfKind Single) x (xs ++ ys) h) in
    (All-cons (IsOfKind Single) x xs (All-head (IsOfKind Single) x (xs ++ ys) h) rest.0, rest.1)

joined : (xs ys : Members) → Singles xs → Singles ys → Singles (xs ++ ys)
joined xs ys h k = All-append (IsOfKind Single) xs ys h k

both : (xs ys : Members) (v : VersionRecord) → matches_all (xs ++ ys) v ≡ (matches_all xs v && matches_all ys v)
both xs ys v = list_all-append (takes v) xs ys

and_last : (a b c : Bool) → ((a && b) && c) ≡ ((a && c) && b)
and_last a b c = and_assoc a b c ∙ ap (λ x. a && x) (and_comm b c) ∙ sym (and_assoc a c b)

-- what lies between the others and the last is asked last
asked_last : (xs : Members) (e : SpecifierRecord) (ms : Members) (v : VersionRecord)
    → matches_all ((xs ++ e ∷ []) ++ ms) v ≡ (matches_all (xs ++ ms) v && matches_all (e ∷ []) v)
asked_last xs e ms v =
    both (xs ++ e ∷ []) ms v ∙ ap (λ x. x && matches_all ms v) (both xs (e ∷ []) v)
    ∙ and_last (matches_all xs v) (matches_all (e ∷ []) v) (matches_all ms v)
    ∙ ap (λ x. x && matches_all (e ∷ []) v) (sym (both xs ms v))

-- what follows from the others asks nothing more
asks_no_more : (a b : Bool) → (a ≡ true → b ≡ true) → a ≡ (a && (b && true))
asks_no_more false b f = refl
asks_no_more true true f = refl
asks_no_more true false f = sym (f refl)

last_true : (xs : Members) (m : SpecifierRecord) (v : VersionRecord) → matches_all (xs ++ m ∷ []) v ≡ true
    → takes v m ≡ true
last_true xs m v h =
    let halves = and_parts (matches_all xs v) (matches_all (m ∷ []) v) (sym (both xs (m ∷ []) v) ∙ h) in
    (and_parts (takes v m) true halves.1).0

-- ---- one more

pub same_stand : (xs : Members) → StandFor xs xs
same_stand xs = record { same = λ v. refl; single = λ h. h }

other_more : (before others ends : Members) (m : SpecifierRecord) → StandFor before (others ++ ends)
    → StandFor (before ++ m ∷ []) ((others ++ m ∷ []) ++ ends)
other_more before others ends m h = record {
  same = λ v.
      asked_last others m ends v ∙ ap (λ x. x && matches_all (m ∷ []) v) (h.same v) ∙ sym (both before (m ∷ []) v);
  single = λ all.
      let given = parts before (m ∷ []) all in
      let old = parts others ends (h.single given.0) in
      joined (others ++ m ∷ []) ends (joined others (m ∷ []) old.0 given.1) old.1;
}

pub end_more : (before others ends new : Members) (m : SpecifierRecord) → StandFor (ends ++ m ∷ []) new
    → StandFor before (others ++ ends) → StandFor (before ++ m ∷ []) (others ++ new)
end_more before others ends new m k h = record {
  same = λ v.
      both others new v
      ∙ ap (λ x. matches_all others v && x) (k.same v ∙ both ends (m ∷ []) v)
      ∙ sym (and_assoc (matches_all others v) (matches_all ends v) (matches_all (m ∷ []) v))
      ∙ ap (λ x. x && matches_all (m ∷ []) v) (sym (both others ends v) ∙ h.same v)
      ∙ sym (both before (m ∷ []) v);
  single = λ all.
      let given = parts before (m ∷ []) all in
      let old = parts others ends (h.single given.0) in
      joined others new old.0 (k.single (joined ends (m ∷ []) old.1 given.1));
}

-- ---- one more in one of three lists

pub first_more : (before others ends exact : Members) (m : SpecifierRecord)
    → StandFor before ((others ++ ends) ++ exact)
    → StandFor (before ++ m ∷ []) (((others ++ m ∷ []) ++ ends) ++ exact)
first_more before others ends exact m h =
    subst (StandFor (before ++ m ∷ [])) (sym (append_assoc (others ++ m ∷ []) ends exact))
    (other_more before others (ends ++ exact) m (subst (StandFor before) (append_assoc others ends exact) h))

-- the last two lists change places
turned : (before xs ys zs : Members) → StandFor before ((xs ++ ys) ++ zs) → StandFor before ((xs ++ zs) ++ ys)
turned before xs ys zs h = record {
  same = λ v.
      both (xs ++ zs) ys v ∙ ap (λ x. x && matches_all ys v) (both xs zs v)
      ∙ and_last (matches_all xs v) (matches_all zs v) (matches_all ys v)
      ∙ ap (λ x. x && matches_all zs v) (sym (both xs ys v)) ∙ sym (both (xs ++ ys) zs v) ∙ h.same v;
  single = λ all.
      let outer = parts (xs ++ ys) zs (h.single all) in
      let inner = parts xs ys outer.0 in
      joined (xs ++ zs) ys (joined xs zs inner.0 outer.1) inner.1;
}

pub second_more : (before others ends exact new : Members) (m : SpecifierRecord) → StandFor (ends ++ m ∷ []) new
    → StandFor before ((others ++ ends) ++ exact) → StandFor (before ++ m ∷ []) ((others ++ new) ++ exact)
second_more before others ends exact new m k h =
    turned (before ++ m ∷ []) others exact new
    (end_more before (others ++ exact) ends new m k (turned before others ends exact h))

-- ---- one that is implied

pub implied_stand : (ends : Members) (m : SpecifierRecord)
    → ((v : VersionRecord) → matches_all ends v ≡ true → takes v m ≡ true) → StandFor (ends ++ m ∷ []) ends
implied_stand ends m f = record {
  same = λ v. asks_no_more (matches_all ends v) (takes v m) (f v) ∙ sym (both ends (m ∷ []) v);
  single = λ all. (parts ends (m ∷ []) all).0;
}

pub kept_stand : (xs ys : Members) (e m : SpecifierRecord) → StandFor (xs ++ m ∷ []) (ys ++ m ∷ [])
    → StandFor ((xs ++ e ∷ []) ++ m ∷ []) ((ys ++ e ∷ []) ++ m ∷ [])
kept_stand xs ys e m h = record {
  same = λ v.
      asked_last ys e (m ∷ []) v ∙ ap (λ x. x && matches_all (e ∷ []) v) (h.same v)
      ∙ sym (asked_last xs e (m ∷ []) v);
  single = λ all.
      let outer = parts (xs ++ e ∷ []) (m ∷ []) all in
      let inner = parts xs (e ∷ []) outer.0 in
      let left = parts ys (m ∷ []) (h.single (joined xs (m ∷ []) inner.0 outer.1)) in
      joined (ys ++ e ∷ []) (m ∷ []) (joined ys (e ∷ []) left.0 inner.1) left.1;
}

pub dropped_stand : (xs ys : Members) (e m : SpecifierRecord) → Implies m e
    → StandFor (xs ++ m ∷ []) (ys ++ m ∷ []) → StandFor ((xs ++ e ∷ []) ++ m ∷ []) (ys ++ m ∷ [])
dropped_stand xs ys e m f h = record {
  same = λ v.
      h.same v
      ∙ asks_no_more (matches_all (xs ++ m ∷ []) v) (takes v e) (λ all. f v (last_true xs m v all))
      ∙ sym (asked_last xs e (m ∷ []) v);
  single = λ all.
      let outer = parts (xs ++ e ∷ []) (m ∷ []) all in
      let inner = parts xs (e ∷ []) outer.0 in
      h.single (joined xs (m ∷ []) inner.0 outer.1);
}

-- ---- along a list that is borrowed

abbrev pub Lent : Type 0
Lent = List (Bor SpecifierRecord)

pub lent_more : (members : Lent) (member : Bor SpecifierRecord)
    → lent (members ++ member ∷ []) ≡ lent members ++ member.now ∷ []
lent_more members member = map-append (λ m. m.now) members (member ∷ [])

pub lent_both : (members others : Lent) → lent (members ++ others) ≡ lent members ++ lent others
lent_both members others = map-append (λ m. m.now) members others

pub lent_next : (ends : Lent) (i : ℕ) (end : Bor SpecifierRecord) → i < length ends → end ≡ get_or ends i end
    → lent (take i ends) ++ end.now ∷ [] ≡ lent (take (i + 1) ends)
lent_next ends i end below at =
    sym (ap lent (take_more ends i end below ∙ ap (λ (e : Bor SpecifierRecord). take i ends ++ e ∷ []) (sym at))
    ∙ lent_more (take i ends) end)

pub end_kept : (ends : Lent) (i : ℕ) (end : Bor SpecifierRecord) (m : SpecifierRecord) (left new : Lent)
    → i < length ends → end ≡ get_or ends i end → new ≡ left ++ end ∷ []
    → StandFor (lent (take i ends) ++ m ∷ []) (lent left ++ m ∷ [])
    → StandFor (lent (take (i + 1) ends) ++ m ∷ []) (lent new ++ m ∷ [])
end_kept ends i end m left new below at is h =
    subst (λ xs. StandFor (xs ++ m ∷ []) (lent new ++ m ∷ [])) (lent_next ends i end below at)
    (subst (λ ys. StandFor ((lent (take i ends) ++ end.now ∷ []) ++ m ∷ []) (ys ++ m ∷ []))
    (sym (ap lent is ∙ lent_more left end)) (kept_stand (lent (take i ends)) (lent left) end.now m h))

pub end_dropped : (ends : Lent) (i : ℕ) (end : Bor SpecifierRecord) (m : SpecifierRecord) (left new : Lent)
    → i < length ends → end ≡ get_or ends i end → new ≡ left → Implies m end.now
    → StandFor (lent (take i ends) ++ m ∷ []) (lent left ++ m ∷ [])
    → StandFor (lent (take (i + 1) ends) ++ m ∷ []) (lent new ++ m ∷ [])
end_dropped ends i end m left new below at is implies h =
    subst (λ xs. StandFor (xs ++ m ∷ []) (lent new ++ m ∷ [])) (lent_next ends i end below at)
    (subst (λ ys. StandFor ((lent (take i ends) ++ end.now ∷ []) ++ m ∷ []) (lent ys ++ m ∷ [])) (sym is)
    (dropped_stand (lent (take i ends)) (lent left) end.now m implies h))

-- ---- one of a list implies it

not_false : (b : Bool) → (b ≡ false → false ≡ true) → b ≡ true
not_false true f = refl
not_false false f = f refl

pub one_implies : (ends : List (Bor SpecifierRecord)) (i : ℕ) (end : Bor SpecifierRecord) (m : SpecifierRecord)
    → i < length ends → end ≡ get_or ends i end → Implies end.now m
    → (v : VersionRecord) → matches_all (lent ends) v ≡ true → takes v m ≡ true
one_implies ends i end m below at implies v all =
    let asked : Bor SpecifierRecord → Bool = λ member. takes v member.now in
    implies v (not_false (takes v end.now) (λ no.
    sym (list_all_at asked ends i end below (ap asked (sym at) ∙ no))
    ∙ (sym (list_all-map (takes v) (λ member. member.now) ends) ∙ all)))
