-- Entries of packages, one package after another.
use Rattle.std.proofs.Common.{◌≡◌, ◌∙◌, ◌<◌, ◌+◌, ℕ, List, [], ◌∷◌, ◌++◌, map, take, get_or, length}
use Rattle.std.proofs.Common.{refl, sym, ap, subst, append_assoc, append-nil}
use Rattle.std.specs.List.{AllZip, AllByRecursion, flat_map}
use Rattle.std.proofs.lemmas.List.{map-append, take_more}
use Rattle.std.proofs.lemmas.List.Concat.{flat_map-append}
use Rattle.reqtable_compare.specs.Differences.{Listed}
use Rattle.reqtable_compare.specs.Summed.{SummaryRecord}
use Rattle.reqtable_key.specs.Entries.{EntryRecord, AreOwn, AreOfPackages, AppendsOwn, own_entries, HasNormal}

zip_more : {B D : Type 0} (R : B → D → Type 0) (xs : List B) (ys : List D) (x : B) (y : D) → AllZip R xs ys →
    R x y → AllZip R (xs ++ x ∷ []) (ys ++ y ∷ [])
zip_more R [] [] x y h one = (one, tt)
zip_more R [] (d ∷ ys) x y h one = absurd h
zip_more R (b ∷ xs) [] x y h one = absurd h
zip_more R (b ∷ xs) (d ∷ ys) x y h one = (h.0, zip_more R xs ys x y h.1 one)

-- one more of a mapped list
pub map_next : {A B : Type 0} (f : A → B) (xs : List A) (i : ℕ) (x : A) → i < length xs → x ≡ get_or xs i x →
    map f (take i xs) ++ f x ∷ [] ≡ map f (take (i + 1) xs)
map_next f xs i x lt is =
    sym (map-append f (take i xs) (x ∷ []))
    ∙ ap (map f) (ap (λ z. take i xs ++ z ∷ []) is ∙ sym (take_more xs i x lt))

pub no_packages : (side : Listed) → AreOfPackages side [] []
no_packages side = record { parts = []; each = tt; are = refl }

pub one_package : (side : Listed) (names : List (List ℕ)) (name : List ℕ) (old new : List EntryRecord) →
    AreOfPackages side names old → AppendsOwn side name old new → AreOfPackages side (names ++ name ∷ []) new
one_package side names name old new far own = record {
  parts = far.parts ++ own.own ∷ [];
  each = zip_more (AreOwn side) names far.parts name own.own far.each own.are;
  are = own.appended ∙ ap (λ l. l ++ own.own) far.are
      ∙ sym (flat_map-append (λ (part : List EntryRecord). part) far.parts (own.own ∷ [])
      ∙ ap (λ l. flat_map (λ (part : List EntryRecord). part) far.parts ++ l) (append-nil own.own));
}

-- the entries of one more case
pub one_case : (name : List ℕ) (old now new : List EntryRecord) (ss ts : List SummaryRecord) (s : SummaryRecord) →
    now ≡ old ++ flat_map (own_entries name) ss → new ≡ now ++ own_entries name s → ss ++ s ∷ [] ≡ ts →
    new ≡ old ++ flat_map (own_entries name) ts
one_case name old now new ss ts s far one are =
    one ∙ ap (λ l. l ++ own_entries name s) far
    ∙ append_assoc old (flat_map (own_entries name) ss) (own_entries name s)
    ∙ ap (λ l. old ++ l)
    (ap (λ l. flat_map (own_entries name) ss ++ l) (sym (append-nil (own_entries name s)))
    ∙ sym (flat_map-append (own_entries name) ss (s ∷ [])) ∙ ap (flat_map (own_entries name)) are)

all_more : {A : Type 0} (P : A → Type 0) (xs : List A) (x : A) → AllByRecursion P xs → P x →
    AllByRecursion P (xs ++ x ∷ [])
all_more P [] x h one = (one, tt)
all_more P (y ∷ xs) x h one = (h.0, all_more P xs x h.1 one)

pub normal_more : (ss ts : List SummaryRecord) (s : SummaryRecord) → AllByRecursion HasNormal ss → HasNormal s →
    ss ++ s ∷ [] ≡ ts → AllByRecursion HasNormal ts
normal_more ss ts s all one are = subst (AllByRecursion HasNormal) are (all_more HasNormal ss s all one)
