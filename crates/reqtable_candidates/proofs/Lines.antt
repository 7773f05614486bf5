-- Lists of lines.
use Rattle.std.proofs.Common.{◌≡◌, ℕ, suc, ◌+◌, ◌<◌, ◌==◌, Bool, true, false, not, cond, length, take, drop}
use Rattle.std.proofs.Common.{drop-cons, get_or, Option, Some, None, List, [], ◌∷◌, ◌++◌, map, Result, Ok}
use Rattle.std.proofs.Common.{Err, refl, ap, sym, subst, ◌∙◌}
use Rattle.std.proofs.lemmas.List.{append-nil, map-append, take-append-drop}
use Rattle.std.proofs.lemmas.List.Elements.{filter-append}
use Rattle.std.specs.Borrow.{Bor}
use Rattle.std.specs.List.{AllByRecursion, AllZip, filter, slice_split, enumerate_from}
use Rattle.std.specs.Str.Lines.{strip_carriage_return}
use Rattle.std.specs.Result.{IsErrAnd}
use Rattle.read_outcome.specs.Outcome.{Tells, Answers}
use Rattle.reqtable_candidates.specs.TextLines.{without_comment, is_blank, text_lines, with_first, each_line}

-- a part of a text with its place, as it is seen
abbrev pub seen : ℕ × Bor (List ℕ) → ℕ × List ℕ
seen part = (part.0, part.1.now)

-- the line of a part, with its number
abbrev pub numbered : ℕ × List ℕ → ℕ × List ℕ
numbered part = (part.0 + 1, without_comment (strip_carriage_return part.1))

abbrev pub is_kept : ℕ × List ℕ → Bool
is_kept line = not (is_blank line.1)

-- the lines of some parts
abbrev pub lines_of : List (ℕ × Bor (List ℕ)) → List (ℕ × List ℕ)
lines_of parts = filter is_kept (map numbered (map seen parts))

numbered_from : (n : ℕ) (parts : List (List ℕ)) → map numbered (enumerate_from n parts) ≡ enumerate_from (n + 1) (map (λ l. without_comment (strip_carriage_return l)) parts)
numbered_from n [] = refl
numbered_from n (part ∷ parts) = ap (λ ls. (n + 1, without_comment (strip_carriage_return part)) ∷ ls) (numbered_from (n + 1) parts)

pub lines_all : (text : List ℕ) (parts : List (ℕ × Bor (List ℕ))) → map seen parts ≡ enumerate_from 0 (slice_split (λ b. b == 10) text) → lines_of parts ≡ text_lines text
unfolding text_lines
lines_all text parts e =
    ap (λ ps. filter is_kept (map numbered ps)) e ∙ ap (filter is_kept) (numbered_from 0 (slice_split (λ b. b == 10) text))

lines_more : (parts : List (ℕ × Bor (List ℕ))) (part : ℕ × Bor (List ℕ)) → lines_of (parts ++ part ∷ []) ≡ lines_of parts ++ cond (is_kept (numbered (seen part))) (numbered (seen part) ∷ []) []
lines_more parts part =
    ap (λ ps. filter is_kept (map numbered ps)) (map-append seen parts (part ∷ []))
    ∙ ap (filter is_kept) (map-append numbered (map seen parts) (seen part ∷ []))
    ∙ filter-append is_kept (map numbered (map seen parts)) (numbered (seen part) ∷ [])

pub lines_more_kept : (parts : List (ℕ × Bor (List ℕ))) (part : ℕ × Bor (List ℕ)) → is_blank (without_comment (strip_carriage_return part.1.now)) ≡ false → lines_of (parts ++ part ∷ []) ≡ lines_of parts ++ numbered (seen part) ∷ []
lines_more_kept parts part h = lines_more parts part ∙ ap (λ b. lines_of parts ++ cond (not b) (numbered (seen part) ∷ []) []) h

pub lines_more_blank : (parts : List (ℕ × Bor (List ℕ))) (part : ℕ × Bor (List ℕ)) → is_blank (without_comment (strip_carriage_return part.1.now)) ≡ true → lines_of (parts ++ part ∷ []) ≡ lines_of parts
lines_more_blank parts part h = lines_more parts part ∙ ap (λ b. lines_of parts ++ cond (not b) (numbered (seen part) ∷ []) []) h ∙ append-nil (lines_of parts)

-- ---- lines that are read one after another

-- all parts, where some have been seen and one more is there
split_all : {A : Type 0} (all : List A) (front : List A) (x : A) (n : ℕ) → front ≡ take n all → (n < length all) × (x ≡ get_or all n x)
    → all ≡ front ++ x ∷ drop (suc n) all
split_all all front x n e h =
    sym (take-append-drop n all) ∙ ap (λ xs. xs ++ drop n all) (sym e)
    ∙ ap (λ xs. front ++ xs) (drop-cons all n x h.0 ∙ ap (λ y. y ∷ drop (suc n) all) (sym h.1))

-- the lines of a text, where some parts were seen and the next is kept
pub lines_split : (text : List ℕ) (parts : List (ℕ × Bor (List ℕ))) (part : ℕ × Bor (List ℕ))
    → map seen parts ≡ take (length parts) (enumerate_from 0 (slice_split (λ b. b == 10) text))
    → (length parts < length (enumerate_from 0 (slice_split (λ b. b == 10) text)))
    × (seen part ≡ get_or (enumerate_from 0 (slice_split (λ b. b == 10) text)) (length parts) (seen part))
    → is_blank (without_comment (strip_carriage_return part.1.now)) ≡ false
    → (back : List (ℕ × List ℕ)) × (text_lines text ≡ lines_of parts ++ numbered (seen part) ∷ back)
unfolding text_lines
lines_split text parts part e h kept =
    let all = enumerate_from 0 (slice_split (λ b. b == 10) text) in
    let rest = drop (suc (length parts)) all in
    let back = filter is_kept (map numbered rest) in (
      back,
      sym (ap (filter is_kept) (numbered_from 0 (slice_split (λ b. b == 10) text)))
          ∙ ap (λ ps. filter is_kept (map numbered ps)) (split_all all (map seen parts) (seen part) (length parts) e h)
          ∙ ap (filter is_kept) (map-append numbered (map seen parts) (seen part ∷ rest))
          ∙ filter-append is_kept (map numbered (map seen parts)) (numbered (seen part) ∷ map numbered rest)
          ∙ ap (λ b. lines_of parts ++ cond (not b) (numbered (seen part) ∷ back) back) kept,
    )

with_found : {A E : Type 0} (read : Result A E) (others : Result (List A) E) (xs : List A) → with_first read others ≡ Ok xs → (y : A) × (ys : List A) × (read ≡ Ok y) × (others ≡ Ok ys) × (y ∷ ys ≡ xs)
with_found (Ok y) (Ok ys) xs h = (y, ys, refl, refl, cc)
with_found (Ok y) (Err fault) xs h = absurd (cc)
with_found (Err fault) others xs h = absurd (cc)

-- what each line reads as
pub each_found : {A E : Type 0} (read : ℕ → List ℕ → Result A E) (texts : List (ℕ × List ℕ)) (xs : List A) → each_line read texts ≡ Ok xs → AllZip (λ text x. read text.0 text.1 ≡ Ok x) texts xs
each_found read [] [] h = tt
each_found read [] (x ∷ xs) h = absurd (cc)
each_found {A = A} read (text ∷ texts) xs h =
    let w = with_found (read text.0 text.1) (each_line read texts) xs h in
    let P : List A → Type 0 = λ xs. AllZip (λ text x. read text.0 text.1 ≡ Ok x) (text ∷ texts) xs in
    subst P w.4 (w.2, each_found read texts w.1 w.3)

pub each_again : {A E : Type 0} (read : ℕ → List ℕ → Result A E) (texts : List (ℕ × List ℕ)) (xs : List A) → AllZip (λ text x. read text.0 text.1 ≡ Ok x) texts xs → each_line read texts ≡ Ok xs
each_again read [] [] h = refl
each_again read [] (x ∷ xs) h = absurd h
each_again read (text ∷ texts) [] h = absurd h
each_again read (text ∷ texts) (x ∷ xs) h =
    ap (λ r. with_first r (each_line read texts)) h.0 ∙ ap (λ r. with_first (Ok x) r) (each_again read texts xs h.1)

pub zip_more : {A B : Type 0} (R : A → B → Type 0) (xs : List A) (ys : List B) (x : A) (y : B) → AllZip R xs ys → R x y
    → AllZip R (xs ++ x ∷ []) (ys ++ y ∷ [])
zip_more R [] [] x y h r = (r, tt)
zip_more R [] (b ∷ ys) x y h r = absurd h
zip_more R (a ∷ xs) [] x y h r = absurd h
zip_more R (a ∷ xs) (b ∷ ys) x y h r = (h.0, zip_more R xs ys x y h.1 r)

-- one more line that was read
pub each_more : {A E : Type 0} (read : ℕ → List ℕ → Result A E) (texts : List (ℕ × List ℕ)) (xs : List A) (text : ℕ × List ℕ) (x : A)
    → each_line read texts ≡ Ok xs → read text.0 text.1 ≡ Ok x → each_line read (texts ++ text ∷ []) ≡ Ok (xs ++ x ∷ [])
each_more read texts xs text x h r =
    each_again read (texts ++ text ∷ []) (xs ++ x ∷ [])
    (zip_more (λ text x. read text.0 text.1 ≡ Ok x) texts xs text x (each_found read texts xs h) r)

-- the first line that reads as a fault
pub record FirstFault {A E : Type 0} (read : ℕ → List ℕ → Result A E) (texts : List (ℕ × List ℕ)) (fault : E) : Type 0 where
  pub front : List (ℕ × List ℕ)
  pub xs : List A
  pub text : ℕ × List ℕ
  pub back : List (ℕ × List ℕ)
  pub split : texts ≡ front ++ text ∷ back
  pub are_read : AllZip (λ text x. read text.0 text.1 ≡ Ok x) front xs
  pub faulty : read text.0 text.1 ≡ Err fault

first_fault : {A E : Type 0} (read : Result A E) (other : E) (others : Result (List A) E) (fault : E) → read ≡ Err other → with_first (Err other) others ≡ Err fault → read ≡ Err fault
first_fault read other others fault e h = cc

fault_by : {A E : Type 0} (read : ℕ → List ℕ → Result A E) (text : ℕ × List ℕ) (texts : List (ℕ × List ℕ)) (fault : E) (first : Result A E) (others : Result (List A) E) → read text.0 text.1 ≡ first → each_line read texts ≡ others
    → (others ≡ Err fault → FirstFault read texts fault) → with_first first others ≡ Err fault → FirstFault read (text ∷ texts) fault
fault_by read text texts fault (Ok x) (Ok xs) e es more h = absurd (cc)
fault_by read text texts fault (Ok x) (Err other) e es more h =
    let f = more h in
    record { front = text ∷ f.front; xs = x ∷ f.xs; text = f.text; back = f.back; split = ap (λ ts. text ∷ ts) f.split; are_read = (e, f.are_read); faulty = f.faulty }
fault_by read text texts fault (Err other) others e es more h = record { front = []; xs = []; text = text; back = texts; split = refl; are_read = tt; faulty = first_fault (read text.0 text.1) other others fault e h }

pub fault_found : {A E : Type 0} (read : ℕ → List ℕ → Result A E) (texts : List (ℕ × List ℕ)) (fault : E) → each_line read texts ≡ Err fault → FirstFault read texts fault
fault_found read [] fault h = absurd (cc)
fault_found read (text ∷ texts) fault h = fault_by read text texts fault (read text.0 text.1) (each_line read texts) refl refl (λ e. fault_found read texts fault e) h

fault_behind : {A E : Type 0} (read : ℕ → List ℕ → Result A E) (front : List (ℕ × List ℕ)) (xs : List A) (text : ℕ × List ℕ) (back : List (ℕ × List ℕ)) (fault : E) → AllZip (λ text x. read text.0 text.1 ≡ Ok x) front xs → read text.0 text.1 ≡ Err fault
    → each_line read (front ++ text ∷ back) ≡ Err fault
fault_behind read [] xs text back fault h f = ap (λ r. with_first r (each_line read back)) f
fault_behind read (first ∷ front) [] text back fault h f = absurd h
fault_behind read (first ∷ front) (x ∷ xs) text back fault h f =
    ap (λ r. with_first r (each_line read (front ++ text ∷ back))) h.0 ∙ ap (λ r. with_first (Ok x) r) (fault_behind read front xs text back fault h.1 f)

pub fault_again : {A E : Type 0} (read : ℕ → List ℕ → Result A E) (texts : List (ℕ × List ℕ)) (fault : E) → FirstFault read texts fault → each_line read texts ≡ Err fault
fault_again read texts fault f = ap (each_line read) f.split ∙ fault_behind read f.front f.xs f.text f.back fault f.are_read f.faulty

-- a relation at each place, by what it follows from
pub all_zip_map : {A B : Type 0} (R S : A → B → Type 0) → ((x : A) (y : B) → R x y → S x y) → (xs : List A) (ys : List B) → AllZip R xs ys → AllZip S xs ys
all_zip_map R S f [] [] h = tt
all_zip_map R S f [] (y ∷ ys) h = absurd h
all_zip_map R S f (x ∷ xs) [] h = absurd h
all_zip_map R S f (x ∷ xs) (y ∷ ys) h = (f x y h.0, all_zip_map R S f xs ys h.1)

-- the same, where each of the first list is good
pub all_zip_along : {A B : Type 0} (Good : A → Type 0) (R S : A → B → Type 0)
    → ((x : A) (y : B) → Good x → R x y → S x y) → (xs : List A) (ys : List B)
    → AllByRecursion Good xs → AllZip R xs ys → AllZip S xs ys
all_zip_along Good R S f [] [] g h = tt
all_zip_along Good R S f [] (y ∷ ys) g h = absurd h
all_zip_along Good R S f (x ∷ xs) [] g h = absurd h
all_zip_along Good R S f (x ∷ xs) (y ∷ ys) g h = (f x y g.0 h.0, all_zip_along Good R S f xs ys g.1 h.1)

-- what is good of each is good of a part
pub all_in_front : {A : Type 0} (Good : A → Type 0) (xs : List A) (y : A) (ys : List A)
    → AllByRecursion Good (xs ++ y ∷ ys) → AllByRecursion Good xs × Good y
all_in_front Good [] y ys h = (tt, h.0)
all_in_front Good (x ∷ xs) y ys h = let more = all_in_front Good xs y ys h.1 in ((h.0, more.0), more.1)

-- what an error tells of a line behind lines that were read, it tells of all
pub tells_all : {A F : Type 0} (read : ℕ → List ℕ → Result A F) (lines front : List (ℕ × List ℕ)) (xs : List A) (line : ℕ × List ℕ)
    (back : List (ℕ × List ℕ)) (told : Option F) → lines ≡ front ++ line ∷ back → each_line read front ≡ Ok xs
    → Tells told (read line.0 line.1) → Tells told (each_line read lines)
tells_all read lines front xs line back None e h t = tt
tells_all read lines front xs line back (Some fault) e h t =
    ap (each_line read) e ∙ fault_behind read front xs line back fault (each_found read front xs h) t

-- an error that is passed on answers what it tells
pub answers_err : {X Y E F : Type 0} (view : X → Y) (told : E → Option F) (result : Result X E) (error : E) (reading : Result Y F)
    → IsErrAnd result (λ e. e ≡ error) → Tells (told error) reading → Answers view told result reading
answers_err view told (Ok x) error reading h t = absurd h
answers_err {F = F} view told (Err e) error reading h t = let P : _ → Type 0 = λ e. Tells {F = F} (told e) reading in subst P (sym h) t
