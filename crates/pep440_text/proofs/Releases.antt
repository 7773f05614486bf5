-- The release: a number, and numbers behind dots as long as there are any.
use Rattle.std.proofs.Common.{◌≡◌, ℕ, zero, suc, ◌+◌, ◌<◌, ◌≤◌, Bool, true, false, length, get_or, List, []}
use Rattle.std.proofs.Common.{◌∷◌, ◌++◌, Some, Result, Ok, Err, refl, ap, sym, subst, ◌∙◌, arith}
use Rattle.std.proofs.Common.{length-append, append_assoc}
use Rattle.std.proofs.lemmas.List.{append-nil}
use Rattle.std.proofs.lemmas.Int.Digits.{digits_push}
use Rattle.std.specs.Char.{is_ascii_digit}
use Rattle.std.specs.List.{All, AllZip, AllByRecursion, join_with_byte}
use Rattle.std.specs.Str.Parse.{AllDigits, digits_value}
use Rattle.pep440_text.specs.declared.TextFault.{TextFault}
use Rattle.pep440_text.specs.declared.FaultKind.TheVariants.{NoLeadingNumber}
use Rattle.pep440_text.specs.Text.{Front, HasNoFront, IsNumber, IsRelease, IsMarkedNumber}
use Rattle.pep440_text.specs.Reading.{◌>>=◌, leading_digits, behind_digits, number_at, marked_number_at}
use Rattle.pep440_text.specs.Reading.{with_front, more_numbers, numbers_at, release_by, release_at}
use Rattle.pep440_text.proofs.Fronts.{Ends, Whole, Broken, Reads, Absent, Present, Single, same_value}
use Rattle.pep440_text.proofs.Fronts.{never_both, same_front}
use Rattle.pep440_text.proofs.FrontDigits.{Small, NoDigit, digits_split, none_behind, all_leading}
use Rattle.pep440_text.proofs.FrontDigits.{digits_again, digits_most, number_single, number_none, number_ends}
use Rattle.pep440_text.proofs.FrontDigits.{leading_number, no_number, marked_reads, digit_below}

-- ---- numbers behind dots

-- each part behind a dot
abbrev pub dotted : List (List ℕ) → List ℕ
dotted [] = []
dotted (part ∷ parts) = 46 ∷ (part ++ dotted parts)

abbrev pub IsTail : List ℕ → List ℕ → Type 0
IsTail text numbers = (parts : List (List ℕ)) × (text ≡ dotted parts) × AllZip IsNumber parts numbers

abbrev pub AllSmall : List ℕ → Type 0
AllSmall = AllByRecursion Small

pub joined_dotted : (p : List ℕ) (ps : List (List ℕ)) → join_with_byte 46 (p ∷ ps) ≡ p ++ dotted ps
joined_dotted p [] = sym (append-nil p)
joined_dotted p (q ∷ qs) = ap (λ t. p ++ (46 ∷ t)) (joined_dotted q qs)

pub dotted_stops : (ps : List (List ℕ)) → NoDigit (dotted ps)
dotted_stops [] = tt
dotted_stops (p ∷ ps) = refl

-- ---- the longest tail

digit_more : (mark : ℕ) (text : List ℕ) (v b : ℕ) (bs : List ℕ) (t : Bool) → is_ascii_digit b ≡ t → Front (IsMarkedNumber mark) text v (b ∷ bs) → t ≡ false
digit_more mark text v b bs false e f = refl
digit_more mark text v b bs true e f =
    let i = f.is_part in
    let ds = i.0 ++ (b ∷ []) in
    let digits = digits_push 10 i.0 b i.2.digits.1 (digit_below b e) in
    let split : text ≡ (mark ∷ ds) ++ bs = f.split ∙ ap (λ t. t ++ (b ∷ bs)) i.1 ∙ ap (λ t. mark ∷ t) (sym (append_assoc i.0 (b ∷ []) bs)) in
    let part : IsMarkedNumber mark (mark ∷ ds) (digits_value 10 ds) = (ds, refl, record { digits = (omega (arith, length-append i.0 (b ∷ [])), digits); value = refl }) in
    absurd (omega (arith, f.longest (mark ∷ ds) bs (digits_value 10 ds) split part, ap length i.1, length-append i.0 (b ∷ [])))

-- behind the longest number no digit stands
marked_stops : (mark : ℕ) (text : List ℕ) (v : ℕ) (r : List ℕ) → Front (IsMarkedNumber mark) text v r → NoDigit r
marked_stops mark text v [] f = tt
marked_stops mark text v (b ∷ bs) f = digit_more mark text v b bs (is_ascii_digit b) refl f

-- digits and a tail are no longer than the longest of each
longest_both : (ds r p : List ℕ) (ps : List (List ℕ)) (more : List ℕ) (bound : ℕ) → ds ++ r ≡ p ++ (dotted ps ++ more) → AllDigits 10 ds → NoDigit r → AllDigits 10 p
    → (r ≡ dotted ps ++ more → length (dotted ps) ≤ bound) → length p + length (dotted ps) ≤ length ds + bound
longest_both ds r p [] more bound e a n c h =
    let k = digits_most p more c in
    let i = digits_again ds r a n in
    omega (arith, k, ap (λ t. length (leading_digits t)) e, ap length i.0)
longest_both ds r p (q ∷ qs) more bound e a n c h =
    let i = digits_again ds r a n in
    let j = digits_again p (dotted (q ∷ qs) ++ more) c refl in
    let same : ds ≡ p = sym i.0 ∙ ap leading_digits e ∙ j.0 in
    let rest : r ≡ dotted (q ∷ qs) ++ more = sym i.1 ∙ ap behind_digits e ∙ j.1 in
    omega (arith, h rest, ap length same)

-- what a reading of a tail answers: there always is one, if without numbers
pub record Tail (bytes : List ℕ) (read : Result (List ℕ × List ℕ) TextFault) : Type 0 where
  pub numbers : List ℕ
  pub rest : List ℕ
  pub front : Front IsTail bytes numbers rest
  pub ends : Ends AllSmall numbers (numbers, rest) read

tail_longest : (bytes r tail : List ℕ) (n : ℕ) → (f : Front (IsMarkedNumber 46) bytes n r) → ((other more ms : List ℕ) → r ≡ other ++ more → IsTail other ms → length other ≤ length tail)
    → (other more ms : List ℕ) (ps : List (List ℕ)) → bytes ≡ other ++ more → other ≡ dotted ps → AllZip IsNumber ps ms → length other ≤ length (f.front ++ tail)
tail_longest bytes r tail n f h other more ms [] e d a = omega (arith, ap length d)
tail_longest bytes r tail n f h other more [] (p ∷ ps) e d a = absurd a
tail_longest bytes r tail n f h other more (m ∷ ms) (p ∷ ps) e d a =
    let i = f.is_part in
    let all : 46 ∷ (i.0 ++ r) ≡ 46 ∷ (p ++ (dotted ps ++ more)) =
    ap (λ t. t ++ r) (sym i.1) ∙ sym f.split ∙ e ∙ ap (λ t. t ++ more) d ∙ ap (λ t. 46 ∷ t) (append_assoc p (dotted ps) more) in
    let same : i.0 ++ r ≡ p ++ (dotted ps ++ more) = cc in
    let k = longest_both i.0 r p ps more (length tail) same i.2.digits.1 (marked_stops 46 bytes n r f) a.0.digits.1 (λ z. h (dotted ps) more ms z (ps, refl, a.1)) in
    omega (arith, k, ap length d, ap length i.1, length-append p (dotted ps), length-append f.front tail)

tail_front : (bytes r : List ℕ) (n : ℕ) (ns rest : List ℕ) → Front (IsMarkedNumber 46) bytes n r → Front IsTail r ns rest → Front IsTail bytes (n ∷ ns) rest
tail_front bytes r n ns rest f t =
    let i = f.is_part in
    let j = t.is_part in
    record {
      front = f.front ++ t.front;
      split = f.split ∙ ap (λ s. f.front ++ s) t.split ∙ sym (append_assoc f.front t.front rest);
      is_part = (i.0 ∷ j.0, (λ z. i.1 z ++ j.1 z), (i.2, j.2));
      longest = λ other more ms e p. tail_longest bytes r t.front n f t.longest other more ms p.0 e p.1 p.2;
    }

tail_ends : (k n : ℕ) (bytes r ns rest : List ℕ) → Ends Small n (Some n, r) (marked_number_at 46 bytes) → Ends AllSmall ns (ns, rest) (numbers_at k r) → Ends AllSmall (n ∷ ns) (n ∷ ns, rest) (numbers_at (suc k) bytes)
tail_ends k n bytes r ns rest (Whole e fit) (Whole i fits) = Whole (ap (λ x. x >>= more_numbers (numbers_at k)) e ∙ ap (with_front (n ∷ [])) i) (fit, fits)
tail_ends k n bytes r ns rest (Whole e fit) (Broken fault i fits) = Broken fault (ap (λ x. x >>= more_numbers (numbers_at k)) e ∙ ap (with_front (n ∷ [])) i) (λ a. fits a.1)
tail_ends k n bytes r ns rest (Broken fault e fit) ends = Broken fault (ap (λ x. x >>= more_numbers (numbers_at k)) e) (λ a. fit a.0)

empty_longest : (bytes : List ℕ) → HasNoFront (IsMarkedNumber 46) bytes → (other more ms : List ℕ) (ps : List (List ℕ)) → bytes ≡ other ++ more → other ≡ dotted ps → AllZip IsNumber ps ms → length other ≤ 0
empty_longest bytes none other more ms [] e d a = omega (arith, ap length d)
empty_longest bytes none other more [] (p ∷ ps) e d a = absurd a
empty_longest bytes none other more (m ∷ ms) (p ∷ ps) e d a =
    absurd (none (46 ∷ p) (dotted ps ++ more) m (e ∙ ap (λ t. t ++ more) d ∙ ap (λ t. 46 ∷ t) (append_assoc p (dotted ps) more)) (p, refl, a.0))

no_tail : (bytes : List ℕ) (read : Result (List ℕ × List ℕ) TextFault) → HasNoFront (IsMarkedNumber 46) bytes → read ≡ Ok ([], bytes) → Tail bytes read
no_tail bytes read none e = record {
  numbers = [];
  rest = bytes;
  front = record { front = []; split = refl; is_part = ([], refl, tt); longest = λ other more ms k p. empty_longest bytes none other more ms p.0 k p.1 p.2 };
  ends = Whole e tt;
}

tail_by : (k : ℕ) (bytes : List ℕ) → ((r : List ℕ) → length r ≤ k → Tail r (numbers_at k r)) → length bytes ≤ suc k → Reads (IsMarkedNumber 46) Small bytes (marked_number_at 46 bytes) → Tail bytes (numbers_at (suc k) bytes)
tail_by k bytes ih h (Absent e none) = no_tail bytes (numbers_at (suc k) bytes) none (ap (λ x. x >>= more_numbers (numbers_at k)) e)
tail_by k bytes ih h (Present n r f ends) =
    let less : length r ≤ k = omega (arith, ap length f.split, length-append f.front r, ap length f.is_part.1) in
    let t = ih r less in
    record { numbers = n ∷ t.numbers; rest = t.rest; front = tail_front bytes r n t.numbers t.rest f t.front; ends = tail_ends k n bytes r t.numbers t.rest ends t.ends }

nothing_marked : (bytes : List ℕ) → length bytes ≤ 0 → HasNoFront (IsMarkedNumber 46) bytes
nothing_marked bytes h front rest n e i = absurd (omega (arith, ap length e, length-append front rest, ap length i.1))

pub tail_reads : (k : ℕ) (bytes : List ℕ) → length bytes ≤ k → Tail bytes (numbers_at k bytes)
tail_reads zero bytes h = no_tail bytes (numbers_at zero bytes) (nothing_marked bytes h) refl
tail_reads (suc k) bytes h = tail_by k bytes (tail_reads k) h (marked_reads 46 bytes)

-- ---- the release

-- a release, taken apart behind its first number
pub record Parted (text : List ℕ) (numbers : List ℕ) : Type 0 where
  pub first : List ℕ
  pub others : List (List ℕ)
  pub number : ℕ
  pub more : List ℕ
  pub joined : text ≡ first ++ dotted others
  pub is_first : IsNumber first number
  pub are_others : AllZip IsNumber others more
  pub all : numbers ≡ number ∷ more

parted_by : (text : List ℕ) (parts : List (List ℕ)) (ns : List ℕ) → text ≡ join_with_byte 46 parts → AllZip IsNumber parts ns → 0 < length ns → Parted text ns
parted_by text [] [] e a h = absurd (omega arith)
parted_by text [] (n ∷ ns) e a h = absurd a
parted_by text (p ∷ ps) [] e a h = absurd a
parted_by text (p ∷ ps) (n ∷ ns) e a h = record { first = p; others = ps; number = n; more = ns; joined = e ∙ joined_dotted p ps; is_first = a.0; are_others = a.1; all = refl }

pub parted : (text ns : List ℕ) → IsRelease text ns → Parted text ns
parted text ns i = parted_by text i.parts ns i.joined i.are_numbers i.nonempty

same_numbers : (p q : List ℕ) (ps qs : List (List ℕ)) (n m : ℕ) (ns ms : List ℕ) → p ++ dotted ps ≡ q ++ dotted qs → IsNumber p n → IsNumber q m → AllZip IsNumber ps ns → AllZip IsNumber qs ms
    → ((dotted ps ≡ dotted qs) → ns ≡ ms) → n ∷ ns ≡ m ∷ ms
same_numbers p q ps qs n m ns ms e i j a c h =
    let k = digits_again p (dotted ps) i.digits.1 (dotted_stops ps) in
    let l = digits_again q (dotted qs) j.digits.1 (dotted_stops qs) in
    let same : p ≡ q = sym k.0 ∙ ap leading_digits e ∙ l.0 in
    let rest : dotted ps ≡ dotted qs = sym k.1 ∙ ap behind_digits e ∙ l.1 in
    let first : n ≡ m = number_single q n m (subst (λ t. IsNumber t n) same i) j in
    (λ z. first z ∷ h rest z)

tails_same : (ps qs : List (List ℕ)) (ns ms : List ℕ) → AllZip IsNumber ps ns → AllZip IsNumber qs ms → dotted ps ≡ dotted qs → ns ≡ ms
tails_same [] [] [] [] a c e = refl
tails_same [] [] [] (m ∷ ms) a c e = absurd c
tails_same [] [] (n ∷ ns) ms a c e = absurd a
tails_same [] (q ∷ qs) ns ms a c e = absurd (cc)
tails_same (p ∷ ps) [] ns ms a c e = absurd (cc)
tails_same (p ∷ ps) (q ∷ qs) [] ms a c e = absurd a
tails_same (p ∷ ps) (q ∷ qs) (n ∷ ns) [] a c e = absurd c
tails_same (p ∷ ps) (q ∷ qs) (n ∷ ns) (m ∷ ms) a c e =
    let k : p ++ dotted ps ≡ q ++ dotted qs = cc in
    same_numbers p q ps qs n m ns ms k a.0 c.0 a.1 c.1 (tails_same ps qs ns ms a.1 c.1)

pub release_single : Single IsRelease
release_single text ns ms i j =
    let a = parted text ns i in
    let b = parted text ms j in
    a.all
    ∙ same_numbers a.first b.first a.others b.others a.number b.number a.more b.more (sym a.joined ∙ b.joined) a.is_first b.is_first a.are_others b.are_others
    (tails_same a.others b.others a.more b.more a.are_others b.are_others)
    ∙ sym b.all

-- what a reading of a release answers
pub data ReleaseReads (bytes : List ℕ) (read : Result (List ℕ × List ℕ) TextFault) : Type 0 where
  NoRelease : (fault : TextFault) → read ≡ Err fault → HasNoFront IsRelease bytes → ReleaseReads bytes read
  HasRelease : (numbers rest : List ℕ) → Front IsRelease bytes numbers rest → Ends AllSmall numbers (numbers, rest) read → ReleaseReads bytes read

first_split : (bytes text more : List ℕ) (ns : List ℕ) (a : Parted text ns) → bytes ≡ text ++ more → bytes ≡ a.first ++ (dotted a.others ++ more)
first_split bytes text more ns a e = e ∙ ap (λ t. t ++ more) a.joined ∙ append_assoc a.first (dotted a.others) more

release_longest : (bytes ds r tail : List ℕ) → bytes ≡ ds ++ r → AllDigits 10 ds → NoDigit r → ((other more ms : List ℕ) → r ≡ other ++ more → IsTail other ms → length other ≤ length tail)
    → (other more ms : List ℕ) → bytes ≡ other ++ more → IsRelease other ms → length other ≤ length (ds ++ tail)
release_longest bytes ds r tail s d n h other more ms e i =
    let a = parted other ms i in
    let k = longest_both ds r a.first a.others more (length tail) (sym s ∙ first_split bytes other more ms a e) d n a.is_first.digits.1 (λ z. h (dotted a.others) more a.more z (a.others, refl, a.are_others)) in
    omega (arith, k, ap length a.joined, length-append a.first (dotted a.others), length-append ds tail)

release_front : (bytes : List ℕ) (d : ℕ) (ds ns rest : List ℕ) → leading_digits bytes ≡ d ∷ ds → Front IsTail (behind_digits bytes) ns rest → Front IsRelease bytes (digits_value 10 (d ∷ ds) ∷ ns) rest
release_front bytes d ds ns rest e t =
    let i = t.is_part in
    let s : bytes ≡ (d ∷ ds) ++ behind_digits bytes = digits_split bytes ∙ ap (λ x. x ++ behind_digits bytes) e in
    record {
      front = (d ∷ ds) ++ t.front;
      split = s ∙ ap (λ x. (d ∷ ds) ++ x) t.split ∙ sym (append_assoc (d ∷ ds) t.front rest);
      is_part = record { parts = (d ∷ ds) ∷ i.0; joined = ap (λ x. (d ∷ ds) ++ x) i.1 ∙ sym (joined_dotted (d ∷ ds) i.0); are_numbers = (leading_number bytes d ds e, i.2); nonempty = omega arith };
      longest = release_longest bytes (d ∷ ds) (behind_digits bytes) t.front s (subst (AllDigits 10) e (all_leading bytes)) (none_behind bytes) t.longest;
    }

release_ends : (bytes : List ℕ) (n : ℕ) (r ns rest : List ℕ) → Ends Small n (Some n, r) (number_at bytes) → Ends AllSmall ns (ns, rest) (numbers_at (length r) r) → Ends AllSmall (n ∷ ns) (n ∷ ns, rest) (release_at bytes)
unfolding release_at
release_ends bytes n r ns rest (Whole e fit) (Whole i fits) = Whole (ap (λ x. x >>= release_by bytes) e ∙ ap (with_front (n ∷ [])) i) (fit, fits)
release_ends bytes n r ns rest (Whole e fit) (Broken fault i fits) = Broken fault (ap (λ x. x >>= release_by bytes) e ∙ ap (with_front (n ∷ [])) i) (λ a. fits a.1)
release_ends bytes n r ns rest (Broken fault e fit) ends = Broken fault (ap (λ x. x >>= release_by bytes) e) (λ a. fit a.0)

release_by_digits : (bytes ds : List ℕ) → leading_digits bytes ≡ ds → ReleaseReads bytes (release_at bytes)
unfolding release_at
release_by_digits bytes [] e =
    NoRelease (record { kind = NoLeadingNumber; left = length bytes }) (ap (λ x. x >>= release_by bytes) (number_none bytes e))
    (λ front more ns k i. let a = parted front ns i in no_number bytes e a.first (dotted a.others ++ more) a.number (first_split bytes front more ns a k) a.is_first)
release_by_digits bytes (d ∷ ds) e =
    let r = behind_digits bytes in
    let t = tail_reads (length r) r (omega arith) in
    HasRelease (digits_value 10 (d ∷ ds) ∷ t.numbers) t.rest (release_front bytes d ds t.numbers t.rest e t.front)
    (release_ends bytes (digits_value 10 (d ∷ ds)) r t.numbers t.rest (number_ends bytes d ds e) t.ends)

pub release_reads : (bytes : List ℕ) → ReleaseReads bytes (release_at bytes)
release_reads bytes = release_by_digits bytes (leading_digits bytes) refl

-- what is read is in the grammar
found_by : (bytes ns rest : List ℕ) (read : Result (List ℕ × List ℕ) TextFault) → ReleaseReads bytes read → read ≡ Ok (ns, rest) → Front IsRelease bytes ns rest × AllSmall ns
found_by bytes ns rest read (NoRelease fault e none) q = absurd (never_both read fault (ns, rest) e q)
found_by bytes ns rest read (HasRelease ms r f (Whole e fits)) q = subst (λ p. Front IsRelease bytes p.0 p.1 × AllSmall p.0) (same_value read (ms, r) (ns, rest) e q) (f, fits)
found_by bytes ns rest read (HasRelease ms r f (Broken fault e fits)) q = absurd (never_both read fault (ns, rest) e q)

pub release_found : (bytes ns rest : List ℕ) → release_at bytes ≡ Ok (ns, rest) → Front IsRelease bytes ns rest × AllSmall ns
release_found bytes ns rest q = found_by bytes ns rest (release_at bytes) (release_reads bytes) q

-- what is in the grammar is read
again_by : (bytes ns rest : List ℕ) (read : Result (List ℕ × List ℕ) TextFault) → ReleaseReads bytes read → Front IsRelease bytes ns rest → AllSmall ns → read ≡ Ok (ns, rest)
again_by bytes ns rest read (NoRelease fault e none) f a = absurd (none f.front rest ns f.split f.is_part)
again_by bytes ns rest read (HasRelease ms r g (Whole e fits)) f a = let k = same_front IsRelease release_single bytes ms ns r rest g f in e ∙ (λ z. Ok (k.0 z, k.1 z))
again_by bytes ns rest read (HasRelease ms r g (Broken fault e fits)) f a = let k = same_front IsRelease release_single bytes ms ns r rest g f in absurd (fits (subst AllSmall (sym k.0) a))

pub release_again : (bytes ns rest : List ℕ) → Front IsRelease bytes ns rest → AllSmall ns → release_at bytes ≡ Ok (ns, rest)
release_again bytes ns rest f a = again_by bytes ns rest (release_at bytes) (release_reads bytes) f a

-- ---- each number is small, by index and by recursion

small_at : (ns : List ℕ) → AllSmall ns → (k d : ℕ) → k < length ns → Small (get_or ns k d)
small_at [] a k d h = absurd (omega arith)
small_at (n ∷ ns) a zero d h = a.0
small_at (n ∷ ns) a (suc k) d h = let less : k < length ns = omega arith in small_at ns a.1 k d less

pub by_index : (ns : List ℕ) → AllSmall ns → All Small ns
by_index ns a = λ k d h. small_at ns a k d h

pub by_recursion : (ns : List ℕ) → All Small ns → AllSmall ns
by_recursion [] a = tt
by_recursion (n ∷ ns) a = (a 0 0 (omega arith), by_recursion ns (λ k d h. a (suc k) d (omega arith)))
