-- The digits at the front of a text, and the parts that are a number, with a byte before it or behind it.
use Rattle.std.proofs.Common.{◌≡◌, ℕ, ◌<◌, ◌≤◌, ◌^◌, ◌==◌, Bool, true, false, cond, nat_lt, if◌then◌else◌}
use Rattle.std.proofs.Common.{length, List, [], ◌∷◌, ◌++◌, Some, None, Result, Ok, refl, ap, sym, subst, ◌∙◌}
use Rattle.std.proofs.Common.{arith, append_assoc}
use Rattle.std.proofs.lemmas.Bool.Decides.{nat_tests}
use Rattle.std.proofs.lemmas.List.{append_cancel_right}
use Rattle.std.specs.Prelude.{codes}
use Rattle.std.specs.Char.{is_ascii_digit, digit_value}
use Rattle.std.specs.Str.Parse.{AllDigits, digits_value}
use Rattle.pep440_text.specs.declared.TextFault.{TextFault}
use Rattle.pep440_text.specs.declared.FaultKind.TheVariants.{NumberTooBig}
use Rattle.pep440_text.specs.Text.{Front, HasNoFront, IsNumber, IsEpoch, IsMarkedNumber}
use Rattle.pep440_text.specs.Reading.{◌>>=◌, at_left, leading_digits, behind_digits, number_of, number_at}
use Rattle.pep440_text.specs.Reading.{or_none, marked_number_at, epoch_by, epoch_at}
use Rattle.pep440_text.proofs.Fronts.{Ends, Whole, Broken, Reads, Absent, Present, Single}

-- 64 bits hold it
abbrev pub Small : ℕ → Type 0
Small number = number < 2 ^ 64

-- no digit stands at the front
abbrev pub NoDigit : List ℕ → Type 0
NoDigit [] = Unit {0}
NoDigit (b ∷ bs) = is_ascii_digit b ≡ false

split_by : (b : ℕ) (bs : List ℕ) (t : Bool) → bs ≡ leading_digits bs ++ behind_digits bs → b ∷ bs ≡ cond t (b ∷ leading_digits bs) [] ++ cond t (behind_digits bs) (b ∷ bs)
split_by b bs true e = ap (λ xs. b ∷ xs) e
split_by b bs false e = refl

pub digits_split : (text : List ℕ) → text ≡ leading_digits text ++ behind_digits text
digits_split [] = refl
digits_split (b ∷ bs) = split_by b bs (is_ascii_digit b) (digits_split bs)

pub digit_below : (b : ℕ) → is_ascii_digit b ≡ true → digit_value b < 10
digit_below b d = grind (arith, nat_tests)

pub digit_test : (b : ℕ) → digit_value b < 10 → is_ascii_digit b ≡ true
digit_test b h = grind (arith, nat_tests)

all_by : (b : ℕ) (bs : List ℕ) (t : Bool) → is_ascii_digit b ≡ t → AllDigits 10 (leading_digits bs) → AllDigits 10 (cond t (b ∷ leading_digits bs) [])
all_by b bs true e a = (digit_below b e, a)
all_by b bs false e a = tt

pub all_leading : (text : List ℕ) → AllDigits 10 (leading_digits text)
all_leading [] = tt
all_leading (b ∷ bs) = all_by b bs (is_ascii_digit b) refl (all_leading bs)

behind_by : (b : ℕ) (bs : List ℕ) (t : Bool) → is_ascii_digit b ≡ t → NoDigit (behind_digits bs) → NoDigit (cond t (behind_digits bs) (b ∷ bs))
behind_by b bs true e h = h
behind_by b bs false e h = e

pub none_behind : (text : List ℕ) → NoDigit (behind_digits text)
none_behind [] = tt
none_behind (b ∷ bs) = behind_by b bs (is_ascii_digit b) refl (none_behind bs)

front_here : (rest : List ℕ) → NoDigit rest → (leading_digits rest ≡ []) × (behind_digits rest ≡ rest)
front_here [] h = (refl, refl)
front_here (b ∷ bs) h = (ap (λ t. cond t (b ∷ leading_digits bs) []) h, ap (λ t. cond t (behind_digits bs) (b ∷ bs)) h)

-- digits and what follows them are found again
pub digits_again : (ds rest : List ℕ) → AllDigits 10 ds → NoDigit rest → (leading_digits (ds ++ rest) ≡ ds) × (behind_digits (ds ++ rest) ≡ rest)
digits_again [] rest a h = front_here rest h
digits_again (d ∷ ds) rest a h =
    let i = digits_again ds rest a.1 h in
    let t = digit_test d a.0 in
    (ap (λ x. cond x (d ∷ leading_digits (ds ++ rest)) []) t ∙ ap (λ xs. d ∷ xs) i.0, ap (λ x. cond x (behind_digits (ds ++ rest)) (d ∷ (ds ++ rest))) t ∙ i.1)

-- no digits at the front are more than those
pub digits_most : (ds more : List ℕ) → AllDigits 10 ds → length ds ≤ length (leading_digits (ds ++ more))
digits_most [] more a = omega arith
digits_most (d ∷ ds) more a =
    let i = digits_most ds more a.1 in
    let k : leading_digits ((d ∷ ds) ++ more) ≡ d ∷ leading_digits (ds ++ more) = ap (λ x. cond x (d ∷ leading_digits (ds ++ more)) []) (digit_test d a.0) in
    omega (arith, i, ap length k)

-- ---- a number

pub number_single : Single IsNumber
number_single text n m i j = i.value ∙ sym j.value

value_by : (bytes : List ℕ) (n : ℕ) (t : Bool) → nat_lt n (2 ^ 64) ≡ t → Ends Small n (Some n) (if t then Ok (Some n) else at_left NumberTooBig bytes)
value_by bytes n true e = Whole refl (grind (arith, nat_tests))
value_by bytes n false e = Broken (record { kind = NumberTooBig; left = length bytes }) refl (λ h. grind (arith, nat_tests))

pub number_of_ends : (bytes : List ℕ) (d : ℕ) (ds : List ℕ) → Ends Small (digits_value 10 (d ∷ ds)) (Some (digits_value 10 (d ∷ ds))) (number_of bytes (d ∷ ds))
number_of_ends bytes d ds = value_by bytes (digits_value 10 (d ∷ ds)) (nat_lt (digits_value 10 (d ∷ ds)) (2 ^ 64)) refl

-- what a reading that goes on without a fault makes of it
pub ends_then : {A B C : Type 0} (Fit : A → Type 0) (v : A) (x : B) (read : Result B TextFault) (f : B → C) → Ends Fit v x read → Ends Fit v (f x) (read >>= λ y. Ok (f y))
ends_then Fit v x read f (Whole e fit) = Whole (ap (λ r. r >>= λ y. Ok (f y)) e) fit
ends_then Fit v x read f (Broken fault e fit) = Broken fault (ap (λ r. r >>= λ y. Ok (f y)) e) fit

pub ends_at : {A B : Type 0} (Fit : A → Type 0) (v : A) (x : B) (read other : Result B TextFault) → other ≡ read → Ends Fit v x read → Ends Fit v x other
ends_at Fit v x read other k ends = subst (λ r. Ends Fit v x r) (sym k) ends

-- no digits at the front
pub number_none : (bytes : List ℕ) → leading_digits bytes ≡ [] → number_at bytes ≡ Ok (None, bytes)
unfolding number_at
number_none bytes e =
    let k : behind_digits bytes ≡ bytes = sym (digits_split bytes ∙ ap (λ xs. xs ++ behind_digits bytes) e) in
    ap (λ ds. number_of bytes ds >>= λ n. Ok (n, behind_digits bytes)) e ∙ ap (λ r. Ok (None, r)) k

-- digits at the front
pub number_ends : (bytes : List ℕ) (d : ℕ) (ds : List ℕ) → leading_digits bytes ≡ d ∷ ds → Ends Small (digits_value 10 (d ∷ ds)) (Some (digits_value 10 (d ∷ ds)), behind_digits bytes) (number_at bytes)
unfolding number_at
number_ends bytes d ds e =
    ends_at Small (digits_value 10 (d ∷ ds)) (Some (digits_value 10 (d ∷ ds)), behind_digits bytes) (number_of bytes (d ∷ ds) >>= λ n. Ok (n, behind_digits bytes)) (number_at bytes)
    (ap (λ xs. number_of bytes xs >>= λ n. Ok (n, behind_digits bytes)) e)
    (ends_then Small (digits_value 10 (d ∷ ds)) (Some (digits_value 10 (d ∷ ds))) (number_of bytes (d ∷ ds)) (λ n. (n, behind_digits bytes)) (number_of_ends bytes d ds))

pub leading_number : (bytes : List ℕ) (d : ℕ) (ds : List ℕ) → leading_digits bytes ≡ d ∷ ds → IsNumber (d ∷ ds) (digits_value 10 (d ∷ ds))
leading_number bytes d ds e = record { digits = (omega arith, subst (AllDigits 10) e (all_leading bytes)); value = refl }

-- ---- a number behind a byte

pub marked_single : (mark : ℕ) → Single (IsMarkedNumber mark)
marked_single mark text n m i j =
    let k : mark ∷ i.0 ≡ mark ∷ j.0 = sym i.1 ∙ j.1 in
    let same : i.0 ≡ j.0 = cc in
    number_single j.0 n m (subst (λ t. IsNumber t n) same i.2) j.2

mark_is : (b mark : ℕ) (bs front more ds : List ℕ) → b ∷ bs ≡ front ++ more → front ≡ mark ∷ ds → (b ≡ mark) × (bs ≡ ds ++ more)
mark_is b mark bs front more ds e f = let k : b ∷ bs ≡ mark ∷ (ds ++ more) = e ∙ ap (λ t. t ++ more) f in (cc, cc)

other_mark : (b mark : ℕ) → (b == mark) ≡ false → b ≡ mark → ⊥
other_mark b mark e k = grind (arith, nat_tests)

pub this_byte : (b mark : ℕ) → (b == mark) ≡ true → b ≡ mark
this_byte b mark e = grind (arith, nat_tests)

nothing_there : (mark : ℕ) → HasNoFront (IsMarkedNumber mark) []
nothing_there mark front rest n e i = let k : [] ≡ mark ∷ (i.0 ++ rest) = e ∙ ap (λ t. t ++ rest) i.1 in absurd (cc)

number_there : (bytes ds more : List ℕ) (n : ℕ) → bytes ≡ ds ++ more → IsNumber ds n → (length ds ≤ length (leading_digits bytes)) × (0 < length ds)
number_there bytes ds more n e i =
    let k = digits_most ds more i.digits.1 in
    (subst (λ t. length ds ≤ length (leading_digits t)) (sym e) k, i.digits.0)

pub no_number : (bytes : List ℕ) → leading_digits bytes ≡ [] → (ds more : List ℕ) (n : ℕ) → bytes ≡ ds ++ more → IsNumber ds n → ⊥
no_number bytes z ds more n e i = let k = number_there bytes ds more n e i in absurd (omega (arith, ap length z, k.0, k.1))

marked_present : (b mark : ℕ) (bs : List ℕ) (d : ℕ) (ds : List ℕ) → b ≡ mark → leading_digits bs ≡ d ∷ ds → Front (IsMarkedNumber mark) (b ∷ bs) (digits_value 10 (d ∷ ds)) (behind_digits bs)
marked_present b mark bs d ds k e = record {
  front = b ∷ d ∷ ds;
  split = ap (λ t. b ∷ t) (digits_split bs ∙ ap (λ t. t ++ behind_digits bs) e);
  is_part = (d ∷ ds, ap (λ x. x ∷ d ∷ ds) k, leading_number bs d ds e);
  longest = λ other more n f i.
      let s = mark_is b mark bs other more i.0 f i.1 in
      let h = number_there bs i.0 more n s.1 i.2 in
      omega (arith, h.0, ap length e, ap length i.1);
}

marked_digits : (b mark : ℕ) (bs ds : List ℕ) → b ≡ mark → leading_digits bs ≡ ds → Reads (IsMarkedNumber mark) Small (b ∷ bs) (number_at bs >>= λ found. Ok (or_none (b ∷ bs) found))
marked_digits b mark bs [] k e =
    Absent (ap (λ r. r >>= λ found. Ok (or_none (b ∷ bs) found)) (number_none bs e))
    (λ front rest n f i. let s = mark_is b mark bs front rest i.0 f i.1 in no_number bs e i.0 rest n s.1 i.2)
marked_digits b mark bs (d ∷ ds) k e =
    Present (digits_value 10 (d ∷ ds)) (behind_digits bs) (marked_present b mark bs d ds k e)
    (ends_then Small (digits_value 10 (d ∷ ds)) (Some (digits_value 10 (d ∷ ds)), behind_digits bs) (number_at bs) (or_none (b ∷ bs)) (number_ends bs d ds e))

marked_by : (b mark : ℕ) (bs : List ℕ) (t : Bool) → (b == mark) ≡ t → Reads (IsMarkedNumber mark) Small (b ∷ bs) (if t then (number_at bs >>= λ found. Ok (or_none (b ∷ bs) found)) else Ok (None, b ∷ bs))
marked_by b mark bs true e = marked_digits b mark bs (leading_digits bs) (this_byte b mark e) refl
marked_by b mark bs false e = Absent refl (λ front rest n f i. other_mark b mark e (mark_is b mark bs front rest i.0 f i.1).0)

pub marked_reads : (mark : ℕ) (text : List ℕ) → Reads (IsMarkedNumber mark) Small text (marked_number_at mark text)
unfolding marked_number_at
marked_reads mark [] = Absent refl (nothing_there mark)
marked_reads mark (b ∷ bs) = marked_by b mark bs (b == mark) refl

-- ---- an epoch

pub epoch_single : Single IsEpoch
epoch_single text n m i j =
    let same : i.0 ≡ j.0 = append_cancel_right i.0 j.0 (codes "!") (sym i.1 ∙ j.1) in
    number_single j.0 n m (subst (λ t. IsNumber t n) same i.2) j.2

epoch_there : (text front rest ds : List ℕ) → text ≡ front ++ rest → front ≡ ds ++ codes "!" → AllDigits 10 ds → (leading_digits text ≡ ds) × (behind_digits text ≡ 33 ∷ rest)
epoch_there text front rest ds e f a =
    let k : text ≡ ds ++ (33 ∷ rest) = e ∙ ap (λ t. t ++ rest) f ∙ append_assoc ds (codes "!") rest in
    let i = digits_again ds (33 ∷ rest) a refl in
    (ap leading_digits k ∙ i.0, ap behind_digits k ∙ i.1)

epoch_present : (text : List ℕ) (d : ℕ) (ds : List ℕ) (b : ℕ) (rest : List ℕ) → b ≡ 33 → leading_digits text ≡ d ∷ ds → behind_digits text ≡ b ∷ rest → Front IsEpoch text (digits_value 10 (d ∷ ds)) rest
epoch_present text d ds b rest k e f = record {
  front = (d ∷ ds) ++ codes "!";
  split = digits_split text ∙ (λ z. e z ++ f z) ∙ ap (λ x. (d ∷ ds) ++ (x ∷ rest)) k ∙ sym (append_assoc (d ∷ ds) (codes "!") rest);
  is_part = (d ∷ ds, refl, leading_number text d ds e);
  longest = λ other more n g i.
      let s = epoch_there text other more i.0 g i.1 i.2.digits.1 in
      let same : other ≡ (d ∷ ds) ++ codes "!" = i.1 ∙ ap (λ t. t ++ codes "!") (sym s.0 ∙ e) in
      omega (arith, ap length same);
}

epoch_test : (text : List ℕ) (d : ℕ) (ds : List ℕ) (b : ℕ) (rest : List ℕ) (t : Bool) → (b == 33) ≡ t → leading_digits text ≡ d ∷ ds → behind_digits text ≡ b ∷ rest
    → Reads IsEpoch Small text (if t then (number_of text (d ∷ ds) >>= λ number. Ok (number, rest)) else Ok (None, text))
epoch_test text d ds b rest true t e f =
    Present (digits_value 10 (d ∷ ds)) rest (epoch_present text d ds b rest (this_byte b 33 t) e f)
    (ends_then Small (digits_value 10 (d ∷ ds)) (Some (digits_value 10 (d ∷ ds))) (number_of text (d ∷ ds)) (λ n. (n, rest)) (number_of_ends text d ds))
epoch_test text d ds b rest false t e f =
    Absent refl
    (λ front more n g i. let s = epoch_there text front more i.0 g i.1 i.2.digits.1 in
    let k : b ∷ rest ≡ 33 ∷ more = sym f ∙ s.1 in
    let same : b ≡ 33 = cc in
    other_mark b 33 t same)

epoch_cases : (text ds rest : List ℕ) → leading_digits text ≡ ds → behind_digits text ≡ rest → Reads IsEpoch Small text (epoch_by text ds rest)
epoch_cases text ds [] e f =
    Absent refl (λ front more n g i. let s = epoch_there text front more i.0 g i.1 i.2.digits.1 in let k : [] ≡ 33 ∷ more = sym f ∙ s.1 in absurd (cc))
epoch_cases text [] (b ∷ rest) e f =
    Absent refl
    (λ front more n g i. let s = epoch_there text front more i.0 g i.1 i.2.digits.1 in let k : [] ≡ i.0 = sym e ∙ s.0 in absurd (omega (arith, ap length k, i.2.digits.0)))
epoch_cases text (d ∷ ds) (b ∷ rest) e f = epoch_test text d ds b rest (b == 33) refl e f

pub epoch_reads : (text : List ℕ) → Reads IsEpoch Small text (epoch_at text)
unfolding epoch_at
epoch_reads text = epoch_cases text (leading_digits text) (behind_digits text) refl refl
