-- The members of a list that was read.
use Rattle.std.proofs.Common.{◌≡◌, ℕ, suc, zero, ◌<◌, ◌==◌, ◌&&◌, ◌⊎◌, not, Bool, true, false, cond}
use Rattle.std.proofs.Common.{List, [], ◌∷◌, length, get_or, All, Some, inl, inr, refl, sym, ap}
use Rattle.std.proofs.Common.{subst, ◌∙◌, arith}
use Rattle.std.proofs.lemmas.Bool.Decides.{nat_tests}
use Rattle.std.specs.Cmp.{tied_itself}
use Rattle.std.specs.List.{AllByRecursion, filter}
use Rattle.std.specs.List.Sorted.{ties}
use Rattle.std.specs.Ordering.{is_lt}
use Rattle.pep440_version.specs.Order.{version_cmp}
use Rattle.pep440_version.specs.OrderLaws.{version_cmp_total}
use Rattle.pep440_specifier.specs.Matching.{SpecifierRecord}
use Rattle.pep440_specifier.specs.SpecifierReading.{specifier_of}
use Rattle.pep440_specifier_list.specs.Lists.{IsInOrder}
use Rattle.pep440_specifier_list.specs.ListReading.{pieces_of, specifiers_of, IsReadFromText}
use Rattle.pep440_specifier_list.proofs.Pieces.{all_read, first_and_others}
use Rattle.pep440_specifier_list.proofs.Whole.{whole, nothing_read}

-- ---- one of a list

abbrev IsOne : SpecifierRecord → List SpecifierRecord → Type 0
IsOne x [] = ⊥
IsOne x (y ∷ ys) = (x ≡ y) ⊎ IsOne x ys

one_at : (xs : List SpecifierRecord) (k : ℕ) (d : SpecifierRecord) → k < length xs → IsOne (get_or xs k d) xs
one_at [] k d h = absurd (omega arith)
one_at (x ∷ xs) zero d h = inl refl
one_at (x ∷ xs) (suc k) d h = inr (one_at xs k d (omega arith))

holds_at : (P : SpecifierRecord → Type 0) (x : SpecifierRecord) (xs : List SpecifierRecord)
    → AllByRecursion P xs → IsOne x xs → P x
holds_at P x [] h o = absurd o
holds_at P x (y ∷ ys) h (inl e) = subst P (sym e) h.0
holds_at P x (y ∷ ys) h (inr o) = holds_at P x ys h.1 o

kept_by : (x y : SpecifierRecord) (ys : List SpecifierRecord) (t : Bool) → IsOne x ys → IsOne x (cond t (y ∷ ys) ys)
kept_by x y ys true o = inr o
kept_by x y ys false o = o

kept : (test : SpecifierRecord → Bool) (x : SpecifierRecord) (xs : List SpecifierRecord) → test x ≡ true → IsOne x xs
    → IsOne x (filter test xs)
kept test x [] t o = absurd o
kept test x (y ∷ ys) t (inl e) =
    let passes : test y ≡ true = sym (ap test e) ∙ t in
    subst (λ b. IsOne x (cond b (y ∷ filter test ys) (filter test ys))) (sym passes) (inl e)
kept test x (y ∷ ys) t (inr o) = kept_by x y (filter test ys) (test y) (kept test x ys t o)

was_by : (x y : SpecifierRecord) (few ys : List SpecifierRecord) (t : Bool) → (IsOne x few → IsOne x ys)
    → IsOne x (cond t (y ∷ few) few) → IsOne x (y ∷ ys)
was_by x y few ys true f (inl e) = inl e
was_by x y few ys true f (inr o) = inr (f o)
was_by x y few ys false f o = inr (f o)

was_one : (test : SpecifierRecord → Bool) (x : SpecifierRecord) (xs : List SpecifierRecord)
    → IsOne x (filter test xs) → IsOne x xs
was_one test x [] o = o
was_one test x (y ∷ ys) o = was_by x y (filter test ys) ys (test y) (λ few. was_one test x ys few) o

-- ---- in order

by_version : SpecifierRecord → SpecifierRecord → Bool
by_version x y = is_lt (version_cmp x.version y.version)

itself_ties : (x : SpecifierRecord) → ties by_version x x ≡ true
unfolding by_version
itself_ties x = ap (λ o. not (is_lt o) && not (is_lt o)) (tied_itself version_cmp_total x.version)

-- order brings in no other member
was_given : (given members : List SpecifierRecord) (x : SpecifierRecord) → IsInOrder given members → IsOne x members
    → IsOne x given
unfolding by_version
was_given given members x order o =
    was_one (ties by_version x) x given
    (subst (IsOne x) (order.stable x) (kept (ties by_version x) x members (itself_ties x) o))

pub all_in_order : (P : SpecifierRecord → Type 0) (given members : List SpecifierRecord) → AllByRecursion P given
    → IsInOrder given members → All P members
all_in_order P given members h order = λ k d within.
    holds_at P (get_or members k d) given h (was_given given members (get_or members k d) order (one_at members k d within))

-- ---- read

pieces_read : (pieces : List (List ℕ)) (given : List SpecifierRecord) → all_read pieces ≡ Some given
    → AllByRecursion IsReadFromText given
pieces_read [] [] h = tt
pieces_read [] (x ∷ xs) h = absurd (cc)
pieces_read (p ∷ ps) given h =
    let are = first_and_others (specifier_of p) (all_read ps) given h in
    subst (AllByRecursion IsReadFromText) (sym are.members_are) ((p, are.first_is), pieces_read ps are.more are.others_are)

none_read : (given : List SpecifierRecord) → Some [] ≡ Some given → AllByRecursion IsReadFromText given
none_read [] h = tt
none_read (x ∷ xs) h = absurd (cc)

some_length : (n : ℕ) → 0 < n → (n == 0) ≡ false
some_length n h = grind (arith, nat_tests)

given_read : (text : List ℕ) (given : List SpecifierRecord) → specifiers_of text ≡ Some given
    → AllByRecursion IsReadFromText given
given_read [] given h = none_read given (sym nothing_read ∙ h)
given_read (b ∷ bs) given h =
    let long : 0 < length (b ∷ bs) = omega arith in
    pieces_read (pieces_of (b ∷ bs)) given (sym (whole (b ∷ bs) (some_length (length (b ∷ bs)) long)) ∙ h)

pub members_read : (text : List ℕ) (given members : List SpecifierRecord) → specifiers_of text ≡ Some given
    → IsInOrder given members → All IsReadFromText members
members_read text given members h order = all_in_order IsReadFromText given members (given_read text given h) order
