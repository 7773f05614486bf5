-- What a whole text says, from what its pieces say.
use Rattle.std.proofs.Common.{◌≡◌, ℕ, ◌==◌, true, false, List, [], ◌∷◌, length, Option, Some, None}
use Rattle.std.proofs.Common.{Ok, refl, sym, ap, subst, ◌∙◌, arith}
use Rattle.std.proofs.lemmas.Bool.Decides.{nat_tests}
use Rattle.std.specs.Result.{result_ok}
use Rattle.read_outcome.specs.Outcome.{Tells}
use Rattle.pep440_specifier.specs.Matching.{SpecifierRecord}
use Rattle.pep440_specifier_list.specs.Lists.{IsInOrder}
use Rattle.pep440_specifier_list.specs.ListReading.{ListFault, pieces_reading, pieces_of}
use Rattle.pep440_specifier_list.specs.ListReading.{line_reading, list_reading, specifiers_of}
use Rattle.pep440_specifier_list.proofs.Pieces.{all_read, all_are_read}

same : (m n : ℕ) → (m == n) ≡ true → m ≡ n
same m n h = grind (arith, nat_tests)

pub nil_when : (text : List ℕ) → (length text == 0) ≡ true → text ≡ []
nil_when [] h = refl
nil_when (b ∷ bs) h =
    absurd (let n : length (b ∷ bs) ≡ 0 = same (length (b ∷ bs)) 0 h in omega (arith, n))

-- a text that isn't empty is read by its pieces
by_pieces : (text : List ℕ) → (length text == 0) ≡ false → line_reading text ≡ pieces_reading text 0 (pieces_of text)
by_pieces [] h = absurd (let e : (0 == 0) ≡ false = h in grind (arith, nat_tests))
by_pieces (b ∷ bs) h = refl

pub read_by_pieces : (text : List ℕ) → (length text == 0) ≡ false
    → list_reading text ≡ pieces_reading text 0 (pieces_of text)
unfolding list_reading
read_by_pieces text h = by_pieces text h

pub whole : (text : List ℕ) → (length text == 0) ≡ false → specifiers_of text ≡ all_read (pieces_of text)
unfolding specifiers_of
whole text h = ap result_ok (read_by_pieces text h) ∙ all_are_read text 0 (pieces_of text)

nothing_there : list_reading [] ≡ Ok []
unfolding list_reading
nothing_there = refl

pub nothing_read : specifiers_of [] ≡ Some []
unfolding specifiers_of
nothing_read = ap result_ok nothing_there

pub nothing_in_order : IsInOrder [] []
nothing_in_order = record { sorted = λ k d low high. absurd (omega arith); stable = λ x. refl }

pub empty_is_read : (text : List ℕ) (list : List SpecifierRecord) → (length text == 0) ≡ true → list ≡ []
    → (given : List SpecifierRecord) × (list_reading text ≡ Ok given) × IsInOrder given list
empty_is_read text list t e =
    ([], ap list_reading (nil_when text t) ∙ nothing_there, subst (IsInOrder []) (sym e) nothing_in_order)

pub pieces_are_read : (text : List ℕ) (members list : List SpecifierRecord) → (length text == 0) ≡ false
    → pieces_reading text 0 (pieces_of text) ≡ Ok members → IsInOrder members list
    → (given : List SpecifierRecord) × (list_reading text ≡ Ok given) × IsInOrder given list
pieces_are_read text members list t e order = (members, read_by_pieces text t ∙ e, order)

pub fault_is_told : (text : List ℕ) (told : Option ListFault) → (length text == 0) ≡ false
    → Tells told (pieces_reading text 0 (pieces_of text)) → Tells told (list_reading text)
fault_is_told text None t h = tt
fault_is_told text (Some fault) t h = read_by_pieces text t ∙ h
