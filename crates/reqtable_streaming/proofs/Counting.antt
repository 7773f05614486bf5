-- Packages that are there are required.
use Rattle.std.proofs.Common.{◌≡◌, ◌∙◌, ℕ, ◌<◌, ◌==◌, ◌||◌, Bool, true, List, [], ◌∷◌, length, refl, sym, ap, arith}
use Rattle.std.proofs.lemmas.Bool.Decides.{nat_tests}
use Rattle.std.specs.List.{list_any}
use Rattle.std.specs.List.Sorted.{IsStrictlySortedBy}
use Rattle.std.specs.Str.{bytes_eq}
use Rattle.std.proofs.lemmas.Slice.Eq.{bytes_eq-Decides}
use Rattle.pep508_requirement_text.specs.FrontReading.{Front}
use Rattle.reqtable_answer.specs.Asks.{is_of}
use Rattle.reqtable_answer.specs.declared.ask.Ask.{Ask}
use Rattle.reqtable_answer.specs.Says.{asks_seen}
use Rattle.reqtable_streaming.specs.declared.required.Package.{Package}
use Rattle.reqtable_streaming.specs.Packages.{AreNew, names_of}

pub any_some : {X : Type 0} (test : X → Bool) (xs : List X) → list_any test xs ≡ true → 0 < length xs
any_some test [] h = absurd (cc)
any_some test (x ∷ xs) h = omega arith

-- where a package is, something is required
pub some_required : (all : List Front) (before packages : List Package) → AreNew all before → names_of packages ≡ names_of before
    → 0 < length packages → 0 < length all
some_required all before [] new same h = absurd (omega arith)
some_required all before (wanted ∷ packages) new same h =
    let name = wanted.name.now in
    let itself : bytes_eq name name ≡ true = (bytes_eq-Decides name name).1 refl in
    let there : list_any (bytes_eq name) (names_of (wanted ∷ packages)) ≡ true = ap (λ b. b || list_any (bytes_eq name) (names_of packages)) itself in
    any_some (is_of name) all (sym (new.asked name) ∙ ap (list_any (bytes_eq name)) (sym same) ∙ there)

none_by : (n : ℕ) → true ≡ (n == 0) → n ≡ 0
none_by n h = grind (arith, nat_tests)

-- where nothing is asked for, no package is
pub none_required : (asks : List Ask) → true ≡ (length asks == 0) → AreNew (asks_seen asks) []
unfolding IsStrictlySortedBy
none_required [] h = record { rising = tt; asked = λ q. refl; sound = tt; each = tt }
none_required (ask ∷ asks) h = absurd (omega (arith, none_by (length (ask ∷ asks)) h))

pub some_asks : (asks : List Ask) → 0 < length (asks_seen asks) → 0 < length asks
some_asks [] h = h
some_asks (ask ∷ asks) h = omega arith
