-- So many lines have no more sets than two to their number.
use Rattle.std.proofs.Common.{◌≡◌, ◌≤◌, ◌<◌, ◌+◌, ◌*◌, ◌^◌, ℕ, zero, suc, Bool, true, false, List, [], ◌∷◌}
use Rattle.std.proofs.Common.{length}
use Rattle.std.proofs.Common.{refl, ap, subst, arith, lit≤, Less}
use Rattle.std.proofs.Math.Nat.{pow-le-pow_right}
use Rattle.std.specs.List.{AllZip, AllByRecursion}
use Rattle.std.specs.List.Sorted.{IsStrictlySortedBy}
use Rattle.pep508_diagram.specs.Question.{Valuation}
use Rattle.pep508_cases.specs.Cases.{Marks, Marking, marks_cmp, IsRealised, HasMore}
use Rattle.pep508_tree.specs.Meaning.{NodeRecord}
use Rattle.pep508_url.specs.Vars.{Variables}
use Rattle.reqtable_requirements.specs.Asks.{lines_of}
use Rattle.reqtable_requirements.specs.LineReading.{LineRecord}
use Rattle.reqtable_requirements.specs.Requirements.{StandsFor}
use Rattle.reqtable_requirements.specs.declared.requirements.Line.{Line}
use Rattle.reqtable_cases.specs.Lines.{line_marks, HasTooMany}
use Rattle.reqtable_packages.specs.Packages.{lines_under}
use Rattle.reqtable_packages.proofs.Standing.{under, zip_long}

-- what follows this mark in those sets that begin with it
abbrev behind : Bool → List Marks → List Marks
behind b [] = []
behind b ([] ∷ sets) = behind b sets
behind true ((true ∷ m) ∷ sets) = m ∷ behind true sets
behind true ((false ∷ m) ∷ sets) = behind true sets
behind false ((true ∷ m) ∷ sets) = behind false sets
behind false ((false ∷ m) ∷ sets) = m ∷ behind false sets

abbrev AreLong : ℕ → List Marks → Type 0
AreLong n sets = AllByRecursion (λ m. length m ≡ n) sets

shorter : (n : ℕ) (b : Bool) (m : Marks) → length (b ∷ m) ≡ suc n → length m ≡ n
shorter n b m h = omega (arith, h)

behind_long : (b : Bool) (n : ℕ) (sets : List Marks) → AreLong (suc n) sets → AreLong n (behind b sets)
behind_long b n [] all = tt
behind_long b n ([] ∷ sets) all = behind_long b n sets all.1
behind_long true n ((true ∷ m) ∷ sets) all = (shorter n true m all.0, behind_long true n sets all.1)
behind_long true n ((false ∷ m) ∷ sets) all = behind_long true n sets all.1
behind_long false n ((true ∷ m) ∷ sets) all = behind_long false n sets all.1
behind_long false n ((false ∷ m) ∷ sets) all = (shorter n false m all.0, behind_long false n sets all.1)

counted : (n : ℕ) (sets : List Marks) → AreLong (suc n) sets →
    length sets ≡ length (behind true sets) + length (behind false sets)
counted n [] all = refl
counted n ([] ∷ sets) all = let none : 0 ≡ suc n = all.0 in absurd (omega (arith, none))
counted n ((true ∷ m) ∷ sets) all = let rest = counted n sets all.1 in omega (arith, rest)
counted n ((false ∷ m) ∷ sets) all = let rest = counted n sets all.1 in omega (arith, rest)

later : (b : Bool) (m : Marks) (sets : List Marks) → AllByRecursion (λ y. marks_cmp (b ∷ m) y ≡ Less) sets →
    AllByRecursion (λ y. marks_cmp m y ≡ Less) (behind b sets)
later b m [] all = tt
later b m ([] ∷ sets) all = later b m sets all.1
later true m ((true ∷ y) ∷ sets) all = (all.0, later true m sets all.1)
later true m ((false ∷ y) ∷ sets) all = later true m sets all.1
later false m ((true ∷ y) ∷ sets) all = later false m sets all.1
later false m ((false ∷ y) ∷ sets) all = (all.0, later false m sets all.1)

behind_rise : (b : Bool) (sets : List Marks) → IsStrictlySortedBy marks_cmp sets →
    IsStrictlySortedBy marks_cmp (behind b sets)
unfolding IsStrictlySortedBy
behind_rise b [] rise = tt
behind_rise b ([] ∷ sets) rise = behind_rise b sets rise.1
behind_rise true ((true ∷ m) ∷ sets) rise = (later true m sets rise.0, behind_rise true sets rise.1)
behind_rise true ((false ∷ m) ∷ sets) rise = behind_rise true sets rise.1
behind_rise false ((true ∷ m) ∷ sets) rise = behind_rise false sets rise.1
behind_rise false ((false ∷ m) ∷ sets) rise = (later false m sets rise.0, behind_rise false sets rise.1)

not_less : (a b : Marks) → length a ≡ 0 → length b ≡ 0 → marks_cmp a b ≡ Less → ⊥
not_less [] [] none none' less = absurd (cc)
not_less [] (x ∷ b) none none' less = let some : suc (length b) ≡ 0 = none' in omega (arith, some)
not_less (x ∷ a) b none none' less = let some : suc (length a) ≡ 0 = none in omega (arith, some)

no_more : (n : ℕ) (sets : List Marks) → AreLong n sets → IsStrictlySortedBy marks_cmp sets → length sets ≤ 2 ^ n
unfolding IsStrictlySortedBy
no_more zero [] all rise = omega arith
no_more zero (m ∷ []) all rise = omega arith
no_more zero (m ∷ k ∷ sets) all rise = absurd (not_less m k all.0 all.1.0 rise.0.0)
no_more (suc n) sets all rise =
    let a = no_more n (behind true sets) (behind_long true n sets all) (behind_rise true sets rise) in
    let b = no_more n (behind false sets) (behind_long false n sets all) (behind_rise false sets rise) in
    let c = counted n sets all in
    omega (arith, a, b, c)

pub fewer : (count most limit : ℕ) → count ≤ most → 2 ^ most ≤ limit → 2 ^ count ≤ limit
fewer count most limit less room =
    let power : 2 ^ count ≤ 2 ^ most = pow-le-pow_right (lit≤ tt) less in omega (arith, power, room)

pub too_many : (count most limit : ℕ) → most < count → limit < 2 * 2 ^ most → 2 ^ count ≤ limit → ⊥
too_many count most limit less room few =
    let power : 2 ^ suc most ≤ 2 ^ count = pow-le-pow_right (lit≤ tt) less in omega (arith, power, room, few)

realised_long : (marking : Marking) (n : ℕ) (sets : List Marks) → ((v : Valuation) → length (marking v) ≡ n) →
    AllByRecursion (IsRealised marking) sets → AreLong n sets
realised_long marking n [] long all = tt
realised_long marking n (m ∷ sets) long all =
    (subst (λ x. length x ≡ n) all.0.1 (long all.0.0), realised_long marking n sets long all.1)

marks_long : (v : Valuation) (lines : List LineRecord) → length (line_marks lines v) ≡ length lines
marks_long v [] = refl
marks_long v (line ∷ lines) = ap suc (marks_long v lines)

not_many : (limit : ℕ) (lines : List LineRecord) → 2 ^ length lines ≤ limit →
    HasMore limit (line_marks lines) → ⊥
not_many limit lines few more =
    let most = no_more (length lines) more.sets
    (realised_long (line_marks lines) (length lines) more.sets (λ v. marks_long v lines) more.realised) more.rising in
    omega (arith, few, most, more.more)

pub few_cases : (vars : Variables) (nodes : List NodeRecord) (limit : ℕ) (q : List ℕ) (lines : List Line)
    (said : List LineRecord) → AllZip (StandsFor vars nodes) lines said →
    2 ^ length (lines_under q lines) ≤ limit → HasTooMany limit said q → ⊥
few_cases vars nodes limit q lines said stand few too =
    not_many limit (lines_of q said)
    (subst (λ n. 2 ^ n ≤ limit)
    (zip_long (StandsFor vars nodes) (lines_under q lines) (lines_of q said) (under vars nodes q lines said stand)) few)
    too.more
