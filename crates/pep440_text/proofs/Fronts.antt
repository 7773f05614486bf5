-- A part at the front of a text: a reading that finds the longest one, or that there is none, agrees with the grammar both ways.
use Rattle.std.proofs.Common.{◌≡◌, ℕ, length, List, [], ◌∷◌, ◌++◌, Option, Some, None, Result, Ok, Err, refl}
use Rattle.std.proofs.Common.{ap, sym, subst, ◌∙◌, arith}
use Rattle.std.specs.Prelude.{IfSome}
use Rattle.pep440_text.specs.declared.TextFault.{TextFault}
use Rattle.pep440_text.specs.Text.{Front, HasNoFront, Optional}
use Rattle.pep440_text.specs.Reading.{◌>>=◌}

-- how a reading ends where there is such a part: well, or with a fault where the value doesn't fit
pub data Ends {A B : Type 0} (Fit : A → Type 0) (value : A) (good : B) (read : Result B TextFault) : Type 0 where
  Whole : read ≡ Ok good → Fit value → Ends Fit value good read
  Broken : (fault : TextFault) → read ≡ Err fault → (Fit value → ⊥) → Ends Fit value good read

-- what a reading of a part that may be there answers
pub data Reads {A : Type 0} (Is : List ℕ → A → Type 0) (Fit : A → Type 0) (text : List ℕ) (read : Result (Option A × List ℕ) TextFault) : Type 0 where
  Absent : read ≡ Ok (None, text) → HasNoFront Is text → Reads Is Fit text read
  Present : (value : A) (rest : List ℕ) → Front Is text value rest → Ends Fit value (Some value, rest) read → Reads Is Fit text read

-- a text is such a part of one value at most
abbrev pub Single : {A : Type 0} → (List ℕ → A → Type 0) → Type 0
Single {A} Is = (text : List ℕ) (value other : A) → Is text value → Is text other → value ≡ other

abbrev pub value_or : {A : Type 0} → A → Result A TextFault → A
value_or value (Ok other) = other
value_or value (Err fault) = value

abbrev pub good : {A : Type 0} → A → Result A TextFault
good value = Ok value

pub ok_same : {A : Type 0} (x y : A) → good x ≡ Ok y → x ≡ y
ok_same x y e = ap (value_or x) e

-- what two readings that succeed answer
pub same_value : {A : Type 0} (read : Result A TextFault) (x y : A) → read ≡ Ok x → read ≡ Ok y → x ≡ y
same_value read x y e f = ap (value_or x) (sym e ∙ f)

pub never_both : {A : Type 0} (read : Result A TextFault) (fault : TextFault) (x : A) → read ≡ Err fault → read ≡ Ok x → ⊥
never_both read fault x e f = let k : Err fault ≡ good x = sym e ∙ f in absurd (cc)

-- a reading that goes on and succeeds has succeeded before
pub ok_inside : {A B : Type 0} (read : Result A TextFault) (more : A → Result B TextFault) (y : B) → (read >>= more) ≡ Ok y → (x : A) × (read ≡ Ok x) × (more x ≡ Ok y)
ok_inside (Ok x) more y e = (x, refl, e)
ok_inside (Err fault) more y e = absurd (cc)

-- fronts of one length
pub cut : (a c b d : List ℕ) → a ++ b ≡ c ++ d → length a ≡ length c → (a ≡ c) × (b ≡ d)
cut [] [] b d e h = (refl, e)
cut [] (y ∷ c) b d e h = absurd (omega arith)
cut (x ∷ a) [] b d e h = absurd (omega arith)
cut (x ∷ a) (y ∷ c) b d e h =
    let p : x ≡ y = cc in
    let q : a ++ b ≡ c ++ d = cc in
    let r : length a ≡ length c = omega arith in
    let i = cut a c b d q r in
    (λ z. p z ∷ i.0 z, i.1)

pub same_front : {A : Type 0} (Is : List ℕ → A → Type 0) → Single Is → (text : List ℕ) (v w : A) (r s : List ℕ) → Front Is text v r → Front Is text w s → (v ≡ w) × (r ≡ s)
same_front Is one text v w r s f g =
    let low = f.longest g.front s w g.split g.is_part in
    let high = g.longest f.front r v f.split f.is_part in
    let i = cut f.front g.front r s (sym f.split ∙ g.split) (omega (arith, low, high)) in
    (one g.front v w (subst (λ t. Is t v) i.0 f.is_part) g.is_part, i.1)

-- what is read is in the grammar
pub part_found : {A : Type 0} (Is : List ℕ → A → Type 0) (Fit : A → Type 0) (text : List ℕ) (read : Result (Option A × List ℕ) TextFault) → Reads Is Fit text read
    → (o : Option A) (rest : List ℕ) → read ≡ Ok (o, rest) → Optional Is text o rest × IfSome o Fit
part_found Is Fit text read (Absent e h) o rest q =
    subst (λ p. Optional Is text p.0 p.1 × IfSome p.0 Fit) (same_value read (None, text) (o, rest) e q) ((h, refl), tt)
part_found Is Fit text read (Present v r f (Whole e fit)) o rest q =
    subst (λ p. Optional Is text p.0 p.1 × IfSome p.0 Fit) (same_value read (Some v, r) (o, rest) e q) (f, fit)
part_found Is Fit text read (Present v r f (Broken fault e fit)) o rest q = absurd (never_both read fault (o, rest) e q)

found_again : {A : Type 0} (Fit : A → Type 0) (v w : A) (r s : List ℕ) (read : Result (Option A × List ℕ) TextFault) → v ≡ w → r ≡ s → Ends Fit v (Some v, r) read → Fit w → read ≡ Ok (Some w, s)
found_again Fit v w r s read p q (Whole e fit) h = e ∙ (λ z. Ok (Some (p z), q z))
found_again Fit v w r s read p q (Broken fault e fit) h = absurd (fit (subst Fit (sym p) h))

-- what is in the grammar is read
pub part_again : {A : Type 0} (Is : List ℕ → A → Type 0) (Fit : A → Type 0) → Single Is → (text : List ℕ) (read : Result (Option A × List ℕ) TextFault) → Reads Is Fit text read
    → (o : Option A) (rest : List ℕ) → Optional Is text o rest → IfSome o Fit → read ≡ Ok (o, rest)
part_again Is Fit one text read (Absent e h) None rest i fit = e ∙ ap (λ r. Ok (None, r)) (sym i.1)
part_again Is Fit one text read (Absent e h) (Some w) rest i fit = absurd (h i.front rest w i.split i.is_part)
part_again Is Fit one text read (Present v r f ends) None rest i fit = absurd (i.0 f.front r v f.split f.is_part)
part_again Is Fit one text read (Present v r f ends) (Some w) rest i fit =
    let k = same_front Is one text v w r rest f i in found_again Fit v w r rest read k.0 k.1 ends fit
