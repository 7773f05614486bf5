-- The name and the extras at the front: what is read is what the grammar gives.
use Rattle.std.proofs.Common.{◌≡◌, ℕ, ◌==◌, Bool, true, false, not, if◌then◌else◌, List, [], ◌∷◌, ◌++◌}
use Rattle.std.proofs.Common.{Option, Some, None, Ok, Err, inl, inr, refl, ap, sym, subst, ◌∙◌}
use Rattle.std.proofs.Common.{append_assoc}
use Rattle.std.specs.Option.{option_map}
use Rattle.std.specs.Str.{encode_utf8_all}
use Rattle.pep508_name.specs.Name.{is_name, is_name_byte, is_alphanumeric_at, name_of, normal_name}
use Rattle.pep508_error.specs.Cuts.{begins_by, encoded_cut, cut_around}
use Rattle.pep508_error.specs.Steps.{◌>>=◌}
use Rattle.pep508_requirement_text.specs.FrontReading.{Refused, Malformed, Nameless}
use Rattle.pep508_requirement_text.specs.FrontReading.{run_of, if_name, name_at, extras_of}
use Rattle.pep508_requirement_text.specs.FrontReading.{if_there}
use Rattle.pep508_requirement_text.specs.FrontReading.{bracketed, extras_at}
use Rattle.pep508_requirement_text.specs.FrontText.{IsInside, IsExtrasText}
use Rattle.pep508_error.proofs.Tests.{the_same, not_false}
use Rattle.pep508_error.proofs.Steps.{answer, ok_same, in_steps}
use Rattle.pep508_error.proofs.Cuts.{Ends, encoded_again, cut_found, encoded_is, around_again, around_found}
use Rattle.pep508_requirement_text.proofs.Names.{AreNameBytes, named, mapped, name_encoded}
use Rattle.pep508_requirement_text.proofs.Names.{inside_found, inside_again, unbracketed}

-- ---- answers

pub there : {A : Type 0} (maybe : Option A) (x : A) → if_there maybe ≡ Ok x → maybe ≡ Some x
there (Some y) x h = cc
there None x h = absurd (cc)

-- ---- the name

pub record NameFound (cs : List ℕ) (parts : List ℕ × List ℕ) : Type 0 where
  pub split : cs ≡ parts.0 ++ parts.1
  pub is_one : name_of parts.0 ≡ Some (normal_name parts.0)

if_name_by : (cs : List ℕ) (parts found : List ℕ × List ℕ) (t : Bool) → is_name parts.0 ≡ t
    → (if t then Ok parts else Err (if is_alphanumeric_at parts.0 0 then Malformed else Nameless (run_of cs))) ≡ Ok found
    → (parts ≡ found) × (is_name parts.0 ≡ true)
if_name_by cs parts found true e h = (ok_same parts found h, e)
if_name_by cs parts found false e h = absurd (cc)

is_name_of : (cs : List ℕ) → is_name cs ≡ true → name_of cs ≡ Some (normal_name cs)
unfolding name_of
is_name_of cs h = ap (λ t. if t then Some (normal_name cs) else None) h

abbrev ends_name : ℕ → Bool
ends_name c = not (is_name_byte c)

pub name_found : (cs : List ℕ) (parts : List ℕ × List ℕ) → name_at cs ≡ Ok parts → NameFound cs parts
unfolding name_at
name_found cs parts h =
    let k = cut_found ends_name cs in
    let bytes : AreNameBytes k.front =
    mapped (λ c. ends_name c ≡ false) (λ c. is_name_byte c ≡ true) (λ c e. not_false (is_name_byte c) e) k.front k.passes in
    let e = if_name_by cs (encoded_cut ends_name cs) parts (is_name (encoded_cut ends_name cs).0) refl h in
    let made : List ℕ × List ℕ = (k.front, k.rest) in
    let same : made ≡ parts =
    ap (λ bs. (bs, k.rest)) (sym (name_encoded k.front bytes)) ∙ sym (encoded_is ends_name cs k) ∙ e.0 in
    record {
      split = k.split ∙ ap (λ (p : List ℕ × List ℕ). p.0 ++ p.1) same;
      is_one = is_name_of parts.0 (ap (λ (p : List ℕ × List ℕ). is_name p.0) (sym e.0) ∙ e.1);
    }

pub name_again : (written rest name : List ℕ) → name_of written ≡ Some name → Ends ends_name rest
    → name_at (written ++ rest) ≡ Ok (written, rest)
unfolding name_at
name_again written rest name h k =
    let n = named written name h in
    let cs : List ℕ = written ++ rest in
    ap (if_name cs) (encoded_again ends_name written rest
    (mapped (λ c. is_name_byte c ≡ true) (λ c. ends_name c ≡ false) (λ c e. ap not e) written n.bytes) k
    ∙ ap (λ bs. (bs, rest)) (name_encoded written n.bytes))
    ∙ ap (λ t. if t then Ok (written, rest) else Err (if is_alphanumeric_at written 0 then Malformed else Nameless (run_of cs))) n.is_one

-- ---- the extras

pub record ExtrasFound (cs : List ℕ) (names : List (List ℕ)) (rest : List ℕ) : Type 0 where
  pub brackets : List ℕ
  pub split : cs ≡ brackets ++ rest
  pub are_extras : IsExtrasText brackets names

abbrev found_before : List ℕ → List (List ℕ) → List (List ℕ) × List ℕ
found_before rest names = (names, rest)

bracketed_found : (rest : List ℕ) (read : Option (List (List ℕ))) (found : List (List ℕ) × List ℕ)
    → option_map (found_before rest) read ≡ Some found → (read ≡ Some found.0) × (rest ≡ found.1)
bracketed_found rest None found h = absurd (cc)
bracketed_found rest (Some names) found h =
    let made : List (List ℕ) × List ℕ = (names, rest) in
    let same : made ≡ found = cc in
    (ap (λ (p : List (List ℕ) × List ℕ). Some p.0) same, ap (λ (p : List (List ℕ) × List ℕ). p.1) same)

no_brackets : (cs : List ℕ) (found : List (List ℕ) × List ℕ) → answer {F = Refused} ([], cs) ≡ Ok found
    → ExtrasFound cs found.0 found.1
no_brackets cs found h =
    let made : List (List ℕ) × List ℕ = ([], cs) in
    let same : made ≡ found = ok_same made found h in
    subst (λ (p : List (List ℕ) × List ℕ). ExtrasFound cs p.0 p.1) same
    (record { brackets = []; split = refl; are_extras = inl (refl, refl) })

extras_by : (c : ℕ) (cs : List ℕ) (found : List (List ℕ) × List ℕ) (t : Bool) → (c == 91) ≡ t
    → (if t then if_there (cut_around 93 cs) >>= bracketed else Ok ([], c ∷ cs)) ≡ Ok found
    → ExtrasFound (c ∷ cs) found.0 found.1
extras_by c cs found false e h = no_brackets (c ∷ cs) found h
extras_by c cs found true e h =
    let s = in_steps (if_there (cut_around 93 cs)) bracketed found h in
    let k = around_found 93 cs s.middle (there (cut_around 93 cs) s.middle s.first_is) in
    let b = bracketed_found s.middle.1 (extras_of s.middle.0) found
    (there (option_map (found_before s.middle.1) (extras_of s.middle.0)) found s.next_is) in
    let read : extras_of (encode_utf8_all k.front) ≡ Some found.0 = ap extras_of (sym k.encoded) ∙ b.0 in
    let inside = inside_found k.front found.0 read in
    record {
      brackets = 91 ∷ (k.front ++ 93 ∷ []);
      split = ap (λ x. x ∷ cs) (the_same c 91 e) ∙ ap (λ ds. 91 ∷ ds) (k.split ∙ ap (λ ds. k.front ++ 93 ∷ ds) b.1
          ∙ sym (append_assoc k.front (93 ∷ []) found.1));
      are_extras = inr (k.front, refl, inside);
    }

pub extras_found : (cs : List ℕ) (found : List (List ℕ) × List ℕ) → extras_at cs ≡ Ok found
    → ExtrasFound cs found.0 found.1
extras_found [] found h = no_brackets [] found h
extras_found (c ∷ cs) found h = extras_by c cs found (c == 91) refl h

-- without brackets nothing is taken
pub no_extras_again : (rest : List ℕ) → begins_by (λ c. c == 91) rest ≡ false
    → extras_at rest ≡ Ok ([], rest)
no_extras_again [] h = refl
no_extras_again (c ∷ cs) h = ap (λ t. if t then if_there (cut_around 93 cs) >>= bracketed else Ok ([], c ∷ cs)) h

pub extras_again : (inside rest : List ℕ) (names : List (List ℕ)) → IsInside inside names
    → extras_at (91 ∷ (inside ++ 93 ∷ rest)) ≡ Ok (names, rest)
extras_again inside rest names h =
    ap (λ found. if_there found >>= bracketed) (around_again 93 inside rest (unbracketed inside names h))
    ∙ ap (λ read. if_there (option_map (found_before rest) read)) (inside_again inside names h)
