-- Lines beside what they stand for: by their names, and what they ask for.
use Rattle.std.proofs.Common.{◌≡◌, ◌||◌, ℕ, suc, Bool, true, false, cond, List, [], ◌∷◌, filter, length}
use Rattle.std.proofs.Common.{Option, Some, None, refl, sym, ap, subst, true≢false}
use Rattle.std.specs.List.{list_any, list_all, AllZip}
use Rattle.std.specs.Str.{bytes_eq}
use Rattle.pep440_specifier.specs.Matching.{SpecifierRecord}
use Rattle.pep508_tree.specs.Meaning.{NodeRecord}
use Rattle.pep508_url.specs.Vars.{Variables}
use Rattle.pep508_url.specs.UrlTexts.{Verbatim}
use Rattle.pep508_url.specs.declared.url_error.VerbatimUrlError.{VerbatimUrlError}
use Rattle.pep508_requirement.specs.RequirementReading.{AsksFor}
use Rattle.pep508_requirement.specs.declared.version_or_url.VersionOrUrl.{VersionOrUrl}
use Rattle.pep508_requirement.specs.declared.version_or_url.VersionOrUrl.TheVariants as asked
use Rattle.pep508_requirement_text.specs.FrontReading.{Source}
use Rattle.pep508_requirement_text.specs.FrontReading.Source.{Any, Specifiers, Url}
use Rattle.reqtable_answer.specs.Asks.{is_of, specifiers_of}
use Rattle.reqtable_answer.proofs.InOrder.{same_all}
use Rattle.reqtable_requirements.specs.Asks.{lines_of}
use Rattle.reqtable_requirements.specs.LineReading.{LineRecord}
use Rattle.reqtable_requirements.specs.LineSpecifiers.{specifiers_by}
use Rattle.reqtable_requirements.specs.Requirements.{ReadsUrl, StandsFor}
use Rattle.reqtable_requirements.specs.declared.requirements.Line.{Line}
use Rattle.reqtable_cases.specs.Lines.{is_named}
use Rattle.reqtable_table.specs.Given.{is_under}
use Rattle.reqtable_packages.specs.Packages.{lines_under}

-- ---- filters of lists that go together

module _ {A B : Type 0} (R : A → B → Type 0) where
  zip_by : (kept : Bool) (x : A) (y : B) (xs : List A) (ys : List B) → R x y → AllZip R xs ys →
      AllZip R (cond kept (x ∷ xs) xs) (cond kept (y ∷ ys) ys)
  zip_by true x y xs ys one rest = (one, rest)
  zip_by false x y xs ys one rest = rest

  pub zip_filtered : (p : A → Bool) (q : B → Bool) → ((x : A) (y : B) → R x y → p x ≡ q y) → (xs : List A)
      (ys : List B) → AllZip R xs ys → AllZip R (filter p xs) (filter q ys)
  zip_filtered p q same [] [] h = tt
  zip_filtered p q same [] (y ∷ ys) h = absurd h
  zip_filtered p q same (x ∷ xs) [] h = absurd h
  zip_filtered p q same (x ∷ xs) (y ∷ ys) h =
      subst (λ b. AllZip R (filter p (x ∷ xs)) (cond b (y ∷ filter q ys) (filter q ys))) (same x y h.0)
      (zip_by (p x) x y (filter p xs) (filter q ys) h.0 (zip_filtered p q same xs ys h.1))

  pub zip_long : (xs : List A) (ys : List B) → AllZip R xs ys → length xs ≡ length ys
  zip_long [] [] h = refl
  zip_long [] (y ∷ ys) h = absurd h
  zip_long (x ∷ xs) [] h = absurd h
  zip_long (x ∷ xs) (y ∷ ys) h = ap suc (zip_long xs ys h.1)

-- ---- lines by their names

unnamed_by : {A : Type 0} (b : Bool) (rest : Bool) (x : A) (ys : List A) → (b || rest) ≡ false →
    (rest ≡ false → ys ≡ []) → cond b (x ∷ ys) ys ≡ []
unnamed_by true rest x ys h below = absurd (true≢false h)
unnamed_by false rest x ys h below = below h

pub unnamed : {A : Type 0} (p : A → Bool) (xs : List A) → list_any p xs ≡ false → filter p xs ≡ []
unnamed p [] h = refl
unnamed p (x ∷ xs) h = unnamed_by (p x) (list_any p xs) x (filter p xs) h (unnamed p xs)

pub named_alike : (vars : Variables) (nodes : List NodeRecord) (lines : List Line) (said : List LineRecord)
    (q : List ℕ) → AllZip (StandsFor vars nodes) lines said → list_any (is_under q) lines ≡ is_named q said
named_alike vars nodes [] [] q h = refl
named_alike vars nodes [] (one ∷ said) q h = absurd h
named_alike vars nodes (line ∷ lines) [] q h = absurd h
named_alike vars nodes (line ∷ lines) (one ∷ said) q h =
    let first = ap (bytes_eq q) h.0.name in
    let rest = named_alike vars nodes lines said q h.1 in
    λ i. first i || rest i

pub under : (vars : Variables) (nodes : List NodeRecord) (q : List ℕ) (lines : List Line)
    (said : List LineRecord) → AllZip (StandsFor vars nodes) lines said →
    AllZip (StandsFor vars nodes) (lines_under q lines) (lines_of q said)
under vars nodes q lines said h =
    zip_filtered (StandsFor vars nodes) (is_under q) (λ one. is_of q one.front)
    (λ line one stands. ap (bytes_eq q) stands.name) lines said h

-- ---- what they ask for

pub asked_all : (vars : Variables) (test : SpecifierRecord → Bool) (source : Source)
    (what : Option (VersionOrUrl Verbatim VerbatimUrlError)) → AsksFor (ReadsUrl vars) source what →
    list_all test (specifiers_of source) ≡ list_all test (specifiers_by what)
asked_all vars test Any None h = refl
asked_all vars test Any (Some what) h = absurd h
asked_all vars test (Specifiers given) None h = absurd h
asked_all vars test (Specifiers given) (Some (asked.VersionSpecifier list)) h = sym (same_all test given list h)
asked_all vars test (Specifiers given) (Some (asked.Url url)) h = absurd h
asked_all vars test (Url text) None h = absurd h
asked_all vars test (Url text) (Some (asked.VersionSpecifier list)) h = absurd h
asked_all vars test (Url text) (Some (asked.Url url)) h = refl
