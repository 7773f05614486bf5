-- The text for an invalid line.
use Rattle.std.proofs.Common.{◌≡◌, ◌∙◌, ◌++◌, ◌∷◌, ℕ, List, Result, Ok, Err, IfOk, IfSome, String, string_bytes}
use Rattle.std.proofs.Common.{take, ap}
use Rattle.underline.specs.Underline.{underlined}
use Rattle.pep508_url.specs.UrlFaults.{url_error_text}
use Rattle.pep508_url.specs.UrlTexts.{Verbatim}
use Rattle.pep508_url.specs.declared.url_error.VerbatimUrlError.{VerbatimUrlError}
use Rattle.pep508_error.specs.declared.error.Pep508Error.{Pep508Error}
use Rattle.pep508_error.specs.Errors.{source_text}
use Rattle.reqs_io_faults.specs.FaultText.{requirement_front}
use Rattle.reqs_messages.specs.Shown.{shown_text, shown_columns, shown_marks, IsShownRequirement}

-- a text that was made is the one that is wanted
pub as_wanted : {Y E : Type 0} (result : Result (String Y) E) (given wanted : List ℕ)
    → IfOk result (λ text. string_bytes text ≡ given) → given ≡ wanted
    → IfOk result (λ text. string_bytes text ≡ wanted)
as_wanted (Ok text) given wanted h e = h ∙ e
as_wanted (Err fault) given wanted h e = tt

-- a text of these parts
abbrev pub of_parts : Pep508Error Verbatim VerbatimUrlError → ℕ → List ℕ → List ℕ → List ℕ → ℕ → ℕ → List ℕ
of_parts error number path message line blanks marks =
    requirement_front path number error ++ message ++ (10 ∷ underlined line blanks marks)

-- equal parts make one text
one_text : (error : Pep508Error Verbatim VerbatimUrlError) (number : ℕ) (p path m message l line : List ℕ)
    (b blanks k marks : ℕ) → p ≡ path → m ≡ message → l ≡ line → b ≡ blanks → k ≡ marks
    → of_parts error number p m l b k ≡ of_parts error number path message line blanks marks
one_text error number p path m message l line b blanks k marks ep em el eb ek =
    ap (λ x. of_parts error number x m l b k) ep
    ∙ ap (λ x. of_parts error number path x l b k) em
    ∙ ap (λ x. of_parts error number path message x b k) el
    ∙ ap (λ x. of_parts error number path message line x k) eb
    ∙ ap (λ x. of_parts error number path message line blanks x) ek

-- a text that was made is that for an invalid line
pub made : {Y E : Type 0} (result : Result (String Y) E) (path : List ℕ) (number : ℕ)
    (error : Pep508Error Verbatim VerbatimUrlError) (said p m l : List ℕ) (b k : ℕ)
    → IfSome (source_text url_error_text error.message) (λ wanted. said ≡ wanted)
    → IfOk result (λ text. string_bytes text ≡ of_parts error number p m l b k)
    → p ≡ shown_text path → m ≡ shown_text said → l ≡ shown_text (string_bytes error.excerpt.input)
    → b ≡ shown_columns (take error.excerpt.start (string_bytes error.excerpt.input))
    → k ≡ shown_marks (string_bytes error.excerpt.input) error.excerpt.start error.excerpt.len
    → IfOk result (λ text. IsShownRequirement path number error (string_bytes text))
made (Ok text) path number error said p m l b k is h ep em el eb ek =
    (said, is, h ∙ one_text error number p _ m _ l _ b _ k _ ep em el eb ek)
made (Err fault) path number error said p m l b k is h ep em el eb ek = tt
