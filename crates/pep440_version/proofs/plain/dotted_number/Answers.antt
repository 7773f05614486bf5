use Rattle.std.proofs.Common.{◌≡◌, ℕ, List, ◌∷◌, Option, Some, None, Ok}
use Rattle.std.specs.Prelude.{IfSome}
use Rattle.std.specs.Borrow.{Bor}
use Rattle.pep440_text.specs.Reading.{number_at, marked_number_at}
use Rattle.pep440_version.proofs.PlainTexts.{marked_read}
use Rattle.pep440_version.proofs.plain.dotted_number.Goals as goal

after_dot : (bytes rest : List ℕ) (byte : ℕ) → bytes ≡ byte ∷ rest → byte ≡ 46 → (read : Option (ℕ × Bor (List ℕ)))
    → IfSome read (λ found. number_at rest ≡ Ok (Some found.0, found.1.now))
    → IfSome read (λ found. marked_number_at 46 bytes ≡ Ok (Some found.0, found.1.now))
after_dot bytes rest byte split is None h = h
after_dot bytes rest byte split is (Some found) h = marked_read bytes rest byte split is found.0 found.1.now h

pub returns-in-Some-eq46-default-clause-read : goal.returns-in-Some-eq46-default-clause-read
returns-in-Some-eq46-default-clause-read c =
    let found = c.in-Some-eq46-default in
    after_dot c.args.bytes.now found.rest.now found.field-0-0.now (found.ensures.cases).0 found.field-0-0-test
    c.number.result c.number.ensures.read
