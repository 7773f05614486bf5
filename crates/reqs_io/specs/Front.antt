-- What a reader's bytes may be, and what a writer wrote of a text.
use Rattle.std.specs.Prelude.{◌≡◌, ◌<◌, ℕ, List, [], ◌++◌, length, Option, IfSome}
use Rattle.std.specs.Io.KnownBytes.{Appends}

-- the bytes are those of a reader, if its bytes are known: otherwise it may have any
abbrev pub AreAsTold : Option (List ℕ) → List ℕ → Type 0
AreAsTold told bytes = IfSome told (λ all. bytes ≡ all)

-- the bytes of a reader are more than `limit`, if they are known
abbrev pub MayBeLonger : ℕ → Option (List ℕ) → Type 0
MayBeLonger limit told = (all : List ℕ) × AreAsTold told all × (limit < length all)

-- the whole text was appended to what the writer held; an empty one made no write
abbrev pub WritesWhole : {W : Type 0} → (W → Option (List ℕ)) → W → W → List ℕ → Type 0
WritesWhole contents old new text = Appends (contents old) (contents new) text × (text ≡ [] → new ≡ old)

-- a proper prefix of the text was appended to what the writer held
abbrev pub AppendsFront : Option (List ℕ) → Option (List ℕ) → List ℕ → Type 0
AppendsFront old new text =
    (front : List ℕ) × (rest : List ℕ) × (front ++ rest ≡ text) × (0 < length rest) × Appends old new front
