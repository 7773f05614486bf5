-- Cuts of some characters at the first that passes a test.
use Rattle.std.specs.Prelude.{ℕ, ◌==◌, nat_lt, Bool, false, if◌then◌else◌, List, [], ◌∷◌, length, drop}
use Rattle.std.specs.Prelude.{Option, Some, None, encode_utf8_all}
use Rattle.std.specs.List.{before_first, after_first, position_or_len}

-- whether the first character passes a test
abbrev pub begins_by : (ℕ → Bool) → List ℕ → Bool
begins_by test [] = false
begins_by test (c ∷ cs) = test c

-- the characters before the first that passes a test, and those from it on
abbrev pub cut_before : (ℕ → Bool) → List ℕ → List ℕ × List ℕ
cut_before test cs = (before_first test cs, drop (position_or_len test cs) cs)

-- the characters before the first such one, as a text, and those from it on
abbrev pub encoded_cut : (ℕ → Bool) → List ℕ → List ℕ × List ℕ
encoded_cut test cs = (encode_utf8_all (cut_before test cs).0, (cut_before test cs).1)

-- the text before the first such character and the characters after it, where there is one
abbrev pub cut_around : ℕ → List ℕ → Option (List ℕ × List ℕ)
cut_around c cs =
    if nat_lt (position_or_len (λ d. d == c) cs) (length cs)
    then Some (encode_utf8_all (before_first (λ d. d == c) cs), after_first (λ d. d == c) cs)
    else None
