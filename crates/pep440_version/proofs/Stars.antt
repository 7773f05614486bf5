-- A star stands behind an epoch and a release alone.
use Rattle.std.proofs.Common.{◌≡◌, ℕ, Bool, true, false, if◌then◌else◌, List, Result, Ok, Err, refl, ap}
use Rattle.std.proofs.Common.{subst}
use Rattle.pep440_text.specs.declared.TextFault.{TextFault}
use Rattle.pep440_text.specs.Record.{VersionRecord, PatternRecord, epoch_record}
use Rattle.pep440_text.specs.Reading.{◌>>=◌, suffixed, is_star, head_at, pattern_behind, read_pattern}

starless : (read : Result VersionRecord TextFault) (pattern : PatternRecord)
    → (read >>= λ version. Ok (record { version = version; wildcard = false })) ≡ Ok pattern
    → pattern.wildcard ≡ true → ⊥
starless (Ok version) pattern e w = cc
starless (Err fault) pattern e w = cc

abbrev read_ok : PatternRecord → Result PatternRecord TextFault
read_ok pattern = Ok pattern

plain_same : (version : VersionRecord) (pattern : PatternRecord)
    → read_ok (record { version = version; wildcard = true }) ≡ Ok pattern
    → version ≡ epoch_record version.epoch version.release
    → pattern.version ≡ epoch_record pattern.version.epoch pattern.version.release
plain_same version pattern e p =
    let same : record { version = version; wildcard = true } ≡ pattern = cc in
    let one : version ≡ pattern.version = ap (λ (x : PatternRecord). x.version) same in
    subst (λ (x : VersionRecord). x ≡ epoch_record x.epoch x.release) one p

plain_by : (head : (ℕ × List ℕ) × List ℕ) (star : Bool) (pattern : PatternRecord)
    →
    (if star then Ok (record { version = epoch_record head.0.0 head.0.1; wildcard = true }) else (suffixed head.0 head.1 >>= λ version. Ok (record { version = version; wildcard = false }))) ≡ Ok pattern
    → pattern.wildcard ≡ true → pattern.version ≡ epoch_record pattern.version.epoch pattern.version.release
plain_by head true pattern e w = plain_same (epoch_record head.0.0 head.0.1) pattern e refl
plain_by head false pattern e w = absurd (starless (suffixed head.0 head.1) pattern e w)

plain_behind : (head : Result ((ℕ × List ℕ) × List ℕ) TextFault) (pattern : PatternRecord)
    → (head >>= pattern_behind) ≡ Ok pattern → pattern.wildcard ≡ true
    → pattern.version ≡ epoch_record pattern.version.epoch pattern.version.release
plain_behind (Ok head) pattern e w = plain_by head (is_star head.1) pattern e w
plain_behind (Err fault) pattern e w = absurd (cc)

pub star_is_plain : (text : List ℕ) (pattern : PatternRecord) → read_pattern text ≡ Ok pattern
    → pattern.wildcard ≡ true → pattern.version ≡ epoch_record pattern.version.epoch pattern.version.release
unfolding read_pattern
star_is_plain text pattern e w = plain_behind (head_at text) pattern e w
