-- Texts that are no lists of specifiers, for their first piece that is none.
use Rattle.std.proofs.Common.{◌≡◌, ◌≢◌, ◌∙◌, ◌-◌, ℕ, true, List, Option, Some, None, ap, refl, sym}
use Rattle.std.specs.Option.{option_map}
use Rattle.std.specs.Str.{is_utf8}
use Rattle.read_outcome.specs.Outcome.{Tells}
use Rattle.pep440_specifier.specs.SpecifierReading.{SpecifierFault, told_specifier}
use Rattle.pep440_specifier.specs.SpecifierErrorPrints.{specifier_error_text}
use Rattle.pep440_specifier.specs.declared.parse_error.VersionSpecifierParseError.{VersionSpecifierParseError}
use Rattle.pep440_specifier_list.specs.ListReading.{fault_at, list_reading}
use Rattle.reqs_c_reply.specs.declared.place.Place.{Place}
use Rattle.reqs_c_reply.specs.Endings.{span}
use Rattle.reqs_c_versions.specs.Specifiers.{IsNoList}

module _ (input : ℕ) (bytes text line : List ℕ) (start end : ℕ) (error : VersionSpecifierParseError)
    (e : is_utf8 bytes ≡ true) (is : text ≡ bytes) where
  by_fault : (told : Option SpecifierFault) → told_specifier error ≡ told → told ≢ None
      → Tells (option_map (fault_at line start end) told) (list_reading text)
      → IsNoList input bytes (span input start (end - start)) (specifier_error_text error)
  by_fault None t plain tells = absurd (plain refl)
  by_fault (Some fault) t plain tells = record {
    fault = fault_at line start end fault;
    error = error;
    is_utf8_text = e;
    reading = ap list_reading (sym is) ∙ tells;
    tells = t;
    stands = refl;
    says = refl;
  }

  -- the piece's error tells its fault, and the piece's ends are told
  pub no_list : (place : Place) (from to : ℕ) → place ≡ span input from (to - from) → from ≡ start → to ≡ end
      → told_specifier error ≢ None
      → Tells (option_map (fault_at line start end) (told_specifier error)) (list_reading text)
      → IsNoList input bytes place (specifier_error_text error)
  no_list place from to stands starts ends plain tells =
      let there : place ≡ span input start (end - start) = cc in
      rw there (by_fault (told_specifier error) refl plain tells)
