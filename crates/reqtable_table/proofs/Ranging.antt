-- Which lines are usable, and what range they have.
use Rattle.std.proofs.Common.{◌≡◌, ◌∙◌, ◌&&◌, ◌||◌, Bool, true, false, not, List, [], ◌∷◌, ◌++◌, map, refl}
use Rattle.std.proofs.Common.{sym, ap, Option, Some, None, Bor, true≢false}
use Rattle.std.specs.List.{list_any, list_all, flat_map}
use Rattle.version_ranges.specs.Point.{Point}
use Rattle.pep440_version.specs.Record.{VersionRecord}
use Rattle.pep440_specifier.specs.Matching.{SpecifierRecord}
use Rattle.pep440_range.specs.Ranges.{range_of, all_hold}
use Rattle.pep508_requirement_text.specs.FrontReading.{Front}
use Rattle.reqtable_range.specs.Together.{lent}
use Rattle.reqtable_answer.specs.Asks.{has_url, specifiers_of}
use Rattle.reqtable_cases.specs.Usable.{members_asked, is_ranged, is_usable, IsRangeOf, IsRangeOfMembers}
use Rattle.reqtable_table.specs.declared.kept.TableLine.{TableLine}
use Rattle.reqtable_table.specs.Kept.{kept_source, kept_front}
use Rattle.reqtable_table.specs.KeptLines.{lent_lines}

abbrev asks_lent : List (Bor TableLine) → List Front
asks_lent lines = map kept_front (lent_lines lines)

url_by : (b : Bool) (members : List SpecifierRecord) → has_url (record { name = []; extras = []; source = kept_source b members }) ≡ b
url_by true members = refl
url_by false members = refl

any_url : (lines : List (Bor TableLine)) → list_any has_url (asks_lent lines) ≡ list_any (λ line. line.now.is_url) lines
any_url [] = refl
any_url (line ∷ lines) =
    let here = url_by line.now.is_url line.now.specifiers.members in
    let rest = any_url lines in
    (λ i. here i || rest i)

pub some_url : (lines : List (Bor TableLine)) → list_any (λ line. line.now.is_url) lines ≡ true → is_usable (asks_lent lines) ≡ false
some_url lines e =
    ap (λ b. not b && list_all is_ranged (members_asked (asks_lent lines))) (any_url lines ∙ e)

own_by : (b : Bool) (members : List SpecifierRecord) → b ≡ false → specifiers_of (kept_source b members) ≡ members
own_by true members e = absurd (true≢false e)
own_by false members e = refl

none_parts : (a b : Bool) → (a || b) ≡ false → (a ≡ false) × (b ≡ false)
none_parts true b e = absurd (true≢false e)
none_parts false b e = (refl, e)

members_are : (lines : List (Bor TableLine)) → list_any (λ line. line.now.is_url) lines ≡ false →
    members_asked (asks_lent lines) ≡ flat_map (λ line. line.specifiers.members) (lent_lines lines)
members_are [] e = refl
members_are (line ∷ lines) e =
    let parts = none_parts line.now.is_url (list_any (λ l. l.now.is_url) lines) e in
    let here = own_by line.now.is_url line.now.specifiers.members parts.0 in
    let rest = members_are lines parts.1 in
    (λ i. here i ++ rest i)

range_by : (asks : List Front) (members : List SpecifierRecord) (range : Option (List (Point VersionRecord))) →
    list_any has_url asks ≡ false → members_asked asks ≡ members → IsRangeOfMembers members range → IsRangeOf asks range
range_by asks members None none e is =
    (λ i. not (none i) && list_all is_ranged (e i)) ∙ is
range_by asks members (Some set) none e is = (
  (λ i. not (none i) && list_all is_ranged (e i)) ∙ is.0,
  λ p. is.1 p ∙ sym (ap (λ ms. all_hold (map range_of ms) p) e),
)

pub no_url : (lines : List (Bor TableLine)) (members : List (Bor SpecifierRecord)) (range : Option (List (Point VersionRecord))) →
    list_any (λ line. line.now.is_url) lines ≡ false →
    lent members ≡ flat_map (λ line. line.specifiers.members) (lent_lines lines) →
    IsRangeOfMembers (lent members) range → IsRangeOf (asks_lent lines) range
no_url lines members range e are is =
    range_by (asks_lent lines) (lent members) range (any_url lines ∙ e) (members_are lines e ∙ sym are) is
