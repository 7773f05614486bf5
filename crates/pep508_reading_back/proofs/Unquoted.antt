-- A requirement that was read, and whose marker has no single quote, is one that can be read back.
use Rattle.std.proofs.Common.{ℕ, List, Result, refl}
use Rattle.std.specs.Str.{IsUtf8}
use Rattle.version_ranges.specs.declared.boundary.Boundary.TheVariants.{At, JustAbove}
use Rattle.pep440_text.specs.Printable.{IsPrintable}
use Rattle.pep440_text.specs.Record.{VersionRecord}
use Rattle.pep508_diagram.specs.declared.variable.Flag.TheVariants.{In, Contains, Extra, Arbitrary}
use Rattle.pep508_diagram.specs.Diagram.{Diagram, Leaf, Test}
use Rattle.pep508_diagram.specs.Question.{Question, VersionBelow, TextBelow, IsSet, IsCanonical}
use Rattle.pep508_diagram.specs.Shortened.{HasShortVersions}
use Rattle.pep508_marker_text_laws.specs.ReleaseBounds.{AsksOfReleases, HasReleasesAlone}
use Rattle.pep508_requirement_ref.specs.declared.requirement_ref.RequirementRef.{RequirementRef}
use Rattle.pep508_reading_back.specs.Diagrams.{AsksReadably, IsReadableDiagram}
use Rattle.pep508_diagram.specs.Questions.{AllQuestions}
use Rattle.pep508_reading_back.specs.ReadViews.{AsksNoUrl, ShowsRead}
use Rattle.pep508_reading_back.proofs.ReadViews.{IsOfMarker}
use Rattle.pep508_reading_back.proofs.WritableDiagrams.{written_marker}
use Rattle.pep508_marker_text_laws.specs.MarkerText.{marker_text}
use Rattle.pep508_reading_back.specs.Lines.{IsPieceOf}
use Rattle.pep508_reading_back.specs.Told.{AsksOf, IsTold}
use Rattle.pep508_reading_back.specs.Unquoted.{AsksUnquoted, AsksOfModernKey, IsPlainDiagram}
use Rattle.pep508_reading_back.specs.Unquoted.{IsUnquotedDiagram}
use Rattle.pep508_reading_back.specs.Views.{IsReadableView}
use Rattle.pep508_reading_back.specs.Writable.{AsksWritably, IsSayable, IsWritableDiagram}
use Rattle.pep508_reading_back.proofs.Comparisons.{plain_name, plain_quotable}
use Rattle.pep508_reading_back.proofs.ReadViews.{ReadIsWritten, read_is_readable}
use Rattle.pep508_reading_back.proofs.Told.{tree_told, pieces_told}
use Rattle.pep508_tree_ref.specs.Lent.{tree_in}
use Rattle.pep508_tree_ref.specs.TreeIn.{diagram_in}

-- what the marker of a requirement that was read asks is about pieces of its text
pub shown_pieces : {T E : Type 0} (Reads : List ℕ → Result T E → Type 0) → ReadIsWritten Reads →
    (text : List ℕ) (shown : RequirementRef T E) → IsUtf8 text → ShowsRead Reads text shown →
    IsCanonical (diagram_in (tree_in shown.marker)) → HasShortVersions (diagram_in (tree_in shown.marker)) →
    AllQuestions (AsksOf (IsPieceOf text)) (diagram_in (tree_in shown.marker))
shown_pieces Reads written text shown utf8 h canonical short =
    let w = written h.old text h.requirement h.is_read in
    tree_told h.old h.now h.requirement.marker (tree_in shown.marker) text w.0 w.1 utf8 w.2 w.6 h.keeps
    h.shows.marker
    canonical short

-- so a text can say it
shown_told : {T E : Type 0} (Reads : List ℕ → Result T E → Type 0) → ReadIsWritten Reads → (text : List ℕ)
    (shown : RequirementRef T E) → IsUtf8 text → ShowsRead Reads text shown →
    IsCanonical (diagram_in (tree_in shown.marker)) → HasShortVersions (diagram_in (tree_in shown.marker)) →
    AllQuestions IsTold (diagram_in (tree_in shown.marker))
shown_told Reads written text shown utf8 h canonical short =
    pieces_told text (diagram_in (tree_in shown.marker))
    (shown_pieces Reads written text shown utf8 h canonical short)

question_readable : (q : Question) → IsTold q → AsksUnquoted q → AsksOfReleases q → AsksOfModernKey q →
    AsksReadably q
question_readable (VersionBelow key (At version)) t u r m = (r, t.some_number)
question_readable (VersionBelow key (JustAbove version)) t u r m = (r, t.some_number)
question_readable (TextBelow key (At text)) t u r m = (m, record { encoded = t; unquoted = u })
question_readable (TextBelow key (JustAbove text)) t u r m = (m, record { encoded = t; unquoted = u })
question_readable (IsSet (In key text)) t u r m = (m, record { encoded = t; unquoted = u })
question_readable (IsSet (Contains key text)) t u r m = (m, record { encoded = t; unquoted = u })
question_readable (IsSet (Extra name)) t u r m = t
question_readable (IsSet (Arbitrary text)) t u r m = (t.1, record { encoded = t.0; unquoted = u })

pub told_is_readable : (d : Diagram Question) → AllQuestions IsTold d → AllQuestions AsksUnquoted d →
    HasReleasesAlone d → AllQuestions AsksOfModernKey d → IsReadableDiagram d
told_is_readable (Leaf b) t u r m = tt
told_is_readable (Test q low high) t u r m = (
  question_readable q t.0 u.0 r.0 m.0,
  told_is_readable low t.1 u.1 r.1 m.1,
  told_is_readable high t.2 u.2 r.2 m.2,
)

pub plain_is_readable : {T E : Type 0} (Reads : List ℕ → Result T E → Type 0) → ReadIsWritten Reads →
    (text : List ℕ) (shown : RequirementRef T E) → IsUtf8 text → ShowsRead Reads text shown →
    AsksNoUrl shown.version_or_url.now → IsPlainDiagram (diagram_in (tree_in shown.marker)) →
    IsCanonical (diagram_in (tree_in shown.marker)) → HasShortVersions (diagram_in (tree_in shown.marker)) →
    IsReadableView shown
plain_is_readable Reads written text shown utf8 h n plain canonical short =
    let d = diagram_in (tree_in shown.marker) in
    let good = read_is_readable Reads written text shown h n in
    record {
      name = good.name;
      extras = good.extras;
      asked = good.asked;
      marker = told_is_readable d (shown_told Reads written text shown utf8 h canonical short)
          plain.unquoted plain.releases
          plain.keys;
      sometimes = plain.sometimes;
    }

-- ---- what is written as some marker

pub sayable : (version : VersionRecord) → IsPrintable version → IsSayable version
sayable version h = record {
  no_least = refl;
  no_most = refl;
  some_number = h.some_number;
  fits = record {
    epoch = h.fits.epoch;
    release = h.fits.release;
    pre = h.fits.pre;
    post = h.fits.post;
    dev = h.fits.dev;
  };
  segments = tt;
}

question_writable : (q : Question) → IsTold q → AsksUnquoted q → AsksWritably q
question_writable (VersionBelow key (At version)) t u = sayable version t
question_writable (VersionBelow key (JustAbove version)) t u = sayable version t
question_writable (TextBelow key (At text)) t u = record { encoded = t; unquoted = u }
question_writable (TextBelow key (JustAbove text)) t u = record { encoded = t; unquoted = u }
question_writable (IsSet (In key text)) t u = record { encoded = t; unquoted = u }
question_writable (IsSet (Contains key text)) t u = record { encoded = t; unquoted = u }
question_writable (IsSet (Extra name)) t u = plain_quotable name (plain_name name name t)
question_writable (IsSet (Arbitrary text)) t u = record { encoded = t.0; unquoted = u }

pub told_is_writable : (d : Diagram Question) → AllQuestions IsTold d → AllQuestions AsksUnquoted d →
    IsWritableDiagram d
told_is_writable (Leaf b) t u = tt
told_is_writable (Test q low high) t u =
    (question_writable q t.0 u.0, told_is_writable low t.1 u.1, told_is_writable high t.2 u.2)

pub unquoted_is_of_marker : {T E : Type 0} (Reads : List ℕ → Result T E → Type 0) → ReadIsWritten Reads →
    (text : List ℕ) (shown : RequirementRef T E) → IsUtf8 text → ShowsRead Reads text shown →
    IsUnquotedDiagram (diagram_in (tree_in shown.marker)) → IsCanonical (diagram_in (tree_in shown.marker)) →
    HasShortVersions (diagram_in (tree_in shown.marker)) →
    IsOfMarker (marker_text (diagram_in (tree_in shown.marker)))
unquoted_is_of_marker Reads written text shown utf8 h unquoted canonical short behind is =
    let d = diagram_in (tree_in shown.marker) in
    written_marker d behind canonical
    (told_is_writable d (shown_told Reads written text shown utf8 h canonical short) unquoted) is
