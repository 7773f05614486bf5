-- What equals a question that asks of good texts asks so too, where its version is in its shortest spelling.
use Rattle.std.proofs.Common.{◌≡◌, ◌∙◌, ℕ, ◌<◌, ◌^◌, true, List, Option, Some, None, refl, ap, sym, subst}
use Rattle.std.proofs.Common.{Equal}
use Rattle.std.proofs.lemmas.List.Elements.{All-from_recursion}
use Rattle.std.specs.Cmp.{tied_itself, tied_back, unsigned_Decides}
use Rattle.std.specs.Prelude.{IfSome}
use Rattle.version_ranges.specs.OrderLaws.{boundaries_total}
use Rattle.version_ranges.specs.declared.boundary.Boundary.{Boundary}
use Rattle.version_ranges.specs.declared.boundary.Boundary.TheVariants as boundary
use Rattle.pep440_text.specs.Printable.{IsPrintable}
use Rattle.pep440_text.specs.Record.{VersionRecord}
use Rattle.pep440_text.proofs.Releases.{by_recursion}
use Rattle.pep440_version.specs.Order.{version_cmp}
use Rattle.pep440_version.specs.OrderLaws.{version_cmp_total}
use Rattle.pep508_diagram.specs.Diagram.{Diagram, Leaf, Test}
use Rattle.pep508_diagram.specs.Question.{Question, VersionBelow, TextBelow, IsSet, question_cmp}
use Rattle.pep508_diagram.specs.Question.{version_rank}
use Rattle.pep508_diagram.specs.Shortened.{post_beside, shortest, shortened, AsksOfShort}
use Rattle.pep508_diagram.proofs.Questions.{questions_total, versions_order}
use Rattle.pep508_diagram.proofs.Shortened.{shortened_tied, shortened_twice}
use Rattle.pep508_marker_text_laws.proofs.Spelled.{diagrams_spelled}
use Rattle.pep508_reading_back.specs.Diagrams.{StandsAt}
use Rattle.pep508_reading_back.specs.Told.{AsksOf}
use Rattle.pep508_reading_back.proofs.ToldReleases.{short_small}

-- the question of the shortest spelling
abbrev short_question : Question → Question
short_question (VersionBelow key b) = VersionBelow key (shortened b)
short_question (TextBelow key b) = TextBelow key b
short_question (IsSet asked) = IsSet asked

asks_of_short : (r : Question) → AsksOfShort (short_question r)
asks_of_short (VersionBelow key b) = shortened_twice b
asks_of_short (TextBelow key b) = tt
asks_of_short (IsSet asked) = tt

short_tied : (r : Question) → question_cmp r (short_question r) ≡ Equal
short_tied (VersionBelow key b) =
    versions_order key key b (shortened b) ((unsigned_Decides (version_rank key) (version_rank key)).1 refl)
    ∙ tied_back (boundaries_total version_cmp version_cmp_total) (shortened b) b (shortened_tied b)
short_tied (TextBelow key b) = tied_itself questions_total (TextBelow key b)
short_tied (IsSet asked) = tied_itself questions_total (IsSet asked)

abbrev root_or : Question → Diagram Question → Question
root_or q (Leaf b) = q
root_or q (Test r low high) = r

abbrev asking : Question → Diagram Question
asking q = Test q (Leaf true) (Leaf true)

-- equal questions, of which one is short, are the other one's short question
short_same : (q r : Question) → AsksOfShort q → question_cmp q r ≡ Equal → q ≡ short_question r
short_same q r short e =
    ap (root_or q) (diagrams_spelled (asking q) (asking (short_question r)) (short, tt, tt)
    (asks_of_short r, tt, tt) (questions_total.congr q r (short_question r) e ∙ short_tied r, refl, refl))

-- ---- what is told

fits_beside : (most post : Option ℕ) → IfSome post (λ number. number < 2 ^ 64) →
    IfSome (post_beside most post) (λ number. number < 2 ^ 64)
fits_beside (Some number) post fits = tt
fits_beside None post fits = fits

shortest_printable : (version : VersionRecord) → IsPrintable version → IsPrintable (shortest version)
shortest_printable version is =
    let small = short_small version.release (by_recursion version.release is.fits.release) in
    record {
      no_least = is.no_least;
      no_most = is.no_most;
      some_number = small.some;
      fits = record {
        epoch = is.fits.epoch;
        release = All-from_recursion (λ number. number < 2 ^ 64) (shortest version).release small.small;
        pre = is.fits.pre;
        post = fits_beside version.most version.post is.fits.post;
        dev = is.fits.dev;
      };
      segments = is.segments;
    }

shortened_told : (b : Boundary VersionRecord) → StandsAt IsPrintable b → StandsAt IsPrintable (shortened b)
shortened_told (boundary.At version) is = shortest_printable version is
shortened_told (boundary.JustAbove version) is = shortest_printable version is

module _ (good : List ℕ → Type 0) where
  short_told : (r : Question) → AsksOf good r → AsksOf good (short_question r)
  short_told (VersionBelow key b) told = shortened_told b told
  short_told (TextBelow key b) told = told
  short_told (IsSet asked) told = told

  pub equal_told : (q r : Question) → AsksOfShort q → question_cmp q r ≡ Equal → AsksOf good r → AsksOf good q
  equal_told q r short e told = subst (AsksOf good) (sym (short_same q r short e)) (short_told r told)
