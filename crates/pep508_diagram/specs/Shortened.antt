-- Versions in their shortest spelling (PEP 440, "Final releases"): one of those that are equal, and the
-- same place to bound a set.
use Rattle.std.specs.Prelude.{◌≡◌, ℕ, List, Option, Some, None}
use Rattle.std.specs.List.{AllByRecursion}
use Rattle.version_ranges.specs.declared.boundary.Boundary.{Boundary}
use Rattle.version_ranges.specs.declared.boundary.Boundary.TheVariants.{At, JustAbove}
use Rattle.pep440_text.specs.Record.{VersionRecord}
use Rattle.pep440_version.specs.Changes.{or_zero}
use Rattle.pep440_version.specs.Order.{stripped}
use Rattle.pep508_diagram.specs.declared.branch.Branch.{Branch}
use Rattle.pep508_diagram.specs.Diagram.{Diagram}
use Rattle.pep508_diagram.specs.Question.{Question, VersionBelow, TextBelow, IsSet}
use Rattle.pep508_diagram.specs.Questions.{AllQuestions}

-- the post-release, except with `most`, with which it means nothing
abbrev pub post_beside : Option ℕ → Option ℕ → Option ℕ
post_beside (Some number) post = None
post_beside None post = post

-- the version without the zeros at its release's end, down to one number, and without a post-release where
-- `most` is there
abbrev pub shortest : VersionRecord → VersionRecord
shortest version =
    record version {
      release = or_zero (stripped version.release);
      post = post_beside version.most version.post;
    }

-- the endpoint at the shortest spelling
abbrev pub shortened : Boundary VersionRecord → Boundary VersionRecord
shortened (At version) = At (shortest version)
shortened (JustAbove version) = JustAbove (shortest version)

abbrev pub shortened_branch : {C : Type 0} → Branch VersionRecord C → Branch VersionRecord C
shortened_branch branch = record branch { boundary = shortened branch.boundary }

abbrev pub IsShort : Boundary VersionRecord → Type 0
IsShort boundary = shortened boundary ≡ boundary

-- each endpoint is at a shortest spelling
abbrev pub AllShort : {C : Type 0} → List (Branch VersionRecord C) → Type 0
AllShort later = AllByRecursion (λ branch. IsShort branch.boundary) later

abbrev pub AsksOfShort : Question → Type 0
AsksOfShort (VersionBelow key boundary) = IsShort boundary
AsksOfShort (TextBelow key boundary) = Unit {0}
AsksOfShort (IsSet flag) = Unit {0}

-- each version in the diagram's questions is in its shortest spelling
abbrev pub HasShortVersions : Diagram Question → Type 0
HasShortVersions = AllQuestions AsksOfShort
