-- Lists that require the same cover each other, and covering is transitive.
use Rattle.std.proofs.Common.{List, [], ◌∷◌, sym}
use Rattle.pep508_requirement_text.specs.FrontReading.{Front}
use Rattle.reqtable_requirements.specs.LineReading.{LineRecord}
use Rattle.reqtable_cases.specs.Requires.{RequireAlike, RequireTheSame, asked_of}
use Rattle.reqtable_compare.specs.Relations.{IsCovered}
use Rattle.reqtable_compare.proofs.Likeness.{alike_covered}
use Rattle.reqtable_covers.specs.Covering.{CoversLines}

turned : (asks others : List Front) → RequireAlike asks others → RequireAlike others asks
turned [] [] h = tt
turned [] (o ∷ os) h = h
turned (x ∷ xs) [] h = h
turned (x ∷ xs) (o ∷ os) h = record {
  extras = λ e. sym (h.extras e);
  points = λ p. sym (h.points p);
  prerelease = sym h.prerelease;
}

pub same_covers : (left right : List LineRecord) → RequireTheSame left right → CoversLines left right
same_covers left right same name v = alike_covered (asked_of name v left) (asked_of name v right) (same name v)

pub same_covered : (left right : List LineRecord) → RequireTheSame left right → CoversLines right left
same_covered left right same name v =
    alike_covered (asked_of name v right) (asked_of name v left)
    (turned (asked_of name v left) (asked_of name v right) (same name v))

through : (one two three : List Front) → IsCovered one two → IsCovered two three → IsCovered one three
through [] two [] h k = tt
through (x ∷ xs) two [] h k = tt
through [] [] (z ∷ zs) h k = k
through [] (y ∷ ys) (z ∷ zs) h k = h
through (x ∷ xs) [] (z ∷ zs) h k = absurd k
through (x ∷ xs) (y ∷ ys) (z ∷ zs) h k = record {
  extras = λ e there. h.extras e (k.extras e there);
  points = λ p there. k.points p (h.points p there);
}

pub covers_through : (lock between lines : List LineRecord) → CoversLines lock between → CoversLines between lines →
    CoversLines lock lines
covers_through lock between lines h k name v =
    through (asked_of name v lock) (asked_of name v between) (asked_of name v lines) (h name v) (k name v)
