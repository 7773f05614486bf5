-- Lines that mean what others do require the same.
use Rattle.std.proofs.Common.{◌≡◌, ◌∙◌, ◌&&◌, ◌||◌, ◌⊎◌, inl, inr, not, Bool, true, false, List, [], ◌∷◌}
use Rattle.std.proofs.Common.{map, filter}
use Rattle.std.proofs.Common.{refl, sym, ap, true≢false}
use Rattle.std.specs.List.{list_any, list_all, AllByRecursion}
use Rattle.std.proofs.lemmas.List.Folds.{list_all-append}
use Rattle.std.specs.Str.{bytes_eq}
use Rattle.version_ranges.specs.Point.{Point}
use Rattle.pep440_version.specs.Record.{VersionRecord}
use Rattle.pep440_version.specs.Changes.{is_prerelease}
use Rattle.pep440_specifier.specs.Matching.{SpecifierRecord}
use Rattle.pep440_range.specs.Ranges.{range_of, range_holds, all_hold}
use Rattle.pep508_diagram.specs.Question.{Valuation}
use Rattle.pep508_requirement_text.specs.FrontReading.{Front}
use Rattle.reqtable_answer.specs.Asks.{specifiers_of, has_extra, has_prerelease}
use Rattle.reqtable_answer.proofs.Tests.{any_kept, any_mapped}
use Rattle.reqtable_requirements.specs.Asks.{applies, asks_of}
use Rattle.reqtable_requirements.specs.LineReading.{LineRecord}
use Rattle.reqtable_cases.specs.Usable.{members_asked, points_of}
use Rattle.reqtable_cases.specs.Requires.{AskAlike, RequireAlike}

abbrev pub Test : Type 0
Test = SpecifierRecord → Bool

-- two lines of a package apply together and ask for the same
pub record MeanTheSame (a b : LineRecord) : Type 0 where
  pub extras : a.front.extras ≡ b.front.extras
  pub every : (test : Test) → list_all test (specifiers_of a.front.source)
      ≡ list_all test (specifiers_of b.front.source)
  pub some : (test : Test) → list_any test (specifiers_of a.front.source)
      ≡ list_any test (specifiers_of b.front.source)
  pub applies : (v : Valuation) → applies v a ≡ applies v b

abbrev pub IsMeantIn : List LineRecord → LineRecord → Type 0
IsMeantIn [] line = ⊥
IsMeantIn (other ∷ others) line = MeanTheSame line other ⊎ IsMeantIn others line

abbrev pub AreMeantIn : List LineRecord → List LineRecord → Type 0
AreMeantIn others lines = AllByRecursion (IsMeantIn others) lines

-- ---- what some of the lines are

either : {X : Type 0} (b rest : Bool) → (b || rest) ≡ true → (b ≡ true → X) → (rest ≡ true → X) → X
either true rest t f g = f refl
either false rest t f g = g t

or_later : (b rest : Bool) → rest ≡ true → (b || rest) ≡ true
or_later true rest t = refl
or_later false rest t = t

both_ways : (a b : Bool) → (a ≡ true → b ≡ true) → (b ≡ true → a ≡ true) → a ≡ b
both_ways true b f g = sym (f refl)
both_ways false true f g = g refl
both_ways false false f g = refl

module _ (f : LineRecord → Bool) (same : (a b : LineRecord) → MeanTheSame a b → f a ≡ f b) where
  found_in : (others : List LineRecord) (line : LineRecord) → IsMeantIn others line → f line ≡ true →
      list_any f others ≡ true
  found_in [] line h t = absurd h
  found_in (other ∷ others) line (inl one) t =
      ap (λ b. b || list_any f others) (sym (same line other one) ∙ t)
  found_in (other ∷ others) line (inr later) t =
      or_later (f other) (list_any f others) (found_in others line later t)

  any_in : (others lines : List LineRecord) → AreMeantIn others lines → list_any f lines ≡ true →
      list_any f others ≡ true
  any_in others [] all t = absurd (true≢false (sym t))
  any_in others (line ∷ lines) all t =
      either (f line) (list_any f lines) t (found_in others line all.0) (any_in others lines all.1)

  pub any_alike : (lines others : List LineRecord) → AreMeantIn others lines → AreMeantIn lines others →
      list_any f lines ≡ list_any f others
  any_alike lines others ours theirs =
      both_ways (list_any f lines) (list_any f others) (any_in others lines ours) (any_in lines others theirs)

-- ---- what those ask for that apply

asked_any : (f : Front → Bool) (v : Valuation) (lines : List LineRecord) →
    list_any f (asks_of v lines) ≡ list_any (λ line. applies v line && f line.front) lines
asked_any f v lines =
    any_mapped f (λ line. line.front) (filter (applies v) lines) ∙ any_kept (λ line. f line.front) (applies v) lines

module _ (f : Front → Bool) (same : (a b : LineRecord) → MeanTheSame a b → f a.front ≡ f b.front) where
  asks_any : (v : Valuation) (lines others : List LineRecord) → AreMeantIn others lines → AreMeantIn lines others →
      list_any f (asks_of v lines) ≡ list_any f (asks_of v others)
  asks_any v lines others ours theirs =
      asked_any f v lines
      ∙ any_alike (λ line. applies v line && f line.front) (λ a b h i. h.applies v i && same a b h i)
      lines others ours theirs
      ∙ sym (asked_any f v others)

negated : (a b c : Bool) → b ≡ not c → (a && b) ≡ not (not a || c)
negated true b c h = h
negated false b c h = refl

all_none : {X : Type 0} (f : X → Bool) (xs : List X) → list_all f xs ≡ not (list_any (λ x. not (f x)) xs)
all_none f [] = refl
all_none f (x ∷ xs) = negated (f x) (list_all f xs) (list_any (λ y. not (f y)) xs) (all_none f xs)

abbrev holds_point : Point VersionRecord → Test
holds_point p s = range_holds (range_of s) p

all_mapped : (p : Point VersionRecord) (members : List SpecifierRecord) →
    all_hold (map range_of members) p ≡ list_all (holds_point p) members
all_mapped p [] = refl
all_mapped p (s ∷ members) = ap (λ b. range_holds (range_of s) p && b) (all_mapped p members)

abbrev asks_point : Point VersionRecord → Front → Bool
asks_point p ask = list_all (holds_point p) (specifiers_of ask.source)

members_all : (p : Point VersionRecord) (asks : List Front) →
    list_all (holds_point p) (members_asked asks) ≡ list_all (asks_point p) asks
members_all p [] = refl
members_all p (ask ∷ asks) =
    list_all-append (holds_point p) (specifiers_of ask.source) (members_asked asks)
    ∙ ap (λ b. asks_point p ask && b) (members_all p asks)

points_none : (p : Point VersionRecord) (asks : List Front) →
    points_of asks p ≡ not (list_any (λ ask. not (asks_point p ask)) asks)
points_none p asks = all_mapped p (members_asked asks) ∙ members_all p asks ∙ all_none (asks_point p) asks

-- ---- both the same

some_or_none : (asks others : List Front) → list_any (λ ask. true) asks ≡ list_any (λ ask. true) others →
    AskAlike asks others → RequireAlike asks others
some_or_none [] [] e h = tt
some_or_none [] (other ∷ others) e h = absurd (true≢false (sym e))
some_or_none (ask ∷ asks) [] e h = absurd (true≢false e)
some_or_none (ask ∷ asks) (other ∷ others) e h = h

pub require_alike : (lines others : List LineRecord) → AreMeantIn others lines → AreMeantIn lines others →
    (v : Valuation) → RequireAlike (asks_of v lines) (asks_of v others)
require_alike lines others ours theirs v =
    some_or_none (asks_of v lines) (asks_of v others)
    (asks_any (λ ask. true) (λ a b h. refl) v lines others ours theirs)
    record {
      extras = λ e. asks_any (has_extra e) (λ a b h. ap (list_any (bytes_eq e)) h.extras) v lines others ours theirs;
      points = λ p. points_none p (asks_of v lines)
          ∙ ap not (asks_any (λ ask. not (asks_point p ask)) (λ a b h. ap not (h.every (holds_point p))) v lines others
          ours theirs)
          ∙ sym (points_none p (asks_of v others));
      prerelease = asks_any has_prerelease (λ a b h. h.some (λ s. is_prerelease s.version)) v lines others ours theirs;
    }
