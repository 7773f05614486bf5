-- What the marked ones of some lines ask for, line by line.
use Rattle.std.proofs.Common.{◌≡◌, ◌∙◌, ◌≤◌, ◌<◌, ◌+◌, ◌&&◌, ◌||◌, ℕ, zero, suc, Bool, true, false, cond}
use Rattle.std.proofs.Common.{List, [], ◌∷◌, ◌++◌, map, take, length, set, get_or, refl, sym, ap, subst}
use Rattle.std.proofs.Common.{arith, append-nil}
use Rattle.std.proofs.lemmas.List.{length-append, length-map, get_or-map, take_all}
use Rattle.std.proofs.lemmas.List.Concat.{flat_map-append}
use Rattle.std.proofs.lemmas.List.Folds.{list_all-append, list_any-append}
use Rattle.std.specs.Borrow.{Bor}
use Rattle.std.specs.List.{list_any, list_all, AllZip}
use Rattle.std.specs.Str.{bytes_eq}
use Rattle.pep440_version.specs.Record.{VersionRecord}
use Rattle.pep440_specifier.specs.Matching.{SpecifierRecord}
use Rattle.pep508_diagram.specs.Question.{Valuation}
use Rattle.pep508_tree.specs.Meaning.{NodeRecord, holds}
use Rattle.pep508_requirement_text.specs.FrontReading.{Front}
use Rattle.reqtable_answer.specs.Asks.{specifiers_of, is_url, has_url, has_extra, ask_takes}
use Rattle.reqtable_answer.proofs.Tests.{any_mapped}
use Rattle.pep508_cases.specs.Sets.{marked}
use Rattle.reqtable_cases.specs.Usable.{members_asked}
use Rattle.reqtable_table.specs.declared.kept.TableLine.{TableLine}
use Rattle.reqtable_table.specs.Answers.{SameLine, kept_marks}
use Rattle.reqtable_table.specs.Choosing.{case_asks, AskedMore}
use Rattle.reqtable_table.specs.Kept.{KeptLine, kept_source, kept_front}
use Rattle.reqtable_table.specs.KeptLines.{line_record}
use Rattle.reqtable_table.proofs.AskedLines.{records, same_fronts, none_more, more_on, more_within, more_at}
use Rattle.reqtable_table.proofs.Marking.{marked_more, marked_map}

abbrev pub fronts : List TableLine → List Front
fronts lines = map kept_front (records lines)

-- what the marked ones of the first so many lines ask for
abbrev pub asks_to : ℕ → List Bool → List TableLine → List Front
asks_to i marks lines = marked (take i marks) (take i (fronts lines))

-- the marked ones of the first so many come first
marked_front : {A : Type 0} (n : ℕ) (marks : List Bool) (xs : List A) →
    (rest : List A) × (marked marks xs ≡ marked (take n marks) (take n xs) ++ rest)
marked_front zero marks xs = (marked marks xs, refl)
marked_front (suc n) [] xs = ([], refl)
marked_front (suc n) (true ∷ marks) [] = ([], refl)
marked_front (suc n) (false ∷ marks) [] = ([], refl)
marked_front (suc n) (true ∷ marks) (x ∷ xs) =
    let more = marked_front n marks xs in
    (more.0, ap (λ l. x ∷ l) more.1)
marked_front (suc n) (false ∷ marks) (x ∷ xs) = marked_front n marks xs

-- ---- flags of marked things

any_here : {A : Type 0} (f : A → Bool) (x : A) (mark : Bool) → (mark && f x) ≡ false →
    list_any f (cond mark (x ∷ []) []) ≡ false
any_here f x true e = λ i. e i || false
any_here f x false e = refl

any_next : {A : Type 0} (f : A → Bool) (marks : List Bool) (xs : List A) (i : ℕ) (mark : Bool) (x : A) →
    length marks ≡ length xs → i < length xs → mark ≡ get_or marks i false → x ≡ get_or xs i x →
    list_any f (marked (take i marks) (take i xs)) ≡ false →
    list_any f (marked (take (i + 1) marks) (take (i + 1) xs)) ≡ list_any f (cond mark (x ∷ []) [])
any_next f marks xs i mark x same within m e none =
    ap (list_any f) (marked_more marks xs i mark false x same within (sym m) e)
    ∙ list_any-append f (marked (take i marks) (take i xs)) (cond mark (x ∷ []) [])
    ∙ (λ k. none k || list_any f (cond mark (x ∷ []) []))

pub any_none : {A : Type 0} (f : A → Bool) (marks : List Bool) (xs : List A) (i : ℕ) (mark : Bool) (x : A) →
    length marks ≡ length xs → i < length xs → mark ≡ get_or marks i false → x ≡ get_or xs i x →
    list_any f (marked (take i marks) (take i xs)) ≡ false → (mark && f x) ≡ false →
    list_any f (marked (take (i + 1) marks) (take (i + 1) xs)) ≡ false
any_none f marks xs i mark x same within m e none here =
    any_next f marks xs i mark x same within m e none ∙ any_here f x mark here

pub any_found : {A : Type 0} (f : A → Bool) (marks : List Bool) (xs : List A) (i : ℕ) (mark : Bool) (x : A) →
    length marks ≡ length xs → i < length xs → mark ≡ get_or marks i false → x ≡ get_or xs i x →
    list_any f (marked (take i marks) (take i xs)) ≡ false → mark ≡ true → f x ≡ true →
    list_any f (marked marks xs) ≡ true
any_found f marks xs i mark x same within m e none set here =
    let split = marked_front (i + 1) marks xs in
    ap (list_any f) split.1 ∙ list_any-append f (marked (take (i + 1) marks) (take (i + 1) xs)) split.0
    ∙ ap (λ b. b || list_any f split.0)
    (any_next f marks xs i mark x same within m e none ∙ ap (λ b. list_any f (cond b (x ∷ []) [])) set
    ∙ ap (λ b. b || false) here)

-- ---- lines that are asked in turn

members_more : (asks : List Front) (ask : Front) → length (members_asked (asks ++ ask ∷ []))
    ≡ length (members_asked asks) + length (specifiers_of ask.source)
members_more asks ask =
    ap length (flat_map-append (λ a. specifiers_of a.source) asks (ask ∷ [])
    ∙ ap (λ l. members_asked asks ++ l) (append-nil (specifiers_of ask.source)))
    ∙ length-append (members_asked asks) (specifiers_of ask.source)

members_front : (asks rest : List Front) → length (members_asked asks) ≤ length (members_asked (asks ++ rest))
members_front asks rest =
    let long =
    ap length (flat_map-append (λ a. specifiers_of a.source) asks rest)
    ∙ length-append (members_asked asks) (members_asked rest) in
    omega arith

case_is : (marks : List Bool) (lines : List TableLine) →
    case_asks marks (records lines) ≡ marked marks (fronts lines)
case_is marks lines = sym (marked_map kept_front marks (records lines))

-- the asks of lines that stayed the same
pub same_asks : (marks : List Bool) (lines now : List TableLine) →
    AllZip SameLine (records now) (records lines) → case_asks marks (records now) ≡ case_asks marks (records lines)
same_asks marks lines now kept =
    case_is marks now ∙ ap (marked marks) (same_fronts (records now) (records lines) kept)
    ∙ sym (case_is marks lines)

pub same_answer : (version : VersionRecord) (marks : List Bool) (lines now : List TableLine) (taken : Bool) →
    AllZip SameLine (records now) (records lines) →
    taken ≡ list_all (ask_takes version) (case_asks marks (records now)) →
    taken ≡ list_all (ask_takes version) (case_asks marks (records lines))
same_answer version marks lines now taken kept answer =
    answer ∙ ap (list_all (ask_takes version)) (same_asks marks lines now kept)

-- a flag of marked lines
pub flag_seen : (flag : KeptLine → Bool) (marks : List Bool) (lines : List TableLine) →
    list_any (λ line. flag (line_record line)) (marked marks lines)
    ≡ list_any flag (marked marks (records lines))
flag_seen flag marks lines =
    sym (ap (list_any flag) (marked_map line_record marks lines)
    ∙ any_mapped flag line_record (marked marks lines))

-- which lines apply
pub marks_seen : (nodes : List NodeRecord) (v : Valuation) (lines : List TableLine) →
    map (λ line. holds nodes line.marker v) lines ≡ kept_marks nodes v (records lines)
marks_seen nodes v [] = refl
marks_seen nodes v (line ∷ lines) = ap (λ l. holds nodes line.marker v ∷ l) (marks_seen nodes v lines)

-- whether one does
pub any_mark : (is_set : Bool → Bool) → ((b : Bool) → is_set b ≡ b) → (nodes : List NodeRecord) (v : Valuation) (lines : List KeptLine) →
    list_any is_set (kept_marks nodes v lines) ≡ list_any (λ line. holds nodes line.marker v) lines
any_mark is_set same nodes v [] = refl
any_mark is_set same nodes v (line ∷ lines) =
    let here = same (holds nodes line.marker v) in
    let rest = any_mark is_set same nodes v lines in
    λ i. here i || rest i

url_by : (b : Bool) (members : List SpecifierRecord) → is_url (kept_source b members) ≡ b
url_by true members = refl
url_by false members = refl

-- whether marked lines ask for a URL
pub urls_asked : (marks : List Bool) (lines : List TableLine) →
    list_any (λ line. line.is_url) (marked marks lines) ≡ list_any has_url (case_asks marks (records lines))
urls_asked marks lines =
    flag_seen (λ l. l.url) marks lines
    ∙ sym (any_mapped has_url kept_front (marked marks (records lines))
    ∙ (λ i. list_any (λ (l : KeptLine). url_by l.url l.specifiers.members i) (marked marks (records lines))))

-- and for an extra, by the lists of theirs
pub extras_asked : (extra : List ℕ) (marks : List Bool) (lines : List TableLine) (lists : List (Bor (List (List ℕ)))) →
    map (λ list. list.now) lists ≡ map (λ (line : TableLine). line.extras.items) (marked marks lines) →
    list_any (λ list. list_any (bytes_eq extra) list.now) lists ≡ list_any (has_extra extra) (case_asks marks (records lines))
extras_asked extra marks lines lists e =
    let own : KeptLine → Bool = λ l. list_any (bytes_eq extra) l.extras in
    sym (any_mapped (list_any (bytes_eq extra)) (λ (list : Bor (List (List ℕ))). list.now) lists)
    ∙ ap (list_any (list_any (bytes_eq extra))) e
    ∙ any_mapped (list_any (bytes_eq extra)) (λ (line : TableLine). line.extras.items) (marked marks lines)
    ∙ flag_seen own marks lines
    ∙ sym (any_mapped (has_extra extra) kept_front (marked marks (records lines)))

-- the first so many were asked, and those that are marked take the version
pub record AreAsked (version : VersionRecord) (marks : List Bool) (lines now : List TableLine)
    (i : ℕ) : Type 0 where
  pub more : AskedMore (length (members_asked (asks_to i marks lines))) (records now) (records lines)
  pub taken : list_all (ask_takes version) (asks_to i marks lines) ≡ true

pub none_asked : (version : VersionRecord) (marks : List Bool) (lines : List TableLine) →
    AreAsked version marks lines lines 0
none_asked version marks lines = record { more = none_more 0 (records lines); taken = refl }

module _ (version : VersionRecord) (marks : List Bool) (lines now : List TableLine) (i : ℕ) (line : TableLine)
    (same : length marks ≡ length lines) (within : i < length lines) (is : line ≡ get_or now i line)
    (so_far : AreAsked version marks lines now i) where
  abbrev pub here : Front
  here = kept_front (line_record line)

  both : fronts now ≡ fronts lines
  both = same_fronts (records now) (records lines) so_far.more.same

  long : length lines ≡ length now
  long =
      let a = length-map now line_record in
      let b = length-map lines line_record in
      let c = length-map (records now) kept_front in
      let d = length-map (records lines) kept_front in
      let e = ap length both in
      omega arith

  within_now : i < length now
  within_now = let e = long in omega arith

  within_fronts : i < length (fronts lines)
  within_fronts =
      let b = length-map lines line_record in
      let d = length-map (records lines) kept_front in
      omega arith

  marks_fronts : length marks ≡ length (fronts lines)
  marks_fronts =
      let b = length-map lines line_record in
      let d = length-map (records lines) kept_front in
      same ∙ omega arith

  front_is : here ≡ get_or (fronts lines) i here
  front_is =
      let a = length-map now line_record in
      let e = within_now in
      let inside : i < length (records now) = omega arith in
      ap (λ l. kept_front (line_record l)) is
      ∙ sym (get_or-map kept_front (records now) i (line_record line) here inside
      ∙ ap kept_front (get_or-map line_record now i line (line_record line) within_now))
      ∙ ap (λ l. get_or l i here) both

  next : (mark : Bool) → mark ≡ get_or marks i false →
      asks_to (i + 1) marks lines ≡ asks_to i marks lines ++ cond mark (here ∷ []) []
  next mark m = marked_more marks (fronts lines) i mark false here marks_fronts within_fronts (sym m) front_is

  next_marked : true ≡ get_or marks i false → asks_to (i + 1) marks lines ≡ asks_to i marks lines ++ here ∷ []
  next_marked m = next true m

  pub not_asked : false ≡ get_or marks i false → AreAsked version marks lines now (i + 1)
  not_asked m =
      let e = next false m ∙ append-nil (asks_to i marks lines) in
      record {
        more = subst (λ asks. AskedMore (length (members_asked asks)) (records now) (records lines)) (sym e) so_far.more;
        taken = ap (list_all (ask_takes version)) e ∙ so_far.taken;
      }

  module _ (new : TableLine) (m : true ≡ get_or marks i false) (kept : SameLine (line_record new) (line_record line))
      (tests : new.specifiers.tests ≤ line.specifiers.tests + length (specifiers_of here.source)) where
    more_next : AskedMore (length (members_asked (asks_to (i + 1) marks lines))) (records (set now i new))
        (records lines)
    more_next =
        let n = ap (λ asks. length (members_asked asks)) (next_marked m) ∙ members_more (asks_to i marks lines) here in
        subst (λ k. AskedMore k (records (set now i new)) (records lines)) (sym n)
        (more_on (length (members_asked (asks_to i marks lines))) (length (specifiers_of here.source))
        (records lines) (records now) (records (set now i new)) so_far.more
        (more_at now i line new (length (specifiers_of here.source)) within_now is kept tests))

    pub is_asked : ask_takes version here ≡ true → AreAsked version marks lines (set now i new) (i + 1)
    is_asked takes = record {
      more = more_next;
      taken =
          ap (list_all (ask_takes version)) (next_marked m)
          ∙ list_all-append (ask_takes version) (asks_to i marks lines) (here ∷ [])
          ∙ (λ k. so_far.taken k && (takes k && true));
    }

    pub more_at_end : AskedMore (length (members_asked (case_asks marks (records lines))))
        (records (set now i new)) (records lines)
    more_at_end =
        let split = marked_front (i + 1) marks (fronts lines) in
        let e = ap (λ asks. length (members_asked asks)) (case_is marks lines ∙ split.1) in
        let le = members_front (asks_to (i + 1) marks lines) split.0 in
        more_within (length (members_asked (asks_to (i + 1) marks lines)))
        (length (members_asked (case_asks marks (records lines)))) (records lines) (records (set now i new)) (omega arith) more_next

  pub refused : true ≡ get_or marks i false → ask_takes version here ≡ false →
      list_all (ask_takes version) (case_asks marks (records lines)) ≡ false
  refused m refuses =
      let split = marked_front (i + 1) marks (fronts lines) in
      ap (list_all (ask_takes version)) (case_is marks lines ∙ split.1 ∙ ap (λ l. l ++ split.0) (next_marked m))
      ∙ list_all-append (ask_takes version) (asks_to i marks lines ++ here ∷ []) split.0
      ∙ ap (λ b. b && list_all (ask_takes version) split.0)
      (list_all-append (ask_takes version) (asks_to i marks lines) (here ∷ [])
      ∙ (λ k. so_far.taken k && (refuses k && true)))

asks_end : (marks : List Bool) (lines now : List TableLine) (i : ℕ) → length marks ≡ length lines →
    AllZip SameLine (records now) (records lines) → length lines ≤ i →
    asks_to i marks lines ≡ case_asks marks (records lines)
asks_end marks lines now i same kept past =
    let b = length-map lines line_record in
    let d = length-map (records lines) kept_front in
    (λ k. marked (take_all i marks (omega arith) k) (take_all i (fronts lines) (omega arith) k))
    ∙ sym (case_is marks lines)

pub all_taken : (version : VersionRecord) (marks : List Bool) (lines now : List TableLine) (i : ℕ) →
    length marks ≡ length lines → length lines ≤ i → AreAsked version marks lines now i →
    true ≡ list_all (ask_takes version) (case_asks marks (records lines))
all_taken version marks lines now i same past so_far =
    sym so_far.taken ∙ ap (list_all (ask_takes version)) (asks_end marks lines now i same so_far.more.same past)

pub all_more : (version : VersionRecord) (marks : List Bool) (lines now : List TableLine) (i : ℕ) →
    length marks ≡ length lines → length lines ≤ i → AreAsked version marks lines now i →
    AskedMore (length (members_asked (case_asks marks (records lines)))) (records now) (records lines)
all_more version marks lines now i same past so_far =
    subst (λ asks. AskedMore (length (members_asked asks)) (records now) (records lines))
    (asks_end marks lines now i same so_far.more.same past) so_far.more
