-- A comparison is read as the grammar has it.
use Rattle.std.proofs.Common.{◌≡◌, ℕ, ◌+◌, ◌<◌, arith, length-append, Bool, true, false, if◌then◌else◌}
use Rattle.std.proofs.Common.{List, [], ◌∷◌, ◌++◌, length, Some, None, Ok, Err, refl, ap, sym, subst, ◌∙◌}
use Rattle.std.proofs.Common.{append_assoc}
use Rattle.std.specs.Prelude.{Option}
use Rattle.std.specs.Char.{is_whitespace}
use Rattle.std.specs.Str.{skip_leading_whitespace}
use Rattle.pep440_specifier.specs.SpecifierText.{AreSpaces}
use Rattle.pep508_marker.specs.declared.operators.MarkerOperator.{MarkerOperator}
use Rattle.pep508_marker.specs.declared.warnings.MarkerWarningKind.{MarkerWarningKind}
use Rattle.pep508_marker.specs.Values.{ValueRecord}
use Rattle.pep508_marker.specs.Expression.{ExpressionRecord}
use Rattle.pep508_expression.specs.Expressions.{has_points}
use Rattle.pep508_comparison_parser.specs.Compared.{Compared, compared}
use Rattle.pep508_marker_parser.specs.Formula.{Says, LeftOut}
use Rattle.pep508_comparison_parser.specs.SideReading.{Reading, AtEnd, side_at, operator_at}
use Rattle.pep508_error.specs.Cuts.{begins_by}
use Rattle.pep508_error.specs.Steps.{◌>>=◌}
use Rattle.pep508_comparison_parser.specs.SideReading.{behind_operator, behind_side, compared_at}
use Rattle.pep508_marker_parser.specs.MarkerReading.{Marker, of_said, of_compared, comparison_at, closed}
use Rattle.pep508_marker_parser.specs.MarkerReading.{part_of, part_at}
use Rattle.pep508_marker_parser.specs.MarkerText.{IsSpaced, IsSideText, IsComparisonText}
use Rattle.pep508_error.proofs.Spaces.{Unspaced, spaces_found, spaces_again}
use Rattle.pep508_error.proofs.Steps.{ok_same, in_steps}
use Rattle.pep508_marker_parser.proofs.Sides.{side_found, side_again, side_begins}
use Rattle.pep508_marker_parser.proofs.Operators.{operator_found, operator_again, operator_unspaced}
use Rattle.pep508_marker_parser.proofs.Operators.{operator_length}

-- ---- white space between pieces

pub spaced_found : (cs : List ℕ) → IsSpaced cs (skip_leading_whitespace cs)
spaced_found cs = (let s = spaces_found cs in (s.spaces, s.split, s.are_spaces))

pub spaced_again : (cs behind : List ℕ) → IsSpaced cs behind → Unspaced behind → skip_leading_whitespace cs ≡ behind
spaced_again cs behind h n = ap skip_leading_whitespace h.1 ∙ spaces_again h.0 behind h.2 n

spaces_joined : (front rest : List ℕ) → AreSpaces front → AreSpaces rest → AreSpaces (front ++ rest)
spaces_joined [] rest h k = k
spaces_joined (c ∷ cs) rest h k = (h.0, spaces_joined cs rest h.1 k)

pub spaced_on : (a b c : List ℕ) → IsSpaced a b → IsSpaced b c → IsSpaced a c
spaced_on a b c h k =
    (h.0 ++ k.0, h.1 ∙ ap (λ ds. h.0 ++ ds) k.1 ∙ sym (append_assoc h.0 k.0 c), spaces_joined h.0 k.0 h.2 k.2)

pub spaced_none : (cs : List ℕ) → IsSpaced cs cs
spaced_none cs = ([], refl, tt)

pub spaced_length : (cs behind : List ℕ) → IsSpaced cs behind → length behind < length cs + 1
spaced_length cs behind h =
    let l = length-append h.0 behind in
    let m : length cs ≡ length (h.0 ++ behind) = ap length h.1 in omega (arith, l, m)

-- ---- what is found

said_if : (expression : ExpressionRecord) (warned : List MarkerWarningKind) (rest : List ℕ) (found : Marker × List ℕ)
    (t : Bool)
    → (if t then Ok (record { formula = Says expression; warned = warned }, rest) else Err AtEnd) ≡ Ok found
    → rest ≡ found.1
said_if expression warned rest found false h = absurd (cc)
said_if expression warned rest found true h =
    let made : Marker × List ℕ = (record { formula = Says expression; warned = warned }, rest) in
    ap (λ (p : Marker × List ℕ). p.1) (ok_same made found h)

said_rest : (said : Option ExpressionRecord) (warned : List MarkerWarningKind) (rest : List ℕ)
    (found : Marker × List ℕ) → of_said said warned rest ≡ Ok found → rest ≡ found.1
said_rest None warned rest found h =
    let made : Marker × List ℕ = (record { formula = LeftOut; warned = warned }, rest) in
    ap (λ (p : Marker × List ℕ). p.1) (ok_same made found h)
said_rest (Some expression) warned rest found h = said_if expression warned rest found (has_points expression) h

pub comparison_found : (from cs : List ℕ) (found : Marker × List ℕ) → IsSpaced from cs → comparison_at cs ≡ Ok found
    → IsComparisonText from found.0 found.1
unfolding comparison_at compared_at
comparison_found from cs found s h =
    let zero = in_steps (compared_at cs) of_compared found h in
    let both : Compared × List ℕ = zero.middle in
    let one = in_steps (side_at cs) behind_side both zero.first_is in
    let left : ValueRecord × List ℕ = one.middle in
    let two = in_steps (operator_at (skip_leading_whitespace left.1)) (behind_operator left.0) both one.next_is in
    let sign : MarkerOperator × List ℕ = two.middle in
    let next : ValueRecord × List ℕ → Reading Compared = λ right. Ok (compared left.0 sign.0 right.0, right.1) in
    let three = in_steps (side_at (skip_leading_whitespace sign.1)) next both two.next_is in
    let right : ValueRecord × List ℕ = three.middle in
    let says : Compared × List ℕ = (compared left.0 sign.0 right.0, right.1) in
    let paired : says ≡ both = ok_same says both three.next_is in
    let same : right.1 ≡ found.1 =
    ap (λ (p : Compared × List ℕ). p.1) paired ∙ said_rest both.0.said both.0.warned both.1 found zero.next_is in
    record {
      left = left.0;
      operator = sign.0;
      right = right.0;
      at_left = cs;
      behind_left = left.1;
      at_operator = skip_leading_whitespace left.1;
      behind_operator = sign.1;
      at_right = skip_leading_whitespace sign.1;
      spaced_left = s;
      is_left = side_found cs left one.first_is;
      spaced_operator = spaced_found left.1;
      is_operator = operator_found (skip_leading_whitespace left.1) sign two.first_is;
      spaced_right = spaced_found sign.1;
      is_right = subst (λ r. IsSideText (skip_leading_whitespace sign.1) right.0 r) same
          (side_found (skip_leading_whitespace sign.1) right three.first_is);
      says = ap (λ r. of_compared (says.0, r)) (sym same) ∙ ap of_compared paired ∙ zero.next_is;
    }

-- ---- what is written is read

compared_here : (cs : List ℕ) (marker : Marker) (rest : List ℕ) → (h : IsComparisonText cs marker rest)
    → compared_at h.at_left ≡ Ok (compared h.left h.operator h.right, rest)
unfolding compared_at
compared_here cs marker rest h =
    let next : ValueRecord × List ℕ → Reading Compared = λ right. Ok (compared h.left h.operator right.0, right.1) in
    let right = side_begins h.at_right h.right rest h.is_right in
    ap (λ read. read >>= behind_side) (side_again h.at_left h.left h.behind_left h.is_left)
    ∙ ap (λ ds. operator_at ds >>= behind_operator h.left)
    (spaced_again h.behind_left h.at_operator h.spaced_operator
    (operator_unspaced h.at_operator h.operator h.behind_operator h.is_operator))
    ∙ ap (λ read. read >>= behind_operator h.left)
    (operator_again h.at_operator h.operator h.behind_operator h.is_operator)
    ∙ ap (λ ds. side_at ds >>= next)
    (spaced_again h.behind_operator h.at_right h.spaced_right (ap (begins_by is_whitespace) right.split ∙ right.unspaced))
    ∙ ap (λ read. read >>= next) (side_again h.at_right h.right rest h.is_right)

comparison_here : (cs : List ℕ) (marker : Marker) (rest : List ℕ) → (h : IsComparisonText cs marker rest)
    → comparison_at h.at_left ≡ Ok (marker, rest)
unfolding comparison_at
comparison_here cs marker rest h =
    ap (λ read. read >>= of_compared) (compared_here cs marker rest h) ∙ h.says

pub comparison_again : (inner : List ℕ → Reading Marker) (cs : List ℕ) (marker : Marker) (rest : List ℕ)
    → IsComparisonText cs marker rest → part_at inner cs ≡ Ok (marker, rest)
comparison_again inner cs marker rest h =
    let left = side_begins h.at_left h.left h.behind_left h.is_left in
    ap (part_of inner)
    (spaced_again cs h.at_left h.spaced_left (ap (begins_by is_whitespace) left.split ∙ left.unspaced) ∙ left.split)
    ∙ ap (λ t. if t then inner left.others >>= closed else comparison_at (left.first ∷ left.others)) left.unbracketed
    ∙ ap comparison_at (sym left.split)
    ∙ comparison_here cs marker rest h

pub comparison_shrinks : (cs : List ℕ) (marker : Marker) (rest : List ℕ) → IsComparisonText cs marker rest
    → length rest < length cs
comparison_shrinks cs marker rest h =
    let a = spaced_length cs h.at_left h.spaced_left in
    let b = (side_begins h.at_left h.left h.behind_left h.is_left).longer in
    let c = spaced_length h.behind_left h.at_operator h.spaced_operator in
    let d = operator_length h.at_operator h.operator h.behind_operator h.is_operator in
    let e = spaced_length h.behind_operator h.at_right h.spaced_right in
    let f = (side_begins h.at_right h.right rest h.is_right).longer in
    omega (arith, a, b, c, d, e, f)
