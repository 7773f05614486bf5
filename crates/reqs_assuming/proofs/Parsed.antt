-- Lists that are parsed, and then restricted to where a condition holds.
use Rattle.std.proofs.Common.{◌≡◌, ◌≤◌, ◌⊎◌, inl, inr, ℕ, List, length, Result, Ok, Err, IfOk, IfErr, ap, sym, subst}
use Rattle.std.specs.List.{AllZip}
use Rattle.pep508_url.specs.Vars.{Variables}
use Rattle.pep508_tree.specs.Meaning.{NodeRecord}
use Rattle.reqtable_requirements.specs.LineReading.{LineRecord}
use Rattle.reqtable_requirements.specs.Requirements.{StandsFor}
use Rattle.reqtable_requirements.specs.declared.requirements.Line.{Line}
use Rattle.reqtable_assumption.specs.Where.{Condition, lines_where}
use Rattle.reqs_io_faults.specs.declared.fault.RunFault.{RunFault}
use Rattle.reqs_io_faults.specs.declared.fault.RunFault.TheVariants.{Memory}
use Rattle.reqs_io_faults.specs.Faults.{Cause, Refuses}
use Rattle.reqs_io_faults.specs.Inputs.{◌>>=◌}
use Rattle.reqs_io_faults.specs.Within.{Outgrows}
use Rattle.reqs_io_faults.proofs.Steps.{refuses_rest}
use Rattle.reqs_lists.specs.Comparison.{Lists}
use Rattle.reqs_lists.specs.Lists.{IsOfLists, IsRead, Refused, RefusesLists, one_list, two_lists}
use Rattle.reqs_lists.specs.Lists.{PassesInFirst, PassesInEither}
use Rattle.reqs_assuming.specs.declared.assumed.BothLists.{BothLists}
use Rattle.reqs_assuming.specs.Lists.{one_list_where, both_where, two_lists_where}
use Rattle.reqs_assuming.specs.Restricted.{NoneWhere, ReadsOneWhere, ReadsBothWhere}

-- what refuses lists before they are restricted
pub none_parsed : {A B : Type 0} (IsOne PassesAtLine : RunFault → Type 0) (most : ℕ) (nodes : List NodeRecord)
    (lists : Result A Cause) (rest : A → Result B Cause) (fault : RunFault)
    → RefusesLists IsOne (λ read said. ⊥) lists fault ⊎ PassesAtLine fault
    → NoneWhere IsOne PassesAtLine most nodes (lists >>= rest) fault
none_parsed IsOne PassesAtLine most nodes lists rest fault (inl (inl h)) = inl (refuses_rest IsOne fault lists rest h)
none_parsed IsOne PassesAtLine most nodes lists rest fault (inl (inr h)) = absurd h.2
none_parsed IsOne PassesAtLine most nodes lists rest fault (inr h) = inr (inl h)

-- what refuses lists once they are parsed: want of memory, or the bound
none_restricted : {A : Type 0} (IsOne PassesAtLine : RunFault → Type 0) (memory : IsOne Memory) (most : ℕ)
    (nodes : List NodeRecord) (lists : Result A Cause) (read : A) → lists ≡ Ok read → (fault : RunFault)
    → (fault ≡ Memory) ⊎ Outgrows most nodes fault → NoneWhere IsOne PassesAtLine most nodes lists fault
none_restricted IsOne PassesAtLine memory most nodes lists read e fault (inl m) =
    let P : RunFault → Type 0 = λ f. Refuses IsOne f lists in inl (subst P (sym m) (memory, tt))
none_restricted IsOne PassesAtLine memory most nodes lists read e fault (inr o) = inr (inr (read, e, o))

-- and where no list is given none is answered on
pub none_answered : {A : Type 0} (IsOne PassesAtLine : RunFault → Type 0) (most : ℕ) (nodes : List NodeRecord)
    (lists : Result A Cause) (fault : RunFault) (Declines Outgrown : Refused A)
    → ((read : A) → Outgrows most nodes fault → Outgrown read fault)
    → NoneWhere IsOne PassesAtLine most nodes lists fault
    → RefusesLists IsOne Declines lists fault ⊎ (PassesAtLine fault ⊎ IsRead lists (λ read. Outgrown read fault))
none_answered IsOne PassesAtLine most nodes lists fault Declines Outgrown wide (inl h) = inl (inl h)
none_answered IsOne PassesAtLine most nodes lists fault Declines Outgrown wide (inr (inl h)) = inr (inl h)
none_answered IsOne PassesAtLine most nodes lists fault Declines Outgrown wide (inr (inr h)) =
    inr (inr (h.0, h.1, wide h.0 h.2))

-- lines are restricted so that they stand for those of a list where the condition holds
abbrev pub Restricts : Condition → List NodeRecord → List NodeRecord → List Line → List Line → Type 0
Restricts condition old new lines restricted =
    (vars : Variables) (said : List LineRecord) → AllZip (StandsFor vars old) lines said
    → AllZip (StandsFor vars new) restricted (lines_where condition said)

module _ (condition : Condition) (vars : Variables) (most : ℕ) (old new : List NodeRecord)
    (inputs : List (List ℕ)) where
  pub one_where : (lines : List Line) (said : List LineRecord) → one_list vars inputs ≡ Ok said
      → AllZip (StandsFor vars old) lines said → (result : Result (List Line) RunFault)
      → IfOk result (Restricts condition old new lines) → IfOk result (λ _. length new ≤ most)
      → IfErr result (λ fault. (fault ≡ Memory) ⊎ Outgrows most new fault)
      → ReadsOneWhere condition vars most new inputs result
  one_where lines said e stands (Ok restricted) h fits faults =
      ((lines_where condition said, ap (λ read. read >>= λ l. Ok (lines_where condition l)) e, h vars said stands), fits)
  one_where lines said e stands (Err fault) h fits faults =
      none_restricted (IsOfLists vars inputs) (PassesInFirst vars most new inputs) tt most new
      (one_list_where condition vars inputs) (lines_where condition said)
      (ap (λ read. read >>= λ l. Ok (lines_where condition l)) e) fault faults

  pub two_where : (left right : List Line) (lists : Lists) → two_lists vars inputs ≡ Ok lists
      → AllZip (StandsFor vars old) left lists.0 → AllZip (StandsFor vars old) right lists.1
      → (result : Result BothLists RunFault)
      → IfOk result (λ both. Restricts condition old new left both.left)
      → IfOk result (λ both. Restricts condition old new right both.right)
      → IfOk result (λ _. length new ≤ most)
      → IfErr result (λ fault. (fault ≡ Memory) ⊎ Outgrows most new fault)
      → ReadsBothWhere condition vars most new inputs result
  two_where left right lists e l r (Ok both) h k fits faults = (
    (
      both_where condition lists,
      ap (λ read. read >>= λ l. Ok (both_where condition l)) e,
      (h vars lists.0 l, k vars lists.1 r),
    ),
    fits,
  )
  two_where left right lists e l r (Err fault) h k fits faults =
      none_restricted (IsOfLists vars inputs) (PassesInEither vars most new inputs) tt most new
      (two_lists_where condition vars inputs) (both_where condition lists)
      (ap (λ read. read >>= λ l. Ok (both_where condition l)) e) fault faults
