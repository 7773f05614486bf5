-- What is said of texts that are refused.
use Rattle.std.proofs.Common.{◌≡◌, ℕ, List, Result, Ok, Err, String, string_bytes, MatchResult, IfOk, IfSome}
use Rattle.std.proofs.Common.{refl, sym, subst}
use Rattle.reqs_io_faults.specs.declared.fault.RunFault.{RunFault}
use Rattle.reqs_io_faults.specs.declared.fault.RunFault.TheVariants as faults
use Rattle.reqs_io_faults.specs.Ends.{of_input}
use Rattle.reqs_io_faults.specs.Faults.{status_of}
use Rattle.reqs_io_faults.specs.FaultText.{fault_text, HasItsFront}
use Rattle.reqs_c_reply.specs.declared.place.Place.{Place}
use Rattle.reqs_c_reply.specs.Endings.{Ending, Refused, OutOfMemory, EndsIn, NoAnswer}
use Rattle.reqs_c_lists.specs.Refusals.{place_told, IsToldAt}

-- what is not 3 is 2
pub refuses : (fault : RunFault) → (status_of fault ≡ 3 → ⊥) → status_of fault ≡ 2
refuses (faults.Read input) other = absurd (other refl)
refuses faults.Write other = absurd (other refl)
refuses faults.Memory other = absurd (other refl)
refuses fault other = refl

-- a message that was made tells the fault
pub told_with : {Y E : Type 0} (names : List (List ℕ)) (extras : ℕ) (fault : RunFault) (place : Place)
    (message : Result (String Y) E) (ending : Ending) → (status_of fault ≡ 3 → ⊥) → place ≡ place_told extras fault
    → MatchResult message (λ text. ending ≡ Refused place (string_bytes text)) (λ error. ending ≡ OutOfMemory)
    → IfOk message (λ text. IfSome (fault_text (of_input names) fault) (λ wanted. string_bytes text ≡ wanted))
    → IfOk message (λ text. HasItsFront (of_input names) fault (string_bytes text))
    → EndsIn NoAnswer (IsToldAt names extras fault) ending
told_with names extras fault place (Ok text) ending other stands is says front =
    subst (EndsIn NoAnswer (IsToldAt names extras fault)) (sym is)
    (record { refuses = refuses fault other; stands = stands; says = says; front = front })
told_with names extras fault place (Err failed) ending other stands is says front =
    subst (EndsIn NoAnswer (IsToldAt names extras fault)) (sym is) tt
