use Rattle.std.proofs.Common.{◌≡◌, ◌∙◌, ℕ, List, Vec, Global}
use Rattle.std.specs.List.{list_any}
use Rattle.std.specs.Str.{bytes_eq}
use Rattle.reqtable_answer.specs.Asks.{has_extra}
use Rattle.reqtable_answer.specs.Says.{asks_seen}
use Rattle.reqtable_answer.proofs.United.{some_has, asked_there, if_ok}
use Rattle.reqtable_answer.proofs.extras.extras_of.Goals as goal

pub returns-clause-are : goal.returns-clause-are
returns-clause-are c =
    let asks = asks_seen c.args.asks.now in
    let lent = c.deref.result.now in
    let P : Vec (List ℕ) Global → Type 0 = λ extras. (q : List ℕ) → list_any (bytes_eq q) extras.items ≡ some_has q lent in
    let Q : Vec (List ℕ) Global → Type 0 = λ extras. (q : List ℕ) → list_any (bytes_eq q) extras.items ≡ list_any (has_extra q) asks in
    if_ok P Q c.united_extras.result
    (λ extras h q. h q ∙ asked_there q c.in_ok-lists.lists.items lent asks c.deref.ensures.value c.in_ok-lists.ensures)
    c.united_extras.ensures.are
