use Rattle.std.proofs.Common.{◌≡◌, ◌++◌, map, take, string_bytes}
use Rattle.reqs_assuming.specs.Assumptions.{python_text}
use Rattle.reqs_assuming.proofs.assumption.push_specifiers.Given as goal

abbrev pub invariant-loop-specifier : goal.invariant-loop-specifier
invariant-loop-specifier l =
    map string_bytes l.texts.items
    ≡ map string_bytes l.fn.texts.items ++ map python_text (take l.specifier-index l.specifiers)
