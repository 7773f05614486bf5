use Rattle.std.proofs.Common.{◌++◌, ◌∙◌, ap, string_bytes}
use Rattle.reqtable_answer.proofs.Texts.{bracketed}
use Rattle.reqtable_answer.proofs.answer.push_bracketed.Goals as goal

pub returns : goal.returns
unfolding lib.Utf8.encode
returns c =
    bracketed (string_bytes c.args.text.now) (string_bytes c.push.new.self) (string_bytes c.push_str.new.self) (string_bytes c.push_others.new.text)
    (string_bytes c.push-2.new.self) c.args.first.now c.args.others.now c.in_ok-push.ensures.bytes
    (c.in_ok-push_str.ensures.bytes ∙ ap (λ x. string_bytes c.push.new.self ++ x) c.as_str.ensures.text) c.in_ok-push_others.ensures c.in_ok-push-2.ensures.bytes
