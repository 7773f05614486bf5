use Rattle.std.proofs.Common.{◌≡◌, ◌++◌, ◌∷◌, [], ◌∙◌, false, ap, sym, subst, refl, true≢false}
use Rattle.std.proofs.lemmas.Str.{IsUtf8-from_ascii}
use Rattle.std.specs.Prelude.{IsAscii}
use Rattle.pep508_name.specs.Name.{normal_name}
use Rattle.pep508_name.proofs.AsciiNames.{normal_ascii}
use Rattle.pep508_name.proofs.Walk.{behind, written}
use Rattle.pep508_name.proofs.Parts.{no_more, named}
use Rattle.pep508_name.proofs.Steps.{begins, separator_seen, letter_seen, ends, opened}
use Rattle.pep508_name.proofs.normal.normalized.Goals as goal
use Rattle.pep508_name.proofs.normal.normalized.Goals.{then-is_separator, else-is_separator+in_ok-push-2}
use Rattle.pep508_name.proofs.normal.normalized.Goals.{then-separated+in_ok-push, else-separated}

pub loop-byte-init : goal.loop-byte-init
loop-byte-init c =
    ap (λ bytes. written c.in_ok-name.name.items (behind false bytes)) c.as_bytes-byte-items.ensures.value
    ∙ ap (λ name. written name (behind false c.args.text.now)) c.in_ok-name.ensures.items
    ∙ begins _ _ (named _ c.requires)

pub loop-byte-preserved : goal.loop-byte-preserved
loop-byte-preserved c =
    let name = c.loop-byte.name.items in
    elim c.if-is_separator.branch [
      | then-is_separator w ↦
          separator_seen name _ c.loop-byte.separated _ _ c.loop-byte.byte-index _ c.loop-byte-test.true
          (sym w.if-is_separator.ensures) (ap (λ n. n.items) w.name-is) w.separated-is c.loop-byte.invariant
      | else-is_separator+in_ok-push-2 w ↦
          letter_seen name w.if-separated.name.items _ (w.to_ascii_lowercase.result ∷ []) c.loop-byte.separated _
          w.to_ascii_lowercase.result _ c.loop-byte.byte-index _ c.loop-byte-test.true (sym w.if-is_separator.ensures)
          (elim w.if-separated.branch [
            | then-separated+in_ok-push v ↦
                ap (λ n. n.items) v.name-is ∙ v.in_ok-push.ensures.items
                ∙ ap (λ t. name ++ opened t) (sym v.if-separated.true)
            | else-separated v ↦
                ap (λ n. n.items) v.name-is ∙ no_more name ∙ ap (λ t. name ++ opened t) (sym v.if-separated.false)
          ])
          (ap (λ n. n.items) w.name-is ∙ w.in_ok-push-2.ensures.items) (λ low. refl)
          w.to_ascii_lowercase.ensures.value w.separated-is c.loop-byte.invariant
    ]

pub unreachable-requires : goal.unreachable-requires
unreachable-requires c =
    let name = c.loop-byte.name.items in
    let whole : name ≡ normal_name c.args.text.now =
    ends _ _ c.loop-byte.separated c.as_bytes-byte-items.result.now c.loop-byte.byte-index c.loop-byte-test.false
    c.loop-byte.invariant in
    let ascii : IsAscii name =
    subst IsAscii (sym whole) (normal_ascii c.args.text.now (normal_name c.args.text.now) (named _ c.requires)) in
    true≢false (sym (c.in-Err.ensures.succeeds (IsUtf8-from_ascii name ascii)))
