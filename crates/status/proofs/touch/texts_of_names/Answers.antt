use Rattle.std.proofs.Common.{◌≡◌, ◌∙◌, ◌++◌, ◌∷◌, [], ◌+◌, ap, map, subst, sym, take, add-one}
use Rattle.std.proofs.lemmas.List.{map-append}
use Rattle.std.specs.List.{AllByRecursion}
use Rattle.rules.specs.RunStepLaws.{take-one_more}
use Rattle.status.proofs.TextLemmas.{at-place}
use Rattle.status.proofs.TouchLemmas.{ready-at}
use Rattle.status_text.proofs.DistinctFieldLemmas.{all-append}
use Rattle.status_text.specs.Slot.{slot_records}
use Rattle.status.specs.Action.{starts_from}
use Rattle.status.specs.Applicable.{has_record}
use Rattle.status.specs.Change.{IsTextAfter}
use Rattle.status.proofs.touch.texts_of_names.Goals as goal
use Rattle.std.specs.Arc.{arc_slice_items}

pub text_of_name-requires : goal.text_of_name-requires
text_of_name-requires c =
    let names = c.args.names.now in
    let records = slot_records c.args.table.now.slots in
    let ready = ready-at (starts_from c.args.action) names records c.loop-name.name-index c.name-item.result c.requires
    (at-place names c.loop-name.name-index c.name-item.result c.loop-name-test.true c.name-item.is) in
    ap (λ n. has_record (starts_from c.args.action) n records) c.as_bytes.ensures.bytes ∙ ready

pub loop-name-preserved : goal.loop-name-preserved
loop-name-preserved c =
    let names = c.args.names.now in
    let i = c.loop-name.name-index in
    let name = c.name-item.result in
    let more : take (i + 1) names ≡ take i names ++ name ∷ [] =
    ap (λ n. take n names) (add-one i) ∙ take-one_more names i name c.loop-name-test.true ∙ ap (λ x. take i names ++ x ∷ []) (sym c.name-item.is) in (
      ap (map (λ one. one.name.now)) c.in_ok-push.ensures.items ∙ map-append (λ one. one.name.now) c.loop-name.left.items (_ ∷ [])
          ∙ ap (λ front. front ++ name ∷ []) c.loop-name.invariant.0 ∙ sym more,
      subst (AllByRecursion (λ one. IsTextAfter c.args.action c.args.table.now one.name.now (arc_slice_items one.text))) (sym c.in_ok-push.ensures.items)
          (all-append (λ one. IsTextAfter c.args.action c.args.table.now one.name.now (arc_slice_items one.text)) c.loop-name.left.items (_ ∷ []) c.loop-name.invariant.1
          (subst (λ n. IsTextAfter c.args.action c.args.table.now n (arc_slice_items c.in_ok-text.text)) c.as_bytes.ensures.bytes c.in_ok-text.ensures, tt)),
    )
