use Rattle.std.proofs.Common.{◌≡◌, ◌∙◌, ◌++◌, ◌∷◌, [], List, ℕ, ap, append_assoc, map, subst, sym}
use Rattle.std.proofs.lemmas.List.{map-append}
use Rattle.std.specs.List.{AllByRecursion}
use Rattle.rules.specs.FileRecord.{touched_entry}
use Rattle.rules.specs.Step.{is_among, is_named}
use Rattle.status.proofs.FoundLemmas.{found-name}
use Rattle.status.proofs.TouchLemmas.{all-middle, among-more, changed-more, changed-none, found-only, keeps-name}
use Rattle.status_text.specs.Slot.{Store}
use Rattle.status.specs.Action.{left_of}
use Rattle.status.specs.Change.{IsTextAfter, IsTextOf}
use Rattle.status.specs.Slots.{changed_slots}
use Rattle.status.specs.Stored.{as_stored, written}
use Rattle.status.specs.declared.touch.Rewritten.{Rewritten}
use Rattle.status.proofs.touch.write_all.Goals as goal
use Rattle.std.specs.Arc.{arc_slice_items}

pub loop-one-init : goal.loop-one-init
loop-one-init c =
    let change = touched_entry (left_of c.args.action) in (
      c.into_iter-one-iterator.ensures.into_iter_gives.0,
      λ i. record {
        arch = c.args.table.now.arch;
        slots = (sym c.is_sound.ensures.stored ∙ ap (map as_stored) (sym (changed-none change c.args.table.now.slots))) i;
      },
    )

pub write-requires : goal.write-requires
write-requires c =
    let P : Rewritten → Type 0 = λ one. IsTextAfter c.args.action c.args.table.now one.name.now (arc_slice_items one.text) in
    let front = c.loop-one.yielded in
    let after = all-middle P front c.in-Some.one c.next.new.self.rest.items
    (subst (AllByRecursion P) (sym c.loop-one.invariant.0 ∙ ap (λ xs. front ++ xs) c.in-Some.ensures.steps.0) c.requires) in
    let entry = written (touched_entry (left_of c.args.action) after.old) in (
      entry,
      subst (λ (store : Store). IsTextOf store.arch (arc_slice_items c.in-Some.one.text) entry) (sym c.loop-one.invariant.1) after.text_is,
      keeps-name c.args.action after.old ∙ found-name c.in-Some.one.name.now c.args.table.now.slots after.old after.there ∙ sym c.as_bytes.ensures.bytes,
    )

pub loop-one-preserved : goal.loop-one-preserved
loop-one-preserved c =
    let P : Rewritten → Type 0 = λ one. IsTextAfter c.args.action c.args.table.now one.name.now (arc_slice_items one.text) in
    let store = c.args.table.now in
    let change = touched_entry (left_of c.args.action) in
    let front = c.loop-one.yielded in
    let one = c.in-Some.one in
    let name = one.name.now in
    let names : List (List ℕ) = map (λ (one : Rewritten). one.name.now) front in
    let rest = c.next.new.self.rest.items in
    let after = all-middle P front one rest (subst (AllByRecursion P) (sym c.loop-one.invariant.0 ∙ ap (λ xs. front ++ xs) c.in-Some.ensures.steps.0) c.requires) in
    let entry = written (change after.old) in
    let read = (subst (λ (kept : Store). IsTextOf kept.arch (arc_slice_items one.text) entry) (sym c.loop-one.invariant.1) after.text_is).read in
    let more : changed_slots (is_named name) (λ _. entry) (map as_stored (changed_slots (is_among names) change store.slots))
    ≡ map as_stored (changed_slots (is_among (names ++ name ∷ [])) change store.slots) =
    changed-more name change after.old (is_among names) (is_among (names ++ name ∷ [])) (λ e _. keeps-name c.args.action e) (λ other. among-more names name other)
    store.slots (found-only name after.old store.slots c.is_sound.ensures.distinct after.there) in (
      append_assoc front (one ∷ []) rest ∙ ap (λ xs. front ++ xs) (sym c.in-Some.ensures.steps.0) ∙ c.loop-one.invariant.0,
      c.write.ensures entry read
          ∙ ap (λ (kept : Store). record kept { slots = changed_slots (is_named c.as_bytes.result.now) (λ _. entry) kept.slots }) c.loop-one.invariant.1
          ∙ (λ i. record store { slots = changed_slots (is_named (c.as_bytes.ensures.bytes i)) (λ _. entry) (map as_stored (changed_slots (is_among names) change store.slots)) })
          ∙ (λ i. record store { slots = more i })
          ∙ (λ i. record store { slots = map as_stored (changed_slots (is_among (sym (map-append (λ (one : Rewritten). one.name.now) front (one ∷ [])) i)) change store.slots) }),
    )
