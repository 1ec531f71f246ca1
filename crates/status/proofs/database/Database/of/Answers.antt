use Rattle.std.proofs.Common.{◌≡◌, ◌∙◌, ◌++◌, ◌∷◌, List, ap, drop, map, subst, suc, sym, take}
use Rattle.rules.specs.RunStepLaws.{split-at_place}
use Rattle.std.proofs.lemmas.List.{take_all}
use Rattle.std.specs.List.{AllByRecursion}
use Rattle.status.proofs.FaithfulLemmas.{read_is_faithful}
use Rattle.status.proofs.NameLemmas.{is-new, slots-distinct-from}
use Rattle.status.proofs.StoredLemmas.{texts-stored}
use Rattle.status.proofs.TouchLemmas.{all-middle, new-stored}
use Rattle.status_text.specs.Slot.{FileSlot, Store}
use Rattle.status.specs.Faithful.{IsFaithfulSlot}
use Rattle.status.specs.Places.{AreDistinct}
use Rattle.status.specs.Slots.{IsNew, names_of}
use Rattle.status.specs.Stored.{as_stored}
use Rattle.status.specs.Text.{slots_text}
use Rattle.status.proofs.database.Database.of.Goals as goal

pub push_slot-requires-clause-faithful : goal.push_slot-requires-clause-faithful
push_slot-requires-clause-faithful c =
    let items = c.slots-slot-items.result.now in
    let i = c.loop-slot.slot-index in
    let slot = c.slot-item.result in
    let arch = c.args.file.now.arch in
    let split : items ≡ take i items ++ slot ∷ drop (suc i) items =
    split-at_place items i slot c.loop-slot-test.true ∙ (λ k. take i items ++ sym c.slot-item.is k ∷ drop (suc i) items) in
    let read = c.slots-slot-items.ensures.read in
    let each : AllByRecursion (IsFaithfulSlot arch) items =
    subst (AllByRecursion (IsFaithfulSlot arch)) (sym c.slots-slot-items.ensures.slots) (read_is_faithful arch read.text c.args.file.now.slots read.read) in
    subst (λ (store : Store). IsFaithfulSlot store.arch slot) (sym c.loop-slot.invariant)
    (all-middle (IsFaithfulSlot arch) (take i items) slot (drop (suc i) items) (subst (AllByRecursion (IsFaithfulSlot arch)) split each))

pub push_slot-requires-clause-new : goal.push_slot-requires-clause-new
push_slot-requires-clause-new c =
    let items = c.slots-slot-items.result.now in
    let i = c.loop-slot.slot-index in
    let slot = c.slot-item.result in
    let split : items ≡ take i items ++ slot ∷ drop (suc i) items =
    split-at_place items i slot c.loop-slot-test.true ∙ (λ k. take i items ++ sym c.slot-item.is k ∷ drop (suc i) items) in
    let distinct = slots-distinct-from c.args.file.now.slots c.slots-slot-items.ensures.distinct in
    subst (λ (store : Store). IsNew slot store.slots) (sym c.loop-slot.invariant)
    (new-stored slot (take i items) (is-new (take i items) (drop (suc i) items) slot
    (subst (λ slots. AreDistinct (names_of slots)) (sym c.slots-slot-items.ensures.slots ∙ split) distinct)))

pub returns-clause-text : goal.returns-clause-text
returns-clause-text c =
    let items = c.slots-slot-items.result.now in
    let arch = c.args.file.now.arch in
    let read = c.slots-slot-items.ensures.read in
    ap (λ (store : Store). slots_text store.slots) c.loop-slot.invariant
    ∙ ap (λ (slots : List FileSlot). slots_text (map as_stored slots)) (take_all c.loop-slot.slot-index items c.loop-slot-test.false ∙ c.slots-slot-items.ensures.slots)
    ∙ texts-stored arch c.args.file.now.slots (read_is_faithful arch read.text c.args.file.now.slots read.read)
