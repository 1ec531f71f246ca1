use Rattle.std.proofs.Common.{◌≡◌, ◌∙◌, ◌++◌, ◌∷◌, [], List, ℕ, OnOk, ap, subst, sym}
use Rattle.status.proofs.StoredLemmas.{faithful-stored}
use Rattle.status_text.specs.Slot.{FileSlot}
use Rattle.status_text.specs.Spelling.{stanza_text}
use Rattle.status_text.specs.declared.slot.Slot.TheVariants.{Recorded, Foreign}
use Rattle.status.specs.Faithful.{IsFaithfulSlot}
use Rattle.status.specs.Stored.{IsStored, as_stored, by_itself, written}
use Rattle.status.proofs.database.push_slot.Goals as goal

pub push_recorded-requires-clause-is : goal.push_recorded-requires-clause-is
push_recorded-requires-clause-is c =
    let arch = c.args.table.now.arch in
    let faithful = subst (IsFaithfulSlot arch) c.in-Recorded.is c.requires.faithful in (
      written c.in-Recorded.entry,
      subst (λ (text : List ℕ). IsStored arch text (as_stored (Recorded c.in-Recorded.entry)))
          (sym (c.in_ok-text_of-in-Recorded.ensures ∙ ap stanza_text c.stanza.ensures))
          (faithful-stored arch (Recorded c.in-Recorded.entry) faithful),
      sym (c.in_ok-name-in-Recorded.ensures.items ∙ c.name.ensures.value),
    )

pub push_foreign-requires : goal.push_foreign-requires
push_foreign-requires c =
    let arch = c.args.table.now.arch in
    let faithful = subst (IsFaithfulSlot arch) c.in-Foreign.is c.requires.faithful in (
      by_itself c.in-Foreign.stanza,
      subst (λ (text : List ℕ). IsStored arch text (as_stored (Foreign c.in-Foreign.stanza)))
          (sym c.in_ok-text_of-in-Foreign.ensures)
          (faithful-stored arch (Foreign c.in-Foreign.stanza) faithful),
    )

pub returns-in_ok-text_of-in-Recorded : goal.returns-in_ok-text_of-in-Recorded
returns-in_ok-text_of-in-Recorded c =
    let arch = c.args.table.now.arch in
    let faithful = subst (IsFaithfulSlot arch) c.in-Recorded.is c.requires.faithful in
    let stored = subst (λ (text : List ℕ). IsStored arch text (as_stored (Recorded c.in-Recorded.entry)))
    (sym (c.in_ok-text_of-in-Recorded.ensures ∙ ap stanza_text c.stanza.ensures)) (faithful-stored arch (Recorded c.in-Recorded.entry) faithful) in
    subst (λ (slot : FileSlot). OnOk c.push_recorded.result (c.push_recorded.new.self ≡ record { arch = arch; slots = c.args.table.now.slots ++ as_stored slot ∷ [] }))
    (sym c.in-Recorded.is) (c.push_recorded.ensures.ok (written c.in-Recorded.entry) stored.read)

pub returns-in_ok-text_of-in-Foreign : goal.returns-in_ok-text_of-in-Foreign
returns-in_ok-text_of-in-Foreign c =
    let arch = c.args.table.now.arch in
    let faithful = subst (IsFaithfulSlot arch) c.in-Foreign.is c.requires.faithful in
    let stored = subst (λ (text : List ℕ). IsStored arch text (as_stored (Foreign c.in-Foreign.stanza)))
    (sym c.in_ok-text_of-in-Foreign.ensures) (faithful-stored arch (Foreign c.in-Foreign.stanza) faithful) in
    subst (λ (slot : FileSlot). OnOk c.push_foreign.result (c.push_foreign.new.self ≡ record { arch = arch; slots = c.args.table.now.slots ++ as_stored slot ∷ [] }))
    (sym c.in-Foreign.is) (c.push_foreign.ensures.ok (as_stored (Foreign c.in-Foreign.stanza)) stored.read)
