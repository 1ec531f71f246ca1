-- The texts that actions write, and the entries that they say.
use Rattle.std.specs.Prelude.{◌≡◌, ℕ, true, List, Some}
use Rattle.rules.specs.FileRecord.{FileRecord, IndexStanza, touched_entry}
use Rattle.status_text.specs.Slot.{Store}
use Rattle.status_text.specs.declared.slot.Slot.TheVariants.{Recorded}
use Rattle.status.specs.Action.{left_of, starts_from}
use Rattle.status.specs.Slots.{entry_named}
use Rattle.status.specs.Stored.{IsStored, written}
use Rattle.status.specs.Written.{entry_over}
use Rattle.status.specs.declared.action.Action.{Action}

-- the text is the stanza of this entry
abbrev pub IsTextOf : List ℕ → List ℕ → FileRecord → Type 0
IsTextOf arch text entry = IsStored arch text (Recorded entry)

-- the text is the stanza of what the action leaves of the entry of the name, from which it starts
pub record IsTextAfter (action : Action) (store : Store) (name text : List ℕ) : Type 0 where
  pub old : FileRecord
  pub there : entry_named name store.slots ≡ Some old
  pub starts : starts_from action old.status ≡ true
  pub text_is : IsTextOf store.arch text (written (touched_entry (left_of action) old))

-- the text is that of what is unpacked in the place of the name
pub record IsTextUnpacked (indexed : IndexStanza) (store : Store) (name text : List ℕ) : Type 0 where
  pub named : indexed.listed.pkg.name ≡ name
  pub text_is : IsTextOf store.arch text (written (entry_over indexed (entry_named name store.slots)))
