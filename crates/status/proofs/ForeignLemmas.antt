-- A stanza that has no record has none by the values of its fields, wherever its lines stand and whatever stands before it.
use Rattle.std.proofs.Common.{◌≡◌, ℕ, Bool, true, false, List, Option, None, Some, Result, Ok, Err, refl, sym, ap, ◌∙◌, codes, if◌then◌else◌}
use Rattle.relation.specs.PackageStanza.{counts_for}
use Rattle.relation.specs.PkgFields.{field_named, fields_of}
use Rattle.relation.specs.PkgText.{name_fault_in, pkg_name_fault, value_in}
use Rattle.relation.specs.declared.error.PkgFault.{PkgFault}
use Rattle.rules.specs.FileRecord.{FileRecord}
use Rattle.rules.specs.State.{is_not_installed_state, is_present_state}
use Rattle.rules.specs.declared.status.State.{State}
use Rattle.stanza.specs.Field.{FieldText, value_named}
use Rattle.stanza.specs.Stanza.{StanzaText}
use Rattle.status.proofs.SaysLemmas.{name-sound, sound-name}
use Rattle.status.proofs.ValueLemmas.{Values, values-read, values_in, values_of}
use Rattle.status.specs.Faithful.{StaysForeign}
use Rattle.status_text.specs.Mark.{counts, counts_by, mark_by, mark_in, name_in, read_mark, unless_fault}
use Rattle.status_text.specs.Record.{entry_of, is_seen, later_fault, read_counted, read_marked, read_slot, text_in}
use Rattle.status_text.specs.Slot.{FileSlot}
use Rattle.status_text.specs.Words.{read_words}
use Rattle.status_text.specs.declared.error.StatusFault.{StatusFault}
use Rattle.status_text.specs.declared.error.StatusFault.TheVariants as fault
use Rattle.status_text.specs.declared.words.Mark.{Mark}
use Rattle.status_text.specs.declared.slot.Slot.TheVariants.{Recorded, Foreign}

-- the name, and what Status says, by the values of the fields
name-again : (line again : ℕ) (a b : Option FieldText) → text_in b ≡ text_in a → name_fault_in line a ≡ None → name_fault_in again b ≡ None
name-again line again a b same h = let sound = sound-name line a h in name-sound again b (value_in a) (same ∙ sound.0) sound.1

by-again : (line again : ℕ) (words : Option Mark) (mark : Mark) → mark_by line words ≡ Ok mark → mark_by again words ≡ Ok mark
by-again line again None mark h = absurd (let e = h in cc)
by-again line again (Some words) mark h = h

status-again : (stanza again : StanzaText) (a b : Option FieldText) (mark : Mark) → text_in b ≡ text_in a → mark_in stanza a ≡ Ok mark → mark_in again b ≡ Ok mark
status-again stanza again None b mark same h = absurd (let e = h in cc)
status-again stanza again (Some field) None mark same h = absurd (let e = same in cc)
status-again stanza again (Some field) (Some other) mark same h =
    let value : other.value ≡ field.value = let e = same in cc in
    ap (λ v. mark_by other.line (read_words v)) value
    ∙ by-again field.line other.line (read_words field.value) mark h

-- the steps of reading
mark-read : (refused : Option PkgFault) (later : Result Mark StatusFault) (mark : Mark) → unless_fault refused later ≡ Ok mark → (refused ≡ None) × (later ≡ Ok mark)
mark-read None later mark h = (refl, h)
mark-read (Some refused) later mark h = absurd (let e = h in cc)

slot-marked : (arch : List ℕ) (seen : List (List ℕ)) (stanza other : StanzaText) (read : Result Mark StatusFault)
    → read_marked arch seen stanza read ≡ Ok (Foreign other)
    → (mark : Mark) × (read ≡ Ok mark) × (read_counted arch seen stanza mark (counts arch stanza mark.state) ≡ Ok (Foreign other))
slot-marked arch seen stanza other (Err refused) h = absurd (let e = h in cc)
slot-marked arch seen stanza other (Ok mark) h = (mark, refl, h)

never-new : (is_old : Bool) (duplicate : StatusFault) (refused : Option PkgFault) (entry : FileRecord) (other : StanzaText)
    → (if is_old then Err duplicate else unless_fault refused (Ok (Recorded entry))) ≡ Ok (Foreign other) → ⊥
never-new true duplicate refused entry other h = let e = h in cc
never-new false duplicate None entry other h = let e : ◌≡◌ {A = Result FileSlot StatusFault} (Ok (Recorded entry)) (Ok (Foreign other)) = h in cc
never-new false duplicate (Some refused) entry other h = let e = h in cc

slot-counted : (arch : List ℕ) (seen : List (List ℕ)) (stanza other : StanzaText) (mark : Mark) (counted : Result Bool StatusFault)
    → read_counted arch seen stanza mark counted ≡ Ok (Foreign other) → (counted ≡ Ok false) × (stanza ≡ other)
slot-counted arch seen stanza other mark (Err refused) h = absurd (let e = h in cc)
slot-counted arch seen stanza other mark (Ok true) h =
    absurd (never-new (is_seen seen (name_in stanza)) (fault.DuplicatePackage (name_in stanza)) (later_fault mark.state stanza) (entry_of arch stanza mark) other h)
slot-counted arch seen stanza other mark (Ok false) h =
    (refl, let e : ◌≡◌ {A = Result FileSlot StatusFault} (Ok (Foreign stanza)) (Ok (Foreign other)) = h in cc)

-- that the stanza doesn't count, by the value of Architecture
none-again : (present : Bool) (refused other : StatusFault) → (if present then Err refused else Ok true) ≡ Ok false → (if present then Err other else Ok true) ≡ Ok false
none-again true refused other h = absurd (let e = h in cc)
none-again false refused other h = h

some-again : (counted absent : Bool) (refused other : StatusFault) → (if counted then Ok true else if absent then Ok false else Err refused) ≡ Ok false
    → (if counted then Ok true else if absent then Ok false else Err other) ≡ Ok false
some-again true absent refused other h = h
some-again false true refused other h = h
some-again false false refused other h = absurd (let e = h in cc)

counts-again : (arch : List ℕ) (stanza again : StanzaText) (state : State) (value : Option (List ℕ)) → counts_by arch stanza state value ≡ Ok false → counts_by arch again state value ≡ Ok false
counts-again arch stanza again state None h = none-again (is_present_state state) _ _ h
counts-again arch stanza again state (Some value) h = some-again (counts_for arch value) (is_not_installed_state state) _ _ h

module _ (arch : List ℕ) (seen : List (List ℕ)) (stanza other : StanzaText) (read : read_slot arch seen stanza ≡ Ok (Foreign other)) where
  marked : (mark : Mark) × (read_mark stanza ≡ Ok mark) × (read_counted arch seen stanza mark (counts arch stanza mark.state) ≡ Ok (Foreign other))
  marked = slot-marked arch seen stanza other (read_mark stanza) read

  counted : (counts arch stanza marked.0.state ≡ Ok false) × (stanza ≡ other)
  counted = slot-counted arch seen stanza other marked.0 (counts arch stanza marked.0.state) marked.2

  pub foreign-same : stanza ≡ other
  foreign-same = counted.1

  pub foreign-stays : StaysForeign arch stanza
  foreign-stays again names same =
      let values : values_in again ≡ values_in stanza = values-read again ∙ ap values_of same ∙ sym (values-read stanza) in
      let mark = marked.0 in
      let parts = mark-read (pkg_name_fault (fields_of stanza)) (mark_in stanza (field_named (codes "Status") stanza.fields)) mark marked.1 in
      let name = name-again stanza.line again.line (field_named (codes "Package") stanza.fields) (field_named (codes "Package") again.fields)
      (ap (λ (v : Values). v.name) values) parts.0 in
      let status = status-again stanza again (field_named (codes "Status") stanza.fields) (field_named (codes "Status") again.fields) mark
      (ap (λ (v : Values). v.status) values) parts.1 in
      let said : read_mark again ≡ Ok mark =
      ap (λ (refused : Option PkgFault). unless_fault refused (mark_in again (field_named (codes "Status") again.fields))) name ∙ status in
      let foreign : counts arch again mark.state ≡ Ok false =
      ap (counts_by arch again mark.state) (ap (λ (v : Values). v.architecture) values)
      ∙ counts-again arch stanza again mark.state (value_named (codes "Architecture") stanza.fields) counted.0 in
      ap (read_marked arch names again) said ∙ ap (read_counted arch names again mark) foreign
