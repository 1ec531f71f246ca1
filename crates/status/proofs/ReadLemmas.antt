-- A stanza of the status file is read as a record just where its values say that record.
use Rattle.std.proofs.Common.{◌≡◌, ℕ, Bool, true, false, true≢false, not, List, [], Option, None, Some, Result, Ok, Err, refl, sym, ap, ◌∙◌, subst, unwrap_or, codes, if◌then◌else◌}
use Rattle.std.specs.Option.{option_and_then, option_or}
use Rattle.relation.specs.PackageStanza.{counts_for, read_stanza}
use Rattle.relation.specs.PkgFields.{field_named, fields_of}
use Rattle.relation.specs.PkgText.{pkg_name_fault, relations_fault, relations_of}
use Rattle.relation.specs.declared.error.PkgFault.{PkgFault}
use Rattle.rules.specs.Database.{Record}
use Rattle.rules.specs.FileRecord.{FileRecord}
use Rattle.rules.specs.Package.{Relations}
use Rattle.rules.specs.State.{is_present_state}
use Rattle.rules.specs.Step.{no_relations}
use Rattle.rules.specs.declared.status.State.{State}
use Rattle.stanza.specs.Field.{FieldText, value_named}
use Rattle.stanza.specs.Stanza.{StanzaText}
use Rattle.status.proofs.ValueLemmas.{values_in}
use Rattle.status_text.specs.Mark.{counts, counts_by, mark_by, mark_in, name_in, read_mark, unless_fault}
use Rattle.status_text.specs.Record.{config_version_at, config_version_field, config_version_fault, entry_of, is_seen, later_fault, read_counted, read_marked, read_new, read_slot, record_of, relations_fault_at, text_in, version_fault_at, version_field}
use Rattle.status_text.specs.Slot.{FileSlot}
use Rattle.status_text.specs.Words.{read_words}
use Rattle.status_text.specs.declared.error.StatusFault.{StatusFault}
use Rattle.status_text.specs.declared.error.StatusFault.TheVariants as fault
use Rattle.status_text.specs.declared.words.Mark.{Mark}
use Rattle.status_text.specs.declared.slot.Slot.TheVariants.{Recorded, Foreign}
use Rattle.status.proofs.SaysLemmas.{Says, counts_value, none-front, none-back, none-both, sound-version, version-sound, sound-name, name-sound, value-text, sound-there, there-sound, sound-relations, relations-sound, relations-same}

-- what the words of a mark are
mark-by : (line : ℕ) (words : Option Mark) (mark : Mark) → mark_by line words ≡ Ok mark → words ≡ Some mark
mark-by line None mark h = absurd (let e = h in cc)
mark-by line (Some words) mark h = let e = h in cc

-- the status of a stanza by its value
mark-value : (stanza : StanzaText) (field : Option FieldText) (mark : Mark) → mark_in stanza field ≡ Ok mark
    → option_and_then read_words (text_in field) ≡ Some (record { want = mark.want; flag = mark.flag; state = mark.state })
mark-value stanza None mark h = absurd (let e = h in cc)
mark-value stanza (Some field) mark h = mark-by field.line (read_words field.value) mark h

value-mark : (stanza : StanzaText) (field : Option FieldText) (mark : Mark)
    → option_and_then read_words (text_in field) ≡ Some (record { want = mark.want; flag = mark.flag; state = mark.state })
    → mark_in stanza field ≡ Ok mark
value-mark stanza None mark h = absurd (let e = h in cc)
value-mark stanza (Some field) mark h = rw h refl

-- the architecture of a stanza by its value
counts-none : (present : Bool) (refused : StatusFault) → (if present then Err refused else Ok true) ≡ Ok true → not present ≡ true
counts-none true refused h = absurd (let e = h in cc)
counts-none false refused h = refl

counts-some : (counted absent : Bool) (refused : StatusFault) → (if counted then Ok true else if absent then Ok false else Err refused) ≡ Ok true → counted ≡ true
counts-some true absent refused h = refl
counts-some false true refused h = absurd (let e : ◌≡◌ {A = Result Bool StatusFault} (Ok false) (Ok true) = h in cc)
counts-some false false refused h = absurd (let e = h in cc)

none-counts : (present : Bool) (refused : StatusFault) → not present ≡ true → (if present then Err refused else Ok true) ≡ Ok true
none-counts true refused h = absurd (true≢false (sym h))
none-counts false refused h = refl

counted-value : (arch : List ℕ) (stanza : StanzaText) (state : State) (value : Option (List ℕ)) → counts_by arch stanza state value ≡ Ok true → counts_value arch state value ≡ true
counted-value arch stanza state None h = counts-none (is_present_state state) _ h
counted-value arch stanza state (Some value) h = counts-some (counts_for arch value) _ _ h

value-counted : (arch : List ℕ) (stanza : StanzaText) (state : State) (value : Option (List ℕ)) → counts_value arch state value ≡ true → counts_by arch stanza state value ≡ Ok true
value-counted arch stanza state None h = none-counts (is_present_state state) _ h
value-counted arch stanza state (Some value) h = rw h refl

-- the steps of reading
mark-read : (refused : Option PkgFault) (later : Result Mark StatusFault) (mark : Mark) → unless_fault refused later ≡ Ok mark → (refused ≡ None) × (later ≡ Ok mark)
mark-read None later mark h = (refl, h)
mark-read (Some refused) later mark h = absurd (let e = h in cc)

slot-marked : (arch : List ℕ) (seen : List (List ℕ)) (stanza : StanzaText) (read : Result Mark StatusFault) (entry : FileRecord)
    → read_marked arch seen stanza read ≡ Ok (Recorded entry)
    → (mark : Mark) × (read ≡ Ok mark) × (read_counted arch seen stanza mark (counts arch stanza mark.state) ≡ Ok (Recorded entry))
slot-marked arch seen stanza (Err refused) entry h = absurd (let e = h in cc)
slot-marked arch seen stanza (Ok mark) entry h = (mark, refl, h)

slot-counted : (arch : List ℕ) (seen : List (List ℕ)) (stanza : StanzaText) (mark : Mark) (counted : Result Bool StatusFault) (entry : FileRecord)
    → read_counted arch seen stanza mark counted ≡ Ok (Recorded entry) → (counted ≡ Ok true) × (read_new arch seen stanza mark ≡ Ok (Recorded entry))
slot-counted arch seen stanza mark (Err refused) entry h = absurd (let e = h in cc)
slot-counted arch seen stanza mark (Ok false) entry h = absurd (let e : ◌≡◌ {A = Result FileSlot StatusFault} (Ok (Foreign stanza)) (Ok (Recorded entry)) = h in cc)
slot-counted arch seen stanza mark (Ok true) entry h = (refl, h)

slot-new : (is_old : Bool) (duplicate : StatusFault) (refused : Option PkgFault) (spelled entry : FileRecord)
    → (if is_old then Err duplicate else unless_fault refused (Ok (Recorded spelled))) ≡ Ok (Recorded entry)
    → (refused ≡ None) × (spelled ≡ entry)
slot-new true duplicate refused spelled entry h = absurd (let e = h in cc)
slot-new false duplicate None spelled entry h = (refl, let e : ◌≡◌ {A = Result FileSlot StatusFault} (Ok (Recorded spelled)) (Ok (Recorded entry)) = h in cc)
slot-new false duplicate (Some refused) spelled entry h = absurd (let e = h in cc)

new-slot : (is_old : Bool) (duplicate : StatusFault) (refused : Option PkgFault) (spelled entry : FileRecord)
    → is_old ≡ false → refused ≡ None → spelled ≡ entry
    → (if is_old then Err duplicate else unless_fault refused (Ok (Recorded spelled))) ≡ Ok (Recorded entry)
new-slot is_old duplicate refused spelled entry new sound same = rw (new, sound, same) refl

when_present : (present : Bool) (refused : Option PkgFault) → (if present then refused else None) ≡ None → present ≡ true → refused ≡ None
when_present true refused h there = h
when_present false refused h there = absurd (true≢false (sym there))

present_when : (present : Bool) (refused : Option PkgFault) → (present ≡ true → refused ≡ None) → (if present then refused else None) ≡ None
present_when true refused h = h refl
present_when false refused h = refl

-- the values of a stanza that is read say its record
says-record : (arch : List ℕ) (stanza : StanzaText) (mark : Mark) → read_mark stanza ≡ Ok mark → counts arch stanza mark.state ≡ Ok true
    → later_fault mark.state stanza ≡ None → Says arch (values_in stanza) (record_of arch stanza mark)
says-record arch stanza mark marked counted sound =
    let fields = fields_of stanza in
    let named = mark-read (pkg_name_fault fields) (mark_in stanza (field_named (codes "Status") stanza.fields)) mark marked in
    let name = sound-name fields.line fields.name named.0 in
    let front = version_fault_at mark.state stanza in
    let middle = config_version_fault stanza in
    let back = relations_fault_at mark.state fields in
    let later = none-back front (option_or middle back) sound in
    let version = sound-there (is_present_state mark.state) fields.line fields.version (none-front front (option_or middle back) sound) in
    record {
      name = name.0;
      valid = name.1;
      status = mark-value stanza (field_named (codes "Status") stanza.fields) mark named.1;
      counted = counted-value arch stanza mark.state (value_named (codes "Architecture") stanza.fields) counted;
      version = refl;
      there = version.0;
      version_sound = version.1;
      config_sound = sound-version (config_version_field stanza) (none-front middle back later);
      config_version = refl;
      relations_sound = λ present. sound-relations stanza (when_present (is_present_state mark.state) (relations_fault fields) (none-back middle back later) present);
      relations = ap (λ (relations : Relations). if is_present_state mark.state then relations else no_relations) (relations-same arch stanza);
      essential = refl;
    }

pub read_says : (arch : List ℕ) (seen : List (List ℕ)) (stanza : StanzaText) (entry : FileRecord) → read_slot arch seen stanza ≡ Ok (Recorded entry)
    → Says arch (values_in stanza) entry.status × (read_stanza stanza ≡ entry.stanza)
read_says arch seen stanza entry read =
    let marked = slot-marked arch seen stanza (read_mark stanza) entry read in
    let mark = marked.0 in
    let counted = slot-counted arch seen stanza mark (counts arch stanza mark.state) entry marked.2 in
    let new = slot-new (is_seen seen (name_in stanza)) (fault.DuplicatePackage (name_in stanza)) (later_fault mark.state stanza) (entry_of arch stanza mark) entry counted.1 in (
      subst (λ (of : FileRecord). Says arch (values_in stanza) of.status) new.1 (says-record arch stanza mark marked.1 counted.0 new.0),
      ap (λ (of : FileRecord). of.stanza) new.1,
    )

-- a stanza whose values say a record is read as it
record-made : (arch : List ℕ) (stanza : StanzaText) (entry : Record) → Says arch (values_in stanza) entry
    → record_of arch stanza (record { want = entry.want; flag = entry.flag; state = entry.state }) ≡ entry
record-made arch stanza entry says =
    let name = value-text (fields_of stanza).name entry.name says.name in
    let relations = sym (ap (λ (relations : Relations). if is_present_state entry.state then relations else no_relations) (relations-same arch stanza)) ∙ says.relations in
    let same : ◌≡◌ {A = Record} (record {
      name = name_in stanza;
      state = entry.state;
      want = entry.want;
      flag = entry.flag;
      version = unwrap_or (text_in (version_field stanza)) [];
      config_version = config_version_at entry.state (text_in (version_field stanza)) (text_in (config_version_field stanza));
      relations = if is_present_state entry.state then relations_of arch (fields_of stanza) else no_relations;
      is_essential = (values_in stanza).is_essential;
    }) entry = same_record entry _ _ _ _ _ name says.version says.config_version relations says.essential in same
  where
    same_record : (entry : Record) (name version : List ℕ) (config_version : Option (List ℕ)) (relations : Relations) (is_essential : Bool)
        → name ≡ entry.name → version ≡ entry.version → config_version ≡ entry.config_version → relations ≡ entry.relations → is_essential ≡ entry.is_essential
        → ◌≡◌ {A = Record} (record { name = name; state = entry.state; want = entry.want; flag = entry.flag; version = version; config_version = config_version; relations = relations; is_essential = is_essential }) entry
    same_record entry name version config_version relations is_essential n v c r e = rw (n, v, c, r, e) refl

pub says_read : (arch : List ℕ) (seen : List (List ℕ)) (stanza : StanzaText) (entry : Record) → Says arch (values_in stanza) entry
    → is_seen seen entry.name ≡ false → read_slot arch seen stanza ≡ Ok (Recorded (record { status = entry; stanza = read_stanza stanza }))
says_read arch seen stanza entry says new =
    let fields = fields_of stanza in
    let mark : Mark = record { want = entry.want; flag = entry.flag; state = entry.state } in
    let name = value-text fields.name entry.name says.name in
    let marked : read_mark stanza ≡ Ok mark =
    ap (λ (refused : Option PkgFault). unless_fault refused (mark_in stanza (field_named (codes "Status") stanza.fields))) (name-sound fields.line fields.name entry.name says.name says.valid)
    ∙ value-mark stanza (field_named (codes "Status") stanza.fields) mark says.status in
    let counted : counts arch stanza entry.state ≡ Ok true = value-counted arch stanza entry.state (value_named (codes "Architecture") stanza.fields) says.counted in
    let sound : later_fault entry.state stanza ≡ None =
    none-both (version_fault_at entry.state stanza) (option_or (config_version_fault stanza) (relations_fault_at entry.state fields))
    (there-sound (is_present_state entry.state) fields.line fields.version says.there says.version_sound)
    (none-both (config_version_fault stanza) (relations_fault_at entry.state fields)
    (version-sound (config_version_field stanza) says.config_sound)
    (present_when (is_present_state entry.state) (relations_fault fields) (λ present. relations-sound stanza (says.relations_sound present)))) in
    ap (read_marked arch seen stanza) marked ∙ ap (read_counted arch seen stanza mark) counted
    ∙ new-slot (is_seen seen (name_in stanza)) (fault.DuplicatePackage (name_in stanza)) (later_fault entry.state stanza) (entry_of arch stanza mark)
    (record { status = entry; stanza = read_stanza stanza })
    (ap (is_seen seen) name ∙ new) sound (ap (λ (of : Record). record { status = of; stanza = read_stanza stanza }) (record-made arch stanza entry says))
