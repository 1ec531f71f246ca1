-- A run of the rules can be taken in the status file, and leads to the records of its end.
use Rattle.std.proofs.Common.{◌≡◌, ℕ, ◌≤◌, Bool, true, false, List, [], ◌∷◌, ◌++◌, map, length, nat_lt, Result, Ok, Err, refl, sym, ap, subst, ◌∙◌, ltb-false}
use Rattle.std.specs.Prelude.{if◌then◌else◌}
use Rattle.journal.specs.Adding.{recorded_of}
use Rattle.journal.specs.History.{Leads, slots_left}
use Rattle.journal.specs.Payload.{RecordedStep}
use Rattle.rules.specs.Database.{Record}
use Rattle.rules.specs.Run.{Run}
use Rattle.rules.specs.declared.limits.TheConstants.{TEXT_BYTES}
use Rattle.stanza.specs.Stanza.{items_of}
use Rattle.stanza.specs.declared.form.Form.TheVariants.{Plain}
use Rattle.status_text.specs.Slot.{FileSlot, slot_records}
use Rattle.status_text.specs.Status.{read_status, slots_in}
use Rattle.status_text.specs.declared.error.StatusFault.{StatusFault}
use Rattle.status_text.specs.declared.error.StatusFault.TheVariants as status_fault
use Rattle.status.specs.Applicable.{handed_in}
use Rattle.status.specs.Stored.{as_stored, read_stored}
use Rattle.status.specs.Text.{slots_text}
use Rattle.applied_end.proofs.SoundLemmas.{read_reads_again, sound_reads_back, step_keeps_sound, stored_read}
use Rattle.applied_end.proofs.StepLemmas.{allowed_is_applicable, records_are_left, stored_records}
use Rattle.applied_end.specs.Run.{IsNeverRefused, IsStatusFileOf, LeadsKeepsSound, OneLast, RunIsTaken, StartIsRead}
use Rattle.applied_end.specs.Sound.{AreSound}

pub run_is_taken : RunIsTaken
run_is_taken arch u start finish [] [] slots built handed run = (slots, refl, sym run)
run_is_taken arch u start finish [] (text ∷ given) slots built handed run = absurd handed
run_is_taken arch u start finish (taken ∷ steps) [] slots built handed run = absurd handed
run_is_taken arch u start finish (taken ∷ steps) (text ∷ given) slots built handed run =
    let recorded = recorded_of taken text in
    let indexed = handed_in arch recorded.stanza in
    let can = allowed_is_applicable u start (slot_records slots) taken indexed built handed.0 run.0 in
    let behind : Run u (slot_records (slots_left arch recorded slots)) steps finish =
    subst (λ (db : List Record). Run u db steps finish) (sym (records_are_left u taken indexed slots handed.0)) run.1 in
    let (last, leads, records) = run_is_taken arch u start finish steps given (slots_left arch recorded slots) built handed.1 behind in
    (last, (can, leads), records)

pub one_last : OneLast
one_last arch slots first second [] leads other = leads ∙ sym other
one_last arch slots first second (recorded ∷ later) leads other = one_last arch (slots_left arch recorded slots) first second later leads.1 other.1

pub leads_keeps_sound : LeadsKeepsSound
leads_keeps_sound arch slots last [] leads sound = subst (AreSound arch) (sym leads) sound
leads_keeps_sound arch slots last (recorded ∷ later) leads sound =
    leads_keeps_sound arch (slots_left arch recorded slots) last later leads.1
    (step_keeps_sound arch recorded.stanza recorded.step slots leads.0 sound)

-- what leads from behind the first steps
pub leads_behind : (arch : List ℕ) (slots middle last : List FileSlot) (steps later : List RecordedStep) → Leads arch slots (steps ++ later) last
    → Leads arch slots steps middle → Leads arch middle later last
leads_behind arch slots middle last [] later leads first = subst (λ (from : List FileSlot). Leads arch from later last) (sym first) leads
leads_behind arch slots middle last (recorded ∷ steps) later leads first =
    leads_behind arch (slots_left arch recorded slots) middle last steps later leads.1 first.1

-- where a plan can be taken to its end, no next step is refused
pub never_refused : (arch start : List ℕ) (plan : List RecordedStep) (first last : List FileSlot) → read_stored arch start ≡ Ok first
    → Leads arch first plan last → IsNeverRefused arch start plan
never_refused arch start plan first last begins leads h next has is_next =
    let same : has.first ≡ first = stored_same has.first first (sym has.begins ∙ begins) in
    let whole : Leads arch has.first (h.steps ++ next ∷ is_next.0) last =
    subst (λ (slots : List FileSlot). Leads arch slots (h.steps ++ next ∷ is_next.0) last) (sym same)
    (subst (λ (steps : List RecordedStep). Leads arch first steps last) is_next.1 leads) in
    (leads_behind arch has.first h.slots last h.steps (next ∷ is_next.0) whole has.leads).0
  where
    stored_same : (a b : List FileSlot) → ◌≡◌ {A = Result (List FileSlot) StatusFault} (Ok a) (Ok b) → a ≡ b
    stored_same a b e = let h = e in cc

-- a text that is read is within the limit
status_fits : (arch text : List ℕ) (slots : List FileSlot) → read_status arch text ≡ Ok slots → length text ≤ TEXT_BYTES
status_fits arch text slots is = by (nat_lt TEXT_BYTES (length text)) refl is
  where
    by : (long : Bool) → nat_lt TEXT_BYTES (length text) ≡ long
        → (if long then Err status_fault.TooLarge else slots_in arch (items_of Plain text) []) ≡ Ok slots → length text ≤ TEXT_BYTES
    by true long is = absurd (let e = is in cc)
    by false short is = ltb-false TEXT_BYTES (length text) short

pub start_is_read : StartIsRead
start_is_read arch text slots first read is =
    let (was, is_read, same) = stored_read (read_status arch (slots_text slots)) first is in
    let again = read_reads_again arch text slots read (status_fits arch (slots_text slots) was is_read) in
    stored_same first (map as_stored slots) (sym is ∙ again)
  where
    stored_same : (a b : List FileSlot) → ◌≡◌ {A = Result (List FileSlot) StatusFault} (Ok a) (Ok b) → a ≡ b
    stored_same a b e = let h = e in cc

-- the text of sound slots is a status file with their records
pub status_file_of : (arch : List ℕ) (slots : List FileSlot) (db : List Record) → AreSound arch slots → slot_records slots ≡ db
    → IsStatusFileOf arch (slots_text slots) db
status_file_of arch slots db sound records = record {
  slots = slots;
  text_is = refl;
  records = records;
  read = λ fits.
      let (was, read, same) = stored_read (read_status arch (slots_text slots)) slots (sound_reads_back arch slots sound fits) in
      (was, read, sym (stored_records was) ∙ ap slot_records same ∙ records);
}
