-- The start that texts are read as has distinct names.
use Rattle.std.proofs.Common.{◌≡◌, ℕ, Bool, true, false, List, [], Some, None, Result, Ok, Err, refl, sym, subst, if◌then◌else◌}
use Rattle.std.specs.Prelude.{length, nat_lt}
use Rattle.rules.specs.Database.{HasDistinctNames, Record}
use Rattle.rules.specs.declared.limits.TheConstants.{TEXT_BYTES}
use Rattle.stanza.specs.declared.form.Form.TheVariants.{Plain}
use Rattle.stanza.specs.Stanza.{items_of}
use Rattle.status_text.specs.Slot.{FileSlot}
use Rattle.status_text.specs.Status.{read_status, slots_in}
use Rattle.status_text.specs.declared.error.StatusFault.{StatusFault}
use Rattle.status_text.specs.declared.error.StatusFault.TheVariants as from
use Rattle.status_text.proofs.DistinctLemmas.{distinct_names}
use Rattle.inputs.specs.Before.{HasStart}
use Rattle.inputs.specs.Reading.{with_fault}
use Rattle.inputs.specs.Texts.{Found, Texts, read_found, status_in, status_file_of, status_refusal}
use Rattle.inputs.specs.declared.refusal.Fault.{Fault}
use Rattle.inputs.specs.declared.refusal.Fault.TheVariants as fault

-- what is read with faults is what is read
pub read-ok : {A E : Type 0} (as_fault : E → Fault) (reading : Result A E) (value : A) → with_fault as_fault reading ≡ Ok value
    → reading ≡ Ok value
read-ok as_fault (Ok read) value is = let e : read ≡ value = cc in cc
read-ok as_fault (Err refused) value is = absurd (let e : Err (as_fault refused) ≡ Ok value = is in cc)

-- what is read is read of a text that is found
pub found-ok : {A : Type 0} (read : List ℕ → Result A Fault) (stored : Found) (value : A) → read_found read stored ≡ Ok value
    → (text : List ℕ) × (stored ≡ Some text) × (read text ≡ Ok value)
found-ok read None value is = absurd (let e : Err fault.Read ≡ Ok value = is in cc)
found-ok read (Some text) value is = (text, refl, is)

-- a text that is read isn't too long
not-long : (b : Bool) (reading : Result (List FileSlot) StatusFault) (slots : List FileSlot)
    → (if b then Err from.TooLarge else reading) ≡ Ok slots → reading ≡ Ok slots
not-long false reading slots is = is
not-long true reading slots is = absurd (let e : Err from.TooLarge ≡ Ok slots = is in cc)

-- the slots of a status file that is read, of which this is the text
pub status-read : (texts : Texts) (slots : List FileSlot) → status_file_of texts ≡ Ok slots
    → (text : List ℕ) × (read_status texts.arch text ≡ Ok slots)
status-read texts slots is =
    let (text, there, read) = found-ok (status_in texts.arch) texts.status slots is in
    (text, read-ok (λ (refused : StatusFault). fault.Status (status_refusal refused)) (read_status texts.arch text) slots read)

pub distinct_start : (texts : Texts) (start : List Record) → HasStart texts start → HasDistinctNames start
distinct_start texts start is =
    let (text, read) = status-read texts is.slots is.status in
    subst HasDistinctNames (sym is.start_is)
    (distinct_names texts.arch (items_of Plain text) is.slots
    (not-long (nat_lt TEXT_BYTES (length text)) (slots_in texts.arch (items_of Plain text) []) is.slots read))
