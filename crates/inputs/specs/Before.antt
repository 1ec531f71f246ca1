-- What the texts before the request are read as, and what is refused of them.
use Rattle.std.specs.Prelude.{◌≡◌, ℕ, List, Ok, Err}
use Rattle.index.specs.Sources.{SourceText}
use Rattle.pins.specs.Prefs.{Preferences}
use Rattle.rules.specs.Available.{Index}
use Rattle.rules.specs.Database.{Record}
use Rattle.rules.specs.FileRecord.{records_of}
use Rattle.status_text.specs.Slot.{FileSlot, entries_of}
use Rattle.inputs.specs.Indices.{read_indices}
use Rattle.inputs.specs.Texts.{Texts, status_file_of, sources_of, preferences_of}
use Rattle.inputs.specs.declared.refusal.Fault.{Fault}
use Rattle.inputs.specs.declared.refusal.Fault.TheVariants as fault
use Rattle.inputs.specs.declared.refusal.Input.{Input}
use Rattle.inputs.specs.declared.refusal.Input.TheVariants as place
use Rattle.inputs.specs.declared.refusal.Refusal.{Refusal}

-- the status file is read without refusal, as this start
pub record HasStart (texts : Texts) (start : List Record) : Type 0 where
  pub slots : List FileSlot
  pub status : status_file_of texts ≡ Ok slots
  pub start_is : start ≡ records_of (entries_of slots)

-- the status file is read without refusal
abbrev pub HasStatus : Texts → Type 0
HasStatus texts = (start : List Record) × HasStart texts start

-- the texts before the indices are read, and the first refusal of the indices is this one
pub record IsIndexFault (texts : Texts) (number : ℕ) (reason : Fault) : Type 0 where
  pub sources : List SourceText
  pub status : HasStatus texts
  pub sources_are : sources_of texts ≡ Ok sources
  pub refused : read_indices texts.arch texts.index sources ≡ Err (record { place = place.Index number; fault = reason })

-- the sources and the indices are read without refusal, as these indices
pub record HasIndices (texts : Texts) (indices : List Index) : Type 0 where
  pub sources : List SourceText
  pub sources_are : sources_of texts ≡ Ok sources
  pub indices_are : read_indices texts.arch texts.index sources ≡ Ok indices

-- the texts before the preferences are read without refusal, as this start and these indices
pub record AreListed (texts : Texts) (start : List Record) (indices : List Index) : Type 0 where
  pub started : HasStart texts start
  pub indexed : HasIndices texts indices

-- the texts before the preferences are read, and the preferences have the fault
pub record IsPreferencesFault (texts : Texts) (reason : Fault) : Type 0 where
  pub start : List Record
  pub indices : List Index
  pub listed : AreListed texts start indices
  pub refused : preferences_of texts ≡ Err reason

-- the texts before the request are read without refusal, as this start, these indices and these preferences
pub record AreRead (texts : Texts) (start : List Record) (indices : List Index) (prefs : Preferences) : Type 0 where
  pub listed : AreListed texts start indices
  pub preferred : preferences_of texts ≡ Ok prefs

-- the texts before the place are read, and the text at the place, which is before the request, has the fault; of no text,
-- memory was wanting
abbrev pub IsFaultBefore : Texts → Input → Fault → Type 0
IsFaultBefore texts (place.Version number) reason = ⊥
IsFaultBefore texts place.Status reason = status_file_of texts ≡ Err reason
IsFaultBefore texts place.Sources reason = HasStatus texts × (sources_of texts ≡ Err reason)
IsFaultBefore texts (place.Index number) reason = IsIndexFault texts number reason
IsFaultBefore texts place.Preferences reason = IsPreferencesFault texts reason
IsFaultBefore texts place.Request reason = ⊥
IsFaultBefore texts place.Plan reason = ⊥
IsFaultBefore texts place.Refutation reason = ⊥
IsFaultBefore texts place.Memory reason = reason ≡ fault.OutOfMemory

-- the first refusal of the texts before the request, in the order of reading
abbrev pub IsRefusalBefore : Texts → Refusal → Type 0
IsRefusalBefore texts refused = IsFaultBefore texts refused.place refused.fault
