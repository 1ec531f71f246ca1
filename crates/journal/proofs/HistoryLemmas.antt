-- What bytes stand for, with one record more.
use Rattle.std.proofs.Common.{◌≡◌, ℕ, ◌+◌, ◌-◌, ◌<◌, ◌≤◌, ◌^◌, Some, None, Option, List, [], ◌∷◌, ◌++◌, length, refl, sym, ◌∙◌, ap, subst, arith, append_assoc, length-append}
use Rattle.std.specs.Int.{w32, to_be_bytes}
use Rattle.std.specs.Prelude.{Ok}
use Rattle.std.proofs.lemmas.List.{append-nil}
use Rattle.status_text.specs.Slot.{FileSlot}
use Rattle.status.specs.Stored.{read_stored}
use Rattle.journal.specs.declared.error.OpenError.{OpenError}
use Rattle.journal.specs.declared.error.OpenError.TheVariants as error
use Rattle.journal.specs.declared.ledger.Ledger.{Ledger}
use Rattle.journal.specs.File.{Entry, HeaderFits, entries_bytes, framed, front, header}
use Rattle.journal.specs.Fault.{IsStuck, IsStuckAt}
use Rattle.journal.specs.History.{AreRecords, History, IsApplicable, IsFor, IsRecord, Leads, Reaches, StandsFor, followed, slots_left}
use Rattle.journal.specs.Ledger.{history_of}
use Rattle.journal.specs.Payload.{RecordedStep}
use Rattle.journal.specs.Reading.{IsPushed, IsPushFault, IsPushedFault}

pub length-framed : (payload : List ℕ) → length (framed payload) ≡ 4 + length payload
length-framed payload = length-append (to_be_bytes w32 (length payload)) payload

entries_push : (entries : List Entry) (e : Entry) → entries_bytes (entries ++ e ∷ []) ≡ entries_bytes entries ++ e.0 ∷ framed e.1
entries_push [] e = append-nil (e.0 ∷ framed e.1)
entries_push (a ∷ entries) e =
    ap (λ (l : List ℕ). a.0 ∷ framed a.1 ++ l) (entries_push entries e) ∙ sym (append_assoc (a.0 ∷ framed a.1) (entries_bytes entries) (e.0 ∷ framed e.1))

pub front_push : (named : Option (List ℕ)) (start : List ℕ) (entries : List Entry) (e : Entry)
    → front named start (entries ++ e ∷ []) ≡ front named start entries ++ e.0 ∷ framed e.1
front_push named start entries e =
    ap (λ (l : List ℕ). header named start ++ l) (entries_push entries e) ∙ sym (append_assoc (header named start) (entries_bytes entries) (e.0 ∷ framed e.1))

records_push : (entries : List Entry) (steps : List RecordedStep) (e : Entry) (r : RecordedStep) → AreRecords entries steps → IsRecord e r
    → AreRecords (entries ++ e ∷ []) (steps ++ r ∷ [])
records_push [] [] e r are is = (is, tt)
records_push [] (b ∷ steps) e r are is = absurd are
records_push (a ∷ entries) [] e r are is = absurd are
records_push (a ∷ entries) (b ∷ steps) e r are is = (are.0, records_push entries steps e r are.1 is)

leads_push : (arch : List ℕ) (slots : List FileSlot) (steps : List RecordedStep) (r : RecordedStep) (last : List FileSlot) → Leads arch slots steps last
    → IsApplicable arch r last → Leads arch slots (steps ++ r ∷ []) (slots_left arch r last)
leads_push arch slots [] r last is can = (subst (λ (s : List FileSlot). IsApplicable arch r s) is can, ap (λ (s : List FileSlot). slots_left arch r s) is)
leads_push arch slots (s ∷ steps) r last leads can = (leads.0, leads_push arch (slots_left arch s slots) steps r last leads.1 can)

-- one record more stands for one step more
pub stands_push : (named : Option (List ℕ)) (entries : List Entry) (h : History) (e : Entry) (r : RecordedStep) → StandsFor named entries h → IsRecord e r
    → IsApplicable h.arch r h.slots → StandsFor named (entries ++ e ∷ []) (followed h r)
stands_push named entries h e r stands is can = record {
  header = stands.header;
  for_it = stands.for_it;
  records = records_push entries h.steps e r stands.records is;
  first = stands.first;
  begins = stands.begins;
  leads = leads_push h.arch stands.first h.steps r h.slots stands.leads can;
}

reaches_push : (file : List ℕ) (h : History) (at : ℕ) (rest : List ℕ) (e : Entry) (r : RecordedStep) (behind : List ℕ) → Reaches file h at rest → IsRecord e r
    → IsApplicable h.arch r h.slots → rest ≡ e.0 ∷ framed e.1 ++ behind → Reaches file (followed h r) (at + (5 + length e.1)) behind
reaches_push file h at rest e r behind reaches is can there = record {
  named = reaches.named;
  entries = reaches.entries ++ e ∷ [];
  stands = stands_push reaches.named reaches.entries h e r reaches.stands is can;
  is = reaches.is ∙ ap (λ (l : List ℕ). front reaches.named h.start reaches.entries ++ l) there
      ∙ sym (append_assoc (front reaches.named h.start reaches.entries) (e.0 ∷ framed e.1) behind)
      ∙ ap (λ (l : List ℕ). l ++ behind) (sym (front_push reaches.named h.start reaches.entries e));
  offset = omega (arith, reaches.offset, ap length (front_push reaches.named h.start reaches.entries e), length-append (front reaches.named h.start reaches.entries) (e.0 ∷ framed e.1), length-framed e.1);
}

pub pushed_reaches : (file : List ℕ) (old new : Ledger) (rest behind : List ℕ) → IsPushed old new rest behind → Reaches file (history_of old) old.gate rest
    → Reaches file (history_of new) new.gate behind
pushed_reaches file old new rest behind p reaches =
    subst (λ (n : ℕ). Reaches file (history_of new) n behind) (sym p.gate)
    (subst (λ (h : History). Reaches file h (old.gate + (5 + length p.entry.1)) behind) (sym p.history)
    (reaches_push file (history_of old) old.gate rest p.entry p.recorded behind reaches p.record_is p.applicable p.is))

pub pushed_size : (old new : Ledger) (rest behind : List ℕ) → IsPushed old new rest behind → new.gate + length behind ≡ old.gate + length rest
pushed_size old new rest behind p = omega (arith, p.gate, ap length p.is, length-append (framed p.entry.1) behind, length-framed p.entry.1)

pub pushed_less : (old new : Ledger) (rest behind : List ℕ) → IsPushed old new rest behind → length behind < length rest
pushed_less old new rest behind p = omega (arith, ap length p.is, length-append (framed p.entry.1) behind, length-framed p.entry.1)

pub push_fault : (arch file : List ℕ) (l : Ledger) (rest : List ℕ) (e : OpenError) → l.database.arch ≡ arch → Reaches file (history_of l) l.gate rest
    → IsPushFault l rest e → IsPushedFault arch file e
push_fault arch file l rest error.OutOfMemory is reaches fault = tt
push_fault arch file l rest (error.Damaged at) is reaches fault = record {
  before = history_of l;
  rest = rest;
  reaches = subst (λ (n : ℕ). Reaches file (history_of l) n rest) (sym fault.0) reaches;
  for_it = is;
  stuck = subst (λ (a : List ℕ). IsStuck a l.database.slots rest) is fault.1;
}
push_fault arch file l rest error.Disk is reaches fault = absurd fault
push_fault arch file l rest error.NotAJournal is reaches fault = absurd fault
push_fault arch file l rest error.OtherArchitecture is reaches fault = absurd fault

-- a journal of which the header was read, and no record
pub begun_reaches : (file : List ℕ) (l : Ledger) (named : Option (List ℕ)) (arch start records : List ℕ) (slots : List FileSlot) → HeaderFits named start → IsFor arch named
    → read_stored arch start ≡ Ok slots → file ≡ header named start ++ records → l.start.now ≡ start → l.steps.items ≡ [] → l.database.arch ≡ arch → l.database.slots ≡ slots
    → l.gate ≡ length file - length records → Reaches file (history_of l) l.gate records
begun_reaches file l named arch start records slots fits for_it begins is starts none archs slotss gate = record {
  named = named;
  entries = [];
  stands = record {
    header = subst (λ (s : List ℕ). HeaderFits named s) (sym starts) fits;
    for_it = subst (λ (a : List ℕ). IsFor a named) (sym archs) for_it;
    records = subst (λ (rs : List RecordedStep). AreRecords [] rs) (sym none) tt;
    first = slots;
    begins = ap (λ (a : List ℕ). read_stored a l.start.now) archs ∙ ap (λ (s : List ℕ). read_stored arch s) starts ∙ begins;
    leads = subst (λ (rs : List RecordedStep). Leads l.database.arch slots rs l.database.slots) (sym none) slotss;
  };
  is = is ∙ ap (λ (s : List ℕ). header named s ++ records) (sym starts) ∙ ap (λ (l : List ℕ). l ++ records) (sym (append-nil (header named l.start.now)));
  offset = omega (arith, gate, ap length is, length-append (header named start) records, ap (λ (s : List ℕ). length (header named s)) starts, ap length (append-nil (header named l.start.now)));
}
