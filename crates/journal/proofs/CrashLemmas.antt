-- What crashes leave of a journal while a record is added, and while it is opened.
use Rattle.std.proofs.Common.{◌≡◌, ◌⊎◌, inl, inr, ℕ, zero, suc, ◌+◌, ◌-◌, ◌<◌, ◌≤◌, ◌^◌, Option, Some, List, [], ◌∷◌, ◌++◌, length, refl, sym, ◌∙◌, ap, subst, arith, append_assoc, length-append, false}
use Rattle.std.proofs.lemmas.List.{append-nil}
use Rattle.disk.specs.Facts.{DiskFacts, LeavesOnly, Synced}
use Rattle.disk.specs.RunLaws.{started, weaker}
use Rattle.rules.specs.declared.limits.TheConstants.{TEXT_BYTES}
use Rattle.std.specs.Prelude.{Ok}
use Rattle.status_text.specs.Slot.{FileSlot}
use Rattle.status.specs.Stored.{read_stored}
use Rattle.journal.specs.declared.ledger.Ledger.{Ledger}
use Rattle.journal.specs.Commit.{HasFront, IsBetween}
use Rattle.journal.specs.File.{Entry, HeaderFits, framed, front, header}
use Rattle.journal.specs.History.{History, IsApplicable, IsBeforeOrAfter, IsRecord, Reaches, Shows, StandsFor, followed}
use Rattle.journal.specs.Ledger.{IsReadFrom, IsSettled, MeansAsBefore, history_of}
use Rattle.journal.specs.Payload.{RecordedStep, Says}
use Rattle.journal.proofs.HistoryLemmas.{begun_reaches, front_push, length-framed, stands_push}

-- a gate, a record and the closed gate behind it
gate_of : (named : Option (List ℕ)) (start : List ℕ) (entries : List Entry) (gate : ℕ) (payload tail : List ℕ)
    → front named start entries ++ gate ∷ (framed payload ++ 0 ∷ []) ++ tail ≡ front named start (entries ++ (gate, payload) ∷ []) ++ 0 ∷ tail
gate_of named start entries gate payload tail =
    append_assoc (front named start entries) (gate ∷ (framed payload ++ 0 ∷ [])) tail
    ∙ ap (λ (l : List ℕ). front named start entries ++ l) (append_assoc (gate ∷ framed payload) (0 ∷ []) tail)
    ∙ sym (append_assoc (front named start entries) (gate ∷ framed payload) (0 ∷ tail))
    ∙ ap (λ (l : List ℕ). l ++ 0 ∷ tail) (sym (front_push named start entries (gate, payload)))

module _ (named : Option (List ℕ)) (entries : List Entry) (h : History) (payload : List ℕ) (r : RecordedStep)
    (stands : StandsFor named entries h) (says : Says payload r) (fits : length payload ≤ TEXT_BYTES) (can : IsApplicable h.arch r h.slots) where
  -- each file that a crash leaves while the record is added shows the history, without the step or with it
  pub between : (c : List ℕ) → IsBetween (front named h.start entries) (framed payload ++ 0 ∷ []) c → IsBeforeOrAfter h r c
  between c (inl shut) = inl (record { named = named; entries = entries; tail = shut.0; stands = stands; is = shut.1 })
  between c (inr (zero, tail, whole)) = inl (record {
    named = named;
    entries = entries;
    tail = (framed payload ++ 0 ∷ []) ++ tail;
    stands = stands;
    is = whole ∙ append_assoc (front named h.start entries) (0 ∷ (framed payload ++ 0 ∷ [])) tail;
  })
  between c (inr (suc gate, tail, whole)) =
      let entry : Entry = (suc gate, payload) in
      inr (record {
        named = named;
        entries = entries ++ entry ∷ [];
        tail = tail;
        stands = stands_push named entries h entry r stands (record { gate = omega arith; fits = fits; says = says }) can;
        is = whole ∙ gate_of named h.start entries (suc gate) payload tail;
      })

  -- what stands for the history with the step
  pub opened_stands : StandsFor named (entries ++ (1, payload) ∷ []) (followed h r)
  opened_stands =
      let entry : Entry = (1, payload) in
      stands_push named entries h entry r stands (record { gate = omega arith; fits = fits; says = says }) can

  pub opened_size : length (front named h.start (entries ++ (1, payload) ∷ [])) ≡ length (front named h.start entries) + (5 + length payload)
  opened_size =
      let entry : Entry = (1, payload) in
      omega (arith, ap length (front_push named h.start entries entry), length-append (front named h.start entries) (1 ∷ framed payload), length-framed payload)

  pub opened_file : (now : DiskFacts) → Synced (front named h.start entries ++ 1 ∷ (framed payload ++ 0 ∷ [])) now
      → Synced (front named h.start (entries ++ (1, payload) ∷ []) ++ 0 ∷ []) now
  opened_file now synced =
      subst (λ (f : List ℕ). Synced f now) (sym (append-nil (front named h.start entries ++ 1 ∷ (framed payload ++ 0 ∷ []))) ∙ gate_of named h.start entries 1 payload []) synced

-- before anything is written each crash leaves the history
pub nothing_yet : (l : Ledger) (r : RecordedStep) (now : DiskFacts) → IsSettled l now → LeavesOnly (IsBeforeOrAfter (history_of l) r) now now
nothing_yet l r now settled = started (IsBeforeOrAfter (history_of l) r) now
    (λ c left. inl (record { named = settled.named; entries = settled.entries; tail = []; stands = settled.stands; is = settled.file.leaves c left }))

-- while the record is added
pub adds : (l : Ledger) (r : RecordedStep) (payload bytes : List ℕ) (a d : DiskFacts) (settled : IsSettled l a) → Says payload r → length payload ≤ TEXT_BYTES
    → IsApplicable l.database.arch r l.database.slots → bytes ≡ framed payload ++ 0 ∷ []
    → LeavesOnly (IsBetween (front settled.named l.start.now settled.entries) bytes) a d → LeavesOnly (IsBeforeOrAfter (history_of l) r) a d
adds l r payload bytes a d settled says fits can is run =
    weaker (IsBetween (front settled.named l.start.now settled.entries) bytes) (IsBeforeOrAfter (history_of l) r) a d
    (λ c at. between settled.named settled.entries (history_of l) payload r settled.stands says fits can c
    (subst (λ (b : List ℕ). IsBetween (front settled.named l.start.now settled.entries) b c) is at)) run

-- when it is added
pub added : (old new : Ledger) (r : RecordedStep) (payload bytes : List ℕ) (a d : DiskFacts) (settled : IsSettled old a) → Says payload r → length payload ≤ TEXT_BYTES
    → IsApplicable old.database.arch r old.database.slots → bytes ≡ framed payload ++ 0 ∷ [] → history_of new ≡ followed (history_of old) r
    → new.gate ≡ old.gate + (5 + length payload) → new.broken ≡ old.broken
    → Synced (front settled.named old.start.now settled.entries ++ 1 ∷ bytes) d → IsSettled new d
added old new r payload bytes a d settled says fits can is history gate broken done =
    let h = history_of old in
    let start : new.start.now ≡ old.start.now = ap (λ (k : History). k.start) history in
    let file = opened_file settled.named settled.entries h payload r settled.stands says fits can d
    (subst (λ (b : List ℕ). Synced (front settled.named old.start.now settled.entries ++ 1 ∷ b) d) is done) in
    record {
      whole = broken ∙ settled.whole;
      named = settled.named;
      entries = settled.entries ++ (1, payload) ∷ [];
      stands = subst (λ (k : History). StandsFor settled.named (settled.entries ++ (1, payload) ∷ []) k) (sym history)
          (opened_stands settled.named settled.entries h payload r settled.stands says fits can);
      gate = gate ∙ ap (λ n. n + (5 + length payload)) settled.gate ∙ sym (opened_size settled.named settled.entries h payload r settled.stands says fits can)
          ∙ ap (λ (s : List ℕ). length (front settled.named s (settled.entries ++ (1, payload) ∷ []))) (sym start);
      file = subst (λ (s : List ℕ). Synced (front settled.named s (settled.entries ++ (1, payload) ∷ []) ++ 0 ∷ []) d) (sym start) file;
    }

-- a file of which all was read shows what was read
pub shown : (file : List ℕ) (h : History) (at : ℕ) (tail : List ℕ) → Reaches file h at (0 ∷ tail) → Shows file h
shown file h at tail reaches = record { named = reaches.named; entries = reaches.entries; tail = tail; stands = reaches.stands; is = reaches.is }

-- nothing was done yet
pub unopened : (arch : List ℕ) (a : DiskFacts) → LeavesOnly (MeansAsBefore arch a) a a
unopened arch a = started (MeansAsBefore arch a) a (λ c left. (c, left, inl refl))

-- while the end of the file is cut off
pub opens : (arch file : List ℕ) (l : Ledger) (a d : DiskFacts) (read : IsReadFrom arch file l) → file ≡ a.seen
    → LeavesOnly (λ c. a.leaves c ⊎ HasFront (front read.reaches.named l.start.now read.reaches.entries) c) a d → LeavesOnly (MeansAsBefore arch a) a d
opens arch file l a d read same run =
    weaker (λ c. a.leaves c ⊎ HasFront (front read.reaches.named l.start.now read.reaches.entries) c) (MeansAsBefore arch a) a d means run
  where
    before : Shows a.seen (history_of l)
    before = subst (λ (f : List ℕ). Shows f (history_of l)) same (shown file (history_of l) l.gate read.tail read.reaches)

    means : (c : List ℕ) → a.leaves c ⊎ HasFront (front read.reaches.named l.start.now read.reaches.entries) c → MeansAsBefore arch a c
    means c (inl left) = (c, left, inl refl)
    means c (inr (behind, is)) = (
      a.seen,
      a.among,
      inr (
        history_of l,
        read.for_it,
        before,
        record {
          named = read.reaches.named;
          entries = read.reaches.entries;
          tail = behind;
          stands = read.reaches.stands;
          is = is;
        },
      ),
    )

-- when it is cut off
pub opened : (arch file : List ℕ) (l : Ledger) (d : DiskFacts) (read : IsReadFrom arch file l)
    → Synced (front read.reaches.named l.start.now read.reaches.entries ++ 0 ∷ []) d → IsSettled l d
opened arch file l d read done = record {
  whole = read.whole;
  named = read.reaches.named;
  entries = read.reaches.entries;
  stands = read.reaches.stands;
  gate = read.reaches.offset;
  file = done;
}

-- a journal that was created
pub created : (arch start image : List ℕ) (slots : List FileSlot) (l : Ledger) (d : DiskFacts) → length start ≤ TEXT_BYTES → length arch < 2 ^ 16 → read_stored arch start ≡ Ok slots
    → image ≡ header (Some arch) start ++ 0 ∷ [] → l.start.now ≡ start → l.steps.items ≡ [] → l.database.arch ≡ arch → l.database.slots ≡ slots
    → l.gate ≡ length image - 1 → l.broken ≡ false → Synced image d → IsSettled l d
created arch start image slots l d short named begins is starts none archs slotss gate whole synced =
    let fits : HeaderFits (Some arch) start = record { name_fits = named; start_fits = omega (arith, short) } in
    let reaches = begun_reaches image l (Some arch) arch start (0 ∷ []) slots fits refl begins is starts none archs slotss gate in
    record {
      whole = whole;
      named = reaches.named;
      entries = reaches.entries;
      stands = reaches.stands;
      gate = reaches.offset;
      file = subst (λ (f : List ℕ). Synced f d) reaches.is synced;
    }
