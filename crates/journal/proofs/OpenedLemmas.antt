-- A file that shows a history is refused for want of memory alone.
use Rattle.std.proofs.Common.{◌≡◌, ◌⊎◌, inl, inr, ℕ, Some, None, Option, List, [], ◌∷◌, ◌++◌, length, drop, get_or, refl, sym, ◌∙◌, ap, subst, arith, append_assoc, length-append}
use Rattle.std.specs.Int.{w16, w64, to_be_bytes}
use Rattle.std.specs.Prelude.{Ok}
use Rattle.status_text.specs.Slot.{FileSlot}
use Rattle.status.specs.Stored.{read_stored}
use Rattle.journal.specs.declared.error.OpenError.{OpenError}
use Rattle.journal.specs.declared.error.OpenError.TheVariants as error
use Rattle.journal.specs.declared.header.FormatVersion.TheVariants.{One, Two}
use Rattle.journal.specs.Fault.{IsDamaged, IsMarked, IsOfAnother, IsOpenFault, IsReadFault, IsStuck, IsStuckAt, IsWithoutStart}
use Rattle.journal.specs.File.{Entry, entries_bytes, framed, front, header}
use Rattle.journal.specs.History.{AreRecords, History, IsApplicable, IsFor, Leads, Shows, slots_left}
use Rattle.journal.specs.Payload.{RecordedStep, Says}
use Rattle.journal.proofs.FaultLemmas.{header_once}
use Rattle.journal.proofs.HeaderLemmas.{header_1, header_2}
use Rattle.journal.proofs.NumberLemmas.{cut_once}
use Rattle.journal.proofs.OnceLemmas.{ok_slots}
use Rattle.journal.proofs.RecordLemmas.{framed_once, says_once}

-- a file that begins with a header is marked
header_marks : (file : List ℕ) (named : Option (List ℕ)) (start rest : List ℕ) → file ≡ header named start ++ rest → IsMarked file
header_marks file None start rest is = record {
  version = One;
  rest = to_be_bytes w64 (length start) ++ (start ++ rest);
  enough = omega (arith, length-append (to_be_bytes w64 (length start)) (start ++ rest));
  is = is ∙ header_1 start rest;
}
header_marks file (Some arch) start rest is = record {
  version = Two;
  rest = to_be_bytes w64 (length start) ++ (to_be_bytes w16 (length arch) ++ (arch ++ (start ++ rest)));
  enough = omega (arith, length-append (to_be_bytes w64 (length start)) (to_be_bytes w16 (length arch) ++ (arch ++ (start ++ rest))));
  is = is ∙ header_2 arch start rest;
}

-- behind the header stand the records and what is behind them
behind : (file : List ℕ) (named : Option (List ℕ)) (start : List ℕ) (entries : List Entry) (rest : List ℕ) → file ≡ front named start entries ++ rest
    → file ≡ header named start ++ (entries_bytes entries ++ rest)
behind file named start entries rest is = is ∙ append_assoc (header named start) (entries_bytes entries) rest

-- at a gate of a file whose records are read up to a closed gate something can be read
not_stuck : (arch : List ℕ) (es fs : List Entry) (hs ks : List RecordedStep) (slots last before : List FileSlot) (tail rest : List ℕ) → AreRecords es hs → AreRecords fs ks
    → Leads arch slots hs last → Leads arch slots ks before → entries_bytes es ++ 0 ∷ tail ≡ entries_bytes fs ++ rest → IsStuck arch before rest → ⊥
not_stuck arch [] [] [] [] slots last before tail rest a b la lb same stuck = stuck.not_closed tail (sym same)
not_stuck arch [] fs (h ∷ hs) ks slots last before tail rest a b la lb same stuck = absurd a
not_stuck arch (e ∷ es) fs [] ks slots last before tail rest a b la lb same stuck = absurd a
not_stuck arch es [] hs (k ∷ ks) slots last before tail rest a b la lb same stuck = absurd b
not_stuck arch es (f ∷ fs) hs [] slots last before tail rest a b la lb same stuck = absurd b
not_stuck arch [] (f ∷ fs) [] (k ∷ ks) slots last before tail rest a b la lb same stuck =
    let gate : 0 ≡ f.0 = ap (λ (l : List ℕ). get_or l 0 0) same in
    let open_gate = b.0.gate in
    omega (arith, gate, open_gate)
not_stuck arch (e ∷ es) [] (h ∷ hs) [] slots last before tail rest a b la lb same stuck =
    let can : IsApplicable arch h before = subst (λ (s : List FileSlot). IsApplicable arch h s) (sym lb) la.0 in
    stuck.no_step e.0 e.1 (entries_bytes es ++ 0 ∷ tail) h a.0.fits (sym same ∙ append_assoc (e.0 ∷ framed e.1) (entries_bytes es) (0 ∷ tail)) a.0.says can
not_stuck arch (e ∷ es) (f ∷ fs) (h ∷ hs) (k ∷ ks) slots last before tail rest a b la lb same stuck =
    let later : framed e.1 ++ entries_bytes es ++ 0 ∷ tail ≡ framed f.1 ++ entries_bytes fs ++ rest = ap (λ (l : List ℕ). drop 1 l) same in
    let once = framed_once e.1 f.1 (entries_bytes es ++ 0 ∷ tail) (entries_bytes fs ++ rest) a.0.fits b.0.fits
    (sym (append_assoc (framed e.1) (entries_bytes es) (0 ∷ tail)) ∙ later ∙ append_assoc (framed f.1) (entries_bytes fs) rest) in
    let one : h ≡ k = says_once f.1 h k (subst (λ (p : List ℕ). Says p h) once.0 a.0.says) b.0.says in
    let leads : Leads arch (slots_left arch h slots) ks before = subst (λ (r : RecordedStep). Leads arch (slots_left arch r slots) ks before) (sym one) lb.1 in
    not_stuck arch es fs hs ks (slots_left arch h slots) last before tail rest a.1 b.1 la.1 leads once.1 stuck

module _ (arch file : List ℕ) (h : History) (shows : Shows file h) (for_it : h.arch ≡ arch) where
  pub shown_marked : IsMarked file
  shown_marked = header_marks file shows.named h.start (entries_bytes shows.entries ++ 0 ∷ shows.tail) (behind file shows.named h.start shows.entries (0 ∷ shows.tail) shows.is)

  not_of_another : IsOfAnother arch file → ⊥
  not_of_another o =
      let x : List ℕ = entries_bytes shows.entries ++ 0 ∷ shows.tail in
      let one = header_once shows.named (Some o.other) h.start o.start x o.rest shows.stands.header o.has.0
      (sym (behind file shows.named h.start shows.entries (0 ∷ shows.tail) shows.is) ∙ o.has.1) in
      o.differs (subst (λ (n : Option (List ℕ)). IsFor h.arch n) one.named shows.stands.for_it ∙ for_it)

  not_without_start : IsWithoutStart arch file → ⊥
  not_without_start without =
      let x : List ℕ = entries_bytes shows.entries ++ 0 ∷ shows.tail in
      (without shows.named h.start x (shows.stands.header, behind file shows.named h.start shows.entries (0 ∷ shows.tail) shows.is)).1 shows.stands.first
      (subst (λ (a : List ℕ). read_stored a h.start ≡ Ok shows.stands.first) for_it shows.stands.begins)

  not_stuck_at : (at : ℕ) → IsStuckAt arch file at → ⊥
  not_stuck_at at s =
      let x : List ℕ = entries_bytes shows.entries ++ 0 ∷ shows.tail in
      let k = s.before in
      let r = s.reaches in
      let y : List ℕ = entries_bytes r.entries ++ s.rest in
      let whole : header shows.named h.start ++ x ≡ header r.named k.start ++ y =
      sym (behind file shows.named h.start shows.entries (0 ∷ shows.tail) shows.is) ∙ behind file r.named k.start r.entries s.rest r.is in
      let one = header_once shows.named r.named h.start k.start x y shows.stands.header r.stands.header whole in
      let sizes : length (header shows.named h.start) ≡ length (header r.named k.start) =
      ap (λ (n : Option (List ℕ)). length (header n h.start)) one.named ∙ ap (λ (t : List ℕ). length (header r.named t)) one.starts in
      let rests : x ≡ y = (cut_once (header shows.named h.start) (header r.named k.start) x y sizes whole).1 in
      let begins : read_stored arch k.start ≡ Ok shows.stands.first =
      subst (λ (t : List ℕ). read_stored arch t ≡ Ok shows.stands.first) one.starts
      (subst (λ (a : List ℕ). read_stored a h.start ≡ Ok shows.stands.first) for_it shows.stands.begins) in
      let first : r.stands.first ≡ shows.stands.first = ok_slots r.stands.first shows.stands.first (read_stored arch k.start)
      (subst (λ (a : List ℕ). read_stored a k.start ≡ Ok r.stands.first) s.for_it r.stands.begins) begins in
      let la : Leads arch shows.stands.first h.steps h.slots = subst (λ (a : List ℕ). Leads a shows.stands.first h.steps h.slots) for_it shows.stands.leads in
      let lb : Leads arch shows.stands.first k.steps k.slots =
      subst (λ (f : List FileSlot). Leads arch f k.steps k.slots) first (subst (λ (a : List ℕ). Leads a r.stands.first k.steps k.slots) s.for_it r.stands.leads) in
      not_stuck arch shows.entries r.entries h.steps k.steps shows.stands.first h.slots k.slots shows.tail s.rest shows.stands.records r.stands.records la lb rests s.stuck

  not_damaged : (at : ℕ) → IsDamaged arch file at → ⊥
  not_damaged at damaged = elim damaged.there [ inl without ↦ not_without_start without.1 | inr stuck ↦ not_stuck_at at stuck ]

  pub read_again : (e : OpenError) → IsReadFault arch file e → e ≡ error.OutOfMemory
  read_again error.OutOfMemory fault = refl
  read_again error.Disk fault = absurd fault
  read_again error.NotAJournal fault = absurd (fault shown_marked)
  read_again (error.Damaged at) fault = absurd (not_damaged at fault)
  read_again error.OtherArchitecture fault = absurd (not_of_another fault.1)

  pub opened_again : (e : OpenError) → IsOpenFault arch file e → (e ≡ error.OutOfMemory) ⊎ (e ≡ error.Disk)
  opened_again error.OutOfMemory fault = inl refl
  opened_again error.Disk fault = inr refl
  opened_again error.NotAJournal fault = absurd (fault shown_marked)
  opened_again (error.Damaged at) fault = absurd (not_damaged at fault)
  opened_again error.OtherArchitecture fault = absurd (not_of_another fault.1)
