-- Why a file isn't read, from why a part of it isn't; a file has one header.
use Rattle.std.proofs.Common.{◌≡◌, inl, inr, ℕ, Some, None, Option, List, [], ◌∷◌, ◌++◌, length, refl, sym, ◌∙◌, ap, subst}
use Rattle.std.specs.Int.{w16, w64, to_be_bytes}
use Rattle.std.specs.Prelude.{Result, Ok, Err, IfErr, IfOk}
use Rattle.status_text.specs.Slot.{FileSlot}
use Rattle.status.specs.Stored.{read_stored}
use Rattle.journal.specs.declared.error.OpenError.{OpenError}
use Rattle.journal.specs.declared.error.OpenError.TheVariants as error
use Rattle.journal.specs.declared.ledger.Ledger.{Ledger}
use Rattle.journal.specs.Fault.{HasHeader, IsMarked, IsReadFault}
use Rattle.journal.specs.File.{HeaderFits, header, magic_of}
use Rattle.journal.specs.declared.header.FormatVersion.TheVariants.{One, Two}
use Rattle.journal.specs.History.{IsFor, Reaches}
use Rattle.journal.specs.Ledger.{IsReadFrom, history_of}
use Rattle.journal.specs.Reading.{IsPushedFault, IsStartFault}
use Rattle.journal.proofs.HeaderLemmas.{header_1, header_2, magics_differ}
use Rattle.journal.proofs.NumberLemmas.{cut_once, eight_once, two_once}

-- two headers are one
pub record IsOneHeader (m n : Option (List ℕ)) (s t : List ℕ) : Type 0 where
  pub named : m ≡ n
  pub starts : s ≡ t

pub header_once : (m n : Option (List ℕ)) (s t x y : List ℕ) → HeaderFits m s → HeaderFits n t → header m s ++ x ≡ header n t ++ y → IsOneHeader m n s t
header_once None None s t x y fs ft same =
    let behind = (cut_once (magic_of One) (magic_of One) (to_be_bytes w64 (length s) ++ (s ++ x)) (to_be_bytes w64 (length t) ++ (t ++ y)) refl
    (sym (header_1 s x) ∙ same ∙ header_1 t y)).1 in
    let one = eight_once (length s) (length t) (s ++ x) (t ++ y) fs.start_fits ft.start_fits behind in
    record { named = refl; starts = (cut_once s t x y one.number one.rest).0 }
header_once None (Some b) s t x y fs ft same =
    absurd (magics_differ (to_be_bytes w64 (length s) ++ (s ++ x)) (to_be_bytes w64 (length t) ++ (to_be_bytes w16 (length b) ++ (b ++ (t ++ y)))) (sym (header_1 s x) ∙ same ∙ header_2 b t y))
header_once (Some a) None s t x y fs ft same =
    absurd (magics_differ (to_be_bytes w64 (length t) ++ (t ++ y)) (to_be_bytes w64 (length s) ++ (to_be_bytes w16 (length a) ++ (a ++ (s ++ x)))) (sym (header_1 t y) ∙ sym same ∙ header_2 a s x))
header_once (Some a) (Some b) s t x y fs ft same =
    let behind = (cut_once (magic_of Two) (magic_of Two) (to_be_bytes w64 (length s) ++ (to_be_bytes w16 (length a) ++ (a ++ (s ++ x)))) (to_be_bytes w64 (length t) ++ (to_be_bytes w16 (length b) ++ (b ++ (t ++ y)))) refl
    (sym (header_2 a s x) ∙ same ∙ header_2 b t y)).1 in
    let one = eight_once (length s) (length t) (to_be_bytes w16 (length a) ++ (a ++ (s ++ x))) (to_be_bytes w16 (length b) ++ (b ++ (t ++ y))) fs.start_fits ft.start_fits behind in
    let two = two_once (length a) (length b) (a ++ (s ++ x)) (b ++ (t ++ y)) fs.name_fits ft.name_fits one.rest in
    let names = cut_once a b (s ++ x) (t ++ y) two.number two.rest in
    record { named = ap (λ (l : List ℕ). Some l) names.0; starts = (cut_once s t x y one.number names.1).0 }

-- a start that isn't read
pub start_fault : (arch file : List ℕ) (named : Option (List ℕ)) (start rest : List ℕ) (e : OpenError) → IsMarked file → HasHeader file named start rest → IsFor arch named
    → IsStartFault arch start e → IsReadFault arch file e
start_fault arch file named start rest error.OutOfMemory marked has for_it fault = tt
start_fault arch file named start rest (error.Damaged at) marked has for_it fault = record {
  marked = marked;
  there = inl (
    fault.0,
    λ n s r other.
        let one = header_once n named s start r rest other.0 has.0 (sym other.1 ∙ has.1) in
        (subst (λ (m : Option (List ℕ)). IsFor arch m) (sym one.named) for_it, λ slots read. fault.1 slots (ap (λ (t : List ℕ). read_stored arch t) (sym one.starts) ∙ read)),
  );
}
start_fault arch file named start rest error.Disk marked has for_it fault = absurd fault
start_fault arch file named start rest error.NotAJournal marked has for_it fault = absurd fault
start_fault arch file named start rest error.OtherArchitecture marked has for_it fault = absurd fault

pushed_is_fault : (arch file : List ℕ) (e : OpenError) → IsMarked file → IsPushedFault arch file e → IsReadFault arch file e
pushed_is_fault arch file error.OutOfMemory marked fault = tt
pushed_is_fault arch file (error.Damaged at) marked fault = record { marked = marked; there = inr fault }
pushed_is_fault arch file error.Disk marked fault = absurd fault
pushed_is_fault arch file error.NotAJournal marked fault = absurd fault
pushed_is_fault arch file error.OtherArchitecture marked fault = absurd fault

-- a record that isn't read
pub records_fault : (arch file records : List ℕ) (begun : Ledger) (result : Result Ledger OpenError) → IsMarked file → begun.database.arch ≡ arch
    → Reaches file (history_of begun) begun.gate records
    → IfErr result (λ e. (f : List ℕ) → Reaches f (history_of begun) begun.gate records → IsPushedFault begun.database.arch f e) → IfErr result (IsReadFault arch file)
records_fault arch file records begun (Ok ledger) marked is reaches all = all
records_fault arch file records begun (Err e) marked is reaches all =
    pushed_is_fault arch file e marked (subst (λ (a : List ℕ). IsPushedFault a file e) is (all file reaches))

-- all records are read
pub records_read : (arch file records : List ℕ) (begun : Ledger) (result : Result Ledger OpenError) → begun.database.arch ≡ arch
    → Reaches file (history_of begun) begun.gate records
    → IfOk result (λ l. (f : List ℕ) → Reaches f (history_of begun) begun.gate records → IsReadFrom begun.database.arch f l) → IfOk result (IsReadFrom arch file)
records_read arch file records begun (Ok ledger) is reaches all = subst (λ (a : List ℕ). IsReadFrom a file ledger) is (all file reaches)
records_read arch file records begun (Err e) is reaches all = all
