-- A file shows one history for an architecture.
use Rattle.std.proofs.Common.{◌≡◌, ℕ, ◌<◌, Some, None, Option, List, [], ◌∷◌, ◌++◌, length, drop, get_or, refl, sym, ◌∙◌, ap, subst, arith, append_assoc}
use Rattle.std.specs.Prelude.{Result, Ok}
use Rattle.status_text.specs.Slot.{FileSlot}
use Rattle.status.specs.Stored.{read_stored}
use Rattle.status_text.specs.declared.error.StatusFault.{StatusFault}
use Rattle.journal.specs.File.{Entry, entries_bytes, framed, front, header}
use Rattle.journal.specs.History.{AreRecords, History, Leads, Shows, slots_left}
use Rattle.journal.specs.Payload.{RecordedStep, Says}
use Rattle.journal.proofs.FaultLemmas.{header_once}
use Rattle.journal.proofs.NumberLemmas.{cut_once}
use Rattle.journal.proofs.RecordLemmas.{framed_once, says_once}

leads_once : (arch : List ℕ) (slots : List FileSlot) (steps : List RecordedStep) (x y : List FileSlot) → Leads arch slots steps x → Leads arch slots steps y → x ≡ y
leads_once arch slots [] x y a b = a ∙ sym b
leads_once arch slots (r ∷ later) x y a b = leads_once arch (slots_left arch r slots) later x y a.1 b.1

-- the records up to the closed gate
records_once : (es fs : List Entry) (hs ks : List RecordedStep) (x y : List ℕ) → AreRecords es hs → AreRecords fs ks → entries_bytes es ++ 0 ∷ x ≡ entries_bytes fs ++ 0 ∷ y → hs ≡ ks
records_once [] [] [] [] x y a b same = refl
records_once [] fs (h ∷ hs) ks x y a b same = absurd a
records_once (e ∷ es) fs [] ks x y a b same = absurd a
records_once es [] hs (k ∷ ks) x y a b same = absurd b
records_once es (f ∷ fs) hs [] x y a b same = absurd b
records_once [] (f ∷ fs) [] (k ∷ ks) x y a b same =
    let gate : 0 ≡ f.0 = ap (λ (l : List ℕ). get_or l 0 0) same in
    let open_gate = b.0.gate in
    absurd (omega (arith, gate, open_gate))
records_once (e ∷ es) [] (h ∷ hs) [] x y a b same =
    let gate : e.0 ≡ 0 = ap (λ (l : List ℕ). get_or l 0 0) same in
    let open_gate = a.0.gate in
    absurd (omega (arith, gate, open_gate))
records_once (e ∷ es) (f ∷ fs) (h ∷ hs) (k ∷ ks) x y a b same =
    let behind : framed e.1 ++ entries_bytes es ++ 0 ∷ x ≡ framed f.1 ++ entries_bytes fs ++ 0 ∷ y = ap (λ (l : List ℕ). drop 1 l) same in
    let once = framed_once e.1 f.1 (entries_bytes es ++ 0 ∷ x) (entries_bytes fs ++ 0 ∷ y) a.0.fits b.0.fits
    (sym (append_assoc (framed e.1) (entries_bytes es) (0 ∷ x)) ∙ behind ∙ append_assoc (framed f.1) (entries_bytes fs) (0 ∷ y)) in
    let one : h ≡ k = says_once f.1 h k (subst (λ (p : List ℕ). Says p h) once.0 a.0.says) b.0.says in
    (λ i. one i ∷ records_once es fs hs ks x y a.1 b.1 once.1 i)

pub ok_slots : (a b : List FileSlot) (read : Result (List FileSlot) StatusFault) → read ≡ Ok a → read ≡ Ok b → a ≡ b
ok_slots a b read ra rb = cc (ra, rb)

pub shows_once : (file : List ℕ) (h k : History) → Shows file h → Shows file k → h.arch ≡ k.arch → h ≡ k
shows_once file h k a b arch =
    let x : List ℕ = entries_bytes a.entries ++ 0 ∷ a.tail in
    let y : List ℕ = entries_bytes b.entries ++ 0 ∷ b.tail in
    let whole : header a.named h.start ++ x ≡ header b.named k.start ++ y =
    sym (append_assoc (header a.named h.start) (entries_bytes a.entries) (0 ∷ a.tail)) ∙ sym a.is ∙ b.is ∙ append_assoc (header b.named k.start) (entries_bytes b.entries) (0 ∷ b.tail) in
    let one = header_once a.named b.named h.start k.start x y a.stands.header b.stands.header whole in
    let sizes : length (header a.named h.start) ≡ length (header b.named k.start) =
    ap (λ (n : Option (List ℕ)). length (header n h.start)) one.named ∙ ap (λ (s : List ℕ). length (header b.named s)) one.starts in
    let rests : x ≡ y = (cut_once (header a.named h.start) (header b.named k.start) x y sizes whole).1 in
    let steps : h.steps ≡ k.steps = records_once a.entries b.entries h.steps k.steps a.tail b.tail a.stands.records b.stands.records rests in
    let first : a.stands.first ≡ b.stands.first = ok_slots a.stands.first b.stands.first (read_stored h.arch h.start) a.stands.begins
    (ap (λ (l : List ℕ). read_stored l h.start) arch ∙ ap (λ (s : List ℕ). read_stored k.arch s) one.starts ∙ b.stands.begins) in
    let leads : Leads k.arch b.stands.first k.steps h.slots =
    subst (λ (l : List ℕ). Leads l b.stands.first k.steps h.slots) arch
    (subst (λ (f : List FileSlot). Leads h.arch f k.steps h.slots) first
    (subst (λ (s : List RecordedStep). Leads h.arch a.stands.first s h.slots) steps a.stands.leads)) in
    let slots : h.slots ≡ k.slots = leads_once k.arch b.stands.first k.steps h.slots k.slots leads b.stands.leads in
    (λ i. record { arch = arch i; start = one.starts i; steps = steps i; slots = slots i })
