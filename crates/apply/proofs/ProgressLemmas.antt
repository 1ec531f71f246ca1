-- One step more on the way through a plan: what is remembered, and what a crash leaves.
use Rattle.std.proofs.Common.{◌≡◌, ◌≢◌, inl, inr, ⊎_elim, ℕ, Option, List, [], ◌∷◌, ◌++◌, length, refl, sym, ◌∙◌, ap, subst, append_assoc, append-nil, ◌≤◌, ◌^◌, Some}
use Rattle.status.specs.Applicable.{handed_in, refused_name}
use Rattle.status_text.specs.Slot.{FileSlot, slot_records}
use Rattle.disk.specs.Facts.{DiskFacts, LeavesOnly, Synced}
use Rattle.disk.specs.RunLaws.{leaves_now, started, then_runs, weaker}
use Rattle.journal.specs.Adding.{IsAppendFault}
use Rattle.journal.specs.File.{Entry, front}
use Rattle.journal.specs.History.{History, IsApplicable, IsBeforeOrAfter, Leads, Shows, StandsFor, followed, slots_left}
use Rattle.journal.specs.Ledger.{history_of, IsSettled}
use Rattle.journal.specs.Payload.{RecordedStep}
use Rattle.journal.specs.declared.error.AppendError.{AppendError}
use Rattle.journal.specs.declared.error.AppendError.TheVariants as error
use Rattle.journal.specs.declared.ledger.Ledger.{Ledger}
use Rattle.apply.specs.Planned.{BeginsWith}
use Rattle.apply.specs.Progress.{IsPartTaken, ShowsOrNext, ShowsUpTo}

leads_push : (arch : List ℕ) (slots : List FileSlot) (steps : List RecordedStep) (r : RecordedStep) (last : List FileSlot) → Leads arch slots steps last
    → IsApplicable arch r last → Leads arch slots (steps ++ r ∷ []) (slots_left arch r last)
leads_push arch slots [] r last is can = (subst (λ (s : List FileSlot). IsApplicable arch r s) is can, ap (λ (s : List FileSlot). slots_left arch r s) is)
leads_push arch slots (s ∷ steps) r last leads can = (leads.0, leads_push arch (slots_left arch s slots) steps r last leads.1 can)

-- the last of the steps could be taken where those before it lead to
leads_last : (arch : List ℕ) (slots : List FileSlot) (steps : List RecordedStep) (r : RecordedStep) (last mid : List FileSlot)
    → Leads arch slots (steps ++ r ∷ []) last → Leads arch slots steps mid → IsApplicable arch r mid
leads_last arch slots [] r last mid leads is = subst (λ (s : List FileSlot). IsApplicable arch r s) (sym is) leads.0
leads_last arch slots (s ∷ steps) r last mid leads before = leads_last arch (slots_left arch s slots) steps r last mid leads.1 before.1

-- a file that shows the step behind the history shows that it could be taken
next_applies : (h : History) (r : RecordedStep) (named : Option (List ℕ)) (entries : List Entry) (file : List ℕ) → StandsFor named entries h
    → Shows file (followed h r) → IsApplicable h.arch r h.slots
next_applies h r named entries file stands shows =
    let same : stands.first ≡ shows.stands.first = cc (stands.begins, shows.stands.begins) in
    leads_last h.arch stands.first h.steps r (slots_left h.arch r h.slots) h.slots
    (subst (λ (s : List FileSlot). Leads h.arch s (h.steps ++ r ∷ []) (slots_left h.arch r h.slots)) (sym same) shows.stands.leads) stands.leads

-- a journal that has begun with the plan is part of the way through it
pub begun : (plan : List RecordedStep) (h : History) → BeginsWith plan h.steps → IsPartTaken plan h h
begun plan h within = record {
  taken = [];
  goes_on = record { arch = refl; start = refl; steps = sym (append-nil h.steps); leads = refl };
  within = within;
}

-- one step more
pub one_more : (plan : List RecordedStep) (old h : History) (r : RecordedStep) (later : List RecordedStep) → IsPartTaken plan old h → plan ≡ h.steps ++ r ∷ later
    → IsApplicable h.arch r h.slots → IsPartTaken plan old (followed h r)
one_more plan old h r later progress is can = record {
  taken = progress.taken ++ r ∷ [];
  goes_on = record {
    arch = progress.goes_on.arch;
    start = progress.goes_on.start;
    steps = ap (λ (l : List RecordedStep). l ++ r ∷ []) progress.goes_on.steps ∙ append_assoc old.steps progress.taken (r ∷ []);
    leads = subst (λ (a : List ℕ). Leads old.arch old.slots (progress.taken ++ r ∷ []) (slots_left a r h.slots)) (sym progress.goes_on.arch)
        (leads_push old.arch old.slots progress.taken r h.slots progress.goes_on.leads (subst (λ (a : List ℕ). IsApplicable a r h.slots) progress.goes_on.arch can));
  };
  within = (later, is ∙ sym (append_assoc h.steps (r ∷ []) later));
}

-- of a settled journal a crash leaves what it remembers
settled_shows : (l : Ledger) (d : DiskFacts) → IsSettled l d → (c : List ℕ) → d.leaves c → Shows c (history_of l)
settled_shows l d settled c left = record {
  named = settled.named;
  entries = settled.entries;
  tail = [];
  stands = settled.stands;
  is = settled.file.leaves c left;
}

-- before the first step
pub at_start : (plan : List RecordedStep) (l : Ledger) (a : DiskFacts) → IsSettled l a → LeavesOnly (ShowsUpTo plan (history_of l)) a a
at_start plan l a settled = started (ShowsUpTo plan (history_of l)) a (λ c left. (history_of l, inl refl, settled_shows l a settled c left))

-- one more call that adds the next step
pub runs_on : (plan : List RecordedStep) (old : History) (now : Ledger) (r : RecordedStep) (later : List RecordedStep) (a b d : DiskFacts)
    → IsPartTaken plan old (history_of now) → plan ≡ (history_of now).steps ++ r ∷ later → IsSettled now b
    → LeavesOnly (ShowsUpTo plan old) a b → LeavesOnly (IsBeforeOrAfter (history_of now) r) b d → LeavesOnly (ShowsUpTo plan old) a d
runs_on plan old now r later a b d progress is settled run call =
    then_runs (ShowsUpTo plan old) a b d run (weaker (IsBeforeOrAfter (history_of now) r) (ShowsUpTo plan old) b d here call)
  where
    without : (c : List ℕ) → Shows c (history_of now) → ShowsUpTo plan old c
    without c shows = (history_of now, inr progress, shows)

    with : (c : List ℕ) → Shows c (followed (history_of now) r) → ShowsUpTo plan old c
    with c shows = (
      followed (history_of now) r,
      inr (one_more plan old (history_of now) r later progress is (next_applies (history_of now) r settled.named settled.entries c settled.stands shows)),
      shows,
    )

    here : (c : List ℕ) → IsBeforeOrAfter (history_of now) r c → ShowsUpTo plan old c
    here c = ⊎_elim (without c) (with c)

-- what a call leaves that didn't add the step
pub kept_by : (plan : List RecordedStep) (now new : Ledger) (r : RecordedStep) (later : List RecordedStep) (b d : DiskFacts) → history_of new ≡ history_of now
    → plan ≡ (history_of now).steps ++ r ∷ later → LeavesOnly (IsBeforeOrAfter (history_of now) r) b d
    → (c : List ℕ) → d.leaves c → ShowsOrNext plan (history_of new) c
kept_by plan now new r later b d same is call c left =
    subst (λ (h : History). ShowsOrNext plan h c) (sym same) (⊎_elim without with (leaves_now (IsBeforeOrAfter (history_of now) r) b d call c left))
  where
    without : Shows c (history_of now) → ShowsOrNext plan (history_of now) c
    without shows = inl shows

    with : Shows c (followed (history_of now) r) → ShowsOrNext plan (history_of now) c
    with shows = inr (r, (later, is), shows)

-- a refusal leaves the journal settled
pub still_settled : (now new : Ledger) (d : DiskFacts) → history_of new ≡ history_of now → new.gate ≡ now.gate → new.broken ≡ now.broken
    → IsSettled now d → IsSettled new d
still_settled now new d same gate broken settled = record {
  whole = broken ∙ settled.whole;
  named = settled.named;
  entries = settled.entries;
  stands = subst (λ (h : History). StandsFor settled.named settled.entries h) (sym same) settled.stands;
  gate = gate ∙ settled.gate ∙ ap (λ (h : History). length (front settled.named h.start settled.entries)) (sym same);
  file = subst (λ (h : History). Synced (front settled.named h.start settled.entries ++ 0 ∷ []) d) (sym same) settled.file;
}

-- what stands against the step stands against it still
pub still_stopped : (now new : Ledger) (r : RecordedStep) (e : AppendError) → history_of new ≡ history_of now
    → (e ≢ error.Disk → (new.gate ≡ now.gate) × (new.broken ≡ now.broken)) → IsAppendFault now r e → IsAppendFault new r e
still_stopped now new r error.OutOfMemory same as_before fault = tt
still_stopped now new r error.TooLarge same as_before fault =
    ⊎_elim (λ long. inl long) (λ far. inr (subst (λ (n : ℕ). 2 ^ 60 ≤ n) (sym (as_before (λ e. cc)).0) far)) fault
still_stopped now new r (error.NotApplicable name) same as_before fault = (
  fault.0,
  subst (λ (h : History). refused_name (handed_in h.arch r.stanza) r.step (slot_records h.slots) ≡ Some name) (sym same) fault.1,
)
still_stopped now new r error.Disk same as_before fault = tt
still_stopped now new r error.Reopen same as_before fault = (as_before (λ e. cc)).1 ∙ fault
