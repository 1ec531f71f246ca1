-- What a run leaves of the file of a journal.
use Rattle.std.proofs.Common.{◌≡◌, ◌⊎◌, inl, inr, ⊎_elim, ℕ, List, [], ◌∷◌, ◌++◌, Ok, Result, IfErr, OnOk, append-nil, refl, sym, ◌∙◌, subst}
use Rattle.disk.specs.Calls.{Stays}
use Rattle.disk.specs.Facts.{DiskFacts, LeavesOnly}
use Rattle.disk.specs.RunLaws.{stays_so, then_runs, weaker}
use Rattle.status_text.specs.Slot.{FileSlot}
use Rattle.status.specs.Stored.{read_stored}
use Rattle.journal.specs.History.{History, Leads, Shows, slots_left}
use Rattle.journal.specs.Ledger.{history_of, IsSettled, MeansAsBefore}
use Rattle.journal.specs.Payload.{RecordedStep}
use Rattle.journal.specs.declared.ledger.Ledger.{Ledger}
use Rattle.apply.specs.Planned.{IsOfPlan}
use Rattle.apply.specs.Progress.{IsCaughtUp, IsPartTaken, ShowsUpTo}
use Rattle.apply.specs.Run.{HasBegun, IsAtEnd, IsLeft, IsRunOn, KeepsTaken, ShowsOnward}
use Rattle.apply.specs.RunFault.{IsRunFault}
use Rattle.apply.specs.declared.error.RunError.{RunError}
use Rattle.journal.specs.Fault.{IsOpenFault}
use Rattle.journal.specs.declared.error.OpenError.{OpenError}
use Rattle.journal.specs.declared.error.OpenError.TheVariants as open_error

-- of a settled journal a crash leaves what it remembers
pub settled_shows : (l : Ledger) (d : DiskFacts) → IsSettled l d → (c : List ℕ) → d.leaves c → Shows c (history_of l)
settled_shows l d settled c left = record {
  named = settled.named;
  entries = settled.entries;
  tail = [];
  stands = settled.stands;
  is = settled.file.leaves c left;
}

-- steps lead on from where others lead to
leads_on : (arch : List ℕ) (slots mid last : List FileSlot) (steps taken : List RecordedStep) → Leads arch slots steps mid → Leads arch mid taken last
    → Leads arch slots (steps ++ taken) last
leads_on arch slots mid last [] taken first then = subst (λ (s : List FileSlot). Leads arch s taken last) first then
leads_on arch slots mid last (r ∷ steps) taken first then = (first.0, leads_on arch (slots_left arch r slots) mid last steps taken first.1 then)

-- the start of the history is read as a status file, and the steps lead from it to what it has
pub record HasStart (h : History) : Type 0 where
  pub first : List FileSlot
  pub begins : read_stored h.arch h.start ≡ Ok first
  pub leads : Leads h.arch first h.steps h.slots

-- so it is of what a file shows
pub shown_start : (file : List ℕ) (h : History) → Shows file h → HasStart h
shown_start file h shows = record { first = shows.stands.first; begins = shows.stands.begins; leads = shows.stands.leads }

-- a journal that was brought to the plan's end
pub at_end : (arch start : List ℕ) (plan : List RecordedStep) (old new : History) → old.arch ≡ arch → HasStart old → IsOfPlan start plan old → IsCaughtUp plan old new
    → IsAtEnd arch start plan new
at_end arch start plan old new for_it has of_plan progress = record {
  for_it = progress.goes_on.arch ∙ for_it;
  start_is = progress.goes_on.start ∙ of_plan.start_is;
  all = progress.all;
  first = has.first;
  begins = subst (λ (s : List ℕ). read_stored arch s ≡ Ok has.first) of_plan.start_is (subst (λ (a : List ℕ). read_stored a old.start ≡ Ok has.first) for_it has.begins);
  leads = subst (λ (a : List ℕ). Leads a has.first plan new.slots) for_it
      (subst (λ (steps : List RecordedStep). Leads old.arch has.first steps new.slots) (sym progress.goes_on.steps ∙ progress.all)
      (leads_on old.arch has.first old.slots new.slots old.steps progress.taken has.leads progress.goes_on.leads));
}

-- what an opening leaves
pub as_before : (arch start : List ℕ) (plan : List RecordedStep) (a b : DiskFacts) → LeavesOnly (MeansAsBefore arch a) a b → LeavesOnly (IsLeft arch start plan a) a b
as_before arch start plan a b run = weaker (MeansAsBefore arch a) (IsLeft arch start plan a) a b (λ c means. inl means) run

-- what is left behind it by the steps that are added
pub then_onward : (arch start : List ℕ) (plan : List RecordedStep) (h : History) (a b d : DiskFacts) → LeavesOnly (MeansAsBefore arch a) a b → h.arch ≡ arch
    → Shows a.seen h → IsOfPlan start plan h → LeavesOnly (ShowsUpTo plan h) b d → LeavesOnly (IsLeft arch start plan a) a d
then_onward arch start plan h a b d opened for_it shows of_plan run =
    then_runs (IsLeft arch start plan a) a b d (as_before arch start plan a b opened)
    (weaker (ShowsUpTo plan h) (IsLeft arch start plan a) b d
    (λ c on. inr (record { begun = record { h = h; for_it = for_it; shows = shows; of_plan = of_plan }; shows = on })) run)

-- what is left by a reading alone
pub by_reading : (arch start : List ℕ) (plan : List RecordedStep) (a b : DiskFacts) → Stays a b → LeavesOnly (IsLeft arch start plan a) a b
by_reading arch start plan a b stays = stays_so (IsLeft arch start plan a) a b stays (λ c left. inl (c, left, inl refl))

-- what is left of a file that was only read before
pub behind_reading : (arch start : List ℕ) (plan : List RecordedStep) (a b d : DiskFacts) → Stays a b → LeavesOnly (IsLeft arch start plan b) b d
    → LeavesOnly (IsLeft arch start plan a) a d
behind_reading arch start plan a b d stays run =
    then_runs (IsLeft arch start plan a) a b d (by_reading arch start plan a b stays)
    (weaker (IsLeft arch start plan b) (IsLeft arch start plan a) b d
    (λ c left. ⊎_elim
    (λ means. inl (means.0, (stays.leaves means.0).0 means.1, means.2))
    (λ on. inr (subst (λ (seen : List ℕ). ShowsOnward arch start plan seen c) stays.seen on)) left) run)

-- all steps of the plan are first steps of it
pub all_is_part : (plan : List RecordedStep) (old new : History) → IsCaughtUp plan old new → IsPartTaken plan old new
all_is_part plan old new progress = record {
  taken = progress.taken;
  goes_on = progress.goes_on;
  within = ([], sym progress.all ∙ sym (append-nil new.steps));
}

-- a run on a file that was only read before
pub run_behind : {T : Type 0} (arch start : List ℕ) (plan : List RecordedStep) (a b d : DiskFacts) (r : Result T RunError) → Stays a b
    → IsRunOn arch start plan b r d → IsRunOn arch start plan a r d
run_behind arch start plan a b d r stays run = record {
  any_moment = behind_reading arch start plan a b d stays run.any_moment;
  begun = subst (λ (file : List ℕ). OnOk r (HasBegun arch start plan file)) stays.seen run.begun;
  done = run.done;
  cause = subst (λ (file : List ℕ). IfErr r (IsRunFault arch start plan file)) stays.seen run.cause;
  kept = subst (λ (file : List ℕ). IfErr r (λ e. KeepsTaken arch plan file e d)) stays.seen run.kept;
}

-- why a file isn't read
pub unread : (arch file : List ℕ) (e : OpenError) → (e ≡ open_error.OutOfMemory) ⊎ (e ≡ open_error.Disk) → IsOpenFault arch file e
unread arch file e (inl memory) = subst (IsOpenFault arch file) (sym memory) tt
unread arch file e (inr disk) = subst (IsOpenFault arch file) (sym disk) tt
