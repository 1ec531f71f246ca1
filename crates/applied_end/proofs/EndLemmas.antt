-- What an application of a good plan leaves is the end that the plan was judged by, and no step of it is refused.
use Rattle.std.proofs.Common.{◌≡◌, ℕ, List, [], ◌∷◌, map, Option, Some, None, Ok, sym, ap, subst, ◌∙◌}
use Rattle.std.specs.List.{AllZip}
use Rattle.candidates.specs.Inputs.{inputs_of}
use Rattle.inputs.specs.Before.{HasIndices}
use Rattle.inputs.specs.Meaning.{asked_of}
use Rattle.inputs.specs.ReadAs.{AreNamed}
use Rattle.inputs.specs.Texts.{Found, Texts, status_file_of}
use Rattle.inputs.proofs.DistinctLemmas.{distinct_start, status-read}
use Rattle.inputs.proofs.MeaningLemmas.{ok-same}
use Rattle.journal.specs.History.{Leads}
use Rattle.journal.specs.Ledger.{history_of}
use Rattle.journal.specs.Payload.{RecordedStep}
use Rattle.rules.specs.Available.{Index, Inputs}
use Rattle.rules.specs.Database.{Record}
use Rattle.rules.specs.Run.{Run}
use Rattle.rules.specs.Universe.{IsUniverse, Universe}
use Rattle.rules.specs.Verdict.{IsBuiltOn}
use Rattle.rules.specs.declared.step.Step.{Step}
use Rattle.rules.proofs.VerdictLemmas.{universe_is_built}
use Rattle.status_text.specs.Slot.{FileSlot, slot_records}
use Rattle.status.specs.Applicable.{handed_in, refused_name}
use Rattle.status.specs.Stored.{as_stored, read_stored}
use Rattle.unpack_texts.specs.Texts.{AreTexts}
use Rattle.apply.specs.Run.{IsEndText}
use Rattle.apply_engine.specs.Planned.{IsPlanned}
use Rattle.applied_end.proofs.FetchedLemmas.{fetched_is_handed_in}
use Rattle.applied_end.proofs.RunLemmas.{leads_keeps_sound, never_refused, one_last, run_is_taken, start_is_read}
use Rattle.applied_end.proofs.RunLemmas as Taken
use Rattle.applied_end.proofs.SoundLemmas.{read_is_sound}
use Rattle.applied_end.proofs.StepLemmas.{stored_records}
use Rattle.applied_end.specs.End.{CarriedOutIsJudgedEnd, GoodPlanIsNeverRefused, GoodPlanIsTaken, OutputIsJudgedEnd}
use Rattle.applied_end.specs.Run.{IsStatusFileOf}
use Rattle.applied_end.specs.Text.{IsHandedIn}

-- what is fetched for each step is handed in
all_handed_in : (texts : Texts) (indices : List Index) (files : List (List ℕ)) (u : Universe) (steps : List Step) (given : List (Option (List ℕ)))
    → HasIndices texts indices → AreNamed texts files → AreTexts texts.arch texts.index files u steps given
    → AllZip (IsHandedIn texts.arch u) steps given
all_handed_in texts indices files u [] [] has named are = tt
all_handed_in texts indices files u [] (text ∷ given) has named are = absurd are
all_handed_in texts indices files u (taken ∷ steps) [] has named are = absurd are
all_handed_in texts indices files u (taken ∷ steps) (text ∷ given) has named are =
    (fetched_is_handed_in texts indices files u taken text has named are.0, all_handed_in texts indices files u steps given has named are.1)

-- from what the journal reads of the start the recorded steps lead to the records at the end of the run
record IsTakenFrom (texts : Texts) (records : List RecordedStep) (first : List FileSlot) (finish : List Record) : Type 0 where
  last : List FileSlot
  leads : Leads texts.arch first records last
  ends : slot_records last ≡ finish

taken_from : (texts : Texts) (plan : Found) (start : List ℕ) (records : List RecordedStep) (is : IsPlanned texts plan start records) (first : List FileSlot)
    → read_stored texts.arch start ≡ Ok first → IsTakenFrom texts records first is.good.holds.finish
taken_from texts plan start records is first begins =
    let denoted = is.good.read_as.denoted in
    let started = denoted.read.listed.started in
    let inputs : Inputs = inputs_of is.good.begin denoted.indices denoted.prefs (asked_of denoted.asked) in
    let universe : IsUniverse inputs is.universe = denoted.requested.built.universe in
    let built : IsBuiltOn is.good.begin is.universe = universe_is_built inputs is.universe (distinct_start texts is.good.begin started) universe in
    let (text, read) = status-read texts is.slots is.status_is in
    let stored : first ≡ map as_stored is.slots =
    start_is_read texts.arch text is.slots first read (ap (read_stored texts.arch) (sym is.start_is) ∙ begins) in
    let same : started.slots ≡ is.slots = ok-same started.slots is.slots (status_file_of texts) started.status is.status_is in
    let begun : is.good.begin ≡ slot_records first =
    started.start_is ∙ ap slot_records same ∙ sym (stored_records is.slots) ∙ ap slot_records (sym stored) in
    let run : Run is.universe (slot_records first) is.steps is.good.holds.finish =
    subst (λ (db : List Record). Run is.universe db is.steps is.good.holds.finish) begun is.good.holds.run in
    let handed = all_handed_in texts denoted.indices is.files is.universe is.steps is.stanzas denoted.read.listed.indexed is.named is.fetched in
    let (last, leads, ends) = run_is_taken texts.arch is.universe is.good.begin is.good.holds.finish is.steps is.stanzas first built handed run in
    record { last = last; leads = subst (λ (rs : List RecordedStep). Leads texts.arch first rs last) (sym is.records_are) leads; ends = ends }

pub output_is_judged_end : OutputIsJudgedEnd
output_is_judged_end texts plan start records text is ends =
    let first = ends.end.first in
    let taken = taken_from texts plan start records is first ends.end.begins in
    let same : ends.h.slots ≡ taken.last = one_last texts.arch first ends.h.slots taken.last records ends.end.leads taken.leads in
    let sound = leads_keeps_sound texts.arch first ends.h.slots records ends.end.leads (read_is_sound texts.arch start first ends.end.begins) in
    record {
      universe = is.universe;
      start = is.good.begin;
      steps = is.steps;
      read_as = is.good.read_as;
      finish = is.good.holds.finish;
      run = is.good.holds.run;
      good = is.good.holds.good;
      file = subst (λ (t : List ℕ). IsStatusFileOf texts.arch t is.good.holds.finish) (sym ends.text_is)
          (Taken.status_file_of texts.arch ends.h.slots is.good.holds.finish sound (ap slot_records same ∙ taken.ends));
    }

pub carried_out_is_judged_end : CarriedOutIsJudgedEnd
carried_out_is_judged_end texts plan ready done is carried =
    output_is_judged_end texts plan ready.start ready.records done.status.items is.planned
    (subst (λ (arch : List ℕ). IsEndText arch ready.start ready.records done.status.items) is.for_it carried.end)

pub good_plan_is_taken : GoodPlanIsTaken
good_plan_is_taken texts plan start records is h next has is_next =
    let taken = taken_from texts plan start records is has.first has.begins in
    never_refused texts.arch start records has.first taken.last has.begins taken.leads h next has is_next

pub good_plan_is_never_refused : GoodPlanIsNeverRefused
good_plan_is_never_refused texts plan start records ledger name is has against =
    let can = good_plan_is_taken texts plan start records is (history_of ledger) against.next has against.is_next in
    nothing (refused_name (handed_in texts.arch against.next.stanza) against.next.step (slot_records ledger.database.slots)) name can
    (subst (λ (arch : List ℕ). refused_name (handed_in arch against.next.stanza) against.next.step (slot_records ledger.database.slots) ≡ Some name)
    has.for_it against.fault.1)
  where
    nothing : (o : Option (List ℕ)) (name : List ℕ) → o ≡ None → o ≡ Some name → ⊥
    nothing o name none some = absurd (let e = sym none ∙ some in cc)
