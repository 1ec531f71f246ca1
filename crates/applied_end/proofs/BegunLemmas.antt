-- A journal that has begun with a good plan isn't left unfinished because a step can't be taken.
use Rattle.std.proofs.Common.{◌≡◌, ℕ, List, [], ◌∷◌, ◌++◌, sym, subst, ◌∙◌, inl, inr}
use Rattle.apply.specs.Planned.{IsOfPlan}
use Rattle.apply.specs.Progress.{IsPartTaken, IsUpTo}
use Rattle.journal.specs.History.{History, Leads, Shows, slots_left}
use Rattle.journal.specs.Ledger.{history_of}
use Rattle.journal.specs.Payload.{RecordedStep}
use Rattle.apply.specs.Run.{HasBegun}
use Rattle.status_text.specs.Slot.{FileSlot}
use Rattle.status.specs.Stored.{read_stored}
use Rattle.applied_end.proofs.EndLemmas.{good_plan_is_never_refused}
use Rattle.applied_end.specs.End.{GoodPlanIsFinished}
use Rattle.applied_end.specs.Run.{HasBegunWith}

leads_joined : (arch : List ℕ) (first middle last : List FileSlot) (steps later : List RecordedStep) → Leads arch first steps middle
    → Leads arch middle later last → Leads arch first (steps ++ later) last
leads_joined arch first middle last [] later leads behind = subst (λ (from : List FileSlot). Leads arch from later last) leads behind
leads_joined arch first middle last (recorded ∷ steps) later leads behind =
    (leads.0, leads_joined arch (slots_left arch recorded first) middle last steps later leads.1 behind)

-- a file shows one history for an architecture
abbrev pub ShowsOneHistory : Type 0
ShowsOneHistory = (file : List ℕ) (h k : History) → Shows file h → Shows file k → h.arch ≡ k.arch → h ≡ k

module _ (arch start : List ℕ) (plan : List RecordedStep) where
  -- a history that goes on from one that has begun with the plan to first steps of it has begun with it
  part_begun : (old new : History) → HasBegunWith arch start plan old → IsPartTaken plan old new → HasBegunWith arch start plan new
  part_begun old new has part =
      let behind : Leads arch old.slots part.taken new.slots =
      subst (λ (a : List ℕ). Leads a old.slots part.taken new.slots) has.for_it part.goes_on.leads in
      record {
        for_it = part.goes_on.arch ∙ has.for_it;
        of_plan = record { start_is = part.goes_on.start ∙ has.of_plan.start_is; steps_are = part.within };
        first = has.first;
        begins = has.begins;
        leads = subst (λ (steps : List RecordedStep). Leads arch has.first steps new.slots) (sym part.goes_on.steps)
            (leads_joined arch has.first old.slots new.slots old.steps part.taken has.leads behind);
      }

  up_to_begun : (old new : History) → HasBegunWith arch start plan old → IsUpTo plan old new → HasBegunWith arch start plan new
  up_to_begun old new has (inl same) = subst (HasBegunWith arch start plan) (sym same) has
  up_to_begun old new has (inr part) = part_begun old new has part

  -- what a file shows that has begun with the plan has begun with it
  shown_begun : ShowsOneHistory → (file : List ℕ) (h : History) → h.arch ≡ arch → Shows file h → HasBegun arch start plan file → HasBegunWith arch start plan h
  shown_begun one file h for_it shows begun =
      let same : h ≡ begun.h = one file h begun.h shows begun.shows (for_it ∙ sym begun.for_it) in
      let of_plan : IsOfPlan start plan h = subst (IsOfPlan start plan) (sym same) begun.of_plan in
      record {
        for_it = for_it;
        of_plan = of_plan;
        first = shows.stands.first;
        begins = (λ i. read_stored (sym for_it i) (sym of_plan.start_is i)) ∙ shows.stands.begins;
        leads = subst (λ (a : List ℕ). Leads a shows.stands.first h.steps h.slots) for_it shows.stands.leads;
      }

pub good_plan_is_finished : ShowsOneHistory → GoodPlanIsFinished
good_plan_is_finished one texts plan start records file name is begun unfinished =
    let stopped = unfinished.fault in
    let has = shown_begun texts.arch start records one file unfinished.h unfinished.for_it unfinished.shows begun in
    good_plan_is_never_refused texts plan start records stopped.ledger name is
    (up_to_begun texts.arch start records unfinished.h (history_of stopped.ledger) has stopped.reached) stopped.against
