-- What a run of calls leaves: the steps that may stand with others behind them, and what holds after each call.
use Rattle.std.proofs.Common.{◌≡◌, inl, inr, ℕ, ◌≤◌, Some, None, Option, List, [], ◌∷◌, ◌++◌, length, refl, sym, ◌∙◌, ap, subst, arith, append_assoc}
use Rattle.std.specs.Prelude.{⊤}
use Rattle.std.proofs.lemmas.List.{append-nil}
use Rattle.disk.specs.Calls.{Stays}
use Rattle.disk.specs.Facts.{DiskFacts}
use Rattle.disk.specs.RunLaws.{synced_stays}
use Rattle.journal.specs.declared.ledger.Ledger.{Ledger}
use Rattle.journal.specs.Calls.{Came, acknowledged, unknown, GoesOn, IsCall, appends, opens, reads, IsLedTo, IsRun, begins, adds, refuses, reopens, looks, fails, stops_within, stops, MayStand, ShowsFrom, ShowsOneOf}
use Rattle.journal.specs.Creating.{IsCreated}
use Rattle.journal.specs.File.{front}
use Rattle.journal.specs.History.{History, IsBeforeOrAfter, Shows, followed}
use Rattle.journal.specs.Ledger.{IsSettled, MeansAsBefore, history_of}
use Rattle.journal.specs.Payload.{RecordedStep}
use Rattle.journal.proofs.OnceLemmas.{shows_once}

-- behind steps that may stand others that may stand
stand_join : (came more : List Came) (steps next : List RecordedStep) → MayStand came steps → MayStand more next → MayStand (came ++ more) (steps ++ next)
stand_join [] more steps next is stands = subst (λ (s : List RecordedStep). MayStand more (s ++ next)) (sym is) stands
stand_join (acknowledged r ∷ later) more steps next (rest, is, first) stands =
    (rest ++ next, ap (λ (s : List RecordedStep). s ++ next) is, stand_join later more rest next first stands)
stand_join (unknown r ∷ later) more steps next (inl first) stands = inl (stand_join later more steps next first stands)
stand_join (unknown r ∷ later) more steps next (inr (rest, is, first)) stands =
    inr (rest ++ next, ap (λ (s : List RecordedStep). s ++ next) is, stand_join later more rest next first stands)

-- a history behind which other steps may stand
goes_further : (before : History) (came more : List Came) (h k : History) (next : List RecordedStep) → GoesOn before came h → k.arch ≡ h.arch → k.start ≡ h.start
    → k.steps ≡ h.steps ++ next → MayStand more next → GoesOn before (came ++ more) k
goes_further before came more h k next on arch start steps stands = record {
  for_it = arch ∙ on.for_it;
  start_is = start ∙ on.start_is;
  later = on.later ++ next;
  steps_are = steps ∙ ap (λ (s : List RecordedStep). s ++ next) on.steps_are ∙ append_assoc before.steps on.later next;
  may_stand = stand_join came more on.later next on.may_stand stands;
}

-- nothing came behind it
no_further : (before : History) (came : List Came) (h : History) → GoesOn before came h → GoesOn before (came ++ []) h
no_further before came h on = goes_further before came [] h h [] on refl refl (sym (append-nil h.steps)) refl

-- a step that was acknowledged came behind it
acknowledged_further : (before : History) (came : List Came) (h : History) (r : RecordedStep) → GoesOn before came h → GoesOn before (came ++ acknowledged r ∷ []) (followed h r)
acknowledged_further before came h r on = goes_further before came (acknowledged r ∷ []) h (followed h r) (r ∷ []) on refl refl refl ([], refl, refl)

-- a step of which it isn't known
unknown_further : (before : History) (came : List Came) (h : History) (r : RecordedStep) (file : List ℕ) → GoesOn before came h → IsBeforeOrAfter h r file
    → ShowsOneOf before (came ++ unknown r ∷ []) file
unknown_further before came h r file on (inl shows) =
    (h, goes_further before came (unknown r ∷ []) h h [] on refl refl (sym (append-nil h.steps)) (inl refl), shows)
unknown_further before came h r file on (inr shows) =
    (followed h r, goes_further before came (unknown r ∷ []) h (followed h r) (r ∷ []) on refl refl refl (inr ([], refl, refl)), shows)

-- it is the history that the file shows
pub shown_goes_on : (before : History) (came : List Came) (file : List ℕ) (h : History) → ShowsOneOf before came file → Shows file h → h.arch ≡ before.arch
    → GoesOn before came h
shown_goes_on before came file h (k, on, shown) shows arch =
    subst (λ (x : History). GoesOn before came x) (shows_once file k h shown shows (on.for_it ∙ sym arch)) on

-- a file that means what one means that a crash could have left before
opened_further : (before : History) (came : List Came) (old : DiskFacts) (file : List ℕ) → ((was : List ℕ) → old.leaves was → ShowsOneOf before came was)
    → MeansAsBefore before.arch old file → ShowsOneOf before (came ++ []) file
opened_further before came old file all (was, left, inl same) =
    let shown = all was left in
    (shown.0, no_further before came shown.0 shown.1, subst (λ (f : List ℕ). Shows f shown.0) (sym same) shown.2)
opened_further before came old file all (was, left, inr (h, arch, old_shows, shows)) =
    (h, no_further before came h (shown_goes_on before came was h (all was left) old_shows arch), shows)

-- behind the start of a journal that was created
pub shown_from : (arch start : List ℕ) (begun : Ledger) (came : List Came) (file : List ℕ) → IsCreated arch start begun → ShowsOneOf (history_of begun) came file
    → ShowsFrom arch start came file
shown_from arch start begun came file made (h, on, shows) =
    let steps : h.steps ≡ on.later = on.steps_are ∙ ap (λ (s : List RecordedStep). s ++ on.later) made.no_step in
    (h, on.for_it ∙ made.for_it, on.start_is ∙ made.start_is, subst (λ (s : List RecordedStep). MayStand came s) (sym steps) on.may_stand, shows)

-- its status file is the one that its steps lead to
pub shown_led : (file : List ℕ) (h : History) → Shows file h → IsLedTo h
shown_led file h shows = record { first = shows.stands.first; begins = shows.stands.begins; leads = shows.stands.leads }

settled_shows : (ledger : Ledger) (now : DiskFacts) (file : List ℕ) → IsSettled ledger now → now.leaves file → Shows file (history_of ledger)
settled_shows ledger now file settled left =
    record { named = settled.named; entries = settled.entries; tail = []; stands = settled.stands; is = settled.file.leaves file left }

-- a journal that remembers the same and has its gate where it was
settled_same : (old new : Ledger) (now : DiskFacts) → IsSettled old now → history_of new ≡ history_of old → new.gate ≡ old.gate → new.broken ≡ old.broken → IsSettled new now
settled_same old new now settled history gate broken =
    let start : new.start.now ≡ old.start.now = ap (λ (h : History). h.start) history in
    record {
      whole = broken ∙ settled.whole;
      named = settled.named;
      entries = settled.entries;
      stands = rw history settled.stands;
      gate = gate ∙ settled.gate ∙ ap (λ (s : List ℕ). length (front settled.named s settled.entries)) (sym start);
      file = rw start settled.file;
    }

settled_stays : (ledger : Ledger) (old new : DiskFacts) → IsSettled ledger old → Stays old new → IsSettled ledger new
settled_stays ledger old new settled stays = record {
  whole = settled.whole;
  named = settled.named;
  entries = settled.entries;
  stands = settled.stands;
  gate = settled.gate;
  file = synced_stays (front settled.named ledger.start.now settled.entries ++ 0 ∷ []) old new settled.file stays;
}

-- a journal in memory is settled, and its history goes on so
abbrev pub IsReady : History → List Came → Option Ledger → DiskFacts → Type 0
IsReady before came None now = ⊤
IsReady before came (Some ledger) now = IsSettled ledger now × GoesOn before came (history_of ledger)

-- what holds after each call of a run
pub record Holds (before : History) (came : List Came) (held : Option Ledger) (now : DiskFacts) : Type 0 where
  pub left : (file : List ℕ) → now.leaves file → ShowsOneOf before came file
  pub ready : IsReady before came held now

-- of a journal in memory it is enough that it is settled
ready_holds : (before : History) (came : List Came) (ledger : Ledger) (now : DiskFacts) → IsSettled ledger now → GoesOn before came (history_of ledger)
    → Holds before came (Some ledger) now
ready_holds before came ledger now settled on = record {
  left = λ file left. (history_of ledger, on, settled_shows ledger now file settled left);
  ready = (settled, on);
}

same_goes_on : (before : History) (came : List Came) (old new : Ledger) → history_of new ≡ history_of old → GoesOn before came (history_of old)
    → GoesOn before came (history_of new)
same_goes_on before came old new same on = subst (λ (h : History). GoesOn before came h) (sym same) on

begun_goes_on : (before : History) (ledger : Ledger) → history_of ledger ≡ before → GoesOn before [] (history_of ledger)
begun_goes_on before ledger same = record {
  for_it = ap (λ (h : History). h.arch) same;
  start_is = ap (λ (h : History). h.start) same;
  later = [];
  steps_are = ap (λ (h : History). h.steps) same ∙ sym (append-nil before.steps);
  may_stand = refl;
}

-- what a crash leaves within a call
pub within : (before : History) (came handed : List Came) (held : Option Ledger) (old new : DiskFacts) → Holds before came held old
    → IsCall before.arch old new held handed → (file : List ℕ) → new.since old.moment file → ShowsOneOf before (came ++ handed) file
within before came handed held old new holds (appends {ledger = l} r run) file left =
    unknown_further before came (history_of l) r file holds.ready.1 (run.each file left)
within before came handed held old new holds (opens run) file left = opened_further before came old file holds.left (run.each file left)
within before came handed held old new holds (reads stays) file left =
    let shown = holds.left file (old.only_now file ((stays.since old.moment file (omega arith)).0 left)) in
    (shown.0, no_further before came shown.0 shown.1, shown.2)

-- a call more, at whose end it isn't known
call_holds : (before : History) (came handed : List Came) (held : Option Ledger) (old new again : DiskFacts) → Holds before came held old
    → IsCall before.arch old new held handed → ((file : List ℕ) → again.leaves file → new.since old.moment file) → Holds before (came ++ handed) None again
call_holds before came handed held old new again holds call resumes = record {
  left = λ file left. within before came handed held old new holds call file (resumes file left);
  ready = tt;
}

-- time goes on in a call
call_later : (arch : List ℕ) (old new : DiskFacts) (held : Option Ledger) (handed : List Came) → IsCall arch old new held handed → old.moment ≤ new.moment
call_later arch old new held handed (appends r run) = run.later
call_later arch old new held handed (opens run) = run.later
call_later arch old new held handed (reads stays) = stays.later

-- after a read
looked_holds : (before : History) (came : List Came) (held : Option Ledger) (old new : DiskFacts) → Holds before came held old → Stays old new
    → Holds before came held new
looked_holds before came None old new holds stays = record { left = λ file left. holds.left file ((stays.leaves file).0 left); ready = tt }
looked_holds before came (Some ledger) old new holds stays = ready_holds before came ledger new (settled_stays ledger old new holds.ready.0 stays) holds.ready.1

module _ {D : Type 0} (facts : D → DiskFacts) (before : History) where
  -- it holds after each run
  pub run_holds : (came : List Came) (held : Option Ledger) (disk : D) → IsRun facts before came held disk → Holds before came held (facts disk)
  run_holds came held disk (begins {ledger = l} same settled) = ready_holds before [] l (facts disk) settled (begun_goes_on before l same)
  run_holds came held disk (adds {came = earlier} {old = old} {new = new} {disk = was} r run history settled) =
      let holds = run_holds earlier (Some old) was run in
      ready_holds before (earlier ++ acknowledged r ∷ []) new (facts disk) settled
      (subst (λ (h : History). GoesOn before (earlier ++ acknowledged r ∷ []) h) (sym history) (acknowledged_further before earlier (history_of old) r holds.ready.1))
  run_holds came held disk (refuses {old = old} {new = new} run history gate broken) =
      let holds = run_holds came (Some old) disk run in
      ready_holds before came new (facts disk) (settled_same old new (facts disk) holds.ready.0 history gate broken) (same_goes_on before came old new history holds.ready.1)
  run_holds came held disk (reopens {held = earlier} {ledger = l} {disk = was} run shows arch settled) =
      let holds = run_holds came earlier was run in
      ready_holds before came l (facts disk) settled
      (shown_goes_on before came (facts was).seen (history_of l) (holds.left (facts was).seen (facts was).among) shows arch)
  run_holds came held disk (looks {disk = was} run stays) = looked_holds before came held (facts was) (facts disk) (run_holds came held was run) stays
  run_holds came held disk (fails {came = earlier} {handed = handed} {held = had} {disk = was} run call) =
      call_holds before earlier handed had (facts was) (facts disk) (facts disk) (run_holds earlier had was run) call
      (λ file left. (facts disk).counts_now (facts was).moment file (call_later before.arch (facts was) (facts disk) had handed call) left)
  run_holds came held disk (stops_within {came = earlier} {handed = handed} {held = had} {disk = was} {after = after} run call resumes) =
      call_holds before earlier handed had (facts was) (facts after) (facts disk) (run_holds earlier had was run) call resumes
  run_holds came held disk (stops {held = had} {disk = was} run leaves) = record {
    left = λ file left. (run_holds came had was run).left file (leaves file left);
    ready = tt;
  }
