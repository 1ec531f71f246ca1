-- What is kept of a history, whatever comes of a run.
use Rattle.std.proofs.Common.{inl, inr, [], ℕ, List, Result, append-nil, refl, subst, sym}
use Rattle.disk.specs.Calls.{Stays}
use Rattle.disk.specs.Facts.{DiskFacts}
use Rattle.disk.specs.RunLaws.{started, stays_so, weaker}
use Rattle.journal.specs.History.{History, Shows}
use Rattle.journal.specs.Payload.{RecordedStep}
use Rattle.apply.proofs.LeftLemmas.{run_behind}
use Rattle.apply.specs.Begun.{IsBegunOn, IsNotBegunOn}
use Rattle.apply.specs.Kept.{IsNoLess, IsNoLessThanLeft, KeepsHistory, ShowsNoLess}
use Rattle.apply.specs.Progress.{ShowsUpTo}
use Rattle.apply.specs.Run.{IsLeft, IsRunOn}
use Rattle.apply.specs.declared.error.BeginError.{BeginError}
use Rattle.apply.specs.declared.error.RunError.{RunError}

-- a history is no less than itself
same_is_no_less : (h : History) → IsNoLess h h
same_is_no_less h = ([], record { arch = refl; start = refl; steps = sym (append-nil h.steps); leads = refl })

-- a file with next steps of a plan shows no less
up_to_shows : (plan : List RecordedStep) (h : History) (before file : List ℕ) → Shows before h → ShowsUpTo plan h file → ShowsNoLess before file
up_to_shows plan h before file shows (new, inl same, now) = inr (h, h, shows, same_is_no_less h, subst (Shows file) same now)
up_to_shows plan h before file shows (new, inr part, now) = inr (h, new, shows, (part.taken, part.goes_on), now)

-- what is left of a run shows no less
left_shows : (arch start : List ℕ) (plan : List RecordedStep) (old : DiskFacts) (file : List ℕ) → IsLeft arch start plan old file
    → IsNoLessThanLeft old file
left_shows arch start plan old file (inl (was, left, inl same)) = (was, left, inl same)
left_shows arch start plan old file (inl (was, left, inr (h, for_it, before, now))) = (was, left, inr (h, h, before, same_is_no_less h, now))
left_shows arch start plan old file (inr on) =
    (old.seen, old.among, up_to_shows plan on.begun.h old.seen file on.begun.shows on.shows)

-- what isn't touched keeps its history
pub untouched_kept : (a : DiskFacts) → KeepsHistory a a
untouched_kept a made = started (IsNoLessThanLeft a) a (λ c left. (c, left, inl refl))

-- so does what is as it was
pub stays_kept : (a b : DiskFacts) → Stays a b → KeepsHistory a b
stays_kept a b stays made = stays_so (IsNoLessThanLeft a) a b stays (λ c left. (c, left, inl refl))

-- and a file on which no journal was begun
pub not_begun_kept : (arch start : List ℕ) (a b : DiskFacts) (e : BeginError) → IsNotBegunOn arch start a e b → KeepsHistory a b
not_begun_kept arch start a b e not_begun made = stays_kept a b (not_begun.kept made) made

-- and one on which one was begun and gone on with
pub run_kept : {T : Type 0} (arch start : List ℕ) (plan : List RecordedStep) (a b d : DiskFacts) (r : Result T RunError) → IsBegunOn arch start a b
    → IsRunOn arch start plan b r d → KeepsHistory a d
run_kept arch start plan a b d r (inl unmade) run made = absurd (made unmade.0)
run_kept arch start plan a b d r (inr there) run made =
    weaker (IsLeft arch start plan a) (IsNoLessThanLeft a) a d (left_shows arch start plan a) (run_behind arch start plan a b d r there.1 run).any_moment
