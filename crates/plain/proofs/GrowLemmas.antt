-- Steps of a phase so far, as a loop pushes them: they grow by the next one, and are the phase where none is left.
use Rattle.std.proofs.Common.{◌≡◌, ℕ, List, [], ◌∷◌, ◌++◌, ap, subst}
use Rattle.rules.specs.Database.{Record}
use Rattle.rules.specs.Package.{Pkg}
use Rattle.rules.specs.Run.{after}
use Rattle.rules.specs.Universe.{Universe}
use Rattle.rules.specs.declared.step.Step.{Step}
use Rattle.plain.specs.Change.{HasNothingToRemove}
use Rattle.plain.specs.Order.{AreConfigures, AreNextSteps, AreRemovals, IsConfigurableGroup, IsNextConfigure, IsNextRemoval, after_all}
use Rattle.plain.specs.PhaseLaws.{ConfiguresEnd, ConfiguresGrow, RemovalsEnd, RemovalsGrow}

-- one more next step
next_pushed : (IsNext : List Record → Step → Type 0) (u : Universe) (db reached : List Record) (steps : List Step) (step : Step)
    → AreNextSteps IsNext u db steps reached → IsNext reached step
    → AreNextSteps IsNext u db (steps ++ step ∷ []) (after u reached step)
next_pushed IsNext u db reached [] step same next = (subst (λ d. IsNext d step) same next, ap (λ d. after u d step) same)
next_pushed IsNext u db reached (first ∷ rest) step so_far next =
    (so_far.0, next_pushed IsNext u (after u db first) reached rest step so_far.1 next)

-- where they lead is the database after all of them
next_leads : (IsNext : List Record → Step → Type 0) (u : Universe) (db reached : List Record) (steps : List Step)
    → AreNextSteps IsNext u db steps reached → reached ≡ after_all u db steps
next_leads IsNext u db reached [] same = same
next_leads IsNext u db reached (first ∷ rest) so_far = next_leads IsNext u (after u db first) reached rest so_far.1

pub removals_grow : RemovalsGrow
removals_grow u members db reached steps step so_far next = next_pushed (IsNextRemoval u members) u db reached steps step so_far next

pub configures_grow : ConfiguresGrow
configures_grow u db reached steps step so_far next = next_pushed (IsNextConfigure u) u db reached steps step so_far next

-- with nothing left they are the whole phase
all_removals : (u : Universe) (members : List Pkg) (db reached : List Record) (steps : List Step)
    → AreNextSteps (IsNextRemoval u members) u db steps reached → HasNothingToRemove members reached → AreRemovals u members db steps
all_removals u members db reached [] same none = subst (HasNothingToRemove members) same none
all_removals u members db reached (first ∷ rest) so_far none =
    (so_far.0, all_removals u members (after u db first) reached rest so_far.1 none)

pub removals_end : RemovalsEnd
removals_end u members db reached steps so_far none =
    (all_removals u members db reached steps so_far none, next_leads (IsNextRemoval u members) u db reached steps so_far)

all_configures : (u : Universe) (db reached : List Record) (steps : List Step)
    → AreNextSteps (IsNextConfigure u) u db steps reached → ((names : List (List ℕ)) → ¬ IsConfigurableGroup u reached names)
    → AreConfigures u db steps
all_configures u db reached [] same none = subst (λ d. (names : List (List ℕ)) → ¬ IsConfigurableGroup u d names) same none
all_configures u db reached (first ∷ rest) so_far none =
    (so_far.0, all_configures u (after u db first) reached rest so_far.1 none)

pub configures_end : ConfiguresEnd
configures_end u db reached steps so_far none =
    (all_configures u db reached steps so_far none, next_leads (IsNextConfigure u) u db reached steps so_far)
