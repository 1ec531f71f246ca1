-- The states in which a package stands are ones in which it is present.
use Rattle.std.proofs.Common.{◌≡◌, ℕ, Bool, true, false, Some, None, List, refl, sym, subst, get_or}
use Rattle.std.specs.Prelude.{MatchOption, ⊤, IsTrue, if◌then◌else◌, ◌&&◌, ◌||◌}
use Rattle.std.specs.List.{All}
use Rattle.std.proofs.lemmas.List.Elements.{All-map}
use Rattle.rules.specs.Database.{Record}
use Rattle.rules.specs.State.{is_installed_state, is_present_state, is_sound_flag, is_unconfigured_state}
use Rattle.rules.specs.Universe.{Start, Universe, start_of, starts_of}
use Rattle.rules.specs.declared.status.State.{State}
use Rattle.rules.specs.declared.status.State.TheVariants.{NotInstalled, ConfigFiles, HalfInstalled, Unpacked, HalfConfigured, TriggersAwaited, TriggersPending, Installed}
use Rattle.search_settle.specs.Encoded.{StandingArePresent}

-- the start says so of a name
abbrev IsPresentWhereStanding : Start → Type 0
IsPresentWhereStanding start = MatchOption start.standing ⊤ (λ _. IsTrue start.is_present)

-- what stands by its state is present by it
of_state : (state : State) (sound : Bool) (version : List ℕ)
    → MatchOption (if (is_unconfigured_state state || is_installed_state state) && sound then Some version else None) ⊤ (λ _. IsTrue (is_present_state state))
of_state NotInstalled sound version = tt
of_state ConfigFiles sound version = tt
of_state HalfInstalled sound version = tt
of_state Unpacked true version = refl
of_state Unpacked false version = tt
of_state HalfConfigured true version = refl
of_state HalfConfigured false version = tt
of_state TriggersAwaited true version = refl
of_state TriggersAwaited false version = tt
of_state TriggersPending true version = refl
of_state TriggersPending false version = tt
of_state Installed true version = refl
of_state Installed false version = tt

-- where the facts of the start are those of records, each name that stands was present
pub records_are_present : (start : List Record) (u : Universe) → u.starts ≡ starts_of start → StandingArePresent u
unfolding StandingArePresent
records_are_present start u same = subst (All IsPresentWhereStanding) (sym same)
    (All-map IsPresentWhereStanding start_of start
    (λ k d within. let entry = get_or start k d in of_state entry.state (is_sound_flag entry.flag) entry.version))
