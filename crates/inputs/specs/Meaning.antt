-- What the texts denote, and what is refused of a request.
use Rattle.std.specs.Prelude.{◌≡◌, ◌⊎◌, ℕ, Bool, List, Result, Ok, Err, None, Some}
use Rattle.pins.specs.Prefs.{Preferences}
use Rattle.rules.specs.Available.{Index, Request, all_listed}
use Rattle.rules.specs.Database.{Record}
use Rattle.rules.specs.Universe.{Universe}
use Rattle.universe_build.specs.Build.{first_unknown, request_of}
use Rattle.universe_build.specs.Error.{IsBuilt, IsTooLarge}
use Rattle.universe_request.specs.Request.{ReadRequest, read_request}
use Rattle.inputs.specs.Before.{AreRead}
use Rattle.inputs.specs.Reading.{with_fault}
use Rattle.inputs.specs.Texts.{Found, Texts, read_found}
use Rattle.inputs.specs.declared.refusal.Fault.{Fault}
use Rattle.inputs.specs.declared.refusal.Fault.TheVariants as fault

-- The request

-- what a request is read as
abbrev pub request_in : List ℕ → Found → Result ReadRequest Fault
request_in arch request = read_found (λ text. with_fault fault.Request (read_request arch text)) request

-- what a request asks for
abbrev pub asked_of : ReadRequest → Request
asked_of asked = request_of asked.goals asked.asks_all_versions

-- the request is read, with these goals and for all versions or not, and is answered from this universe
pub record IsRequested (arch : List ℕ) (request : Found) (start : List Record) (indices : List Index) (prefs : Preferences) (asked : ReadRequest) (u : Universe) : Type 0 where
  pub read : request_in arch request ≡ Ok asked
  pub built : IsBuilt start indices prefs asked.goals asked.asks_all_versions u

-- no universe of the request is built for this fault: the goal in this line is the first that names an unknown package, or none
-- does, and too many pairs are admitted
abbrev pub IsBuildFault : List Record → List Index → Preferences → ReadRequest → Fault → Type 0
IsBuildFault start indices prefs asked (fault.UnknownName line) = first_unknown start (all_listed indices) asked.goals ≡ Some line
IsBuildFault start indices prefs asked fault.TooLarge =
    (first_unknown start (all_listed indices) asked.goals ≡ None)
    × IsTooLarge start indices prefs (asked_of asked)
IsBuildFault start indices prefs asked other = ⊥

-- the request is read, and no universe of it is built for this fault
pub record IsNotBuilt (arch : List ℕ) (request : Found) (start : List Record) (indices : List Index) (prefs : Preferences) (reason : Fault) : Type 0 where
  pub asked : ReadRequest
  pub read : request_in arch request ≡ Ok asked
  pub fault : IsBuildFault start indices prefs asked reason

-- the request has this fault
abbrev pub IsRequestFault : List ℕ → Found → List Record → List Index → Preferences → Fault → Type 0
IsRequestFault arch request start indices prefs reason =
    (request_in arch request ≡ Err reason) ⊎ IsNotBuilt arch request start indices prefs reason

-- All texts

-- the texts are read without refusal, as this universe and this start
pub record Denotes (texts : Texts) (u : Universe) (start : List Record) : Type 0 where
  pub indices : List Index
  pub prefs : Preferences
  pub asked : ReadRequest
  pub read : AreRead texts start indices prefs
  pub requested : IsRequested texts.arch texts.request start indices prefs asked u

-- the same, and the request asks for all versions, or doesn't
pub record DenotesAsked (texts : Texts) (u : Universe) (start : List Record) (asks_all_versions : Bool) : Type 0 where
  pub denoted : Denotes texts u start
  pub asks : asks_all_versions ≡ denoted.asked.asks_all_versions

-- the texts before the request are read, and the request has the fault
pub record IsAsked (texts : Texts) (reason : Fault) : Type 0 where
  pub start : List Record
  pub indices : List Index
  pub prefs : Preferences
  pub read : AreRead texts start indices prefs
  pub refused : IsRequestFault texts.arch texts.request start indices prefs reason
