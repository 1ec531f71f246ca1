-- Texts have one meaning, and a meaning and a refusal exclude each other.
use Rattle.std.proofs.Common.{◌≡◌, ℕ, List, length, Some, None, Result, Ok, Err, sym, ap, subst, ◌∙◌, arith}
use Rattle.candidates.specs.Inputs.{inputs_of}
use Rattle.pins.specs.Prefs.{Preferences}
use Rattle.rules.specs.Available.{Index}
use Rattle.rules.specs.Database.{Record}
use Rattle.rules.specs.FileRecord.{records_of}
use Rattle.rules.specs.Universe.{IsUniverse, Universe}
use Rattle.rules.proofs.UniverseLemmas.{one_universe}
use Rattle.status_text.specs.Slot.{entries_of}
use Rattle.universe_request.specs.Request.{ReadRequest}
use Rattle.inputs.specs.Before.{AreListed, AreRead, HasIndices, HasStart, IsFaultBefore}
use Rattle.inputs.specs.Indices.{read_indices}
use Rattle.inputs.specs.Meaning.{Denotes, IsAsked, IsBuildFault, IsRequestFault, IsRequested, asked_of, request_in}
use Rattle.inputs.specs.Reading.{out_of_memory}
use Rattle.inputs.specs.Refused.{HasOneMeaning, MeaningIsNotRefused}
use Rattle.inputs.specs.Texts.{Found, Texts, preferences_of, sources_of, status_file_of}
use Rattle.inputs.specs.declared.refusal.Fault.{Fault}
use Rattle.inputs.specs.declared.refusal.Fault.TheVariants as fault
use Rattle.inputs.specs.declared.refusal.Input.{Input}
use Rattle.inputs.specs.declared.refusal.Input.TheVariants as place
use mathlib.Core.Logic.{inl, inr}

-- a result has one value
pub ok-same : {A E : Type 0} (x y : A) (r : Result A E) → r ≡ Ok x → r ≡ Ok y → x ≡ y
ok-same x y r first second = let e = sym first ∙ second in cc

-- a result has no value and no error beside
pub not-both : {A E : Type 0} (x : A) (e : E) (r : Result A E) → r ≡ Ok x → r ≡ Err e → ⊥
not-both x e r first second = absurd (let same : Ok x ≡ Err e = sym first ∙ second in cc)

-- the sources and the indices are read as one list of indices
one_indexing : (texts : Texts) (indices others : List Index) → HasIndices texts indices → HasIndices texts others → indices ≡ others
one_indexing texts indices others is also =
    ok-same indices others (read_indices texts.arch texts.index is.sources) is.indices_are
    (ap (λ named. read_indices texts.arch texts.index named)
    (ok-same is.sources also.sources (sources_of texts) is.sources_are also.sources_are) ∙ also.indices_are)

-- the status file is read as one start
pub one_start : (texts : Texts) (start begin : List Record) → HasStart texts start → HasStart texts begin → start ≡ begin
one_start texts start begin is also =
    is.start_is
    ∙ ap (λ slots. records_of (entries_of slots)) (ok-same is.slots also.slots (status_file_of texts) is.status also.status)
    ∙ sym also.start_is

-- what texts before the request are read as
one_start_of : (texts : Texts) (start begin : List Record) (indices others : List Index) → AreListed texts start indices
    → AreListed texts begin others → start ≡ begin
one_start_of texts start begin indices others is also = one_start texts start begin is.started also.started

one_reading : (texts : Texts) (start begin : List Record) (indices others : List Index) → AreListed texts start indices
    → AreListed texts begin others → indices ≡ others
one_reading texts start begin indices others is also = one_indexing texts indices others is.indexed also.indexed

one_preferring : (texts : Texts) (start begin : List Record) (indices others : List Index) (prefs further : Preferences)
    → AreRead texts start indices prefs → AreRead texts begin others further → prefs ≡ further
one_preferring texts start begin indices others prefs further is also =
    ok-same prefs further (preferences_of texts) is.preferred also.preferred

pub one_meaning : HasOneMeaning
one_meaning texts u other start begin is also = (
  one_universe (inputs_of start is.indices is.prefs (asked_of is.asked)) u other is.requested.built.universe
      (subst (λ db. IsUniverse (inputs_of db is.indices is.prefs (asked_of is.asked)) other) (sym begins)
      (subst (λ indices. IsUniverse (inputs_of begin indices is.prefs (asked_of is.asked)) other) (sym indices)
      (subst (λ prefs. IsUniverse (inputs_of begin also.indices prefs (asked_of is.asked)) other) (sym prefs)
      (subst (λ (asked : ReadRequest). IsUniverse (inputs_of begin also.indices also.prefs (asked_of asked)) other) (sym asked) also.requested.built.universe)))),
  begins,
)
  where
    asked : is.asked ≡ also.asked
    asked = ok-same is.asked also.asked (request_in texts.arch texts.request) is.requested.read also.requested.read

    indices : is.indices ≡ also.indices
    indices = one_reading texts start begin is.indices also.indices is.read.listed also.read.listed

    prefs : is.prefs ≡ also.prefs
    prefs = one_preferring texts start begin is.indices also.indices is.prefs also.prefs is.read also.read

    begins : start ≡ begin
    begins = one_start_of texts start begin is.indices also.indices is.read.listed also.read.listed

-- where a universe is built of goals, there is no fault in building it
is_built : (start : List Record) (indices : List Index) (prefs : Preferences) (arch : List ℕ) (request : Found) (asked : ReadRequest)
    (u : Universe) (reason : Fault) → IsRequested arch request start indices prefs asked u → ¬ IsBuildFault start indices prefs asked reason
is_built start indices prefs arch request asked u (fault.Version kind) is no_fault = no_fault
is_built start indices prefs arch request asked u (fault.Status refused) is no_fault = no_fault
is_built start indices prefs arch request asked u (fault.Sources refused) is no_fault = no_fault
is_built start indices prefs arch request asked u (fault.Index refused) is no_fault = no_fault
is_built start indices prefs arch request asked u (fault.Preferences refused) is no_fault = no_fault
is_built start indices prefs arch request asked u (fault.Request refused) is no_fault = no_fault
is_built start indices prefs arch request asked u (fault.UnknownName line) is reason =
    absurd (let e : None ≡ Some line = sym is.built.known ∙ reason in cc)
is_built start indices prefs arch request asked u (fault.Plan refused) is no_fault = no_fault
is_built start indices prefs arch request asked u (fault.Refutation refused) is no_fault = no_fault
is_built start indices prefs arch request asked u fault.TooLarge is reason =
    let beyond = reason.1 in
    let equal = ap (λ (v : Universe). length v.pairs) (one_universe (inputs_of start indices prefs (asked_of asked)) u beyond.u is.built.universe beyond.universe) in
    let within = is.built.bounded in
    let over = beyond.beyond in
    absurd (omega arith)
is_built start indices prefs arch request asked u fault.Changed is no_fault = no_fault
is_built start indices prefs arch request asked u fault.Read is no_fault = no_fault
is_built start indices prefs arch request asked u fault.OutOfMemory is no_fault = no_fault

-- a request that is answered has no fault
not_requested : (arch : List ℕ) (request : Found) (start : List Record) (indices : List Index) (prefs : Preferences) (asked : ReadRequest)
    (u : Universe) (reason : Fault)
    → IsRequested arch request start indices prefs asked u → ¬ IsRequestFault arch request start indices prefs reason
not_requested arch request start indices prefs asked u reason is (inl refused) =
    not-both asked reason (request_in arch request) is.read refused
not_requested arch request start indices prefs asked u reason is (inr stopped) =
    is_built start indices prefs arch request asked u reason is
    (subst (λ (a : ReadRequest). IsBuildFault start indices prefs a reason)
    (ok-same stopped.asked asked (request_in arch request) stopped.read is.read) stopped.fault)

-- texts that have a meaning have no request that is refused
not_asked : (texts : Texts) (u : Universe) (start : List Record) (reason : Fault) → Denotes texts u start
    → ¬ IsAsked texts reason
not_asked texts u start reason is asked = not_requested texts.arch texts.request start is.indices is.prefs is.asked u reason is.requested
    (subst (λ prefs. IsRequestFault texts.arch texts.request start is.indices prefs reason)
    (one_preferring texts asked.start start asked.indices is.indices asked.prefs is.prefs asked.read is.read)
    (subst (λ indices. IsRequestFault texts.arch texts.request start indices asked.prefs reason)
    (one_reading texts asked.start start asked.indices is.indices asked.read.listed is.read.listed)
    (subst (λ db. IsRequestFault texts.arch texts.request db asked.indices asked.prefs reason)
    (one_start_of texts asked.start start asked.indices is.indices asked.read.listed is.read.listed) asked.refused)))

-- texts that have a meaning have no fault before the request but want of memory
not_before : (texts : Texts) (u : Universe) (start : List Record) (where_ : Input) (reason : Fault)
    → Denotes texts u start → IsFaultBefore texts where_ reason → record { place = where_; fault = reason } ≡ out_of_memory
not_before texts u start (place.Version number) reason is refused = absurd refused
not_before texts u start place.Status reason is refused =
    absurd (not-both is.read.listed.started.slots reason (status_file_of texts) is.read.listed.started.status refused)
not_before texts u start place.Sources reason is refused =
    absurd (not-both is.read.listed.indexed.sources reason (sources_of texts) is.read.listed.indexed.sources_are refused.1)
not_before texts u start (place.Index number) reason is refused =
    let same = ok-same is.read.listed.indexed.sources refused.sources (sources_of texts) is.read.listed.indexed.sources_are refused.sources_are in
    absurd (not-both is.indices (record { place = place.Index number; fault = reason }) (read_indices texts.arch texts.index refused.sources)
    (ap (λ named. read_indices texts.arch texts.index named) (sym same) ∙ is.read.listed.indexed.indices_are) refused.refused)
not_before texts u start place.Preferences reason is refused =
    absurd (not-both is.prefs reason (preferences_of texts) is.read.preferred refused.refused)
not_before texts u start place.Request reason is refused = absurd refused
not_before texts u start place.Plan reason is refused = absurd refused
not_before texts u start place.Refutation reason is refused = absurd refused
not_before texts u start place.Memory reason is refused = ap (λ (f : Fault). record { place = place.Memory; fault = f }) refused

pub meaning_is_not_refused : MeaningIsNotRefused
meaning_is_not_refused texts u start refused is (inl before) = not_before texts u start refused.place refused.fault is before
meaning_is_not_refused texts u start refused is (inr asked) = absurd (not_asked texts u start refused.fault is asked.asked)
