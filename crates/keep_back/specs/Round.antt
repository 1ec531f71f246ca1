-- What comes of a request that is asked over what is read before it.
use Rattle.std.specs.Prelude.{ℕ, List}
use Rattle.cli_engine.specs.Refuted.{AreRefuted}
use Rattle.inputs.specs.Meaning.{DenotesAsked}
use Rattle.inputs.specs.ReadAs.{AreReadAs, IsOver, asking, start_of}
use Rattle.inputs.specs.Texts.{Texts}
use Rattle.inputs.specs.declared.before.Before.{Before}
use Rattle.inputs.specs.declared.request.Requested.{Requested}
use Rattle.solver.specs.Solved.{IsSolved}
use Rattle.keep_back.specs.KeptBack.{AreWithoutPlan}
use Rattle.keep_back.specs.declared.round.SolvedRequest.{SolvedRequest}

-- from whatever texts this is read, it is what they denote with this request
abbrev pub IsRequestedBy : Before → List ℕ → Requested → Type 0
IsRequestedBy before request requested = (texts : Texts) → AreReadAs texts before
    → DenotesAsked (asking request texts) requested.universe (start_of before) requested.asks_all_versions

-- from whatever texts this is read, they are refuted with this request
abbrev pub IsRefutedRequest : Before → List ℕ → Type 0
IsRefutedRequest before request = (texts : Texts) → AreReadAs texts before → AreRefuted (asking request texts)

-- this request asks for it, over what is read, and the answer is true of it
pub record IsSolvedRequest (before : Before) (limit : ℕ) (request : List ℕ) (solved : SolvedRequest) : Type 0 where
  pub asked : IsRequestedBy before request solved.requested
  pub over : IsOver before solved.requested.universe
  pub holds : IsSolved solved.requested.universe (start_of before) limit solved.solved

-- from whatever texts this is read, with this request they are refuted, or undecided at the limit
abbrev pub IsRequestWithoutPlan : Before → ℕ → List ℕ → Type 0
IsRequestWithoutPlan before limit request = (texts : Texts) → AreReadAs texts before → AreWithoutPlan (asking request texts) limit
