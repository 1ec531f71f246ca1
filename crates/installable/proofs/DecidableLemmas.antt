-- The request of a universe over what is read can be decided.
use Rattle.candidates.specs.Inputs.{indices_of, inputs_of}
use Rattle.inputs.specs.ReadAs.{IsOver, start_of}
use Rattle.inputs.specs.declared.before.Before.{Before}
use Rattle.refutation.proofs.NeededLemmas.{universe_has_needed_pairs}
use Rattle.rules.specs.Available.{Inputs}
use Rattle.rules.specs.Universe.{Universe}
use Rattle.search_settle.proofs.StateLemmas.{records_are_present}
use Rattle.solver.specs.Decided.{IsDecidable}

pub over_is_decidable : (before : Before) (u : Universe) → IsOver before u → IsDecidable u
over_is_decidable before u is = record {
  few = is.few;
  distinct = is.distinct;
  ascending = (universe_has_needed_pairs inputs u is.start is.universe).0;
  needed = (universe_has_needed_pairs inputs u is.start is.universe).1;
  present = records_are_present (start_of before) u is.built.starts;
}
  where
    inputs : Inputs
    inputs = inputs_of (start_of before) (indices_of before.indices.now) before.prefs.now is.request
