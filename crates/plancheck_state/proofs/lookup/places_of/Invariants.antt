-- The holders before the place are listed.
use Rattle.plancheck_state.specs.Holders.{places_in}
use Rattle.plancheck_state.proofs.ListedLemmas.{ListedBelow}
use Rattle.plancheck_state.proofs.lookup.places_of.Given as goal

abbrev pub invariant-loop-place : goal.invariant-loop-place
invariant-loop-place l = ListedBelow l.place (places_in l.places) l.records
