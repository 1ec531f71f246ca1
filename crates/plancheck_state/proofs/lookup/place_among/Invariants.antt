-- At no place before the index stands a record of the name.
use Rattle.std.proofs.Common.{◌≡◌, false, take}
use Rattle.std.specs.List.{All}
use Rattle.plancheck_state.specs.Holders.{is_named_at}
use Rattle.plancheck_state.proofs.lookup.place_among.Given as goal

abbrev pub invariant-loop-place : goal.invariant-loop-place
invariant-loop-place l = All (λ place. is_named_at l.name l.records place ≡ false) (take l.place-index l.places)
