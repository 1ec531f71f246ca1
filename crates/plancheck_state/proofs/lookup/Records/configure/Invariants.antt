-- The packages of the names before the index are configured.
use Rattle.std.proofs.Common.{◌≡◌, take}
use Rattle.rules.specs.Step.{changed, configured, is_among}
use Rattle.plancheck_state.proofs.lookup.Records.configure.Given as goal

abbrev pub invariant-loop-name : goal.invariant-loop-name
invariant-loop-name l = l.self ≡ changed (is_among (take l.name-index l.names)) configured l.initial.self
