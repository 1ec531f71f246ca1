-- The objects so far, and those of the names that are left.
use Rattle.std.proofs.Common.{◌≡◌, ◌++◌, drop, map}
use Rattle.cli.proofs.candidate_members.name_values.Given as goal
use Rattle.cli.specs.Members.{names_data}
use Rattle.serde_json.specs.View.{view}

abbrev pub invariant-loop-name : goal.invariant-loop-name
invariant-loop-name l = map view l.values.items ++ names_data (map (λ name. name.now) (drop l.name-index l.names)) l.rest
    ≡ names_data (map (λ name. name.now) l.names) l.candidates
