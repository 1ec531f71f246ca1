-- The names so far, with those of the indices that are left, are the names of all.
use Rattle.std.proofs.Common.{◌≡◌, List, ℕ, drop, map, Bor}
use Rattle.input_notes.specs.Inputs.{stanzas_of}
use Rattle.input_notes.specs.Providers.{provider_names, with_providers}
use Rattle.input_notes.proofs.providers.provider_names.Given as goal

abbrev pub invariant-loop-index : goal.invariant-loop-index
invariant-loop-index l = with_providers (map (λ (key : Bor (List ℕ)). key.now) l.names.keys) l.name (stanzas_of (drop l.index-index l.indices))
    ≡ provider_names l.indices l.name
