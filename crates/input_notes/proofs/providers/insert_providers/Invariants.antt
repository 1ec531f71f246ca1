-- The names so far, with those of the packages that are left, are the names before with those of all.
use Rattle.std.proofs.Common.{◌≡◌, List, ℕ, drop, map, Bor}
use Rattle.input_notes.specs.Providers.{with_providers}
use Rattle.input_notes.proofs.providers.insert_providers.Given as goal

abbrev pub invariant-loop-entry : goal.invariant-loop-entry
invariant-loop-entry l = with_providers (map (λ (key : Bor (List ℕ)). key.now) l.names.keys) l.name (drop l.entry-index l.entries)
    ≡ with_providers (map (λ (key : Bor (List ℕ)). key.now) l.initial.names.keys) l.name l.entries
