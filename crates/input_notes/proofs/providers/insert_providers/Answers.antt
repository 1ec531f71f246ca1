-- One package more.
use Rattle.std.proofs.Common.{ℕ, List, map, Bor}
use Rattle.input_notes.proofs.ProviderLemmas.{package_next}
use Rattle.input_notes.proofs.providers.insert_providers.Goals as goal

pub loop-entry-preserved : goal.loop-entry-preserved
loop-entry-preserved c = package_next c.args.entries.now c.loop-entry.entry-index c.entry-item.result c.args.name.now
    (map (λ (key : Bor (List ℕ)). key.now) c.loop-entry.names.keys) (map (λ (key : Bor (List ℕ)). key.now) c.insert_provider.new.names.keys) _
    c.loop-entry-test.true c.entry-item.is c.in_ok-insert_provider.ensures c.loop-entry.invariant
