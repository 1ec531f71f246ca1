-- One index more.
use Rattle.std.proofs.Common.{ℕ, List, map, Bor}
use Rattle.input_notes.specs.Providers.{provider_names}
use Rattle.input_notes.proofs.ProviderLemmas.{index_next}
use Rattle.input_notes.proofs.providers.provider_names.Goals as goal

pub loop-index-preserved : goal.loop-index-preserved
loop-index-preserved c = index_next c.args.indices.now c.loop-index.index-index c.index-item.result c.packages.result.now c.args.name.now
    (map (λ (key : Bor (List ℕ)). key.now) c.loop-index.names.keys) (map (λ (key : Bor (List ℕ)). key.now) c.insert_providers.new.names.keys)
    (provider_names c.args.indices.now c.args.name.now) c.loop-index-test.true c.index-item.is c.packages.ensures.items
    c.in_ok-insert_providers.ensures c.loop-index.invariant
