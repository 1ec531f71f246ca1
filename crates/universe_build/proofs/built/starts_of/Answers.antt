-- What the chain makes of each record.
use Rattle.std.proofs.Common.{rules}
use Rattle.std.proofs.lemmas.Iterator.{YieldsList-from_map, YieldsList-from_slice, items_from_collect}
use Rattle.rules.specs.Universe.{start_of}
use Rattle.universe_build.proofs.built.starts_of.Goals as goal

pub returns : goal.returns
returns c = items_from_collect c.collect.result c.collect.ensures.ran
    (YieldsList-from_map _ start_of (YieldsList-from_slice c.args.start.now cc) c.map.ensures.closure (λ x r q k. search rules))
