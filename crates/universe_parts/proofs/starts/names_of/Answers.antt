-- The name of one fact more.
use Rattle.std.proofs.Common.{ap, fold, ◌∙◌}
use Rattle.index.specs.Names.{with_name}
use Rattle.index.proofs.NameTable.{name_put, names_at, names_in, names_put}
use Rattle.universe_parts.proofs.StartNames.{apart_names, name_of}
use Rattle.universe_parts.proofs.starts.names_of.Goals as goal

pub loop-start-preserved : goal.loop-start-preserved
loop-start-preserved c = name_put name_of c.args.starts.now c.loop-start.start-index c.start-item.result c.loop-start.names.keys
    c.insert.new.self.keys c.name.result c.loop-start-test.true c.start-item.is c.name.ensures c.in_ok-insert.ensures.keys
    c.loop-start.invariant

pub loop-start-init : goal.loop-start-init
loop-start-init c = ap (λ keys. fold with_name (names_at keys) (names_in name_of c.args.starts.now)) c.new-names.ensures.empty
    ∙ names_put (names_in name_of c.args.starts.now) (apart_names c.args.starts.now c.requires)
