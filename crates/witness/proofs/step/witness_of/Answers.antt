-- The stanza that is handed over is the one of the step.
use Rattle.std.specs.Option.{option_copied}
use Rattle.witness.proofs.StopLemmas.{unpack_shown}
use Rattle.witness.proofs.step.witness_of.Goals as goal

pub returns-in-Unpack : goal.returns-in-Unpack
returns-in-Unpack c = unpack_shown (option_copied c.args.listed) c.args.db.now c.args.step.now c.in-Unpack.field-0 c.in-Unpack.field-1
    c.args.rule c.against_unpack.result c.in-Unpack.is c.against_unpack.ensures
