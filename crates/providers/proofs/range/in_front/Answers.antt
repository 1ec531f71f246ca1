-- What stands up to the cut passes.
use Rattle.std.proofs.Common.{◌∙◌}
use Rattle.providers.specs.Range.{stands_in_front}
use Rattle.providers.proofs.CutLemmas.{front_passes}
use Rattle.providers.proofs.RunLemmas.{parted_cut}
use Rattle.providers.proofs.range.in_front.Goals as goal

pub cut_between-end-requires-clause-parted : goal.cut_between-end-requires-clause-parted
cut_between-end-requires-clause-parted c = parted_cut c.args.cut c.args.version.now c.args.offers.now c.requires.run

pub returns-clause-front : goal.returns-clause-front
returns-clause-front c = c.split_at.ensures.front
    ∙ front_passes (stands_in_front c.args.cut c.args.version.now) c.args.offers.now c.cut_between-end.result c.cut_between-end.ensures.point
