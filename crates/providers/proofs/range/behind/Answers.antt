-- What stands from the cut on doesn't pass.
use Rattle.std.proofs.Common.{◌∙◌}
use Rattle.providers.specs.Range.{stands_in_front}
use Rattle.providers.proofs.CutLemmas.{back_passes}
use Rattle.providers.proofs.RunLemmas.{parted_cut}
use Rattle.providers.proofs.range.behind.Goals as goal

pub cut_between-start-requires-clause-parted : goal.cut_between-start-requires-clause-parted
cut_between-start-requires-clause-parted c = parted_cut c.args.cut c.args.version.now c.args.offers.now c.requires.run

pub returns-clause-back : goal.returns-clause-back
returns-clause-back c = c.split_at.ensures.back
    ∙ back_passes (stands_in_front c.args.cut c.args.version.now) c.args.offers.now c.cut_between-start.result c.cut_between-start.ensures.point
