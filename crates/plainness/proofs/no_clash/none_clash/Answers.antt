-- No two packages clash where each clashes with none.
use Rattle.plainness.proofs.PackageLemmas as packages
use Rattle.plainness.proofs.no_clash.none_clash.Goals as goal

pub returns : goal.returns
returns c = let both = packages.none_clash c.as_slice.result.now c.args.packages.now c.as_slice.ensures in (
  λ so. both.0 (c.in_ok-answer.ensures.0 so),
  λ none. c.in_ok-answer.ensures.1 (both.1 none),
)
