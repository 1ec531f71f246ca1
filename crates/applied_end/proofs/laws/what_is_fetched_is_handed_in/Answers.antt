use Rattle.applied_end.proofs.FetchedLemmas.{fetched_is_handed_in}
use Rattle.applied_end.proofs.laws.what_is_fetched_is_handed_in.Goals as goal

pub returns : goal.returns
returns c = fetched_is_handed_in
