use Rattle.plain.proofs.MemberLemmas.{universe_is_counted}
use Rattle.plain.proofs.laws.universe_is_counted.Goals as goal

pub returns : goal.returns
returns c = universe_is_counted
