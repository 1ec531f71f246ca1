use Rattle.plain.proofs.SelectedLemmas.{members_are_by_name}
use Rattle.plain.proofs.laws.members_are_by_name.Goals as goal

pub returns : goal.returns
returns c = members_are_by_name
