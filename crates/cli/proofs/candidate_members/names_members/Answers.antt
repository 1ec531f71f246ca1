-- What is promised is put last.
use Rattle.cli.proofs.candidate_members.names_members.Goals as goal
use Rattle.serde_json.specs.View.{members_view}

pub returns : goal.returns
returns c = (members_view c.put_told.new.members.map.entries, c.in_ok-put_candidates.ensures)
