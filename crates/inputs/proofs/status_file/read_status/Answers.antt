use Rattle.inputs.proofs.UnreadLemmas.{unread_status}
use Rattle.inputs.proofs.status_file.read_status.Goals as goal

pub returns-in-Err-clause-refused : goal.returns-in-Err-clause-refused
returns-in-Err-clause-refused g c = λ at known. unread_status c.args.settings.now at c.in-Err.refused (c.in-Err.ensures.missing at known)
