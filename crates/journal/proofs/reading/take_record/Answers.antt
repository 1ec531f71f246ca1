use Rattle.std.proofs.Common.{rules}
use Rattle.journal.proofs.RecordLemmas.{stuck_refused, stuck_unsaid}
use Rattle.journal.proofs.reading.take_record.Goals as goal

pub returns-in_default-2 : goal.returns-in_default-2
returns-in_default-2 c =
    stuck_unsaid c.args.database.now.arch c.args.database.now.slots c.args.rest.now c.in-Some.gate c.in-Some.payload.now c.in-Some.behind.now
    c.requires c.in-Some.ensures.0 c.in-Some.ensures.1 (rw c.in_default-2.is at c.in_ok-recorded.ensures)

pub returns-then-not-branch : goal.returns-then-not-branch
returns-then-not-branch c =
    stuck_refused c.args.database.now.arch c.args.database.now.slots c.args.rest.now c.in-Some.gate c.in-Some.payload.now c.in-Some.behind.now c.in-Some-2.recorded
    c.requires c.in-Some.ensures.0 c.in-Some.ensures.1 (search rules) (search rules)
