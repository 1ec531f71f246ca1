use Rattle.disk.proofs.KeptCalls.{quiet_stays}
use Rattle.disk.proofs.changes.note.Goals as goal

pub returns : goal.returns
returns c = record {
  stays = λ seen. quiet_stays seen c.args.calls.now.items c.push.new.self.items
      (record { call = c.args.call; failed = c.args.failed; tail = c.new-tail.result }) c.requires c.in_ok-push.ensures.items;
}
