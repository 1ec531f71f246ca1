use Rattle.std.proofs.Common.{refl, false}
use Rattle.disk.specs.declared.changes.DiskCall.TheVariants.{Syncing}
use Rattle.disk.specs.declared.changes.Made.{Made}
use Rattle.disk.proofs.KeptCalls.{sync_done, sync_moves}
use Rattle.disk.proofs.changes.note_sync.Goals as goal

pub returns : goal.returns
returns c =
    let made : Made = record { call = Syncing; failed = false; tail = c.new-tail.result } in
    record {
      done = λ seen. sync_done seen c.args.calls.now.items c.push.new.self.items made refl refl c.in_ok-push.ensures.items;
      moves = λ seen. sync_moves seen c.args.calls.now.items c.push.new.self.items made refl c.in_ok-push.ensures.items;
      failed = λ seen. tt;
    }
