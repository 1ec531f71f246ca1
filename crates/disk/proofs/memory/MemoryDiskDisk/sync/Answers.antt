use Rattle.std.proofs.Common.{refl}
use Rattle.disk.specs.RunLaws.{stays_moves}
use Rattle.disk.proofs.memory.MemoryDiskDisk.sync.Goals as goal

pub returns-then-is_some-clause-syncs : goal.returns-then-is_some-clause-syncs
returns-then-is_some-clause-syncs c = λ honest.
    let stays = c.note.ensures.stays c.args.self.now.bytes.items in
    record { done = tt; failed = stays; seen = refl; moves = stays_moves _ _ stays }

pub returns-in-Ok-clause-syncs : goal.returns-in-Ok-clause-syncs
returns-in-Ok-clause-syncs c = λ honest. record {
  done = c.in-Ok.ensures.done c.args.self.now.bytes.items;
  failed = tt;
  seen = refl;
  moves = c.note_sync.ensures.moves c.args.self.now.bytes.items;
}

pub returns-in-Err-clause-syncs : goal.returns-in-Err-clause-syncs
returns-in-Err-clause-syncs c = λ honest. record {
  done = tt;
  failed = c.in-Err.ensures.failed c.args.self.now.bytes.items;
  seen = refl;
  moves = c.note_sync.ensures.moves c.args.self.now.bytes.items;
}
