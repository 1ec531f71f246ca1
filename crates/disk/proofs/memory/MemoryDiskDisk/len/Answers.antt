use Rattle.disk.proofs.memory.MemoryDiskDisk.len.Goals as goal

pub returns-then-fails-clause-stays : goal.returns-then-fails-clause-stays
returns-then-fails-clause-stays c = λ honest. c.note-noted.ensures.stays c.args.self.now.bytes.items

pub returns-clause-stays : goal.returns-clause-stays
returns-clause-stays c = λ honest. c.note-noted.ensures.stays c.args.self.now.bytes.items
