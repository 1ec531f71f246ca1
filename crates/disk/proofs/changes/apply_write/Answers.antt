use Rattle.std.proofs.Common.{length, refl, rules}
use Rattle.disk.proofs.KeptCalls.{kept_moves, write_moves}
use Rattle.disk.proofs.TornWrites.{torn_not, torn_same, torn_written, written_whole}
use Rattle.disk.specs.Calls.{Torn}
use Rattle.disk.proofs.changes.apply_write.Goals as goal

pub returns-in_err-made-clause-torn : goal.returns-in_err-made-clause-torn
returns-in_err-made-clause-torn c = torn_not c.args.at (length c.args.written.now) c.args.bytes.now.items

pub returns-in_err-made-clause-moves : goal.returns-in_err-made-clause-moves
returns-in_err-made-clause-moves c =
    kept_moves (Torn c.args.at (length c.args.written.now)) c.args.bytes.now.items c.args.bytes.now.items c.args.calls.now.items c.args.calls.now.items
    refl refl (torn_not c.args.at (length c.args.written.now))

pub returns-in_err-replace_tail-clause-torn : goal.returns-in_err-replace_tail-clause-torn
returns-in_err-replace_tail-clause-torn c =
    let same = c.in_err-replace_tail.ensures.unchanged in
    torn_same c.args.at (length c.args.written.now) c.args.bytes.now.items c.replace_tail.new.bytes.items same.0

pub returns-in_err-replace_tail-clause-moves : goal.returns-in_err-replace_tail-clause-moves
returns-in_err-replace_tail-clause-moves c =
    let same = c.in_err-replace_tail.ensures.unchanged in
    kept_moves (Torn c.args.at (length c.args.written.now)) c.args.bytes.now.items c.replace_tail.new.bytes.items c.args.calls.now.items
    c.replace_tail.new.calls.items same.0 same.1 (torn_not c.args.at (length c.args.written.now))

pub returns-clause-torn : goal.returns-clause-torn
returns-clause-torn c =
    torn_written c.args.at c.args.count c.args.written.now c.args.bytes.now.items c.in_ok-made.next.items c.replace_tail.new.bytes.items
    c.requires.1 c.in_ok-replace_tail.ensures.bytes (search rules)

pub returns-clause-done : goal.returns-clause-done
returns-clause-done c =
    written_whole c.args.at c.args.count c.args.written.now c.args.bytes.now.items c.in_ok-made.next.items c.replace_tail.new.bytes.items
    c.in_ok-replace_tail.ensures.bytes (search rules)

pub returns-clause-moves : goal.returns-clause-moves
returns-clause-moves c =
    write_moves c.args.at c.args.written.now c.args.bytes.now.items c.in_ok-made.next.items c.replace_tail.new.bytes.items c.args.calls.now.items
    c.replace_tail.new.calls.items c.in_ok-made.made (search rules) c.requires.0 (search rules) c.in_ok-replace_tail.ensures.bytes
    (torn_written c.args.at c.args.count c.args.written.now c.args.bytes.now.items c.in_ok-made.next.items c.replace_tail.new.bytes.items
    c.requires.1 c.in_ok-replace_tail.ensures.bytes (search rules))
    c.in_ok-replace_tail.ensures.calls
