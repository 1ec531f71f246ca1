use Rattle.std.proofs.Common.{◌≡◌, take, arith, refl, rules}
use Rattle.disk.specs.Calls.{Shortened}
use Rattle.disk.proofs.KeptCalls.{kept_moves, cut_moves}
use Rattle.disk.proofs.TornWrites.{cut_part, shortened_not, shortened_to}
use Rattle.disk.proofs.changes.apply_cut.Goals as goal

pub returns-in_err-made-clause-moves : goal.returns-in_err-made-clause-moves
returns-in_err-made-clause-moves c =
    kept_moves (Shortened c.args.len) c.args.bytes.now.items c.args.bytes.now.items c.args.calls.now.items c.args.calls.now.items refl refl (shortened_not c.args.len)

pub returns-in_err-replace_tail-clause-moves : goal.returns-in_err-replace_tail-clause-moves
returns-in_err-replace_tail-clause-moves c =
    let same = c.in_err-replace_tail.ensures.unchanged in
    kept_moves (Shortened c.args.len) c.args.bytes.now.items c.replace_tail.new.bytes.items c.args.calls.now.items c.replace_tail.new.calls.items
    same.0 same.1 (shortened_not c.args.len)

pub returns-clause-done : goal.returns-clause-done
returns-clause-done c =
    cut_part c.args.len c.args.end c.args.bytes.now.items c.in_ok-made.next.items c.replace_tail.new.bytes.items c.requires.0
    c.in_ok-replace_tail.ensures.bytes (search rules)

pub returns-clause-cut : goal.returns-clause-cut
returns-clause-cut c =
    shortened_to c.args.len c.args.end c.args.bytes.now.items c.replace_tail.new.bytes.items c.requires.0
    (cut_part c.args.len c.args.end c.args.bytes.now.items c.in_ok-made.next.items c.replace_tail.new.bytes.items c.requires.0
    c.in_ok-replace_tail.ensures.bytes (search rules))

pub returns-clause-moves : goal.returns-clause-moves
returns-clause-moves c =
    let whole : c.replace_tail.new.bytes.items ≡ take c.args.end c.args.bytes.now.items =
    cut_part c.args.len c.args.end c.args.bytes.now.items c.in_ok-made.next.items c.replace_tail.new.bytes.items c.requires.0
    c.in_ok-replace_tail.ensures.bytes (search rules) in
    cut_moves c.args.len c.args.bytes.now.items c.in_ok-made.next.items c.replace_tail.new.bytes.items c.args.calls.now.items
    c.replace_tail.new.calls.items c.in_ok-made.made (search rules) (omega (arith, c.requires.0, c.requires.1))
    (search rules) c.in_ok-replace_tail.ensures.bytes
    (shortened_to c.args.len c.args.end c.args.bytes.now.items c.replace_tail.new.bytes.items c.requires.0 whole)
    c.in_ok-replace_tail.ensures.calls
