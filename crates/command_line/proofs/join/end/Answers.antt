use Rattle.std.proofs.Common.{append-nil, map, sym}
use Rattle.std.specs.Prelude.{string_bytes}
use Rattle.command_line.proofs.join.end.Goals as goal

pub returns-in-Behind : goal.returns-in-Behind
returns-in-Behind c = rw c.in-Behind.is c.with_word.ensures

pub returns-in-Free : goal.returns-in-Free
returns-in-Free c = rw c.in-Free.is (sym (append-nil (map string_bytes c.args.all.items)))

pub returns-in-Operands : goal.returns-in-Operands
returns-in-Operands c = rw c.in-Operands.is (sym (append-nil (map string_bytes c.args.all.items)))
